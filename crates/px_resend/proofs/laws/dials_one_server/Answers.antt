use Rattle.px_resend.proofs.DialLemmas.{resend_dials}
use Rattle.px_resend.proofs.laws.dials_one_server.Goals as goal

pub returns : goal.returns
returns c = resend_dials
