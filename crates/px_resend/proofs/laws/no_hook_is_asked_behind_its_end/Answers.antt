use Rattle.px_resend.proofs.OrderLemmas.{resend_ordered}
use Rattle.px_resend.proofs.laws.no_hook_is_asked_behind_its_end.Goals as goal

pub returns : goal.returns
returns c = resend_ordered
