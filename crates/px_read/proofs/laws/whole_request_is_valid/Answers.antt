use Rattle.px_read.proofs.ValidLemmas.{request-valid}
use Rattle.px_read.proofs.laws.whole_request_is_valid.Goals as goal

pub returns : goal.returns
returns c = request-valid
