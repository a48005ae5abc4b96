use Rattle.px_read.proofs.ValidLemmas.{response-valid}
use Rattle.px_read.proofs.laws.whole_response_is_valid.Goals as goal

pub returns : goal.returns
returns c = response-valid
