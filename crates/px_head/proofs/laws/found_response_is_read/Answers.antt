use Rattle.px_head.proofs.ReadLemmas.{response_read}
use Rattle.px_head.proofs.laws.found_response_is_read.Goals as goal

pub returns : goal.returns
returns c = response_read
