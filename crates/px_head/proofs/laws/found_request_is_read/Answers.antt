use Rattle.px_head.proofs.ReadLemmas.{request_read}
use Rattle.px_head.proofs.laws.found_request_is_read.Goals as goal

pub returns : goal.returns
returns c = request_read
