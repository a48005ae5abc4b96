use Rattle.px_head.proofs.FoundLemmas.{request_found}
use Rattle.px_head.proofs.laws.request_is_found.Goals as goal

pub returns : goal.returns
returns c = request_found
