use Rattle.px_head.proofs.FoundLemmas.{response_found}
use Rattle.px_head.proofs.laws.response_is_found.Goals as goal

pub returns : goal.returns
returns c = response_found
