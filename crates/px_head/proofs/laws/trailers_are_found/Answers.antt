use Rattle.px_head.proofs.FoundLemmas.{trailers_found}
use Rattle.px_head.proofs.laws.trailers_are_found.Goals as goal

pub returns : goal.returns
returns c = trailers_found
