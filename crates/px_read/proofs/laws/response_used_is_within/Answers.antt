use Rattle.px_read.proofs.ItemLemmas.{response_used}
use Rattle.px_read.proofs.LawLemmas.{chunk_laws}
use Rattle.px_read.proofs.laws.response_used_is_within.Goals as goal

pub returns : goal.returns
returns c = response_used chunk_laws
