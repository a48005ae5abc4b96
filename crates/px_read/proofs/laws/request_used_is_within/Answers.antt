use Rattle.px_read.proofs.ItemLemmas.{request_used}
use Rattle.px_read.proofs.LawLemmas.{chunk_laws}
use Rattle.px_read.proofs.laws.request_used_is_within.Goals as goal

pub returns : goal.returns
returns c = request_used chunk_laws
