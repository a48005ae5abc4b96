use Rattle.px_head.proofs.ReadLemmas.{trailers_read}
use Rattle.px_head.proofs.laws.found_trailers_are_read.Goals as goal

pub returns : goal.returns
returns c = trailers_read
