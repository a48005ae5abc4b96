use Rattle.px_read.proofs.HearLemmas.{marks_grow}
use Rattle.px_read.proofs.chunk_laws.marks_grow.Goals as goal

pub returns : goal.returns
returns c = marks_grow
