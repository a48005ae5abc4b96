use Rattle.px_read.proofs.HearLemmas.{chunks_used}
use Rattle.px_read.proofs.chunk_laws.used_is_within.Goals as goal

pub returns : goal.returns
returns c = chunks_used
