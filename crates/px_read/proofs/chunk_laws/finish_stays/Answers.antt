use Rattle.px_read.proofs.HearLemmas.{finish_stays}
use Rattle.px_read.proofs.chunk_laws.finish_stays.Goals as goal

pub returns : goal.returns
returns c = finish_stays
