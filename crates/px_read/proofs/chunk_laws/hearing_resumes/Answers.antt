use Rattle.px_read.proofs.HearLemmas.{hear_all-append}
use Rattle.px_read.proofs.chunk_laws.hearing_resumes.Goals as goal

pub returns : goal.returns
returns c = hear_all-append
