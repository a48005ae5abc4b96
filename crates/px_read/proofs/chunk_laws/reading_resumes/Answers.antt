use Rattle.px_read.proofs.HearLemmas.{reading_resumes}
use Rattle.px_read.proofs.chunk_laws.reading_resumes.Goals as goal

pub returns : goal.returns
returns c = reading_resumes
