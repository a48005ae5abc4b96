use Rattle.px_read.proofs.AnswerLemmas.{answers_carry}
use Rattle.px_read.proofs.LawLemmas.{chunk_laws}
use Rattle.px_read.proofs.laws.interim_stay.Goals as goal

pub returns : goal.returns
returns c asked_head closed bytes more = (answers_carry chunk_laws asked_head closed bytes more).begun
