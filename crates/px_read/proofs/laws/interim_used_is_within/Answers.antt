use Rattle.std.proofs.Common.{length}
use Rattle.px_read.proofs.AnswerLemmas.{answers_used}
use Rattle.px_read.proofs.LawLemmas.{chunk_laws}
use Rattle.px_read.proofs.laws.interim_used_is_within.Goals as goal

pub returns : goal.returns
returns c asked_head closed bytes = (answers_used chunk_laws (length bytes) asked_head closed bytes).used
