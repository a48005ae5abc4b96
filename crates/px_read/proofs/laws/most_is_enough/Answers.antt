use Rattle.std.proofs.Common.{length, arith}
use Rattle.px_read.proofs.AnswerLemmas.{enough}
use Rattle.px_read.proofs.laws.most_is_enough.Goals as goal

pub returns : goal.returns
returns c most asked_head closed bytes fits = enough most (length bytes) asked_head closed bytes fits (omega arith)
