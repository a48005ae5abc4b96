use Rattle.std.proofs.Common.{length, arith}
use Rattle.px_read.proofs.RequestListLemmas.{enough_requests}
use Rattle.px_read.proofs.laws.most_requests_are_enough.Goals as goal

pub returns : goal.returns
returns c most bytes fits = enough_requests most (length bytes) bytes fits (omega arith)
