use Rattle.std.proofs.Common.{length, arith}
use Rattle.px_read.proofs.RequestEndLemmas.{last_left}
use Rattle.px_read.proofs.laws.last_is_left.Goals as goal

pub returns : goal.returns
returns c bytes item is = last_left (length bytes) bytes item (omega arith) is
