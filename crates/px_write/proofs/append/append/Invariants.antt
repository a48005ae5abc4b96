use Rattle.std.proofs.Common.{◌≡◌, ◌++◌, take}
use Rattle.px_write.specs.Text.{joined}
use Rattle.px_write.proofs.append.append.Given as goal

abbrev pub invariant-loop-piece : goal.invariant-loop-piece
invariant-loop-piece l = l.out.items ≡ l.initial.out.items ++ joined (take l.piece-index l.pieces)
