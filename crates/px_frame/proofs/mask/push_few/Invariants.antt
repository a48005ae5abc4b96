use Rattle.std.proofs.Common.{◌≡◌, ◌++◌, take}
use Rattle.px_frame.specs.Mask.{under}
use Rattle.px_frame.proofs.mask.push_few.Given as goal

abbrev pub invariant-loop-i : goal.invariant-loop-i
invariant-loop-i l = l.out.items ≡ l.fn.out.items ++ under l.key 0 (take l.i l.payload)
