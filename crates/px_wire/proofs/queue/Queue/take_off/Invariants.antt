use Rattle.std.proofs.Common.{◌≡◌, ◌≤◌, length, drop}
use Rattle.px_wire.proofs.queue.Queue.take_off.Given as goal

-- what is still to be taken off leaves what is to be left
abbrev pub invariant-loop-left : goal.invariant-loop-left
invariant-loop-left l = (l.left ≤ length l.self) × (drop l.left l.self ≡ drop l.fn.count l.fn.self)

abbrev pub decreases-loop-left : goal.decreases-loop-left
decreases-loop-left l = l.left
