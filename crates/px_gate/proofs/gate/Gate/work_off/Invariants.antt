use Rattle.std.proofs.Common.{length}
use Rattle.px_gate.proofs.GateLaws.{LoopKeeps}
use Rattle.px_gate.proofs.gate.Gate.work_off.Given as goal

abbrev pub invariant-loop-self : goal.invariant-loop-self
invariant-loop-self g l = LoopKeeps g.L.Layer.stands g.L.Layer.awaited g.L.Layer.left g.L.Layer.rate l.moment l.initial.self l.self l.initial.out.items l.out.items

abbrev pub decreases-loop-self : goal.decreases-loop-self
decreases-loop-self g l = length l.self.queue.items
