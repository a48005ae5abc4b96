use Rattle.px_event.specs.Layer.{IsSound}
use Rattle.px_gate.specs.Gate.{GateStands}
use Rattle.px_diagrams.proofs.conversation.answer_all.Given as goal

abbrev pub invariant-loop-round : goal.invariant-loop-round
invariant-loop-round g l = IsSound (GateStands g.L.Layer.stands g.L.Layer.awaited) l.gate
