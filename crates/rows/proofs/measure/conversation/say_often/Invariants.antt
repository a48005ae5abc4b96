use Rattle.px_event.specs.Layer.{IsSound}
use Rattle.px_gate.specs.Gate.{GateStands}
use Rattle.rows.proofs.measure.conversation.say_often.Given as goal

abbrev pub invariant-loop : goal.invariant-loop
invariant-loop g l = IsSound (GateStands g.L.Layer.stands g.L.Layer.awaited) l.gate
