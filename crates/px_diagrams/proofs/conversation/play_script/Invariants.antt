use Rattle.px_event.specs.Layer.{IsSound}
use Rattle.px_gate.specs.Gate.{GateStands}
use Rattle.px_diagrams.proofs.conversation.play_script.Given as goal

abbrev pub invariant-loop-line : goal.invariant-loop-line
invariant-loop-line g l = IsSound (GateStands g.L.Layer.stands g.L.Layer.awaited) l.gate
