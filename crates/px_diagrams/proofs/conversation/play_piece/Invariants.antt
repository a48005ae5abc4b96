use Rattle.px_event.specs.Layer.{IsSound}
use Rattle.px_gate.specs.Gate.{GateStands}
use Rattle.px_diagrams.proofs.conversation.play_piece.Given as goal

abbrev pub invariant-loop-part : goal.invariant-loop-part
invariant-loop-part g l = IsSound (GateStands g.L.Layer.stands g.L.Layer.awaited) l.gate
