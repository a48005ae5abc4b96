use Rattle.std.proofs.Common.{Err, ap, sym, subst, ◌∙◌}
use Rattle.px_event.specs.Layer.{IsSound}
use Rattle.px_gate.specs.Gate.{GateStands}
use Rattle.px_diagrams.proofs.conversation.answer.Goals as goal

pub returns-in-Err-NotAwaited : goal.returns-in-Err-NotAwaited
returns-in-Err-NotAwaited g c =
    subst (λ gate. IsSound (GateStands g.L.Layer.stands g.L.Layer.awaited) gate) (sym (c.answer.ensures.unchanged (c.in-Err-NotAwaited.is ∙ ap Err c.in-Err-NotAwaited.field-0-is)).0) c.requires.sound
