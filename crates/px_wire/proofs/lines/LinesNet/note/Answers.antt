use Rattle.px_wire.proofs.AskedLemmas.{call_kept, failed_kept_so}
use Rattle.px_wire.proofs.LinesLemmas.{keeps_noted}
use Rattle.px_wire.proofs.lines.LinesNet.note.Goals as goal

pub invariant_of-self : goal.invariant_of-self
invariant_of-self g c = (
  keeps_noted c.note.result c.self.inside.is_spent c.self.inside.table c.args.step.now (g.W.Wire.calls c.self.inside.wire) (g.W.Wire.calls c.note.new.self) c.requires.note
      c.note.ensures.told c.note.ensures.calls_err c.self.invariant.0,
  failed_kept_so c.self.inside.faults (g.W.Wire.calls c.self.inside.wire) (g.W.Wire.calls c.note.new.self)
      (call_kept c.note.result _ _ _ c.note.ensures.told c.note.ensures.calls_err) c.self.invariant.1,
)
