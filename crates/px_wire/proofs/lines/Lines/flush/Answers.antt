use Rattle.std.proofs.Common.{sym}
use Rattle.px_wire.proofs.AskedLemmas.{failed_kept_so}
use Rattle.px_wire.proofs.LinesLemmas.{keeps_flushed, flushed_so}
use Rattle.px_wire.proofs.lines.Lines.flush.Goals as goal

pub invariant_of-self : goal.invariant_of-self
invariant_of-self g c = (
  keeps_flushed c.self.inside.is_spent c.self.inside.table c.flush_at.new.table (g.W.Wire.calls c.self.inside.wire) (g.W.Wire.calls c.flush_at.new.wire) c.args.slot c.in-Some.field-0.now (sym c.in-Some.ensures.is)
      c.flush_at.ensures.stands c.self.invariant.0,
  failed_kept_so c.self.inside.faults (g.W.Wire.calls c.self.inside.wire) (g.W.Wire.calls c.flush_at.new.wire) c.flush_at.ensures.kept c.self.invariant.1,
)

pub returns-in-Some-clause-does : goal.returns-in-Some-clause-does
returns-in-Some-clause-does g c =
    rw (← c.self.view_is) (flushed_so c.flush_at.result c.self.inside.is_spent c.self.inside.table c.args.slot c.in-Some.field-0.now (g.W.Wire.calls c.self.inside.wire) (g.W.Wire.calls c.flush_at.new.wire)
    (sym c.in-Some.ensures.is) c.self.invariant.0 c.flush_at.ensures.does)
