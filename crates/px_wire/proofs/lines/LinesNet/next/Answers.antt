use Rattle.std.proofs.Common.{ap, Ok, Err}
use Rattle.px_wire.proofs.AskedLemmas.{failed_kept_so, in_vain, rests_unspent}
use Rattle.px_wire.proofs.LinesLemmas.{adds_none}
use Rattle.px_wire.proofs.lines.LinesNet.next.Goals as goal

pub invariant_of-self-in-Ok-Some : goal.invariant_of-self-in-Ok-Some
invariant_of-self-in-Ok-Some g c = (
  c.in-Ok-Some.ensures.stands (rests_unspent c.self.inside.is_spent c.self.inside.table _ c.if-self.false c.self.invariant.0),
  failed_kept_so c.self.inside.faults (g.W.Wire.calls c.self.inside.wire) (g.W.Wire.calls c.hear_next.new.wire) c.hear_next.ensures.kept c.self.invariant.1,
)

pub invariant_of-self-in-Ok-None : goal.invariant_of-self-in-Ok-None
invariant_of-self-in-Ok-None g c =
    let rests = c.in-Ok-None.ensures.stands (rests_unspent c.self.inside.is_spent c.self.inside.table _ c.if-self.false c.self.invariant.0) in (
      rests,
      λ some. in_vain c.hear_next.new.table (g.W.Wire.calls c.self.inside.wire) (g.W.Wire.calls c.hear_next.new.wire) (g.W.Wire.steps c.self.inside.wire) (g.W.Wire.steps c.hear_next.new.wire)
          (g.W.Wire.agree c.self.inside.wire) (g.W.Wire.agree c.hear_next.new.wire) (adds_none _ _ _ c.in-Ok-None.field-0-is c.in-Ok-None.ensures.steps)
          (λ past since. c.in-Ok-None.ensures.answered past since (ap Ok c.in-Ok-None.field-0-is)) rests
          (c.in-Ok-None.ensures.calm (ap Ok c.in-Ok-None.field-0-is)),
    )

pub invariant_of-self-in-Err-Fault : goal.invariant_of-self-in-Err-Fault
invariant_of-self-in-Err-Fault g c = (
  c.in-Err-Fault.ensures.fault_stands (rests_unspent c.self.inside.is_spent c.self.inside.table _ c.if-self.false c.self.invariant.0) (ap Err c.in-Err-Fault.field-0-is),
  failed_kept_so c.self.inside.faults (g.W.Wire.calls c.self.inside.wire) (g.W.Wire.calls c.hear_next.new.wire) c.hear_next.ensures.kept c.self.invariant.1,
)

pub invariant_of-self-in-Err-NoMemory : goal.invariant_of-self-in-Err-NoMemory
invariant_of-self-in-Err-NoMemory g c = (
  c.in-Err-NoMemory.ensures.err (rests_unspent c.self.inside.is_spent c.self.inside.table _ c.if-self.false c.self.invariant.0),
  failed_kept_so c.self.inside.faults (g.W.Wire.calls c.self.inside.wire) (g.W.Wire.calls c.hear_next.new.wire) c.hear_next.ensures.kept c.self.invariant.1,
)
