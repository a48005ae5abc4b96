use Rattle.px_wire.proofs.AskedLemmas.{failed_kept_so, said_rests}
use Rattle.px_wire.proofs.lines.LinesNet.say.Goals as goal

pub invariant_of-self : goal.invariant_of-self
invariant_of-self g c = (
  said_rests c.self.inside.is_spent c.say.result c.self.inside.table c.say.new.table _ _ c.if-self.false c.say.ensures.stands c.say.ensures.err c.self.invariant.0,
  failed_kept_so c.self.inside.faults (g.W.Wire.calls c.self.inside.wire) (g.W.Wire.calls c.say.new.wire) c.say.ensures.kept c.self.invariant.1,
)
