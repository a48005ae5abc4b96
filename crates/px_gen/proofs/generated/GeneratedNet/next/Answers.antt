use Rattle.px_gen.proofs.GeneratedLemmas.{by_next}
use Rattle.px_gen.proofs.generated.GeneratedNet.next.Goals as goal

pub invariant_of-self : goal.invariant_of-self
invariant_of-self g c =
    by_next g.K.Scripted.count c.self.inside.net c.next.new.self c.next.result c.self.invariant
    c.next.ensures.fails.0 c.next.ensures.after_ok c.next.ensures.after_no_memory
