use Rattle.px_flowfile.proofs.PutLemmas.{rest_put}
use Rattle.px_flowfile.proofs.write.put_others.Goals as goal

pub returns : goal.returns
returns c = rest_put c.loop-first.pairs.items c.loop-first.rest.now _ c.in_default.ensures.cases c.loop-first.invariant
