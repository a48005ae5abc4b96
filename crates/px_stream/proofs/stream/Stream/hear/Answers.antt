use Rattle.px_stream.proofs.StepLemmas.{heard_by, stray_by}
use Rattle.px_stream.proofs.stream.Stream.hear.Goals as goal

pub returns-clause-hears : goal.returns-clause-hears
returns-clause-hears c = heard_by c.hear.result c.args.self.now c.args.event.now _ _ _ _ _ c.uses_side-uses.ensures c.hear.ensures.requests c.hear.ensures.client c.hear.ensures.side

pub returns-clause-stray : goal.returns-clause-stray
returns-clause-stray c = stray_by c.hear.result c.args.event.now _ _ _ c.uses_side-uses.ensures c.hear.ensures.stray
