use Rattle.px_tnet.specs.View.{pairs_view}
use Rattle.px_flowfile.specs.FlowTable.{unknown}
use Rattle.px_flowfile.proofs.OthersLemmas.{all_kept}
use Rattle.px_flowfile.proofs.unknown.unknown_of.Goals as goal

pub returns : goal.returns
returns c =
    all_kept c.loop-first.kept.items c.loop-first.rest.now (unknown (pairs_view c.args.pairs.now)) c.in_default.ensures.cases c.loop-first.invariant
