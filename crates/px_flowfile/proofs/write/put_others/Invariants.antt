use Rattle.std.proofs.Common.{◌≡◌, length}
use Rattle.px_tnet.specs.View.{pairs_view}
use Rattle.px_flowfile.specs.OthersView.{others_view}
use Rattle.px_flowfile.specs.Unknown.{joined}
use Rattle.px_flowfile.proofs.write.put_others.Given as goal

abbrev pub invariant-loop-first : goal.invariant-loop-first
invariant-loop-first l =
    joined (pairs_view l.pairs.items) (pairs_view l.rest) ≡ joined (pairs_view l.initial.pairs.items) (others_view l.fn.others)

abbrev pub decreases-loop-first : goal.decreases-loop-first
decreases-loop-first l = length l.rest
