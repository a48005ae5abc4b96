use Rattle.std.proofs.Common.{◌≡◌, length}
use Rattle.px_tnet.specs.View.{pairs_view}
use Rattle.px_flowfile.specs.FlowTable.{unknown}
use Rattle.px_flowfile.specs.Unknown.{joined}
use Rattle.px_flowfile.proofs.unknown.unknown_of.Given as goal

-- what was kept, and the unknown pairs of what is left
abbrev pub invariant-loop-first : goal.invariant-loop-first
invariant-loop-first l = joined (pairs_view l.kept.items) (unknown (pairs_view l.rest)) ≡ unknown (pairs_view l.fn.pairs)

abbrev pub decreases-loop-first : goal.decreases-loop-first
decreases-loop-first l = length l.rest
