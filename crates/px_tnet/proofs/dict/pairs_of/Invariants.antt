use Rattle.std.proofs.Common.{◌≡◌, length}
use Rattle.std.specs.Vec.Iter.{into_iter_items, into_iter_len}
use Rattle.px_tnet.specs.View.{pairs_view, trees_view}
use Rattle.px_tnet.proofs.DictLemmas.{onto}
use Rattle.px_tnet.proofs.dict.pairs_of.Given as goal

-- the pairs so far, and what is left behind them
abbrev pub invariant-loop-key : goal.invariant-loop-key
invariant-loop-key l =
    (trees_view l.fn.items.items ≡ onto (pairs_view l.pairs.items) (trees_view (into_iter_items l.rest)))
    × (into_iter_len l.rest ≡ length (into_iter_items l.rest))

abbrev pub decreases-loop-key : goal.decreases-loop-key
decreases-loop-key l = into_iter_len l.rest
