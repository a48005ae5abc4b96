use Rattle.std.proofs.Common.{◌≡◌, drop}
use Rattle.px_filter.specs.Expression.{row}
use Rattle.px_filter.specs.Holds.{all_hold, any_holds}
use Rattle.px_filter.specs.View.{views}
use Rattle.px_filter.proofs.holding.+holds.Given as goal

abbrev pub invariant-all_hold-loop-tree : goal.invariant-all_hold-loop-tree
invariant-all_hold-loop-tree l =
    all_hold l.fn.flow (row (views (drop l.tree-index l.tree-items))) ≡ all_hold l.fn.flow (row (views l.tree-items))

abbrev pub invariant-any_holds-loop-tree : goal.invariant-any_holds-loop-tree
invariant-any_holds-loop-tree l =
    any_holds l.fn.flow (row (views (drop l.tree-index l.tree-items))) ≡ any_holds l.fn.flow (row (views l.tree-items))
