use Rattle.std.proofs.Common.{◌≡◌, ◌++◌, List, reverse}
use Rattle.std.specs.Slice.Iter.{iter_rest}
use Rattle.std.specs.Iterator.Adapters.{rev_source}
use Rattle.px_tnet.specs.View.{listed, paired, pairs_view, trees_view}
use Rattle.px_tnet.specs.Written.{written_pairs, written_trees}
use Rattle.px_tnet.specs.declared.tree.Tnet.{Tnet}
use Rattle.px_tnet.proofs.DictLemmas.{Entry}
use Rattle.px_tnet.proofs.writing.+push.Given as goal

-- the trees behind those that are left are pushed
abbrev pub invariant-push_list-loop-tree : goal.invariant-push_list-loop-tree
invariant-push_list-loop-tree l =
    (goal.iterator-push_list-loop-tree).can_next l.tree-iterator × (goal.iterator-push_list-loop-tree).is_finite l.tree-iterator
    × (pushed : List Tnet) × (listed l.fn.list ≡ iter_rest (rev_source l.tree-iterator) ++ pushed)
    × (l.out.items ≡ l.fn.out.items ++ reverse (written_trees (trees_view pushed)))

abbrev pub invariant-push_dict-loop-key : goal.invariant-push_dict-loop-key
invariant-push_dict-loop-key l =
    (goal.iterator-push_dict-loop-key).can_next l.key-iterator × (goal.iterator-push_dict-loop-key).is_finite l.key-iterator
    × (pushed : List Entry) × (paired l.fn.dict ≡ iter_rest (rev_source l.key-iterator) ++ pushed)
    × (l.out.items ≡ l.fn.out.items ++ reverse (written_pairs (pairs_view pushed)))
