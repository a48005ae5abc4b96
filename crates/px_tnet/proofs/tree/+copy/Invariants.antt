use Rattle.std.proofs.Common.{◌≡◌, map, take}
use Rattle.px_tnet.specs.View.{pairs_view, view}
use Rattle.px_tnet.proofs.tree.+copy.Given as goal

abbrev pub invariant-copy_list-loop-tree : goal.invariant-copy_list-loop-tree
invariant-copy_list-loop-tree l = map view l.items.items ≡ map view (take l.tree-index l.tree-items)

abbrev pub invariant-copy_dict-loop-key : goal.invariant-copy_dict-loop-key
invariant-copy_dict-loop-key l = pairs_view l.pairs.items ≡ pairs_view (take l.key-index l.key-items)
