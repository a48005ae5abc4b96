use Rattle.std.proofs.Common.{◌≡◌, ◌-◌, ◌≤◌, length, take}
use Rattle.px_tnet.specs.View.{trees_view}
use Rattle.px_flowfile.specs.Message as specs
use Rattle.px_flowfile.proofs.put_message.field_trees.Given as goal

abbrev pub invariant-loop-i : goal.invariant-loop-i
invariant-loop-i l = (trees_view l.trees.items ≡ specs.row_of specs.field (take l.i l.fn.fields)) × (l.i ≤ length l.fn.fields)

abbrev pub decreases-loop-i : goal.decreases-loop-i
decreases-loop-i l = length l.fn.fields - l.i
