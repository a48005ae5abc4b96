use Rattle.std.proofs.Common.{◌+◌, ◌*◌, length}
use Rattle.px_tnet.specs.Items.{IsItem, Joins}
use Rattle.px_tnet.specs.View.{trees_view}
use Rattle.px_tnet.proofs.reading.+read.Given as goal

abbrev pub decreases-read_item : goal.decreases-read_item
decreases-read_item l = l.depth * 4 + 3

abbrev pub decreases-read_items : goal.decreases-read_items
decreases-read_items l = l.depth * 4 + 4

abbrev pub decreases-read_payload : goal.decreases-read_payload
decreases-read_payload l = l.depth * 4 + 2

abbrev pub decreases-read_within : goal.decreases-read_within
decreases-read_within l = l.depth * 4 + 1

-- the items so far stand in front of the rest
abbrev pub invariant-read_items-loop-alloc : goal.invariant-read_items-loop-alloc
invariant-read_items-loop-alloc l = Joins (IsItem l.depth) (trees_view l.items.items) l.fn.payload l.rest

abbrev pub decreases-read_items-loop-alloc : goal.decreases-read_items-loop-alloc
decreases-read_items-loop-alloc l = length l.rest
