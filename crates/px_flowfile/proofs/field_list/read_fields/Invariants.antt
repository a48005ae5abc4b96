use Rattle.std.proofs.Common.{ℕ, List, ◌++◌, length}
use Rattle.px_tnet.specs.View.{trees_view}
use Rattle.px_flowfile.specs.Message as specs
use Rattle.px_flowfile.specs.declared.error.FlowFileError.{FlowFileError}
use Rattle.px_flowfile.proofs.field_list.read_fields.Given as goal

-- what is left is read as the rest of the fields, or refused as the whole is
abbrev pub invariant-loop-tree : goal.invariant-loop-tree
invariant-loop-tree l =
    ((more : List (List ℕ × List ℕ)) → specs.AreRead specs.field (trees_view l.rest) more
    → specs.AreRead specs.field (trees_view l.fn.trees) (l.fields ++ more))
    × ((e : FlowFileError) → specs.FirstIsRefused specs.field l.fn.key (trees_view l.rest) e
    → specs.FirstIsRefused specs.field l.fn.key (trees_view l.fn.trees) e)

abbrev pub decreases-loop-tree : goal.decreases-loop-tree
decreases-loop-tree l = length l.rest
