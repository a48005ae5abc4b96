-- The expression that a tree is.
use Rattle.std.specs.Prelude.{List, map}
use Rattle.px_filter.specs.Expression.{Expression, asked, negated, every, some_of, row}
use Rattle.px_filter.specs.declared.filter.Filter.{Filter}
use Rattle.px_filter.specs.declared.tree.Tree.{Tree, fold-Tree}
use Rattle.px_filter.specs.declared.tree.Tree.TheOpen.{Tree-F}

-- one level, where each tree inside is already seen
abbrev pub tree_step : Tree-F Expression → Expression
tree_step (Tree-F.All trees) = every (row trees.items)
tree_step (Tree-F.Any trees) = some_of (row trees.items)
tree_step (Tree-F.Not inner) = negated inner.value
tree_step (Tree-F.Test t) = asked t

abbrev pub view : Tree → Expression
view = fold-Tree Expression tree_step

abbrev pub views : List Tree → List Expression
views trees = map view trees

-- the expression that a filter is
abbrev pub expression : Filter → Expression
expression filter = view filter.tree
