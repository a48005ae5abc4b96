use Rattle.std.proofs.Common.{◌≡◌}
use Rattle.toml.specs.View.{members_view}
use Rattle.px_options.specs.Gathered.{gathered}
use Rattle.px_options.specs.View.{settings}
use Rattle.px_options.proofs.table.gather.Given as goal

-- what is still to be gathered leads to what the whole table leads to
abbrev pub invariant-loop-name : goal.invariant-loop-name
invariant-loop-name l =
    gathered (members_view l.name-iterator) (settings l.options) ≡ gathered (members_view l.table.entries) (settings l.fn.options)
