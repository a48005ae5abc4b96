use Rattle.std.proofs.Common.{◌≡◌, length}
use Rattle.px_tnet.specs.View.{paired, pairs_view}
use Rattle.px_flowfile.specs.Table.{lookup}
use Rattle.px_flowfile.proofs.find.find_named.Given as goal

-- the key is looked up in what is left
abbrev pub invariant-loop-first : goal.invariant-loop-first
invariant-loop-first l =
    lookup l.fn.name (pairs_view (paired l.fn.dict)) ≡ lookup l.fn.name (pairs_view l.rest)

abbrev pub decreases-loop-first : goal.decreases-loop-first
decreases-loop-first l = length l.rest
