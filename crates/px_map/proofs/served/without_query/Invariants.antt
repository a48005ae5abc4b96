use Rattle.std.proofs.Common.{◌≡◌, ◌++◌, take, drop}
use Rattle.px_map.specs.Served.{without_query}
use Rattle.px_map.proofs.served.without_query.Given as goal

-- the bytes so far belong to the path
abbrev pub invariant-loop-end : goal.invariant-loop-end
invariant-loop-end l = without_query l.text ≡ take l.end l.text ++ without_query (drop l.end l.text)
