use Rattle.std.proofs.Common.{◌≡◌, take}
use Rattle.px_replay.specs.Key.{values_under}
use Rattle.px_replay.proofs.values.NamedValues.of.Given as goal

-- the values under the names so far
abbrev pub invariant-loop-name : goal.invariant-loop-name
invariant-loop-name l = l.lists.items ≡ values_under (take l.name-index l.names) l.fn.fields
