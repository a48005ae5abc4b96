use Rattle.std.proofs.Common.{◌≡◌, ◌++◌}
use Rattle.px_message.specs.Fields.{values_of}
use Rattle.px_replay.proofs.values.Values.of.Given as goal

-- the values so far, and those that are still to come
abbrev pub invariant-loop-value : goal.invariant-loop-value
invariant-loop-value l = l.items.items ++ l.rest ≡ values_of l.fn.name l.fn.fields
