use Rattle.std.proofs.Common.{◌≡◌, length}
use Rattle.px_message.specs.Fields.{values_of}
use Rattle.px_message.proofs.fields.FieldsOfIterator.next.Given as goal

abbrev pub invariant-loop-first : goal.invariant-loop-first
invariant-loop-first l = values_of l.self-inside.name.now l.self-inside.rest.now ≡ l.fn.self

abbrev pub decreases-loop-first : goal.decreases-loop-first
decreases-loop-first l = length l.self-inside.rest.now
