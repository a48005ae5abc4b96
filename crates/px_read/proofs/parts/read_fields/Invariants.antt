use Rattle.std.proofs.Common.{◌≡◌}
use Rattle.std.specs.Prelude.{All}
use Rattle.std.specs.Vec.Iter.{into_iter_items}
use Rattle.px_head.specs.Laws.{IsPair}
use Rattle.px_read.proofs.parts.read_fields.Given as goal

abbrev pub invariant-loop-name : goal.invariant-loop-name
invariant-loop-name l = (l.fields ≡ l.yielded) × All IsPair (into_iter_items l.name-iterator)
