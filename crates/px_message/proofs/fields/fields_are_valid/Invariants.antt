use Rattle.std.proofs.Common.{◌≡◌, ◌<◌, true, ℕ, List}
use Rattle.std.specs.Prelude.{slice_index_or}
use Rattle.px_message.specs.Valid.{is_field}
use Rattle.px_message.proofs.fields.fields_are_valid.Given as goal

abbrev pub invariant-loop-i : goal.invariant-loop-i
invariant-loop-i l = (k : ℕ) (d : List ℕ × List ℕ) → k < l.i → is_field (slice_index_or l.fields k d) ≡ true
