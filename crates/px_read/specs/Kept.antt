-- How many bytes a field section holds.
use Rattle.std.specs.Prelude.{ℕ, ◌+◌, List, length}
use Rattle.std.specs.List.{sum_by}

-- those of its name and of its value
abbrev pub field_keeps : List ℕ × List ℕ → ℕ
field_keeps field = length field.0 + length field.1

abbrev pub fields_keep : List (List ℕ × List ℕ) → ℕ
fields_keep fields = sum_by field_keeps fields
