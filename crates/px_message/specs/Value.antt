-- The bytes of a field's value.
use Rattle.std.specs.Prelude.{ℕ, Bool, List, ◌||◌, ◌==◌, not}
use Rattle.std.specs.List.{list_all}

-- a value may hold this byte: any but NUL, LF and CR (RFC 9110 section 5.5)
abbrev pub is_value_byte : ℕ → Bool
is_value_byte b = not (b == 0 || b == 10 || b == 13)

-- the text may be a field's value
abbrev pub is_value : List ℕ → Bool
is_value text = list_all is_value_byte text
