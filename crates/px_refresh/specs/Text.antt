-- Texts that are compared byte by byte.
use Rattle.std.specs.Prelude.{ℕ, Bool, List, nat_eq}
use Rattle.std.specs.Cmp.Lexicographic.{pointwise}

abbrev pub is_same_text : List ℕ → List ℕ → Bool
is_same_text = pointwise nat_eq
