-- ASCII letters without their case.
use Rattle.std.specs.Prelude.{ℕ, List, map}
use Rattle.std.specs.Char.{to_ascii_lowercase}

-- the text with each letter in lower case
abbrev pub lowercase : List ℕ → List ℕ
lowercase text = map to_ascii_lowercase text
