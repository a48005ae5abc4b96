-- Where the head of a written message ends.
use Rattle.std.specs.Prelude.{ℕ, ◌≡◌, List, ◌++◌, length, Some}
use Rattle.px_text.specs.Blank.{blank_end}

-- Whatever follows the text, the block of lines at its front ends behind the head.
abbrev pub HeadEnds : List ℕ → List ℕ → Type 0
HeadEnds head text = (rest : List ℕ) → blank_end (text ++ rest) 0 ≡ Some (length head)
