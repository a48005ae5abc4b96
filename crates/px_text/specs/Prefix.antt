-- Beginnings of a list.
use Rattle.std.specs.Prelude.{ℕ, List, ◌++◌, ◌≡◌}

abbrev pub IsPrefixOf : {A : Type 0} → List A → List A → Type 0
IsPrefixOf xs ys = (rest : List _) × (ys ≡ xs ++ rest)

-- the new list is the old one with a prefix of the text behind it
abbrev pub AddsPrefixOf : List ℕ → List ℕ → List ℕ → Type 0
AddsPrefixOf text old new = (given : List ℕ) × IsPrefixOf given text × (new ≡ old ++ given)
