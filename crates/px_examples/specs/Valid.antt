-- Which texts are names, values and paths, and which numbers are statuses.
use Rattle.std.specs.Prelude.{ℕ, Bool, true, false, List, [], ◌∷◌}
use Rattle.px_examples.specs.Rows.{◌gives◌}

-- names
abbrev pub names : List (List ℕ × Bool)
names =
    "a" gives true
    ∷ "a b" gives false
    ∷ "" gives false
    ∷ "x\n" gives false
    ∷ "/a" gives false
    ∷ "*" gives true
    ∷ []

-- values
abbrev pub values : List (List ℕ × Bool)
values =
    "a" gives true
    ∷ "a b" gives true
    ∷ "" gives true
    ∷ "x\n" gives false
    ∷ []

-- paths
abbrev pub paths : List (List ℕ × Bool)
paths =
    "a" gives false
    ∷ "" gives false
    ∷ "/a" gives true
    ∷ "/a b" gives false
    ∷ "*" gives true
    ∷ []

-- statuses
abbrev pub statuses : List (ℕ × Bool)
statuses =
    (100, false)
    ∷ (101, true)
    ∷ (200, true)
    ∷ (1000, false)
    ∷ []
