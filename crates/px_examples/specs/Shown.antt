-- How a refused filter is shown to a person.
use Rattle.std.specs.Prelude.{ℕ, List, [], ◌∷◌, ◌++◌, codes}

-- the text with a mark under the place; of several lines the one with the place
abbrev pub shown : List ((List ℕ × ℕ) × List ℕ)
shown =
    ((codes "~q ~zz", 3), codes "~q ~zz\n   ^\n")
    ∷ (((codes "'" ++ (0xc3 ∷ 0xa4 ∷ []) ++ codes "' ~zz"), 5), (codes "'" ++ (0xc3 ∷ 0xa4 ∷ []) ++ codes "' ~zz\n    ^\n"))
    ∷ ((codes "a )", 2), codes "a )\n  ^\n")
    ∷ (([], 0), codes "\n^\n")
    ∷ []
