-- The parts of a rule's text, or why it is none.
use Rattle.std.specs.Prelude.{ℕ, List, [], ◌∷◌, ◌++◌, Option, Some, None, Result, Ok, Err, codes}
use Rattle.px_rule.specs.Spec.{spec_parts, spec_refusal}
use Rattle.px_rule.specs.declared.spec.SpecError.{SpecError}
use Rattle.px_rule.specs.declared.spec.SpecError.TheVariants.{Empty, WrongCount}
use Rattle.px_examples.specs.Rows.{◌gives◌}

abbrev unless : Option SpecError → List (List ℕ) → Result (List (List ℕ)) SpecError
unless None parts = Ok parts
unless (Some error) parts = Err error

-- at most so many, which are what the text is split into, unless it is refused
abbrev pub parts_or_error : ℕ → List ℕ → Result (List (List ℕ)) SpecError
parts_or_error most text = unless (spec_refusal most text) (spec_parts most text)

-- at most one behind a filter
abbrev pub one : List (List ℕ × Result (List (List ℕ)) SpecError)
one =
    "" gives Err Empty
    ∷ "/403" gives Ok (codes "403" ∷ [])
    ∷ "/~q/403" gives Ok (codes "~q" ∷ codes "403" ∷ [])
    ∷ "/~q/4/3" gives Ok (codes "~q" ∷ codes "4/3" ∷ [])
    ∷ []

-- at most two
abbrev pub two : List (List ℕ × Result (List (List ℕ)) SpecError)
two =
    "" gives Err Empty
    ∷ "/X" gives Err (WrongCount 1)
    ∷ "/" gives Err (WrongCount 1)
    ∷ "/X/" gives Ok (codes "X" ∷ [] ∷ [])
    ∷ "//" gives Ok ([] ∷ [] ∷ [])
    ∷ "/~q/a/b/c" gives Ok (codes "~q" ∷ codes "a" ∷ codes "b/c" ∷ [])
    ∷ "|~q|a/b|c" gives Ok (codes "~q" ∷ codes "a/b" ∷ codes "c" ∷ [])
    ∷ "/a/b/" gives Ok (codes "a" ∷ codes "b" ∷ [] ∷ [])
    ∷ (((0xc3 ∷ 0xa4 ∷ []) ++ codes "a" ++ (0xc3 ∷ 0xa4 ∷ []) ++ codes "b"), Ok (codes "a" ∷ codes "b" ∷ []))
    ∷ []
