-- What is kept of pairs of a key and a value that come one behind the other: each key where it first came, with the value that came last under it.
use Rattle.std.specs.Prelude.{ℕ, zero, suc, Bool, not, List, [], ◌∷◌, filter, Option, None, Some, if◌then◌else◌}
use Rattle.std.specs.Option.{option_or, unwrap_or}

module _ {K V : Type 0} (same : K → K → Bool) where
  -- the value that came last under the key
  abbrev pub latest : K → List (K × V) → Option V
  latest key [] = None
  latest key (pair ∷ pairs) = option_or (latest key pairs) (if same pair.0 key then Some pair.1 else None)

  -- the pairs of all other keys
  abbrev pub others : K → List (K × V) → List (K × V)
  others key pairs = filter (λ pair. not (same pair.0 key)) pairs

  -- each key where it first came, with the value that came last under it
  abbrev pub kept : List (K × V) → List (K × V)
  kept [] = []
  kept (pair ∷ pairs) = (pair.0, unwrap_or (latest pair.0 pairs) pair.1) ∷ others pair.0 (kept pairs)

-- each key once, in the order in which they first came
abbrev pub firsts : {K : Type 0} → (K → K → Bool) → List K → List K
firsts same [] = []
firsts same (key ∷ keys) = key ∷ filter (λ other. not (same other key)) (firsts same keys)

-- the pairs with the value of the one at that place changed
abbrev pub with_value : {K V : Type 0} → ℕ → V → List (K × V) → List (K × V)
with_value place value [] = []
with_value zero value (pair ∷ pairs) = (pair.0, value) ∷ pairs
with_value (suc place) value (pair ∷ pairs) = pair ∷ with_value place value pairs
