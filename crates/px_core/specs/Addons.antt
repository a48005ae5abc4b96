-- Addons by their names: whether one has a name, and what a list is without the first that has it.
use Rattle.std.specs.Prelude.{ℕ, Bool, if◌then◌else◌, bytes_eq, List, [], ◌∷◌}
use Rattle.std.specs.List.{list_any}

-- one of these, by what they are named, has this name
abbrev pub has_name_by : {B : Type 0} → (B → List ℕ) → List ℕ → List B → Bool
has_name_by named name list = list_any (λ b. bytes_eq (named b) name) list

-- Without the first of these that has this name; the others in their order. Where none has it, it is all of them.
abbrev pub without_first_by : {B : Type 0} → (B → List ℕ) → List ℕ → List B → List B
without_first_by named name [] = []
without_first_by named name (b ∷ rest) = if bytes_eq (named b) name then rest else b ∷ without_first_by named name rest

-- so it is of names themselves
abbrev pub has_name : List ℕ → List (List ℕ) → Bool
has_name name names = has_name_by (λ own. own) name names

abbrev pub without_first : List ℕ → List (List ℕ) → List (List ℕ)
without_first name names = without_first_by (λ own. own) name names
