-- Addons by their names: the names of a list without its first of a name are the names without that name's first.
use Rattle.std.proofs.Common.{◌≡◌, ℕ, Bool, true, false, if◌then◌else◌, List, [], ◌∷◌, map, refl, ap}
use Rattle.std.specs.Prelude.{bytes_eq, ◌||◌}
use Rattle.px_core.specs.Addons.{has_name_by, without_first_by, has_name, without_first}

pub names_without_first : {B : Type 0} (named : B → List ℕ) (name : List ℕ) (list : List B) →
    map named (without_first_by named name list) ≡ without_first name (map named list)
names_without_first named name [] = refl
names_without_first named name (b ∷ rest) = by_test (bytes_eq (named b) name) (names_without_first named name rest)
  where
    by_test : (same : Bool) → map named (without_first_by named name rest) ≡ without_first name (map named rest) →
        map named (if same then rest else b ∷ without_first_by named name rest) ≡ (if same then map named rest else named b ∷ without_first name (map named rest))
    by_test true behind = refl
    by_test false behind = ap (λ names. named b ∷ names) behind

-- one has the name where one of the names is it
pub has_name_of_names : {B : Type 0} (named : B → List ℕ) (name : List ℕ) (list : List B) → has_name name (map named list) ≡ has_name_by named name list
has_name_of_names named name [] = refl
has_name_of_names named name (b ∷ rest) = ap (λ others. bytes_eq (named b) name || others) (has_name_of_names named name rest)

-- where none has the name, nothing goes away
pub without_none : {B : Type 0} (named : B → List ℕ) (name : List ℕ) (list : List B) → has_name_by named name list ≡ false → without_first_by named name list ≡ list
without_none named name [] none = refl
without_none named name (b ∷ rest) none = by_test (bytes_eq (named b) name) none (without_none named name rest)
  where
    by_test : (same : Bool) → (same || has_name_by named name rest) ≡ false → (has_name_by named name rest ≡ false → without_first_by named name rest ≡ rest) →
        (if same then rest else b ∷ without_first_by named name rest) ≡ b ∷ rest
    by_test true none behind = absurd (cc)
    by_test false none behind = ap (λ others. b ∷ others) (behind none)
