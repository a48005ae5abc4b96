-- Numbers as runs of neighbours: of each run its first number and its last.
use Rattle.std.specs.Prelude.{◌≡◌, ℕ, ◌+◌, ◌<◌, ◌≤◌, Bool, nat_le, ◌&&◌, List, ◌⊎◌, Option, Some, None, IsSome}
use Rattle.std.specs.List.{list_any, Contains}
use Rattle.std.specs.List.Sorted.{IsStrictlySortedBy}
use Rattle.std.specs.Map.{keys_of}
use Rattle.std.specs.Ordering.{nat_cmp}

abbrev pub is_within : ℕ → ℕ × ℕ → Bool
is_within number run = nat_le run.0 number && nat_le number run.1

-- whether the number is in a run
abbrev pub has : List (ℕ × ℕ) → ℕ → Bool
has runs number = list_any (is_within number) runs

-- The runs ascend, none is empty, and between two of them at least one number is missing: so neighbours are in one run.
pub record AreRuns (runs : List (ℕ × ℕ)) : Type 0 where
  pub ascend : IsStrictlySortedBy nat_cmp (keys_of runs)
  pub whole : (first last : ℕ) → Contains runs (first, last) → first ≤ last
  pub apart : (first last later end : ℕ) → Contains runs (first, last) → Contains runs (later, end) → first < later → last + 1 < later

-- So is a map from the first number of each run to its last: of the runs that begin at or before a number, this is the last.
pub record IsRunAt (lasts : ℕ → Option ℕ) (number first last : ℕ) : Type 0 where
  pub at : lasts first ≡ Some last
  pub below : first ≤ number
  pub greatest : (other : ℕ) → other ≤ number → IsSome (lasts other) → other ≤ first

-- The run that a number would be in begins here: where the run begins that ends right before it, or with itself.
abbrev pub IsFirstOf : (ℕ → Option ℕ) → ℕ → ℕ → Type 0
IsFirstOf lasts number first =
    ((first ≡ number) × ((other end : ℕ) → lasts other ≡ Some end → end + 1 ≡ number → ⊥)) ⊎ ((end : ℕ) × (lasts first ≡ Some end) × (end + 1 ≡ number))

-- It ends here: where the run ends that begins right behind it, or with itself.
abbrev pub IsLastOf : (ℕ → Option ℕ) → ℕ → ℕ → Type 0
IsLastOf lasts number last = ((last ≡ number) × (lasts (number + 1) ≡ None)) ⊎ (lasts (number + 1) ≡ Some last)
