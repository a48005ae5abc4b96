-- Counts of faults and of calls.
use Rattle.std.specs.Prelude.{ℕ, ◌+◌, ◌-◌, ◌^◌, ◌≤◌, ◌==◌, min, Bool, IsTrue, List}
use Rattle.std.specs.List.{list_any}

-- the count rose, or stands at its type's end
abbrev pub Rose : ℕ → ℕ → Type 0
Rose before now = min (before + 1) (2 ^ 64 - 1) ≤ now

-- the count one further; it stands still at its type's end
abbrev pub one_more : ℕ → ℕ
one_more count = min (count + 1) (2 ^ 64 - 1)

-- how many calls were counted, and the numbers of those that fail
pub record Plan : Type 0 where
  pub count : ℕ
  pub fails : List ℕ

-- whether the next call fails: its number is listed
abbrev pub fails_next : Plan → Bool
fails_next plan = list_any (λ number. number == plan.count) plan.fails

-- the same as a fact
abbrev pub FailsNext : Plan → Type 0
FailsNext plan = IsTrue (fails_next plan)

-- one call further
abbrev pub after_call : Plan → Plan
after_call plan = record plan { count = one_more plan.count }
