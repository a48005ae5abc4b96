-- The word that says how many flows.
use Rattle.std.specs.Prelude.{◌≡◌, ℕ, ◌≤◌, List, decimal}

-- the word is the digits of this number, without sign and leading zeros, and the number is 10,000 at most
abbrev pub IsCount : List ℕ → ℕ → Type 0
IsCount word n = (word ≡ decimal n) × (n ≤ 10000)
