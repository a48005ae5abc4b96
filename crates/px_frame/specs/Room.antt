-- How much room bytes have that wait.
use Rattle.std.specs.Prelude.{ℕ, ◌+◌, ◌≤◌, List, length}

-- room for at most twice as many bytes, and none where none wait
abbrev pub IsSnug : ℕ → List ℕ → Type 0
IsSnug room bytes = room ≤ length bytes + length bytes
