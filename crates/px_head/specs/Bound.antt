-- How much a buffer holds of what was used.
use Rattle.std.specs.Prelude.{ℕ, ◌+◌, ◌≤◌, List, length}

-- the first `used` bytes were used, and the others wait: those that were used are no more than those that wait, so the buffer
-- holds at most twice what waits, and nothing where nothing waits
abbrev pub IsBounded : ℕ → List ℕ → Type 0
IsBounded used bytes = used + used ≤ length bytes
