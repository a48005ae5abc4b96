-- The least number that passes a test.
use Rattle.std.specs.Prelude.{ℕ, zero, suc, ◌+◌, Bool, if◌then◌else◌, Option, Some, None}

-- the least of the `count` numbers from `at` on that passes the test
abbrev pub least : (ℕ → Bool) → ℕ → ℕ → Option ℕ
least test at zero = None
least test at (suc count) = if test at then Some at else least test (at + 1) count
