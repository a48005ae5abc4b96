-- Why lines fail.
use Rattle.std.specs.Prelude.{◌⊎◌, ℕ, ◌+◌, ◌<◌, Option}
use Rattle.px_outside.specs.Count.{Rose}
use Rattle.px_wire.specs.Asked.{AskedInVain, most_asks}
use Rattle.px_wire.specs.Calls.{Calls, IfTold}

-- The faults of the wire and those of lines themselves, which were so many and are so many now, rose together. The wire's rose; or they
-- did not, and lines failed by themselves: then, where the wire tells its calls, `ready` was answered 2^64 - 1 times in a row in which
-- nothing was heard.
abbrev pub LinesFailed : ℕ → ℕ → ℕ → ℕ → Option Calls → Type 0
LinesFailed old own_old new own told =
    Rose (old + own_old) (new + own) × (Rose old new ⊎ (¬ (Rose old new) × (0 < own) × IfTold (AskedInVain most_asks) told))
