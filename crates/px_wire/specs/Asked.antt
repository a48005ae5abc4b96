-- How often in a row `ready` was answered while nothing was heard or said, by the calls.
use Rattle.std.specs.Prelude.{◌≡◌, ℕ, ◌+◌, ◌-◌, ◌^◌, ◌<◌, ◌≤◌, [], ◌∷◌, ◌++◌, Option}
use Rattle.px_wire.specs.declared.call.WireCall.{WireCall}
use Rattle.px_wire.specs.declared.call.WireCall.TheVariants as calls
use Rattle.px_wire.specs.Calls.{Calls, IfTold, steps_of}
use Rattle.px_wire.specs.Ledger.{ledger}
use Rattle.px_wire.specs.Rules.{MayAsk}

-- 1 for a call of `ready` that told something
abbrev pub answers_in : WireCall → ℕ
answers_in (calls.Told moment what) = 1
answers_in _ = 0

-- how many of these calls are of `ready` and told something
abbrev pub answer_count : Calls → ℕ
answer_count [] = 0
answer_count (call ∷ list) = answers_in call + answer_count list

-- more calls were made behind these, and so often `ready` told something in them
pub record AnsweredBehind (past : Calls) (times : ℕ) (list : Calls) : Type 0 where
  pub more : Calls
  pub grown : list ≡ past ++ more
  pub answered : times ≤ answer_count more

-- the same, where the calls are told
abbrev pub AnsweredSince : Calls → ℕ → Option Calls → Type 0
AnsweredSince past times told = IfTold (AnsweredBehind past times) told

-- So often in a row `ready` told something, and no step was taken between: nothing that it told was heard. And nothing was
-- left to be heard, read, put or shut at the end of the row: it might have been asked again.
pub record AskedInVain (times : ℕ) (list : Calls) : Type 0 where
  pub before : Calls
  pub row : Calls
  pub behind : Calls
  pub are : list ≡ before ++ (row ++ behind)
  pub silent : steps_of row ≡ []
  pub answered : times ≤ answer_count row
  pub done : MayAsk (ledger (before ++ row))

-- so often lines ask in a row before they fail by themselves
abbrev pub most_asks : ℕ
most_asks = 2 ^ 64 - 1

-- Where the calls are told, lines failed by themselves only if they asked in vain so often in a row.
abbrev pub FailedSo : ℕ → Option Calls → Type 0
FailedSo faults told = 0 < faults → IfTold (AskedInVain most_asks) told
