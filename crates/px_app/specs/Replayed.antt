-- Recorded requests that are sent again, in a trace: which has begun, and when the next one begins.
use Rattle.std.specs.Prelude.{◌≡◌, ◌≢◌, ◌⊎◌, ◌<◌, ◌+◌, ℕ, nat_lt, if◌then◌else◌, Bool, true, false, [], ◌∷◌, ◌++◌}
use Rattle.std.specs.List.{count_by}
use Rattle.px_event.specs.declared.step.Step.{Step}
use Rattle.px_event.specs.declared.step.Step.TheVariants as steps
use Rattle.px_event.specs.Trace.{Always, BeforeEachHeard, Trace}
use Rattle.px_core.specs.Calls.{number_end}

abbrev pub is_begun : Step → Bool
is_begun (steps.Begun conv) = true
is_begun step = false

-- how many of them have begun
abbrev pub begun_count : Trace → ℕ
begun_count trace = count_by is_begun trace

-- whether one is on its way: it has begun, and its flow is not finished
abbrev pub going_on : Bool → Step → Bool
going_on going (steps.Begun conv) = true
going_on going (steps.Done flow) = if nat_lt flow.id.conv number_end then going else false
going_on going step = going

abbrev pub going_from : Bool → Trace → Bool
going_from going [] = going
going_from going (step ∷ rest) = going_from (going_on going step) rest

abbrev pub is_going : Trace → Bool
is_going trace = going_from false trace

-- Of so many, the one of this number is next, and none is on its way.
pub record MayBegin (total : ℕ) (trace : Trace) (conv : ℕ) : Type 0 where
  pub number : conv ≡ number_end + begun_count trace
  pub left : begun_count trace < total
  pub finished : is_going trace ≡ false

-- where a trace ends with a beginning, it is the next one's
abbrev pub BeginsInTurn : ℕ → Trace → Type 0
BeginsInTurn total trace = (prefix : Trace) (conv : ℕ) → trace ≡ prefix ++ steps.Begun conv ∷ [] → MayBegin total prefix conv

-- none waits to begin: all have begun, or one is on its way
abbrev pub NoneWaits : ℕ → Trace → Type 0
NoneWaits total trace = (begun_count trace ≡ total) ⊎ (is_going trace ≡ true)

-- They begin in their order, each where the flow of the one before is finished; and no later: before each thing heard, and where the run ends with no cause in what was heard,
-- none waits to begin.
pub record Replays (total status : ℕ) (told : Trace) : Type 0 where
  pub in_turn : Always (BeginsInTurn total) told
  pub none_waits : BeforeEachHeard (NoneWaits total) told
  pub at_end : told ≢ [] → (status ≡ 5) ⊎ (status ≡ 6) → NoneWaits total told
