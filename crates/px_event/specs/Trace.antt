-- Words on the traces of runs: what was sent, at every moment, at each step's end. They speak of any due.
use Rattle.std.specs.Prelude.{◌≡◌, ℕ, Bool, true, false, ◌==◌, if◌then◌else◌, List, [], ◌∷◌, ◌++◌}
use Rattle.std.specs.List.{flat_map}
use Rattle.px_event.specs.declared.side.Side.{Side}
use Rattle.px_event.specs.declared.side.Side.TheVariants.{Client, Server}
use Rattle.px_event.specs.declared.heard.Heard.{Heard}
use Rattle.px_event.specs.declared.said.Said.{Said}
use Rattle.px_event.specs.declared.said.Said.TheVariants.{Send}
use Rattle.px_event.specs.declared.step.Step.{Step}
use Rattle.px_event.specs.declared.step.Step.TheVariants as steps

-- the steps of a run, in their order
abbrev pub Trace : Type 0
Trace = List Step

-- the two sides are one
abbrev pub is_same_side : Side → Side → Bool
is_same_side Client Client = true
is_same_side (Server a) (Server b) = a == b
is_same_side _ _ = false

-- what a step says in the conversation of this number
abbrev pub said_in : ℕ → Step → List Said
said_in conv (steps.Said other said) = if other == conv then said ∷ [] else []
said_in conv _ = []

-- what was said in the conversation of this number, in its order
abbrev pub said : Trace → ℕ → List Said
said trace conv = flat_map (said_in conv) trace

-- the bytes that this sends to the side
abbrev pub bytes_for : Side → Said → List ℕ
bytes_for side (Send other bytes) = if is_same_side other side then bytes else []
bytes_for side _ = []

-- the joined bytes that these send to the side
abbrev pub bytes_to : Side → List Said → List ℕ
bytes_to side list = flat_map (bytes_for side) list

-- the joined bytes that were sent to the side of the conversation
abbrev pub sent : Trace → ℕ → Side → List ℕ
sent trace conv side = bytes_to side (said trace conv)

-- at every moment: it holds of each prefix of the trace
pub record Always (P : Trace → Type 0) (trace : Trace) : Type 0 where
  pub at : (prefix rest : Trace) → trace ≡ prefix ++ rest → P prefix

-- it holds of each prefix that stands directly before something heard
pub record BeforeEachHeard (P : Trace → Type 0) (trace : Trace) : Type 0 where
  pub at : (prefix rest : Trace) (moment : ℕ) (heard : Heard) → trace ≡ prefix ++ steps.Heard moment heard ∷ rest → P prefix

-- at each step's end: it holds of each prefix directly before something heard, and of the whole
pub record AtStepEnds (P : Trace → Type 0) (trace : Trace) : Type 0 where
  pub within : BeforeEachHeard P trace
  pub whole : P trace
