-- Each conversation by itself: a step is of the conversation that was heard last, or has begun since with no one heard, or follows from what an operator said; and what is due to a conversation is told by
-- its own steps and by what operators say alone.
use Rattle.std.specs.Prelude.{◌≡◌, ℕ, ◌==◌, if◌then◌else◌, Bool, true, false, List, [], ◌∷◌, ◌++◌, Option, Some, None}
use Rattle.px_event.specs.declared.heard.Heard.{Heard}
use Rattle.px_event.specs.declared.heard.Heard.TheVariants as heard
use Rattle.px_event.specs.declared.step.Step.{Step}
use Rattle.px_event.specs.declared.step.Step.TheVariants as steps
use Rattle.px_event.specs.Trace.{Trace}
use Rattle.px_event.specs.View.{View}
use Rattle.px_core.specs.declared.news.News.{News}
use Rattle.px_core.specs.Calls.{addressed, calls}
use Rattle.px_core.specs.Due.{Due, due_in}
use Rattle.px_core.specs.Held.{IsOf}
use Rattle.px_app.specs.Operators.{Word, nothing, says, leaves, word_of}

-- whose steps may follow: nobody's, those of one conversation, or anybody's
pub data Actor : Type 0 where
  nobody : Actor
  one : (conv : ℕ) → Actor
  anybody : Actor

abbrev pub actor_of : Option (ℕ × News) → Actor
actor_of None = nobody
actor_of (Some (conv, news)) = one conv

abbrev pub actor_by : Word → Option (ℕ × News) → Actor
actor_by nothing heard_by = actor_of heard_by
actor_by (says conv lines) heard_by = anybody
actor_by (leaves conv) heard_by = anybody

-- whose steps may follow from something heard behind a trace
abbrev pub acts_behind : Trace → Heard → Actor
acts_behind trace what = actor_by (word_of trace what) (addressed what)

abbrev pub IsBy : Actor → Step → Type 0
IsBy nobody step = ⊥
IsBy (one conv) step = IsOf conv step
IsBy anybody step = Unit {0}

-- Behind this trace, each step that is not heard is of the conversation that was heard last or has begun since, or follows from what an operator said.
abbrev pub OwnFrom : Trace → Actor → Trace → Type 0
OwnFrom trace actor [] = Unit {0}
OwnFrom trace actor (steps.Heard moment what ∷ rest) = OwnFrom (trace ++ steps.Heard moment what ∷ []) (acts_behind trace what) rest
OwnFrom trace actor (steps.Begun conv ∷ rest) = OwnFrom (trace ++ steps.Begun conv ∷ []) (one conv) rest
OwnFrom trace actor (step ∷ rest) = IsBy actor step × OwnFrom (trace ++ step ∷ []) actor rest

abbrev pub IsOwn : Trace → Type 0
IsOwn trace = OwnFrom [] nobody trace

abbrev pub is_actor : ℕ → Actor → Bool
is_actor conv nobody = false
is_actor conv (one other) = other == conv
is_actor conv anybody = true

-- a step of the conversation of this number, behind this trace: it hears it, or it is its own; or an operator said it
abbrev pub is_step_of : ℕ → Trace → Step → Bool
is_step_of conv trace (steps.Heard moment what) = is_actor conv (acts_behind trace what)
is_step_of conv trace (steps.Begun number) = number == conv
is_step_of conv trace (steps.Asked number ask) = number == conv
is_step_of conv trace (steps.Answered number ask reply) = number == conv
is_step_of conv trace (steps.Said number what) = number == conv
is_step_of conv trace (steps.Done flow) = flow.id.conv == conv

-- A step alone. A conversation begins with no one heard at the moment of what was heard last, by whomever: of that the moment alone is kept.
abbrev pub alone_at : ℕ → Trace → Step → List Step
alone_at conv trace (steps.Begun number) = steps.Heard (calls conv trace).moment heard.End ∷ steps.Begun number ∷ []
alone_at conv trace step = step ∷ []

abbrev pub alone_from : ℕ → Trace → Trace → Trace
alone_from conv trace [] = []
alone_from conv trace (step ∷ rest) =
    if is_step_of conv trace step then alone_at conv trace step ++ alone_from conv (trace ++ step ∷ []) rest else alone_from conv (trace ++ step ∷ []) rest

-- the steps of the conversation, with the moment at which it begins, and what operators said, alone
abbrev pub alone : ℕ → Trace → Trace
alone conv trace = alone_from conv [] trace

-- what is due to each conversation is what is due by its own steps, by the moment at which it begins, and by what operators said alone, whatever others heard
abbrev pub IsIsolated : Due → Trace → Type 0
IsIsolated due trace = (conv : ℕ) (view : View) → due_in due view conv trace ≡ due_in due view conv (alone conv trace)
