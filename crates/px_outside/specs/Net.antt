-- What a network means: its trace, where it tells it, and where it listens.
use Rattle.std.specs.Prelude.{◌≡◌, [], ◌∷◌, ◌++◌, Option, Some, None}
use Rattle.px_message.specs.declared.address.Address.{Address}
use Rattle.px_event.specs.Trace.{Trace}
use Rattle.px_event.specs.declared.step.Step.{Step}
use Rattle.px_event.specs.declared.step.Step.TheVariants as steps

-- the trace has grown by this step, where it is told
abbrev pub Adds : Option Trace → Option Trace → Step → Type 0
Adds None new step = new ≡ None
Adds (Some trace) new step = new ≡ Some (trace ++ step ∷ [])

-- whether it was asked to listen, and where it does
pub data Listening : Type 0 where
  -- not yet asked
  idle : Listening
  -- asked, and it does not
  failed : Listening
  -- at the door for clients, and at that for operators where there is one
  at : (proxy : Address) (control : Option Address) → Listening

-- a step that is noted and not said: the beginning of a conversation without a client, an ask, an answer or the end of a flow
abbrev pub IsNote : Step → Type 0
IsNote (steps.Begun conv) = Unit {0}
IsNote (steps.Asked conv ask) = Unit {0}
IsNote (steps.Answered conv ask reply) = Unit {0}
IsNote (steps.Done flow) = Unit {0}
IsNote _ = ⊥
