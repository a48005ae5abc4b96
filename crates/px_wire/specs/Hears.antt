-- What is heard, for the calls that hear it.
use Rattle.std.specs.Prelude.{◌≡◌, ℕ, true, Option, Some, None}
use Rattle.px_event.specs.declared.heard.Heard.{Heard}
use Rattle.px_event.specs.declared.heard.Heard.TheVariants as heard
use Rattle.px_event.specs.declared.step.Step.TheVariants as steps
use Rattle.px_event.specs.Trace.{Trace}
use Rattle.px_outside.specs.Net.{Adds}

-- what is heard and neither are bytes nor ends a slot
abbrev pub IsPlain : Heard → Type 0
IsPlain (heard.Accepted conv door peer) = Unit {0}
IsPlain (heard.Dialled conv server ok) = ok ≡ true
IsPlain _ = ⊥

-- the step in which it is heard is added to the trace, or nothing was heard and nothing added
abbrev pub AddsHeard : Option (ℕ × Heard) → Option Trace → Option Trace → Type 0
AddsHeard None old new = new ≡ old
AddsHeard (Some told) old new = Adds old new (steps.Heard told.0 told.1)
