-- Hooks are answered once and in order: which hook of a conversation is not answered, and what a step may ask or answer.
use Rattle.std.specs.Prelude.{◌≡◌, ℕ, ◌==◌, if◌then◌else◌, List, [], ◌∷◌, ◌++◌, Option, Some, None}
use Rattle.px_event.specs.declared.ask.Ask.{Ask}
use Rattle.px_event.specs.declared.ask.Ask.TheVariants as asks
use Rattle.px_event.specs.declared.command.Command.{Command}
use Rattle.px_event.specs.declared.command.Command.TheVariants as commands
use Rattle.px_event.specs.declared.step.Step.{Step}
use Rattle.px_event.specs.declared.step.Step.TheVariants as steps
use Rattle.px_event.specs.Trace.{Trace}

-- One step more. A hook that is asked stands until an answer. A dial is no hook: it is said and not asked.
abbrev pub hook_on : ℕ → Option Ask → Step → Option Ask
hook_on conv hook (steps.Asked number ask) = if number == conv then Some ask else hook
hook_on conv hook (steps.Answered number ask reply) = if number == conv then None else hook
hook_on conv hook _ = hook

abbrev pub hook_from : ℕ → Option Ask → Trace → Option Ask
hook_from conv hook [] = hook
hook_from conv hook (step ∷ trace) = hook_from conv (hook_on conv hook step) trace

-- the hook that was asked in the conversation of this number and is not answered
abbrev pub open_hook : ℕ → Trace → Option Ask
open_hook conv trace = hook_from conv None trace

-- After this trace, a hook is asked only where none is open in its conversation, and an answer is to the hook that is open.
abbrev pub IsInTurn : Trace → Step → Type 0
IsInTurn trace (steps.Asked conv ask) = open_hook conv trace ≡ None
IsInTurn trace (steps.Answered conv ask reply) = open_hook conv trace ≡ Some ask
IsInTurn trace _ = Unit {0}

-- so is the step with which the trace ends
abbrev pub EndsInTurn : Trace → Type 0
EndsInTurn trace = (prefix : Trace) (step : Step) → trace ≡ prefix ++ step ∷ [] → IsInTurn prefix step

-- in no conversation is a hook open
abbrev pub IsAllAnswered : Trace → Type 0
IsAllAnswered trace = (conv : ℕ) → open_hook conv trace ≡ None

-- the hook that is awaited
abbrev pub hook_of : Option Ask → Option Ask
hook_of (Some (asks.Hook flow hook)) = Some (asks.Hook flow hook)
hook_of _ = None

-- These commands ask a hook only where none is open; at first this one is, and at last that one.
abbrev pub AsksInTurn : Option Ask → List Command → Option Ask → Type 0
AsksInTurn first [] last = first ≡ last
AsksInTurn first (commands.Ask ask flow ∷ rest) last = (first ≡ None) × AsksInTurn (Some ask) rest last
AsksInTurn first (_ ∷ rest) last = AsksInTurn first rest last
