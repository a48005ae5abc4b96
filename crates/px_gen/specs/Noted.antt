-- The steps of a run that are noted: the beginnings of conversations without a client, what is asked, what is answered, and the ends of flows.
use Rattle.std.specs.Prelude.{◌≡◌, Bool, true, false, List, ◌++◌, Option, Some, None}
use Rattle.std.specs.List.{filter}
use Rattle.px_text.specs.Prefix.{IsPrefixOf}
use Rattle.px_event.specs.declared.step.Step.{Step}
use Rattle.px_event.specs.declared.step.Step.TheVariants as steps
use Rattle.px_event.specs.Trace.{Trace}

-- a beginning, an ask, an answer or the end of a flow
abbrev pub is_noted : Step → Bool
is_noted (steps.Begun conv) = true
is_noted (steps.Asked conv ask) = true
is_noted (steps.Answered conv ask reply) = true
is_noted (steps.Done flow) = true
is_noted _ = false

-- those of a run, in their order
abbrev pub noted : Trace → List Step
noted trace = filter is_noted trace

-- a trace with more steps at its end, where it is told
abbrev pub with_steps : Option Trace → List Step → Option Trace
with_steps None more = None
with_steps (Some trace) more = Some (trace ++ more)

-- the trace has grown by the first of these steps, by none or by some or by all of them
abbrev pub HasGrownByFront : List Step → Option Trace → Option Trace → Type 0
HasGrownByFront more before after = (front : List Step) × IsPrefixOf front more × (after ≡ with_steps before front)
