-- Live flows of a trace: those about which a hook was asked and that are not finished.
use Rattle.std.specs.Prelude.{◌≡◌, ℕ, Bool, true, false, ◌==◌, ◌&&◌, if◌then◌else◌, List, [], ◌∷◌, map, Option, Some, None}
use Rattle.std.specs.List.{list_any, AllByRecursion}
use Rattle.std.specs.List.Sorted.{IsStrictlySortedBy}
use Rattle.std.specs.BTreeMap as tree
use Rattle.std.specs.Ordering.{nat_cmp, ordering_then}
use Rattle.std.specs.declared.cmp.Ordering.{Ordering}
use Rattle.px_message.specs.declared.flow.Flow.{Flow}
use Rattle.px_message.specs.declared.flow.FlowId.{FlowId}
use Rattle.px_event.specs.declared.ask.Ask.{Ask}
use Rattle.px_event.specs.declared.ask.Ask.TheVariants as asks
use Rattle.px_event.specs.declared.ask.Hook.{Hook}
use Rattle.px_event.specs.declared.step.Step.{Step}
use Rattle.px_event.specs.declared.step.Step.TheVariants as steps
use Rattle.px_event.specs.Trace.{Trace}
use Rattle.px_core.specs.declared.flows.Flows.{Flows}
use Rattle.px_core.specs.Answered.{Answers}
use Rattle.px_core.specs.Answers.{Answering, AnswererState}
use Rattle.px_core.specs.Answered.{Pending}
use Rattle.px_core.specs.Course.{Course}
use Rattle.px_core.specs.Due.{Due}
use Rattle.px_core.specs.Hooks.{open_hook}

-- the two are one flow's
abbrev pub is_same_flow : FlowId → FlowId → Bool
is_same_flow a b = (a.conv == b.conv) && (a.index == b.index)

-- flows rise by their conversation, and in it by their index
abbrev pub pair_cmp : ℕ × ℕ → ℕ × ℕ → Ordering
pair_cmp a b = ordering_then (nat_cmp a.0 b.0) (nat_cmp a.1 b.1)

abbrev pub flow_cmp : FlowId → FlowId → Ordering
flow_cmp a b = pair_cmp (a.conv, a.index) (b.conv, b.index)

-- what a flow was when it was asked about last, by its conversation and its index
abbrev pub shown_in : Flows → ℕ → ℕ → Option Flow
shown_in shown conv index = tree.get pair_cmp shown.asked (conv, index)

-- One step more. A flow is live from when a hook of it is asked until it is finished.
abbrev pub live_on : ℕ → ℕ → Bool → Step → Bool
live_on conv index live (steps.Asked number (asks.Hook flow hook)) = if (number == conv) && (flow == index) then true else live
live_on conv index live (steps.Done flow) = if (flow.id.conv == conv) && (flow.id.index == index) then false else live
live_on conv index live _ = live

abbrev pub live_from : ℕ → ℕ → Bool → Trace → Bool
live_from conv index live [] = live
live_from conv index live (step ∷ trace) = live_from conv index (live_on conv index live step) trace

-- whether the flow is live behind the trace
abbrev pub is_live : FlowId → Trace → Bool
is_live id trace = live_from id.conv id.index false trace

-- the hook, where it is one of the flow of this index
abbrev pub hook_in : ℕ → Option Ask → Option Hook
hook_in index (Some (asks.Hook flow hook)) = if flow == index then Some hook else None
hook_in index _ = None

-- the hook of the flow that waits at a step's end
abbrev pub waiting_hook : FlowId → Trace → Option Hook
waiting_hook id trace = hook_in id.index (open_hook id.conv trace)

-- These are the live flows, rising, each with its hook that waits.
pub record AreLive (trace : Trace) (list : List (FlowId × Option Hook)) : Type 0 where
  pub rising : IsStrictlySortedBy flow_cmp (map (λ l. l.0) list)
  pub all : (id : FlowId) → is_live id trace ≡ list_any (λ l. is_same_flow id l.0) list
  pub waits : AllByRecursion (λ l. l.1 ≡ waiting_hook l.0 trace) list

-- The flow, which is live, was so when it was asked about last: as it was due there, with its mark where the course had made it by then.
pub record IsLastAsked {S : Type 0} (answers : Answering S) (due : Due) (course : Course S) (trace : Trace) (id : FlowId) (flow : Flow) : Type 0 where
  pub now : AnswererState S
  pub pending : Pending
  pub answered : Answers answers due course trace now pending
  pub shown : pending.shown id.conv id.index ≡ Some flow
