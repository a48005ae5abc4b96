-- The lines of the flows that a trace finishes, one thing heard further.
use Rattle.std.proofs.Common.{◌≡◌, ℕ, List, [], ◌∷◌, ◌++◌, Option, Some, None, ap, ◌∙◌}
use Rattle.std.specs.List.{flat_map}
use Rattle.std.proofs.lemmas.List.{append-nil}
use Rattle.std.proofs.lemmas.Grind.{flat_map-append}
use Rattle.px_message.specs.declared.flow.Flow.{Flow}
use Rattle.px_event.specs.declared.heard.Heard.{Heard}
use Rattle.px_event.specs.declared.step.Step.TheVariants as steps
use Rattle.px_event.specs.Trace.{Trace}
use Rattle.px_core.specs.Run.{done_of}
use Rattle.px_view.specs.Line.{flow_line}
use Rattle.px_app.specs.Listed.{listed}

-- the flows that the trace finishes, where it is told
abbrev pub done_so_far : Option Trace → List Flow
done_so_far None = []
done_so_far (Some trace) = flat_map done_of trace

pub done_heard : (trace : Trace) (moment : ℕ) (what : Heard) → flat_map done_of (trace ++ steps.Heard moment what ∷ []) ≡ flat_map done_of trace
done_heard trace moment what = flat_map-append done_of trace (steps.Heard moment what ∷ []) ∙ append-nil (flat_map done_of trace)

-- what is heard finishes none
pub before_is : (told : Option Trace) (trace : Trace) (moment : ℕ) (what : Heard) → told ≡ Some (trace ++ steps.Heard moment what ∷ []) → done_so_far told ≡ flat_map done_of trace
before_is told trace moment what is = ap done_so_far is ∙ done_heard trace moment what

pub listed_more : (trace more : Trace) → listed (trace ++ more) ≡ listed trace ++ listed more
listed_more trace more = ap (flat_map flow_line) (flat_map-append done_of trace more) ∙ flat_map-append flow_line (flat_map done_of trace) (flat_map done_of more)
