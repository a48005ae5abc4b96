-- A network that tells its trace.
use Rattle.std.proofs.Common.{◌≡◌, [], ◌∷◌, ◌++◌, Option, Some, None, Result, Ok, Err, OnErr, ap, ◌∙◌}
use Rattle.px_event.specs.declared.step.Step.{Step}
use Rattle.px_event.specs.Trace.{Trace}
use Rattle.px_outside.specs.Net.{Adds}

-- a trace that is told is told with one step more
pub adds_told : (old new : Option Trace) (step : Step) (trace : Trace) → old ≡ Some trace → Adds old new step → new ≡ Some (trace ++ step ∷ [])
adds_told None new step trace is adds = absurd (cc)
adds_told (Some told) new step trace is adds =
    let same : told ≡ trace = cc in
    adds ∙ ap (λ (t : Trace). Some (t ++ step ∷ [])) same

pub on_err : {T E : Type 0} (result : Result T E) (P : Type 0) → P → OnErr result P
on_err (Ok _) P h = tt
on_err (Err _) P h = h
