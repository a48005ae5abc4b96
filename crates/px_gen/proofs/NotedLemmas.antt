-- The steps that are noted up to a place.
use Rattle.std.proofs.Common.{◌≡◌, ◌++◌, ℕ, List, take, drop, Option, Result, Ok, Err, sym, ap, ◌∙◌}
use Rattle.std.specs.Prelude.{OnErr}
use Rattle.std.proofs.lemmas.List.{take-append-drop}
use Rattle.std.proofs.lemmas.List.Elements.{filter-append}
use Rattle.px_event.specs.declared.step.Step.{Step}
use Rattle.px_event.specs.Trace.{Trace}
use Rattle.px_gen.specs.Noted.{HasGrownByFront, is_noted, noted, with_steps}

pub noted_so_far : (steps : List Step) (i : ℕ) (start before after : Option Trace) →
    before ≡ with_steps start (noted (take i steps)) → after ≡ before → HasGrownByFront (noted steps) start after
noted_so_far steps i start before after told stays =
    let front = noted (take i steps) in
    let rest = noted (drop i steps) in
    let parts : noted steps ≡ front ++ rest = ap noted (sym (take-append-drop i steps)) ∙ filter-append is_noted (take i steps) (drop i steps) in
    (front, (rest, parts), stays ∙ told)

pub on_err : {T E P : Type 0} (result : Result T E) → P → OnErr result P
on_err (Ok t) p = tt
on_err (Err e) p = p
