-- How many things were heard, and which flows are finished, one thing further that is heard or begins.
use Rattle.std.proofs.Common.{◌≡◌, ℕ, ◌+◌, cond, List, [], ◌∷◌, ◌++◌, refl, sym, ap, ◌∙◌, arith}
use Rattle.std.proofs.lemmas.Grind.{flat_map-append}
use Rattle.std.proofs.lemmas.List.{append-nil}
use Rattle.std.proofs.lemmas.List.Sums.{sum_by-append}
use Rattle.px_message.specs.declared.flow.Flow.{Flow}
use Rattle.px_event.specs.declared.heard.Heard.{Heard}
use Rattle.px_event.specs.declared.step.Step.{Step}
use Rattle.px_event.specs.declared.step.Step.TheVariants as steps
use Rattle.px_event.specs.Trace.{Trace}
use Rattle.px_core.specs.Run.{done_of}
use Rattle.px_app.specs.Over.{finished_in}
use Rattle.px_app.specs.Statuses.{is_heard, heard_count}
use Rattle.px_app.proofs.ListedLemmas.{done_heard}
use Rattle.px_app.proofs.TurnLemmas.{NoneHeard}

count_more : (trace more : Trace) → heard_count (trace ++ more) ≡ heard_count trace + heard_count more
count_more trace more = sum_by-append (λ (step : Step). cond (is_heard step) 1 0) trace more

-- where nothing is heard
count_none : (more : Trace) → NoneHeard more → heard_count more ≡ 0
count_none [] none = refl
count_none (steps.Heard moment what ∷ more) none = absurd none
count_none (steps.Begun conv ∷ more) none = absurd none
count_none (steps.Asked number ask ∷ more) none = count_none more none
count_none (steps.Answered number ask reply ∷ more) none = count_none more none
count_none (steps.Said number what ∷ more) none = count_none more none
count_none (steps.Done flow ∷ more) none = count_none more none

-- one thing was heard more
pub count_next : (trace : Trace) (moment : ℕ) (what : Heard) (more : Trace) → NoneHeard more → heard_count ((trace ++ steps.Heard moment what ∷ []) ++ more) ≡ heard_count trace + 1
count_next trace moment what more none =
    let quiet = count_none more none in
    let here = count_more trace (steps.Heard moment what ∷ []) in
    let counts = count_more (trace ++ steps.Heard moment what ∷ []) more in
    let one : heard_count (steps.Heard moment what ∷ []) ≡ 1 = refl in
    omega (arith, counts, here, one, quiet)

-- a conversation began, and nothing was heard
pub count_begun : (trace : Trace) (conv : ℕ) (more : Trace) → NoneHeard more → heard_count ((trace ++ steps.Begun conv ∷ []) ++ more) ≡ heard_count trace
count_begun trace conv more none =
    let quiet = count_none more none in
    let here = count_more trace (steps.Begun conv ∷ []) in
    let counts = count_more (trace ++ steps.Begun conv ∷ []) more in
    let zero : heard_count (steps.Begun conv ∷ []) ≡ 0 = refl in
    omega (arith, counts, here, zero, quiet)

pub done_begun : (trace : Trace) (conv : ℕ) (more : Trace) → finished_in ((trace ++ steps.Begun conv ∷ []) ++ more) ≡ finished_in trace ++ finished_in more
done_begun trace conv more =
    flat_map-append done_of (trace ++ steps.Begun conv ∷ []) more
    ∙ ap (λ (l : List Flow). l ++ finished_in more) (flat_map-append done_of trace (steps.Begun conv ∷ []) ∙ append-nil (finished_in trace))

-- flows are finished in the steps behind what was heard
pub done_next : (trace : Trace) (moment : ℕ) (what : Heard) (more : Trace) → finished_in ((trace ++ steps.Heard moment what ∷ []) ++ more) ≡ finished_in trace ++ finished_in more
done_next trace moment what more =
    flat_map-append done_of (trace ++ steps.Heard moment what ∷ []) more ∙ ap (λ (l : List Flow). l ++ finished_in more) (done_heard trace moment what)

-- so two traces that finish the same finish the same behind it, where the steps do
pub done_both : (told trace : Trace) (moment : ℕ) (what : Heard) (more added : Trace) → finished_in told ≡ finished_in trace → finished_in more ≡ finished_in added →
    finished_in ((told ++ steps.Heard moment what ∷ []) ++ more) ≡ finished_in ((trace ++ steps.Heard moment what ∷ []) ++ added)
done_both told trace moment what more added same steps_same =
    done_next told moment what more ∙ (ap (λ (l : List Flow). l ++ finished_in more) same ∙ (ap (λ (l : List Flow). finished_in trace ++ l) steps_same ∙ sym (done_next trace moment what added)))
