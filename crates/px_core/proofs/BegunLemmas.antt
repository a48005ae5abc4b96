-- A conversation without a client begins: nothing of another changes, and no view has more.
use Rattle.std.proofs.Common.{◌≡◌, ◌≢◌, ℕ, ◌==◌, false, [], ◌∷◌, ◌++◌, None, refl, ap, sym, ◌∙◌}
use Rattle.std.proofs.lemmas.List.{append-nil}
use Rattle.px_event.specs.declared.heard.Heard.{Heard}
use Rattle.px_event.specs.declared.ask.Ask.{Ask}
use Rattle.px_event.specs.declared.reply.Reply.{Reply}
use Rattle.px_event.specs.declared.step.Step.TheVariants as steps
use Rattle.px_event.specs.Trace.{Trace}
use Rattle.px_event.specs.View.{View, line, questions, course, flows, order, seen_in, step_atoms}
use Rattle.px_core.specs.Answered.{Pending, at_other}
use Rattle.px_core.specs.Answers.{Answering, AnswererState}
use Rattle.px_core.specs.Calls.{begins, calls}
use Rattle.px_core.specs.Course.{Course}
use Rattle.px_core.specs.Due.{Due}
use Rattle.px_core.specs.Held.{Follows, Kept, waiting}
use Rattle.px_core.specs.Hooks.{open_hook}
use Rattle.std.proofs.lemmas.Bool.{ne_eqb}
use Rattle.px_core.proofs.CallLemmas.{calls_more, same_number, seen_more}
use Rattle.px_core.proofs.HookLemmas.{hook_more}

begun_seen : (view : View) (conv number : ℕ) → step_atoms view conv (steps.Begun number) ≡ []
begun_seen (line side) conv number = refl
begun_seen questions conv number = refl
begun_seen course conv number = refl
begun_seen flows conv number = refl
begun_seen order conv number = refl

pub seen_begun : (view : View) (conv number : ℕ) (trace : Trace) → seen_in view conv (trace ++ steps.Begun number ∷ []) ≡ seen_in view conv trace
seen_begun view conv number trace =
    seen_more view conv trace (steps.Begun number) ∙ (ap (λ l. seen_in view conv trace ++ l) (begun_seen view conv number) ∙ append-nil (seen_in view conv trace))

-- the one that begins
pub calls_begun : (conv : ℕ) (trace : Trace) → calls conv (trace ++ steps.Begun conv ∷ []) ≡ begins (calls conv trace).moment None (calls conv trace)
calls_begun conv trace = calls_more conv trace (steps.Begun conv) ∙ (rw (same_number conv) refl)

-- another
pub calls_begun_other : (conv number : ℕ) (trace : Trace) → number ≢ conv → calls conv (trace ++ steps.Begun number ∷ []) ≡ calls conv trace
calls_begun_other conv number trace apart =
    let no : (number == conv) ≡ false = ne_eqb number conv apart in calls_more conv trace (steps.Begun number) ∙ (rw no refl)

pub hook_begun : (conv number : ℕ) (trace : Trace) → open_hook conv (trace ++ steps.Begun number ∷ []) ≡ open_hook conv trace
hook_begun conv number trace = hook_more conv trace (steps.Begun number)

pub no_answer_begun : (number conv : ℕ) (ask : Ask) (reply : Reply) → steps.Answered conv ask reply ≡ steps.Begun number → ⊥
no_answer_begun number conv ask reply e = cc

pub no_heard_begun : (number moment : ℕ) (heard : Heard) → steps.Begun number ≡ steps.Heard moment heard → ⊥
no_heard_begun number moment heard e = cc

-- the answerer came as far behind it
pub follows_begun : {S : Type 0} (answers : Answering S) (due : Due) (made : Course S) (pending : Pending) (conv number : ℕ) (kept : Kept) (now : AnswererState S) (trace : Trace) →
    Follows answers due made pending conv kept now trace → Follows answers due made pending conv kept now (trace ++ steps.Begun number ∷ [])
follows_begun answers due made pending conv number kept now trace f = record {
  pending = f.pending;
  answered = at_other made trace (trace ++ steps.Begun number ∷ []) now f.pending (steps.Begun number) f.answered refl tt tt;
  here = f.here ∙ ap (λ h. waiting h kept.draft) (sym (hook_begun conv number trace));
  others = f.others;
  marks = f.marks;
  shown = f.shown;
  shown_others = f.shown_others;
}
