-- What a run promises, by how it ended.
use Rattle.std.proofs.Common.{◌≡◌, ◌≢◌, ℕ, Bool, List, Option, None, subst}
use Rattle.px_event.specs.Trace.{Trace}
use Rattle.px_core.specs.Answers.{Answering, AnswererState, Failing, FilesMeaning}
use Rattle.px_core.specs.Course.{AllAre, Change, KeepsOwn, Operated}
use Rattle.px_core.specs.Due.{Due}
use Rattle.px_core.specs.Kind.{KeepsKind}
use Rattle.px_message.specs.declared.flow.Flow.{Flow}
use Rattle.px_exchange.specs.declared.mode.Mode.{Mode}
use Rattle.px_filter.specs.Expression.{Expression}
use Rattle.px_resend.specs.Due.{most_replayed}
use Rattle.px_app.specs.Dues.{run_due}
use Rattle.px_app.specs.Over.{course_from}
use Rattle.px_app.specs.Promises.{Promises}
use Rattle.px_app.specs.Replayed.{Replays}
use Rattle.px_app.specs.Run.{IsRun}
use Rattle.px_app.specs.Saved.{SavesTo}
use Rattle.px_app.specs.declared.printing.Printing.{Printing}
use Rattle.px_app.specs.declared.status.Status.{Status}
use Rattle.px_app.specs.declared.status.Status.TheVariants.{NoMemory}
use Rattle.px_app.proofs.AtOnceLemmas.{WaitsNot, none_open, none_open_within}
use Rattle.px_app.proofs.ChangeLemmas.{all_own_kept, worked_part_so}
use Rattle.px_app.proofs.RunLemmas.{leaves_part}

module _ {S : Type 0} (answers : Answering S) (drops : List ℕ → S → S → Type 0) (names : S → List (List ℕ)) (fails : Failing S) (is : S → Type 0) (keeps : KeepsKind answers is WaitsNot)
    (stays : (name : List ℕ) (old new : S) → is old → drops name old new → is new) where
  -- with this number, which is 8 where memory ran out; where no flow is to wait the answerer is one that lets none wait
  pub promises_of : (intercept : Option Expression) (mode : Mode) (key : List ℕ) (resent : List Flow) (first : AnswererState S) (to : Option SavesTo) (budget : ℕ) (status : Status) (printing : Printing)
      (files : FilesMeaning) (start now : Option (List ℕ)) (told : Trace) (code : ℕ) → (code ≢ 8 → status ≢ NoMemory) → (intercept ≡ None → is first.own) → Replays (most_replayed resent) code told →
      (run : IsRun answers drops names fails (run_due mode key resent) first to budget status printing files start now told) →
      Promises answers drops names fails intercept mode key resent first run.changes run.operations files code run.over told run.trace
  promises_of intercept mode key resent first to budget status printing files start now told code other begins replays run =
      let due : Due = run_due mode key resent in
      let course = course_from first run.changes run.operations in
      let stay : AllAre (KeepsOwn is) run.changes = all_own_kept drops is stays run.changes (worked_part_so answers drops names due first told run.trace course run.worked) in
      record {
        worked = run.worked;
        worked_whole = λ well. run.worked_whole (other well);
        served = run.served;
        follows = run.follows;
        leaves = leaves_part answers fails due course files run.trace (status ≢ NoMemory) (code ≢ 8) run.leaves other;
        waits = run.waits;
        waits_whole = λ well. run.waits_whole (other well);
        hooks = λ none. none_open_within answers due is keeps course (begins none) stay run.trace run.waits;
        hooks_whole = λ none well. none_open answers due is keeps course (begins none) stay run.trace (run.waits_whole (other well));
        replays = replays;
        whole = λ well. run.whole (other well);
      }

-- so it is in a mode that is the same
pub promises_in : {S : Type 0} {answers : Answering S} {drops : List ℕ → S → S → Type 0} {names : S → List (List ℕ)} {fails : Failing S} {intercept : Option Expression} {mode wanted : Mode} {key : List ℕ}
    {resent : List Flow} {first : AnswererState S} {changes : List (Change S)} {operations : List Operated} {files : FilesMeaning} {code : ℕ} {over : Bool} {told trace : Trace} → mode ≡ wanted →
    Promises answers drops names fails intercept mode key resent first changes operations files code over told trace →
    Promises answers drops names fails intercept wanted key resent first changes operations files code over told trace
promises_in {S} {answers} {drops} {names} {fails} {intercept} {mode} {wanted} {key} {resent} {first} {changes} {operations} {files} {code} {over} {told} {trace} same =
    let P : Mode → Type 0 = λ m. Promises answers drops names fails intercept m key resent first changes operations files code over told trace in subst P same
