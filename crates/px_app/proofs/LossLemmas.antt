-- Counts of faults and of appends that failed, from step to step.
use Rattle.std.proofs.Common.{◌≤◌, ◌⊎◌, inl, inr, ℕ, List, Option, arith, le_refl, le_trans}
use Rattle.px_outside.specs.Count.{Rose}
use Rattle.px_core.specs.Answers.{Answering, AnswererState, Failing, FilesMeaning}
use Rattle.px_core.specs.Kind.{KeepsFiles}
use Rattle.px_app.specs.Over.{KeepsLosses, LeavesBehind}
use Rattle.px_app.specs.Saved.{SavesTo}
use Rattle.px_app.proofs.GoesLemmas.{gone_behind}
use Rattle.px_app.proofs.SavedLemmas.{appends_keep, broke_keeps}

-- answers, appends and addons that are taken away never lessen the count
pub losses_behind : {S : Type 0} (answers : Answering S) (drops : List ℕ → S → S → Type 0) (fails : Failing S) (to : Option SavesTo) → KeepsLosses answers fails →
    (first : AnswererState S) (files : FilesMeaning) → LeavesBehind answers drops fails to first files → first.files.losses ≤ files.losses
losses_behind {S} answers drops fails to keeps first files left =
    let is : S → Type 0 = λ state. Unit {0} in
    let goes : FilesMeaning → FilesMeaning → Type 0 = λ old new. old.losses ≤ new.losses in
    let kept : KeepsFiles answers fails is goes = record {
      same = λ at. le_refl at.losses;
      on = λ a b c ab bc. le_trans ab bc;
      stays = λ hook flow old old_files new new_files given so answered. tt;
      given_so = λ hook flow old old_files new new_files given so answered. keeps.given_so hook flow old old_files new new_files given answered;
      failed_so = λ hook flow old old_files new_files so failed. keeps.failed_so hook flow old old_files new_files failed;
    } in
    gone_behind answers drops fails is goes kept (λ name old new so dropped. tt) to (λ start made now appends. (appends_keep to start made now appends).losses)
    (λ start made now broke. (broke_keeps to start made now broke).losses) first files tt left

rose_later : (first old new : ℕ) → old ≤ new → Rose first old → Rose first new
rose_later first old new later rose = omega (arith, later, rose)

-- what rose is risen later too
pub either_later : (first old new lost old_lost new_lost : ℕ) → old ≤ new → old_lost ≤ new_lost → Rose first old ⊎ Rose lost old_lost → Rose first new ⊎ Rose lost new_lost
either_later first old new lost old_lost new_lost later later_lost (inl rose) = inl (rose_later first old new later rose)
either_later first old new lost old_lost new_lost later later_lost (inr rose) = inr (rose_later lost old_lost new_lost later_lost rose)
