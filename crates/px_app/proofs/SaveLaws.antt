-- What follows of runs that save: what their changes do to files, and that without a save file nothing but answers does anything to them.
use Rattle.std.proofs.Common.{◌≡◌, ℕ, List, Option, None, sym, subst}
use Rattle.px_event.specs.Trace.{Trace}
use Rattle.px_core.specs.Answers.{Answering, AnswererState, Failing, FilesMeaning}
use Rattle.px_core.specs.Course.{AllAre, Change, MovesFiles}
use Rattle.px_core.specs.Kind.{KeepsFiles}
use Rattle.px_app.specs.Over.{LeavesBehind, SavedOver, all_saved, drops_one, is_broken, is_cut, nothing_yet, stays_cut}
use Rattle.px_app.specs.Saved.{Appending, BrokeAppending, SavesTo}
use Rattle.px_words.specs.Appends.{Append}
use Rattle.px_app.specs.declared.printing.Printing.{Printing}
use Rattle.px_app.specs.declared.printing.Printing.TheVariants.{Whole, Failed}
use Rattle.px_app.proofs.ChangeLemmas.{next_are}
use Rattle.px_app.proofs.GoesLemmas.{gone_behind}
use Rattle.px_app.proofs.SavedLemmas.{none_appended, none_broke}

-- each change goes along with a relation of files that appends go along with
module _ {S : Type 0} (to : Option SavesTo) (goes : FilesMeaning → FilesMeaning → Type 0) (same : (files : FilesMeaning) → goes files files)
    (by_appends : (first : FilesMeaning) (made : List Append) (now : FilesMeaning) → Appending to first made now → goes first now)
    (by_broken : (first : FilesMeaning) (made : List Append) (now : FilesMeaning) → BrokeAppending to first made now → goes first now) where
  still_moves : (one : Change S) → one.new.files ≡ one.old.files → MovesFiles goes one
  still_moves one still = subst (goes one.old.files) (sym still) (same one.old.files)

  all_still : (one : Change S) → one.new ≡ one.old → MovesFiles goes one
  all_still one still = let P : AnswererState S → Type 0 = λ s. goes one.old.files s.files in subst P (sym still) (same one.old.files)

  pub changes_move : (reached : Printing) (changes : List (Change S)) (placed : List Trace) (made : List Append) → SavedOver to reached changes placed made → AllAre (MovesFiles goes) changes
  changes_move reached changes placed made nothing_yet = tt
  changes_move reached next next_placed all (all_saved changes more_changes placed more_placed one made more whole before own appends joined puts grown put_at) =
      next_are (MovesFiles goes) changes next one grown (changes_move Whole changes placed made before) (by_appends one.old.files more one.new.files appends)
  changes_move reached next next_placed all (is_cut changes more_changes placed more_placed one made more whole before own appends joined puts grown put_at) =
      next_are (MovesFiles goes) changes next one grown (changes_move Whole changes placed made before) (by_appends one.old.files more one.new.files appends)
  changes_move reached next next_placed all (is_broken changes more_changes placed more_placed one made more whole before own appends joined puts grown put_at) =
      next_are (MovesFiles goes) changes next one grown (changes_move Whole changes placed made before) (by_broken one.old.files more one.new.files appends)
  changes_move reached next next_placed all (stays_cut changes more_changes placed more_placed one made before still grown put_at) =
      next_are (MovesFiles goes) changes next one grown (changes_move Failed changes placed all before) (all_still one still)
  changes_move reached next next_placed all (drops_one was changes more_changes placed one made before still grown) =
      next_are (MovesFiles goes) changes next one grown (changes_move reached changes next_placed all before) (still_moves one still)

-- without a save file, what no answer and no failure changes is as it was
pub none_left : {S : Type 0} (answers : Answering S) (drops : List ℕ → S → S → Type 0) (fails : Failing S) (is : S → Type 0) → KeepsFiles answers fails is (λ old new. new ≡ old) →
    ((name : List ℕ) (old new : S) → is old → drops name old new → is new) → (first : AnswererState S) (files : FilesMeaning) → is first.own →
    LeavesBehind answers drops fails None first files → files ≡ first.files
none_left answers drops fails is keeps stays first files so left =
    gone_behind answers drops fails is (λ old new. new ≡ old) keeps stays None (λ first made now appends. (none_appended first made now appends).1)
    (λ first made now broke. (none_broke first made now broke).1) first files so left
