-- Which files are touched by answers that read, and by appends.
use Rattle.std.proofs.Common.{◌≡◌, ◌≤◌, ℕ, Bool, true, false, if◌then◌else◌, List, [], ◌∷◌, ◌++◌, map, Option, Some, None, refl, sym, ap, ◌∙◌, subst, le_refl, le_trans}
use Rattle.px_message.specs.declared.flow.Flow.{Flow}
use Rattle.px_event.specs.Trace.{Trace}
use Rattle.px_outside.specs.Files.{Appends, AppendsPart, Contents, SameContents, Stands, Told}
use Rattle.px_outside.specs.declared.files.FileCall.{FileCall}
use Rattle.px_outside.specs.declared.files.FileCall.TheVariants.{Read, Missed, ReadFailed, Appended, AppendFailed}
use Rattle.px_rule.specs.Rule.{Rule}
use Rattle.px_core.specs.Answered.{LeavesFiles}
use Rattle.px_core.specs.Answers.{Answering, AnswererState, Failing, FilesMeaning}
use Rattle.px_core.specs.Course.{AllAre, Change, KeepsOwn, Operated}
use Rattle.px_core.specs.Due.{Due}
use Rattle.px_core.specs.Kind.{KeepsFiles}
use Rattle.px_core.proofs.AnswerLemmas.{kept_leaving}
use Rattle.px_map.specs.Reads.{AllStand, ListsAll, Made, RoseBy, Seen, faults_in, misses_in}
use Rattle.px_map.specs.Within.{IsOfRule, ReadsOnly}
use Rattle.px_map.proofs.ReadsLemmas.{lists_none, lists_one, made_both, rose_none}
use Rattle.px_addons.specs.Mapped.{ReadsOfRules}
use Rattle.px_addons.proofs.FilesLemmas.{reads_none}
use Rattle.px_app.specs.Over.{LeavesBehind, SavedOver, course_from}
use Rattle.px_app.specs.Saved.{Appending, BrokeAppending, SavesTo, broke_at, broke_elsewhere, is_taken, none_made, one_made, pieces_of, texts_of}
use Rattle.px_words.specs.Appends.{Append, IsMade, Piece, lost, piece_at, piece_in, put}
use Rattle.px_app.specs.Touched.{AllStandBut, CallsOnly, IsSavedAt, SameBut, TouchesOnly}
use Rattle.px_app.specs.declared.printing.Printing.{Printing}
use Rattle.px_app.proofs.SavedLemmas.{none_appended, none_broke}
use Rattle.px_app.proofs.GoesLemmas.{gone_behind}
use Rattle.px_app.proofs.SaveLaws.{changes_move}

-- ---- calls, and contents

module _ (Reads Puts : List ℕ → Type 0) where
  calls_both : (xs ys : List FileCall) → CallsOnly Reads Puts xs → CallsOnly Reads Puts ys → CallsOnly Reads Puts (xs ++ ys)
  calls_both [] ys first second = second
  calls_both (Read path bytes ∷ xs) ys first second = (first.0, calls_both xs ys first.1 second)
  calls_both (Missed path ∷ xs) ys first second = (first.0, calls_both xs ys first.1 second)
  calls_both (ReadFailed path ∷ xs) ys first second = (first.0, calls_both xs ys first.1 second)
  calls_both (Appended path bytes ∷ xs) ys first second = (first.0, calls_both xs ys first.1 second)
  calls_both (AppendFailed path ∷ xs) ys first second = (first.0, calls_both xs ys first.1 second)

  calls_read : (calls : List FileCall) → ReadsOnly Reads calls → CallsOnly Reads Puts calls
  calls_read [] all = tt
  calls_read (Read path bytes ∷ calls) all = (all.0, calls_read calls all.1)
  calls_read (Missed path ∷ calls) all = (all.0, calls_read calls all.1)
  calls_read (ReadFailed path ∷ calls) all = (all.0, calls_read calls all.1)
  calls_read (Appended path bytes ∷ calls) all = absurd all
  calls_read (AppendFailed path ∷ calls) all = absurd all

-- Of calls and counts alone px_map says how reads follow each other.
abbrev counted : FilesMeaning → Seen
counted files = record { contents = None; calls = files.calls; misses = files.misses; faults = files.faults; losses = 0 }

untold_stand : (calls : List FileCall) → AllStand calls None
untold_stand [] = tt
untold_stand (Read path bytes ∷ calls) = (tt, untold_stand calls)
untold_stand (Missed path ∷ calls) = (tt, untold_stand calls)
untold_stand (ReadFailed path ∷ calls) = untold_stand calls
untold_stand (Appended path bytes ∷ calls) = untold_stand calls
untold_stand (AppendFailed path ∷ calls) = untold_stand calls

counts : (calls : List FileCall) (files last : FilesMeaning) → ListsAll calls files.calls last.calls → RoseBy (misses_in calls) files.misses last.misses →
    RoseBy (faults_in calls) files.faults last.faults → Made calls (counted files) (counted last)
counts calls files last listed misses faults = record { listed = listed; stood = untold_stand calls; contents = refl; misses = misses; faults = faults; losses = refl }

-- a count that stayed has not fallen
stayed : (before now : ℕ) → now ≡ before → RoseBy 0 before now
stayed before now same = rose_none before now (subst (λ n. before ≤ n) (sym same) (le_refl before))

-- what follows of contents before and after
told_by : (Fact Other : Contents → Contents → Type 0) → ((old new : Contents) → Fact old new → Other old new) → (a b : Option Contents) → Told Fact a b → Told Other a b
told_by Fact Other gives None b told = told
told_by Fact Other gives (Some old) b (after, is, fact) = (after, is, gives old after fact)

module _ (Puts : List ℕ → Type 0) where
  but_none : (a : Option Contents) → Told (SameBut Puts) a a
  but_none None = refl
  but_none (Some contents) = (contents, refl, λ path apart. refl)

  but_both : (a b c : Option Contents) → Told (SameBut Puts) a b → Told (SameBut Puts) b c → Told (SameBut Puts) a c
  but_both None b c first second = subst (λ o. Told (SameBut Puts) o c) first second
  but_both (Some contents) b c (after, is, same) second = on (subst (λ o. Told (SameBut Puts) o c) is second)
    where
      on : Told (SameBut Puts) (Some after) c → Told (SameBut Puts) (Some contents) c
      on (last, is_last, more) = (last, is_last, λ path apart. more path apart ∙ same path apart)

  but_same : (a b : Option Contents) → Told SameContents a b → Told (SameBut Puts) a b
  but_same a b same = told_by SameContents (SameBut Puts) (λ old new all path apart. all path) a b same

  -- what another path had afterwards it had before
  stood_before : (path : List ℕ) (what : Option (List ℕ)) (a b : Option Contents) → Told (SameBut Puts) a b → (¬ Puts path → Stands path what b) → ¬ Puts path → Stands path what a
  stood_before path what None b told stands apart = tt
  stood_before path what (Some contents) b (after, is, same) stands apart =
      let there : after path ≡ what = subst (Stands path what) is (stands apart) in sym (same path apart) ∙ there

  all_before : (calls : List FileCall) (a b : Option Contents) → Told (SameBut Puts) a b → AllStandBut Puts calls b → AllStandBut Puts calls a
  all_before [] a b told all = tt
  all_before (Read path bytes ∷ calls) a b told all = (stood_before path (Some bytes) a b told all.0, all_before calls a b told all.1)
  all_before (Missed path ∷ calls) a b told all = (stood_before path None a b told all.0, all_before calls a b told all.1)
  all_before (ReadFailed path ∷ calls) a b told all = all_before calls a b told all
  all_before (Appended path bytes ∷ calls) a b told all = all_before calls a b told all
  all_before (AppendFailed path ∷ calls) a b told all = all_before calls a b told all

  stand_both : (xs ys : List FileCall) (contents : Option Contents) → AllStandBut Puts xs contents → AllStandBut Puts ys contents → AllStandBut Puts (xs ++ ys) contents
  stand_both [] ys contents first second = second
  stand_both (Read path bytes ∷ xs) ys contents first second = (first.0, stand_both xs ys contents first.1 second)
  stand_both (Missed path ∷ xs) ys contents first second = (first.0, stand_both xs ys contents first.1 second)
  stand_both (ReadFailed path ∷ xs) ys contents first second = stand_both xs ys contents first second
  stand_both (Appended path bytes ∷ xs) ys contents first second = stand_both xs ys contents first second
  stand_both (AppendFailed path ∷ xs) ys contents first second = stand_both xs ys contents first second

  all_stand : (calls : List FileCall) (contents : Option Contents) → AllStand calls contents → AllStandBut Puts calls contents
  all_stand [] contents all = tt
  all_stand (Read path bytes ∷ calls) contents all = (λ apart. all.0, all_stand calls contents all.1)
  all_stand (Missed path ∷ calls) contents all = (λ apart. all.0, all_stand calls contents all.1)
  all_stand (ReadFailed path ∷ calls) contents all = all_stand calls contents all
  all_stand (Appended path bytes ∷ calls) contents all = all_stand calls contents all
  all_stand (AppendFailed path ∷ calls) contents all = all_stand calls contents all

-- ---- where pieces are put

no_text : {P : Type 0} (piece : Piece) → [] ≡ piece ∷ [] → P
no_text piece is = absurd (cc)

first_text : (path text : List ℕ) (texts : List (List ℕ)) (piece : Piece) → map (piece_at path) (text ∷ texts) ≡ piece ∷ [] → piece_at path text ≡ piece
first_text path text texts piece is = cc

put_at : (taken : Bool) (path : List ℕ) (texts : List (List ℕ)) (piece : Piece) → (if taken then map (piece_at path) texts else []) ≡ piece ∷ [] → piece.path ≡ path
put_at false path texts piece is = no_text piece is
put_at true path [] piece is = no_text piece is
put_at true path (text ∷ texts) piece is = sym (ap (λ p. p.path) (first_text path text texts piece is))

pub saved_at : (to : Option SavesTo) (flow : Flow) (piece : Piece) → pieces_of to flow ≡ piece ∷ [] → IsSavedAt to piece.path
saved_at None flow piece is = no_text piece is
saved_at (Some to) flow piece is = put_at (is_taken to.filter flow) to.path (texts_of flow) piece is

apart_from : (to : Option SavesTo) (here path : List ℕ) → IsSavedAt to here → ¬ IsSavedAt to path → ¬ (path ≡ here)
apart_from None here path saved apart = absurd saved
apart_from (Some to) here path saved apart = λ same. apart (same ∙ saved)

module _ (rules : List Rule) (to : Option SavesTo) where
  -- ---- the relation

  pub touches_none : (files : FilesMeaning) → TouchesOnly rules to files files
  touches_none files = record {
    made = [];
    listed = lists_none files.calls files.calls refl;
    named = tt;
    stood = tt;
    contents = but_none (IsSavedAt to) files.contents;
    misses = stayed files.misses files.misses refl;
    faults = stayed files.faults files.faults refl;
    losses = le_refl files.losses;
  }

  pub touches_both : (a b c : FilesMeaning) → TouchesOnly rules to a b → TouchesOnly rules to b c → TouchesOnly rules to a c
  touches_both a b c first second =
      let all = made_both first.made second.made (counted a) (counted b) (counted c) (counts first.made a b first.listed first.misses first.faults)
      (counts second.made b c second.listed second.misses second.faults) in
      record {
        made = first.made ++ second.made;
        listed = all.listed;
        named = calls_both (IsOfRule rules) (IsSavedAt to) first.made second.made first.named second.named;
        stood = stand_both (IsSavedAt to) first.made second.made a.contents first.stood (all_before (IsSavedAt to) second.made a.contents b.contents first.contents second.stood);
        contents = but_both (IsSavedAt to) a.contents b.contents c.contents first.contents second.contents;
        misses = all.misses;
        faults = all.faults;
        losses = le_trans first.losses second.losses;
      }

  pub touches_reads : (files last : FilesMeaning) → ReadsOfRules rules files last → TouchesOnly rules to files last
  touches_reads files last reads = record {
    made = reads.made;
    listed = reads.reads.listed;
    named = calls_read (IsOfRule rules) (IsSavedAt to) reads.made reads.named;
    stood = all_stand (IsSavedAt to) reads.made files.contents reads.reads.stood;
    contents = but_same (IsSavedAt to) files.contents last.contents reads.reads.contents;
    misses = reads.reads.misses;
    faults = reads.reads.faults;
    losses = subst (λ n. files.losses ≤ n) (sym reads.reads.losses) (le_refl files.losses);
  }

  -- ---- appends

  one_touches : (one : Append) (before after : FilesMeaning) → IsSavedAt to (piece_in one).path → IsMade one before after → TouchesOnly rules to before after
  one_touches (put piece) before after at made = record {
    made = Appended piece.path piece.text ∷ [];
    listed = lists_one (Appended piece.path piece.text) before.calls after.calls made.listed;
    named = (at, tt);
    stood = tt;
    contents = told_by (Appends piece.path piece.text) (SameBut (IsSavedAt to)) (λ old new appends path apart. appends.others path (apart_from to piece.path path at apart))
        before.contents after.contents made.contents;
    misses = stayed before.misses after.misses made.misses;
    faults = stayed before.faults after.faults made.faults;
    losses = made.losses;
  }
  one_touches (lost piece) before after at made = record {
    made = AppendFailed piece.path ∷ [];
    listed = lists_one (AppendFailed piece.path) before.calls after.calls made.listed;
    named = (at, tt);
    stood = tt;
    contents = told_by (AppendsPart piece.path piece.text) (SameBut (IsSavedAt to)) (λ old new appends path apart. appends.others path (apart_from to piece.path path at apart))
        before.contents after.contents made.contents;
    misses = stayed before.misses after.misses made.misses;
    faults = stayed before.faults after.faults made.faults;
    losses = made.later;
  }

  pub touches_appends : (first : FilesMeaning) (made : List Append) (now : FilesMeaning) → Appending to first made now → TouchesOnly rules to first now
  touches_appends first made now none_made = touches_none first
  touches_appends first made now (one_made so_far next one flow before after behind piece is grown) =
      touches_both first before now (touches_appends first so_far before behind) (one_touches one before now (saved_at to flow (piece_in one) piece) is)

  pub touches_broke : (first : FilesMeaning) (made : List Append) (now : FilesMeaning) → BrokeAppending to first made now → TouchesOnly rules to first now
  touches_broke first made now (broke_elsewhere so_far) = touches_appends first made now so_far
  touches_broke first made now (broke_at last piece flow so_far is kept) =
      touches_both first last now (touches_appends first made last so_far) (record {
        made = [];
        listed = lists_none last.calls now.calls kept.calls;
        named = tt;
        stood = tt;
        contents = but_same (IsSavedAt to) last.contents now.contents kept.contents;
        misses = stayed last.misses now.misses kept.misses;
        faults = stayed last.faults now.faults kept.faults;
        losses = kept.losses;
      })

-- ---- over a trace

module _ {S : Type 0} (answers : Answering S) (fails : Failing S) (is : S → Type 0) (goes : FilesMeaning → FilesMeaning → Type 0) (keeps : KeepsFiles answers fails is goes)
    (to : Option SavesTo) (by_appends : (first : FilesMeaning) (made : List Append) (now : FilesMeaning) → Appending to first made now → goes first now)
    (by_broken : (first : FilesMeaning) (made : List Append) (now : FilesMeaning) → BrokeAppending to first made now → goes first now) where
  -- where each change keeps the own state so, files change as the relation says
  pub gone_leaving : (due : Due) (first : AnswererState S) (changes : List (Change S)) (operations : List Operated) (reached : Printing) (placed : List Trace) (made : List Append) (Whole : Type 0)
      (files : FilesMeaning) (trace : Trace) → is first.own → AllAre (KeepsOwn is) changes → SavedOver to reached changes placed made →
      LeavesFiles answers fails due (course_from first changes operations) Whole files trace → goes first.files files
  gone_leaving due first changes operations reached placed made Whole files trace so own saved leaves =
      kept_leaving answers fails is goes keeps due (course_from first changes operations) Whole files trace so own
      (changes_move to goes keeps.same by_appends by_broken reached changes placed made saved) leaves

module _ {S : Type 0} (answers : Answering S) (fails : Failing S) (is : S → Type 0) (rules : List Rule) (keeps : KeepsFiles answers fails is (ReadsOfRules rules)) where
  -- what reads only touches only what it reads
  keeps_touches : (to : Option SavesTo) → KeepsFiles answers fails is (TouchesOnly rules to)
  keeps_touches to = record {
    same = λ files. touches_none rules to files;
    on = λ first between last one other. touches_both rules to first between last one other;
    stays = λ hook flow old old_files new new_files given so answered. keeps.stays hook flow old old_files new new_files given so answered;
    given_so = λ hook flow old old_files new new_files given so answered.
        touches_reads rules to old_files new_files (keeps.given_so hook flow old old_files new new_files given so answered);
    failed_so = λ hook flow old old_files new_files so failed. touches_reads rules to old_files new_files (keeps.failed_so hook flow old old_files new_files so failed);
  }

  pub touches_behind : (drops : List ℕ → S → S → Type 0) → ((name : List ℕ) (old new : S) → is old → drops name old new → is new) → (to : Option SavesTo) (first : AnswererState S)
      (files : FilesMeaning) → is first.own → LeavesBehind answers drops fails to first files → TouchesOnly rules to first.files files
  touches_behind drops stays to first files so left =
      gone_behind answers drops fails is (TouchesOnly rules to) (keeps_touches to) stays to (touches_appends rules to) (touches_broke rules to) first files so left

  pub touches_leaving : (to : Option SavesTo) (due : Due) (first : AnswererState S) (changes : List (Change S)) (operations : List Operated) (reached : Printing)
      (placed : List Trace) (made : List Append) (Whole : Type 0) (files : FilesMeaning) (trace : Trace) → is first.own → AllAre (KeepsOwn is) changes →
      SavedOver to reached changes placed made → LeavesFiles answers fails due (course_from first changes operations) Whole files trace → TouchesOnly rules to first.files files
  touches_leaving to due first changes operations reached placed made Whole files trace so own saved leaves =
      gone_leaving answers fails is (TouchesOnly rules to) (keeps_touches to) to (touches_appends rules to) (touches_broke rules to) due first changes operations reached placed made
      Whole files trace so own saved leaves

  -- without a save file it only reads
  pub reads_leaving : (due : Due) (first : AnswererState S) (changes : List (Change S)) (operations : List Operated) (reached : Printing) (placed : List Trace) (made : List Append)
      (Whole : Type 0) (files : FilesMeaning) (trace : Trace) → is first.own → AllAre (KeepsOwn is) changes → SavedOver None reached changes placed made →
      LeavesFiles answers fails due (course_from first changes operations) Whole files trace → ReadsOfRules rules first.files files
  reads_leaving due first changes operations reached placed made Whole files trace so own saved leaves =
      gone_leaving answers fails is (ReadsOfRules rules) keeps None
      (λ first made now appends. reads_none rules first now (none_appended first made now appends).1)
      (λ first made now broke. reads_none rules first now (none_broke first made now broke).1)
      due first changes operations reached placed made Whole files trace so own saved leaves
