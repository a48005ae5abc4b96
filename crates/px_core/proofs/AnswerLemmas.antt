-- Answers one behind the other, and what becomes of files.
use Rattle.std.proofs.Common.{◌≡◌, List, refl, ap, sym, ◌∙◌, subst}
use Rattle.px_message.specs.declared.flow.Flow.{Flow}
use Rattle.px_event.specs.declared.ask.Hook.{Hook}
use Rattle.px_event.specs.Trace.{Trace}
use Rattle.px_core.specs.declared.answerer.Answer.{Answer}
use Rattle.px_core.specs.Answered.{Answers, LeavesFiles, Pending, at_change, at_edit, at_first, at_hook, at_mark, at_other, at_release, at_reply}
use Rattle.px_core.specs.Answers.{Answering, AnswererState, ByAnswers, Failing, FilesAfter, FilesMeaning, after_answers, after_failure, by_answer, by_none}
use Rattle.px_core.specs.Course.{AllAre, Change, Course, KeepsOwn, MovesFiles, change}
use Rattle.px_core.specs.Due.{Due}
use Rattle.px_core.specs.Kind.{KeepsFiles}
use Rattle.px_core.proofs.CourseLemmas.{begins_so, last_is, made_are}

module _ {S : Type 0} {answers : Answering S} where
  -- one behind the other
  pub by_both : (first between last : AnswererState S) → ByAnswers answers first between → ByAnswers answers between last → ByAnswers answers first last
  by_both first between last before (by_none at) = before
  by_both first between last before (by_answer start old new hook flow given more is) =
      by_answer first old last hook flow given (by_both first between old before more) is

  pub by_one : (old new : AnswererState S) (hook : Hook) (flow : Flow) (given : Answer) → answers hook flow old.own old.files new.own new.files given →
      ByAnswers answers old new
  by_one old new hook flow given is = by_answer old old new hook flow given (by_none old) is

module _ {S : Type 0} {answers : Answering S} {fails : Failing S} where
  pub after_none : (first : AnswererState S) → FilesAfter answers fails first first.files
  after_none first = after_answers first (by_none first) refl

  pub after_given : (first last : AnswererState S) → ByAnswers answers first last → FilesAfter answers fails first last.files
  after_given first last by = after_answers last by refl

  pub after_failed : (first : AnswererState S) (hook : Hook) (flow : Flow) (files : FilesMeaning) → fails hook flow first.own first.files files →
      FilesAfter answers fails first files
  after_failed first hook flow files is = after_failure first hook flow (by_none first) is

  -- behind answers that were given
  pub after_both : (first between : AnswererState S) (files : FilesMeaning) → ByAnswers answers first between → FilesAfter answers fails between files →
      FilesAfter answers fails first files
  after_both first between files before (after_answers last by same) = after_answers last (by_both first between last before by) same
  after_both first between files before (after_failure last hook flow by is) = after_failure last hook flow (by_both first between last before by) is

module _ {S : Type 0} (answers : Answering S) (fails : Failing S) (is : S → Type 0) (goes : FilesMeaning → FilesMeaning → Type 0) (keeps : KeepsFiles answers fails is goes) where
  -- from a state that is so answers lead to one that is so, and change files as the relation says
  pub record KeptBy (first last : AnswererState S) : Type 0 where
    pub so : is last.own
    pub goes_so : goes first.files last.files

  kept_none : (first : AnswererState S) → is first.own → KeptBy first first
  kept_none first so = record { so = so; goes_so = keeps.same first.files }

  kept_one : (first old new : AnswererState S) (hook : Hook) (flow : Flow) (given : Answer) → answers hook flow old.own old.files new.own new.files given →
      KeptBy first old → KeptBy first new
  kept_one first old new hook flow given answered k = record {
    so = keeps.stays hook flow old.own old.files new.own new.files given k.so answered;
    goes_so = keeps.on first.files old.files new.files k.goes_so (keeps.given_so hook flow old.own old.files new.own new.files given k.so answered);
  }

  pub kept_by_answers : (first last : AnswererState S) → is first.own → ByAnswers answers first last → KeptBy first last
  kept_by_answers first last so (by_none at) = kept_none first so
  kept_by_answers first last so (by_answer start old new hook flow given more answered) =
      kept_one first old last hook flow given answered (kept_by_answers first old so more)

  -- an operation changes neither the answerer nor files
  kept_operated : (due : Due) (course made : Course S) → is course.first.own → AllAre (KeepsOwn is) course.changes → AllAre (MovesFiles goes) course.changes → (trace : Trace)
      (last : AnswererState S) (pending : Pending) → course.first ≡ made.first → course.changes ≡ made.changes →
      (is made.first.own → AllAre (KeepsOwn is) made.changes → AllAre (MovesFiles goes) made.changes → KeptBy made.first last) → KeptBy course.first last
  kept_operated due course made so own moved trace last pending same all before =
      let P : AnswererState S → Type 0 = λ state. is state.own in
      let Q : List (Change S) → Type 0 = AllAre (KeepsOwn is) in
      let R : List (Change S) → Type 0 = AllAre (MovesFiles goes) in
      let M : AnswererState S → Type 0 = λ first. KeptBy first last in
      subst M (sym same) (before (subst P same so) (subst Q all own) (subst R all moved))

  -- so they do over a trace, where each other change does so too
  pub kept_over : (due : Due) (course : Course S) → is course.first.own → AllAre (KeepsOwn is) course.changes → AllAre (MovesFiles goes) course.changes →
      (trace : Trace) (last : AnswererState S) (pending : Pending) → Answers answers due course trace last pending → KeptBy course.first last
  kept_over due course so own moved trace last pending (at_first c none no_operations) = kept_none last so
  kept_over due course so own moved whole last pending (at_hook c trace next old new was conv hook flow given before split free about marked answered) =
      kept_one course.first old last hook flow given answered (kept_over due course so own moved trace old was before)
  kept_over due course so own moved whole last pending (at_reply c trace next now was conv ask reply before split is_given) =
      kept_over due course so own moved trace last was before
  kept_over due course so own moved whole last pending (at_other c trace next now was step before split quiet marked) =
      kept_over due course so own moved trace last was before
  kept_over due course so own moved whole last pending (at_change made next trace old new was before split) =
      let one : Change S = change whole old last in
      let P : AnswererState S → Type 0 = λ state. is state.own in
      let Q : List (Change S) → Type 0 = AllAre (KeepsOwn is) in
      let R : List (Change S) → Type 0 = AllAre (MovesFiles goes) in
      let M : AnswererState S → Type 0 = λ first. KeptBy first last in
      let same = ap (λ c. c.first) split in
      let all = ap (λ c. c.changes) split in
      let owns = last_is (KeepsOwn is) made.changes one (subst Q all own) in
      let moves = last_is (MovesFiles goes) made.changes one (subst R all moved) in
      let k = kept_over due made (subst P same so) owns.0 moves.0 whole old pending before in
      subst M (sym same) (record { so = owns.1 k.so; goes_so = keeps.on made.first.files old.files last.files k.goes_so moves.1 })
  kept_over due course so own moved whole last pending (at_mark made next trace now was id before split) =
      kept_operated due course made so own moved whole last pending (ap (λ c. c.first) split) (ap (λ c. c.changes) split)
      (λ begins owns moves. kept_over due made begins owns moves whole last pending before)
  kept_over due course so own moved whole last pending (at_edit made next trace now was id edit hook draft edits edited before split waits changes) =
      kept_operated due course made so own moved whole last was (ap (λ c. c.first) split) (ap (λ c. c.changes) split)
      (λ begins owns moves. kept_over due made begins owns moves whole last was before)
  kept_over due course so own moved whole last pending (at_release made c trace next now was operation id hook draft edited before split for waits grown) =
      kept_operated due course made so own moved trace last was (ap (λ c. c.first) split) (ap (λ c. c.changes) split)
      (λ begins owns moves. kept_over due made begins owns moves trace last was before)

  -- and where the last of them ran out of memory too
  pub kept_after : (first : AnswererState S) (files : FilesMeaning) → is first.own → FilesAfter answers fails first files → goes first.files files
  kept_after first files so (after_answers last by same) =
      let P : FilesMeaning → Type 0 = goes first.files in subst P (sym same) ((kept_by_answers first last so by).goes_so)
  kept_after first files so (after_failure last hook flow by failed) =
      let k = kept_by_answers first last so by in
      keeps.on first.files last.files files k.goes_so (keeps.failed_so hook flow last.own last.files files k.so failed)

  pub kept_leaving : (due : Due) (course : Course S) (Whole : Type 0) (files : FilesMeaning) (trace : Trace) → is course.first.own →
      AllAre (KeepsOwn is) course.changes → AllAre (MovesFiles goes) course.changes → LeavesFiles answers fails due course Whole files trace → goes course.first.files files
  kept_leaving due course Whole files trace so own moved l =
      let P : AnswererState S → Type 0 = λ first. goes first.files files in
      let k = kept_over due l.made (begins_so is course l.made l.front_of so) (made_are (KeepsOwn is) course l.made l.front_of own)
      (made_are (MovesFiles goes) course l.made l.front_of moved) l.prefix l.last l.pending l.answered in
      subst P l.front_of.same (keeps.on l.made.first.files l.last.files files k.goes_so (kept_after l.last files k.so l.after))

-- where no answer and no failure changes files, they are as they were
pub unchanged : {S : Type 0} (answers : Answering S) (fails : Failing S) →
    ((hook : Hook) (flow : Flow) (old : S) (old_files : FilesMeaning) (new : S) (new_files : FilesMeaning) (given : Answer) →
    answers hook flow old old_files new new_files given → new_files ≡ old_files) →
    ((hook : Hook) (flow : Flow) (old : S) (old_files new_files : FilesMeaning) → fails hook flow old old_files new_files → new_files ≡ old_files) →
    (first : AnswererState S) (files : FilesMeaning) → FilesAfter answers fails first files → files ≡ first.files
unchanged {S} answers fails given_so failed_so first files after =
    let is : S → Type 0 = λ state. Unit {0} in
    let goes : FilesMeaning → FilesMeaning → Type 0 = λ old new. new ≡ old in
    let keeps : KeepsFiles answers fails is goes = record {
      same = λ at. refl;
      on = λ a b c ab bc. bc ∙ ab;
      stays = λ hook flow old old_files new new_files given so answered. tt;
      given_so = λ hook flow old old_files new new_files given so answered. given_so hook flow old old_files new new_files given answered;
      failed_so = λ hook flow old old_files new_files so failed. failed_so hook flow old old_files new_files failed;
    } in
    kept_after answers fails is goes keeps first files tt after
