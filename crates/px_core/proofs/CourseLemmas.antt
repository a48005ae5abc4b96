-- Changes of a course that are all so, and one change more.
use Rattle.std.proofs.Common.{◌≡◌, ℕ, List, [], ◌∷◌, ◌++◌, Option, refl, ap, ◌∙◌, subst, sym}
use Rattle.px_event.specs.declared.ask.Ask.{Ask}
use Rattle.px_event.specs.declared.command.Command.{Command}
use Rattle.px_event.specs.Layer.{Move, Standing}
use Rattle.px_event.specs.Trace.{Trace}
use Rattle.px_core.specs.declared.table.Conversations.{Conversations}
use Rattle.px_core.specs.Answered.{at_change}
use Rattle.px_core.specs.Answers.{Answering, AnswererState, FilesMeaning}
use Rattle.px_core.specs.Course.{AllAre, Change, Course, IsFrontOf, with_change}
use Rattle.px_core.specs.Due.{Due}
use Rattle.px_core.specs.Router.{TableStands}

-- a state is told by its parts
pub same_state : {S : Type 0} (a b : AnswererState S) → a.own ≡ b.own → a.files ≡ b.files → a ≡ b
same_state {S} a b own files =
    let with_own : S → AnswererState S = λ o. record { own = o; files = a.files } in
    let with_files : FilesMeaning → AnswererState S = λ f. record { own = b.own; files = f } in
    ap with_own own ∙ ap with_files files

-- behind all steps something else became of the state
pub stands_changed : {C : Type 0} (standing : Standing C) (awaited : C → Option Ask) (number : C → ℕ) (made_due : C → List Move → List Command) {S : Type 0} (answers : Answering S)
    (due : Due) (course : Course S) (old new : AnswererState S) (table : Conversations C) (trace : Trace) → TableStands standing awaited number made_due answers due course old table trace →
    TableStands standing awaited number made_due answers due (with_change course trace old new) new table trace
stands_changed standing awaited number made_due answers due course old new table trace s = record {
  at = s.at;
  served = s.served;
  pending = s.pending;
  answered = at_change course (with_change course trace old new) trace old new s.pending s.answered refl;
  drafts = s.drafts;
  marks = s.marks;
  shown = s.shown;
}

-- the last of them too
pub last_is : {S : Type 0} (Is : Change S → Type 0) (changes : List (Change S)) (last : Change S) → AllAre Is (changes ++ last ∷ []) → AllAre Is changes × Is last
last_is Is [] last (here, none) = (tt, here)
last_is Is (first ∷ changes) last (here, all) = let r = last_is Is changes last all in ((here, r.0), r.1)

front_is : {S : Type 0} (Is : Change S → Type 0) (prefix later : List (Change S)) → AllAre Is (prefix ++ later) → AllAre Is prefix
front_is Is [] later all = tt
front_is Is (first ∷ prefix) later (here, all) = (here, front_is Is prefix later all)

-- and those of a course's prefix
pub made_are : {S : Type 0} (Is : Change S → Type 0) (course made : Course S) → IsFrontOf course made → AllAre Is course.changes → AllAre Is made.changes
made_are {S} Is course made prefix all =
    let P : List (Change S) → Type 0 = AllAre Is in front_is Is made.changes prefix.later (subst P prefix.split all)

pub begins_so : {S : Type 0} (is : S → Type 0) (course made : Course S) → IsFrontOf course made → is course.first.own → is made.first.own
begins_so {S} is course made prefix so =
    let P : AnswererState S → Type 0 = λ state. is state.own in subst P (sym prefix.same) so
