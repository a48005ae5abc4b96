-- What changes the course of a run: saves, which keep the answerer's own state, and addons that are taken away, which keep files.
use Rattle.std.proofs.Common.{◌≡◌, ℕ, Bool, true, false, List, [], ◌∷◌, ◌++◌, sym, subst, ◌∙◌}
use Rattle.std.specs.Prelude.{bytes_eq, if◌then◌else◌}
use Rattle.px_event.specs.declared.heard.Heard.{Heard}
use Rattle.px_event.specs.declared.step.Step.{Step}
use Rattle.px_event.specs.Trace.{Trace}
use Rattle.px_core.specs.Addons.{without_first_by}
use Rattle.px_core.specs.Answers.{Answering, AnswererState}
use Rattle.px_core.specs.Course.{AllAre, Change, Course, KeepsOwn, change}
use Rattle.px_core.specs.Due.{Due}
use Rattle.px_core.specs.Router.{MovesBy, operated_on}
use Rattle.px_core.specs.declared.operation.Operation.{Operation}
use Rattle.px_core.specs.declared.operation.Operation.TheVariants as operations
use Rattle.px_addons.specs.Chain.{ChainDrops, Movers}
use Rattle.px_addons.specs.Moving.{Moves}
use Rattle.px_addons.specs.Quiet.{AllKeepDrafts, ChangesNothing, NoRules}
use Rattle.px_addons.specs.declared.rules.Rules.{Rules}
use Rattle.px_obey.specs.declared.outcome.Outcome.{Outcome}
use Rattle.px_obey.specs.Obeyed.{BreaksLine, BreaksLines, Obeys, ObeysAll, ObeysLine, ObeysLines, Point, all_obeyed, by_order, ended_at, gives, gives_none, in_operation, lists, no_order, none_obeyed, none_told, not_answered, not_closed, one_obeyed, operates, quits, refuses, shows, shows_none, too_long}
use Rattle.px_view.specs.declared.command.Order.{Order}
use Rattle.px_view.specs.declared.desk.Line.{Line}
use Rattle.px_app.specs.Worked.{Breaks, Turns, Worked, WorkedPart, all_worked, breaks_in, breaks_begun, in_conversation, in_lines, in_silence, not_begun, of_conversation, of_leaving, of_operator, one_begun, one_worked}

-- A change is a save, or takes an addon away.
pub data SavesOrDrops {S : Type 0} (drops : List ℕ → S → S → Type 0) (one : Change S) : Type 0 where
  is_save : one.new.own ≡ one.old.own → SavesOrDrops drops one
  is_drop : (name : List ℕ) → drops name one.old.own one.new.own → one.new.files ≡ one.old.files → SavesOrDrops drops one

-- one more that is so
are_more : {S : Type 0} (Is : Change S → Type 0) (changes : List (Change S)) (last : Change S) → AllAre Is changes → Is last → AllAre Is (changes ++ last ∷ [])
are_more Is [] last all here = (here, tt)
are_more Is (first ∷ changes) last (so, all) here = (so, are_more Is changes last all here)

pub next_are : {S : Type 0} (Is : Change S → Type 0) (changes next : List (Change S)) (last : Change S) → next ≡ changes ++ last ∷ [] → AllAre Is changes → Is last → AllAre Is next
next_are {S} Is changes next last grown all here =
    let P : List (Change S) → Type 0 = AllAre Is in subst P (sym grown) (are_more Is changes last all here)

all_by : {S : Type 0} (Is Other : Change S → Type 0) → ((one : Change S) → Is one → Other one) → (changes : List (Change S)) → AllAre Is changes → AllAre Other changes
all_by Is Other turns [] all = tt
all_by Is Other turns (one ∷ changes) (here, all) = (turns one here, all_by Is Other turns changes all)

module _ {S : Type 0} (drops : List ℕ → S → S → Type 0) where
  -- all changes of the course are so
  abbrev pub AreSavesOrDrops : Course S → Type 0
  AreSavesOrDrops course = AllAre (SavesOrDrops drops) course.changes

  -- what an addon that is taken away keeps of the own state, each change keeps
  pub own_kept : (is : S → Type 0) → ((name : List ℕ) (old new : S) → is old → drops name old new → is new) → (one : Change S) → SavesOrDrops drops one → KeepsOwn is one
  own_kept is stays one (is_save same) = λ so. subst is (sym same) so
  own_kept is stays one (is_drop name dropped files) = λ so. stays name one.old.own one.new.own so dropped

  pub all_own_kept : (is : S → Type 0) → ((name : List ℕ) (old new : S) → is old → drops name old new → is new) → (changes : List (Change S)) → AllAre (SavesOrDrops drops) changes →
      AllAre (KeepsOwn is) changes
  all_own_kept is stays changes all = all_by (SavesOrDrops drops) (KeepsOwn is) (λ one here. own_kept is stays one here) changes all

module _ {S : Type 0} (answers : Answering S) (drops : List ℕ → S → S → Type 0) (names : S → List (List ℕ)) (due : Due) where
  operated_so : (operation : Operation) (course : Course S) (trace : Trace) (old new : AnswererState S) → MovesBy answers drops operation old new → AreSavesOrDrops drops course →
      AreSavesOrDrops drops (operated_on course trace operation old new)
  operated_so (operations.DropAddon name) course trace old new moved all = are_more (SavesOrDrops drops) course.changes (change trace old new) all (is_drop name moved.0 moved.1)
  operated_so (operations.Resume id) course trace old new moved all = all
  operated_so (operations.Kill id) course trace old new moved all = all
  operated_so (operations.Edit id edit) course trace old new moved all = all
  operated_so (operations.Mark id) course trace old new moved all = all

  order_so : (one : Order) (at next : Point S) (caused : List Step) (given : List ℕ) → Obeys answers drops names due one at caused given next → AreSavesOrDrops drops at.course →
      AreSavesOrDrops drops next.course
  order_so one at next caused given (lists here list live) all = all
  order_so one at next caused given (shows here id flow live last) all = all
  order_so one at next caused given (shows_none here id none) all = all
  order_so one at next caused given (gives here id from flow live last) all = all
  order_so one at next caused given (gives_none here id from none) all = all
  order_so one at next caused given (operates here there operation more fits of_it moves traced coursed) all =
      let P : Course S → Type 0 = AreSavesOrDrops drops in
      subst P (sym coursed) (operated_so operation at.course at.trace at.now next.now moves all)
  order_so one at next caused given (refuses here operation error refused) all = all
  order_so one at next caused given (quits here) all = all

  module _ (conv : ℕ) where
    line_so : (line : Line) (at next : Point S) (more : List Step) (outcome : Outcome) → ObeysLine answers drops names due conv line at more next outcome → AreSavesOrDrops drops at.course →
        AreSavesOrDrops drops next.course
    line_so line at next more outcome (by_order text one here there caused given reads obeyed) all = order_so one at next caused given obeyed all
    line_so line at next more outcome (no_order text error here reads) all = all
    line_so line at next more outcome (too_long here) all = all

    lines_so : (first last : Point S) (lines : List Line) (told : List Step) → ObeysAll answers drops names due conv first lines told last → AreSavesOrDrops drops first.course →
        AreSavesOrDrops drops last.course
    lines_so first last lines told none_obeyed all = all
    lines_so first last lines told (one_obeyed before next_lines so_far next_told more one at next obeyed line grown tells) all =
        line_so one at last more _ line (lines_so first at before so_far obeyed all)

    all_lines_so : (first last : Point S) (lines : List Line) (told : List Step) (outcome : Outcome) → ObeysLines answers drops names due conv first lines told last outcome →
        AreSavesOrDrops drops first.course → AreSavesOrDrops drops last.course
    all_lines_so first last lines told outcome (all_obeyed so_far end obeyed) all = lines_so first last lines told obeyed all
    all_lines_so first last lines told outcome (ended_at front rest one so_far more next_told at end ends split obeyed line apart tells) all =
        line_so one at last more outcome line (lines_so first at front so_far obeyed all)

    broken_line_so : (one : Line) (at : Point S) (told : List Step) (trace : Trace) (course : Course S) → BreaksLine answers drops names due conv one at told trace course →
        AreSavesOrDrops drops at.course → AreSavesOrDrops drops course
    broken_line_so one at told trace course (none_told line here) all = all
    broken_line_so one at told trace course (in_operation text operation here caused reads of_it) all = all
    broken_line_so one at told trace course (not_answered text order here next caused given reads obeyed) all = order_so order at next told given obeyed all
    broken_line_so one at told trace course (not_closed here) all = all

    broken_lines_so : (first : Point S) (lines : List Line) (told : List Step) (trace : Trace) (course : Course S) → BreaksLines answers drops names due conv first lines told trace course →
        AreSavesOrDrops drops first.course → AreSavesOrDrops drops course
    broken_lines_so first lines told trace course broke all =
        broken_line_so broke.one broke.at broke.more trace course broke.breaks (lines_so first broke.at broke.front broke.front_told broke.obeyed all)

  -- one thing heard
  pub turns_so : (trace : Trace) (course : Course S) (moment : ℕ) (what : Heard) (more : List Step) (next : Trace) (turned : Course S) (over : Bool) →
      Turns answers drops names due trace course moment what more next turned over → AreSavesOrDrops drops course → AreSavesOrDrops drops turned
  turns_so trace course moment what more next turned over (of_conversation own nothing of_it) all = all
  turns_so trace course moment what more next turned over (of_operator conv lines own now pending last outcome says answered obeyed) all =
      all_lines_so conv _ last lines more outcome obeyed all
  turns_so trace course moment what more next turned over (of_leaving conv leaves) all = all

  pub breaks_so : (trace : Trace) (course : Course S) (moment : ℕ) (what : Heard) (more : List Step) (next : Trace) (broken : Course S) →
      Breaks answers drops names due trace course moment what more next broken → AreSavesOrDrops drops course → AreSavesOrDrops drops broken
  breaks_so trace course moment what more next broken (in_conversation own nothing of_it) all = all
  breaks_so trace course moment what more next broken (in_lines conv lines own now pending last course_then says answered broke) all =
      broken_lines_so conv _ lines more next broken broke all
  breaks_so trace course moment what more next broken in_silence all = all

  -- a run from its beginning
  pub worked_so : (first : AnswererState S) (told trace : Trace) (course : Course S) (over : Bool) → Worked answers drops names due first told trace course over → AreSavesOrDrops drops course
  worked_so first told trace course over not_begun = tt
  worked_so first told trace course over (one_worked before next_told was next at turned saved moment what more ends old new worked turns tells own saves) =
      let all = turns_so was at moment what more trace turned over turns (worked_so first before was at false worked) in
      let Q : Course S → Type 0 = AreSavesOrDrops drops in
      subst Q (sym saves) (are_more (SavesOrDrops drops) turned.changes (change trace old new) all (is_save own))
  worked_so first told trace course over (one_begun before next_told was next at saved conv more old new worked own tells goes same saves) =
      let Q : Course S → Type 0 = AreSavesOrDrops drops in
      subst Q (sym saves) (are_more (SavesOrDrops drops) at.changes (change trace old new) (worked_so first before was at false worked) (is_save same))

  pub worked_part_so : (first : AnswererState S) (told trace : Trace) (course : Course S) → WorkedPart answers drops names due first told trace course → AreSavesOrDrops drops course
  worked_part_so first told trace course (all_worked all_told whole made over worked) = worked_so first told trace course over worked
  worked_part_so first told trace course (breaks_in before next_told was next at broken moment what more worked broke tells) =
      breaks_so was at moment what more trace course broke (worked_so first before was at false worked)
  worked_part_so first told trace course (breaks_begun before next_told was next at conv more worked front tells goes) = worked_so first before was at false worked

  -- what an addon that is taken away keeps of the own state, all changes of the run keep
  pub worked_keeps : (is : S → Type 0) → ((name : List ℕ) (old new : S) → is old → drops name old new → is new) → (first : AnswererState S) (told trace : Trace) (course : Course S) →
      WorkedPart answers drops names due first told trace course → AllAre (KeepsOwn is) course.changes
  worked_keeps is stays first told trace course worked = all_own_kept drops is stays course.changes (worked_part_so first told trace course worked)

-- ---- chains

-- without one of them all others leave drafts as they are
keep_if : {B : Type 0} (moves : B → Moves) (here : Bool) (one : B) (rest others : List B) → AllKeepDrafts moves (one ∷ rest) → AllKeepDrafts moves others →
    AllKeepDrafts moves (if here then rest else one ∷ others)
keep_if moves true one rest others all kept = all.1
keep_if moves false one rest others all kept = (all.0, kept)

without_one : {B : Type 0} (title : B → List ℕ) (moves : B → Moves) (name : List ℕ) (addons : List B) → AllKeepDrafts moves addons → AllKeepDrafts moves (without_first_by title name addons)
without_one title moves name [] all = tt
without_one title moves name (one ∷ rest) all =
    keep_if moves (bytes_eq (title one) name) one rest (without_first_by title name rest) all (without_one title moves name rest all.1)

-- a chain that changes nothing stays so
pub drops_stay_quiet : {B : Type 0} (title : B → List ℕ) (moves : B → Moves) (name : List ℕ) (rules : Rules) (old : Movers B) (new_rules : Rules) (new : Movers B) →
    ChangesNothing moves rules old → ChainDrops title name rules old new_rules new → ChangesNothing moves new_rules new
drops_stay_quiet title moves name rules old new_rules new quiet dropped = record {
  no_rules = subst (λ r. NoRules r) (sym dropped.rules) quiet.no_rules;
  quiet = record {
    unrecorded = dropped.replay ∙ quiet.quiet.unrecorded;
    no_cookies = dropped.cookies ∙ quiet.quiet.no_cookies;
    no_auth = dropped.auth ∙ quiet.quiet.no_auth;
    keep = subst (λ l. AllKeepDrafts moves l) (sym dropped.dropped) (without_one title moves name old.addons quiet.quiet.keep);
  };
}

module _ {B S : Type 0} (title : B → List ℕ) (rules_of : S → Rules) (movers_in : S → Movers B) where
  -- taking an addon away, of a chain that is told by its rules, and by its recorded list and its addons
  abbrev pub drops_by : List ℕ → S → S → Type 0
  drops_by name old new = ChainDrops title name (rules_of old) (movers_in old) (rules_of new) (movers_in new)

  -- what its rules are they stay
  pub drops_keep_rules : (is : Rules → Type 0) (name : List ℕ) (old new : S) → is (rules_of old) → drops_by name old new → is (rules_of new)
  drops_keep_rules is name old new so dropped = subst is (sym dropped.rules) so

  module _ (answers : Answering S) (names : S → List (List ℕ)) (due : Due) (first : AnswererState S) (told trace : Trace) (course : Course S) where
    -- so do the rules over a run
    pub rules_stay : (rules : Rules) → WorkedPart answers drops_by names due first told trace course → AllAre (KeepsOwn (λ chain. rules_of chain ≡ rules)) course.changes
    rules_stay rules worked = worked_keeps answers drops_by names due (λ chain. rules_of chain ≡ rules) (drops_keep_rules (λ own. own ≡ rules)) first told trace course worked

    -- and a chain that changes nothing
    pub quiet_stays : (moves : B → Moves) → WorkedPart answers drops_by names due first told trace course →
        AllAre (KeepsOwn (λ chain. ChangesNothing moves (rules_of chain) (movers_in chain))) course.changes
    quiet_stays moves worked =
        worked_keeps answers drops_by names due (λ chain. ChangesNothing moves (rules_of chain) (movers_in chain))
        (λ name old new quiet dropped. drops_stay_quiet title moves name (rules_of old) (movers_in old) (rules_of new) (movers_in new) quiet dropped) first told trace course worked
