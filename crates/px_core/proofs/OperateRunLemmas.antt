-- An operation, and the steps of it that were told.
use Rattle.std.proofs.Common.{◌≡◌, ℕ, List, [], ◌++◌, Option, Some, None, refl, ap, sym, ◌∙◌, subst, append_assoc, IfErr, OnErr, Result, Ok, Err}
use Rattle.std.proofs.lemmas.List.{append-nil}
use Rattle.px_text.specs.Prefix.{IsPrefixOf}
use Rattle.px_message.specs.declared.flow.Flow.{Flow}
use Rattle.px_event.specs.declared.ask.Ask.{Ask}
use Rattle.px_event.specs.declared.command.Command.{Command}
use Rattle.px_event.specs.declared.step.Step.{Step}
use Rattle.px_event.specs.Layer.{Move, Standing}
use Rattle.px_event.specs.Trace.{Trace}
use Rattle.px_core.specs.declared.operation.Operation.{Operation}
use Rattle.px_core.specs.declared.operation.Operation.TheVariants as operations
use Rattle.px_core.specs.declared.table.Conversations.{Conversations}
use Rattle.px_core.specs.Answered.{IsAnswered, LeavesFiles}
use Rattle.px_core.specs.Answers.{Answering, AnswererState, Failing, FilesAfter, FilesMeaning}
use Rattle.px_core.specs.Course.{Course, with_operation}
use Rattle.px_core.specs.Due.{Due, IsServed}
use Rattle.px_core.specs.Held.{AllOf}
use Rattle.px_core.specs.Router.{AllOfAny, IsNow, Operates, TableStands, caused_in, operated_on}
use Rattle.px_core.specs.Run.{AddsSteps, AllTellable, BreaksOff, ToldPart}
use Rattle.px_core.proofs.AnsweredLemmas.{answered_front, operated_front, whole_front}
use Rattle.px_core.proofs.RunLemmas.{all_tellable, none_front, own_front, served_front}

pub if_err_of : {T E A B : Type 0} (result : Result T E) (P : E → Type 0) → (A → B) → OnErr result A → IfErr result (λ e. P e → B)
if_err_of (Ok t) P all a = tt
if_err_of (Err e) P all a = λ p. all a

pub if_err_all : {T E B : Type 0} (result : Result T E) (P : E → Type 0) → B → IfErr result (λ e. P e → B)
if_err_all (Ok t) P b = tt
if_err_all (Err e) P b = λ p. b

any_none : (at : Option ℕ) → AllOfAny at []
any_none None = refl
any_none (Some conv) = tt

any_front : (at : Option ℕ) (prefix list : List Step) → IsPrefixOf prefix list → AllOfAny at list → AllOfAny at prefix
any_front None prefix list (rest, whole) none = none_front prefix rest (sym whole ∙ none)
any_front (Some conv) prefix list (rest, whole) all = let P : List Step → Type 0 = AllOf conv in own_front conv prefix rest (subst P whole all)

pub any_tellable : (at : Option ℕ) (list : List Step) → AllOfAny at list → AllTellable list
any_tellable None list none = let P : List Step → Type 0 = AllTellable in subst P (sym none) tt
any_tellable (Some conv) list all = all_tellable conv list all

module _ {C : Type 0} (standing : Standing C) (awaited : C → Option Ask) (number : C → ℕ) (made_due : C → List Move → List Command) {S : Type 0} (answers : Answering S) where
  operated_stands : (moment : ℕ) (operation : Operation) (before after : Conversations C) {old new : AnswererState S} (empty given : List Step) → empty ≡ [] →
      Operates standing awaited number made_due answers moment operation before after old new empty given → (due : Due) (course : Course S) (trace : Trace) → IsNow moment trace →
      TableStands standing awaited number made_due answers due course old before trace →
      TableStands standing awaited number made_due answers due (operated_on course trace operation old new) new after (trace ++ given)
  operated_stands moment operation before after {old} {new} empty given none r due course trace now stands =
      let P : Trace → Type 0 = λ l. TableStands standing awaited number made_due answers due (operated_on course trace operation old new) new after (trace ++ l) in
      subst P (sym (r.grown ∙ ap (λ l. l ++ r.more) none)) (r.stands due course trace now stands)

  pub operated_own : (moment : ℕ) (operation : Operation) (before after : Conversations C) {old new : AnswererState S} (empty given : List Step) → empty ≡ [] →
      Operates standing awaited number made_due answers moment operation before after old new empty given → AllOfAny (caused_in operation) given
  operated_own moment operation before after empty given none r =
      let P : List Step → Type 0 = AllOfAny (caused_in operation) in subst P (sym (r.grown ∙ ap (λ l. l ++ r.more) none)) r.own

  -- all its steps were told
  pub adds_all : (moment : ℕ) (operation : Operation) (before after : Conversations C) {old new : AnswererState S} (empty given : List Step) (net now : Option Trace) → empty ≡ [] →
      Operates standing awaited number made_due answers moment operation before after old new empty given → (due : Due) (course : Course S) (trace : Trace) → IsNow moment trace →
      TableStands standing awaited number made_due answers due course old before trace → ((told : Trace) → net ≡ Some told → now ≡ Some (told ++ given)) →
      AddsSteps (TableStands standing awaited number made_due answers due (operated_on course trace operation old new) new after) operation trace net now
  adds_all moment operation before after empty given net now none r due course trace is_now stands tells = record {
    more = given;
    own = operated_own moment operation before after empty given none r;
    holds = operated_stands moment operation before after empty given none r due course trace is_now stands;
    tells = tells;
  }

  -- behind the trace before the operation the answerer was asked what it was asked, whatever of that was told
  leaves_operated : (fails : Failing S) (due : Due) (course : Course S) (now : AnswererState S) (files : FilesMeaning) (table : Conversations C) (trace more : Trace) (operation : Operation) →
      TableStands standing awaited number made_due answers due course now table trace → FilesAfter answers fails now files →
      LeavesFiles answers fails due (with_operation course trace operation) ⊥ files (trace ++ more)
  leaves_operated fails due course now files table trace more operation stands after = record {
    prefix = trace;
    rest = more;
    split = refl;
    made = course;
    front_of = operated_front (with_operation course trace operation) course trace operation refl;
    last = now;
    pending = stands.pending;
    answered = stands.answered;
    after = after;
    whole = λ no. absurd no;
  }

  -- where no step was told, the answerer came so far by the course with it
  follows_none : (due : Due) (course : Course S) (now : AnswererState S) (table : Conversations C) (trace more : Trace) (operation : Operation) → more ≡ [] →
      TableStands standing awaited number made_due answers due course now table trace → IsAnswered answers due (with_operation course trace operation) (trace ++ more)
  follows_none due course now table trace more operation none stands =
      let P : Trace → Type 0 = IsAnswered answers due (with_operation course trace operation) in
      subst P (sym (ap (λ l. trace ++ l) none ∙ append-nil trace))
      (record { made = course; front_of = operated_front (with_operation course trace operation) course trace operation refl; last = now; pending = stands.pending; answered = stands.answered })

  pub breaks_none : (fails : Failing S) (due : Due) (course : Course S) (now : AnswererState S) (files : FilesMeaning) (table : Conversations C) (trace told : Trace) (operation : Operation) (net : Option Trace) →
      TableStands standing awaited number made_due answers due course now table trace → FilesAfter answers fails now files → net ≡ Some told → BreaksOff answers fails due course operation trace told net files
  breaks_none fails due course now files table trace told operation net stands after is =
      let P : Trace → Type 0 = IsServed answers due in
      record {
        more = [];
        own = any_none (caused_in operation);
        is = is ∙ ap Some (sym (append-nil told));
        served = subst P (sym (append-nil trace)) stands.served;
        follows = follows_none due course now table trace [] operation refl stands;
        leaves = leaves_operated fails due course now files table trace [] operation stands after;
      }

  follows_front : (due : Due) (course made : Course S) (now : AnswererState S) (table : Conversations C) (trace given list : Trace) → made ≡ course → IsPrefixOf given list →
      TableStands standing awaited number made_due answers due made now table (trace ++ list) → IsAnswered answers due course (trace ++ given)
  follows_front due course made now table trace given list same (rest, whole) stands =
      let P : Course S → Type 0 = λ c. IsAnswered answers due c (trace ++ given) in
      subst P same (answered_front answers due made (trace ++ given) rest (trace ++ list) (ap (λ l. trace ++ l) whole ∙ sym (append_assoc trace given rest))
      (record { made = made; front_of = whole_front made; last = now; pending = stands.pending; answered = stands.answered }))

  follows_part : (moment : ℕ) (operation : Operation) (before after : Conversations C) {old new : AnswererState S} (empty list given : List Step) → empty ≡ [] →
      Operates standing awaited number made_due answers moment operation before after old new empty list → (due : Due) (course : Course S) (trace : Trace) → IsNow moment trace →
      TableStands standing awaited number made_due answers due course old before trace → IsPrefixOf given list → IsAnswered answers due (with_operation course trace operation) (trace ++ given)
  follows_part moment (operations.Resume id) before after empty list given none r due course trace now stands front =
      follows_front due _ _ _ after trace given list refl front (operated_stands moment (operations.Resume id) before after empty list none r due course trace now stands)
  follows_part moment (operations.Kill id) before after empty list given none r due course trace now stands front =
      follows_front due _ _ _ after trace given list refl front (operated_stands moment (operations.Kill id) before after empty list none r due course trace now stands)
  follows_part moment (operations.Edit id change) before after empty list given none r due course trace now stands front =
      follows_front due _ _ _ after trace given list refl front (operated_stands moment (operations.Edit id change) before after empty list none r due course trace now stands)
  follows_part moment (operations.Mark id) before after empty list given none r due course trace now stands front =
      follows_front due _ _ _ after trace given list refl front (operated_stands moment (operations.Mark id) before after empty list none r due course trace now stands)
  follows_part moment (operations.DropAddon name) before after empty list given none r due course trace now stands front =
      follows_none due course _ before trace given (operations.DropAddon name) (any_front None given list front (operated_own moment (operations.DropAddon name) before after empty list none r)) stands

  -- some of its steps were told
  pub breaks_part : (fails : Failing S) (moment : ℕ) (operation : Operation) (before after : Conversations C) {old new : AnswererState S} (empty list : List Step) (files : FilesMeaning) (net : Option Trace) (taken new_taken : List Flow) →
      empty ≡ [] → Operates standing awaited number made_due answers moment operation before after old new empty list → (due : Due) (course : Course S) (trace told : Trace) → IsNow moment trace →
      TableStands standing awaited number made_due answers due course old before trace → FilesAfter answers fails old files → ToldPart list told net taken new_taken →
      BreaksOff answers fails due course operation trace told net files
  breaks_part fails moment operation before after {old} {new} empty list files net taken new_taken none r due course trace told now stands behind part =
      let P : Trace → Type 0 = IsServed answers due in
      let next = operated_stands moment operation before after empty list none r due course trace now stands in
      record {
        more = part.given;
        own = any_front (caused_in operation) part.given list part.prefix (operated_own moment operation before after empty list none r);
        is = part.is;
        served = served_front answers due (trace ++ part.given) part.prefix.0 (subst P (ap (λ l. trace ++ l) part.prefix.1 ∙ sym (append_assoc trace part.given part.prefix.0)) next.served);
        follows = follows_part moment operation before after empty list part.given none r due course trace now stands part.prefix;
        leaves = leaves_operated fails due course old files before trace part.given operation stands behind;
      }
