-- A conversation without a client that begins, and the steps of it that were told.
use Rattle.std.proofs.Common.{◌≡◌, ℕ, List, [], ◌∷◌, ◌++◌, Option, Some, None, refl, ap, sym, ◌∙◌, subst, append_assoc}
use Rattle.std.proofs.lemmas.List.{append-nil}
use Rattle.px_text.specs.Prefix.{IsPrefixOf}
use Rattle.px_message.specs.declared.flow.Flow.{Flow}
use Rattle.px_event.specs.declared.ask.Ask.{Ask}
use Rattle.px_event.specs.declared.command.Command.{Command}
use Rattle.px_event.specs.declared.step.Step.{Step}
use Rattle.px_event.specs.declared.step.Step.TheVariants as steps
use Rattle.px_event.specs.Layer.{Move, Standing}
use Rattle.px_event.specs.Trace.{Trace}
use Rattle.px_core.specs.declared.table.Conversations.{Conversations}
use Rattle.px_core.specs.Answered.{IsAnswered, LeavesFiles}
use Rattle.px_core.specs.Answers.{Answering, AnswererState, Failing, FilesAfter, FilesMeaning}
use Rattle.px_core.specs.Course.{Course}
use Rattle.px_core.specs.Due.{Due, IsServed}
use Rattle.px_core.specs.Held.{AllOf}
use Rattle.px_core.specs.Router.{Admits, IsNow, TableStands}
use Rattle.px_core.specs.Run.{AddsBegun, AllTellable, BreaksBegun, IsBegunBy, IsFrontOfBegun, ToldPart}
use Rattle.px_core.proofs.AnsweredLemmas.{answered_front, whole_front}
use Rattle.px_core.proofs.RunLemmas.{all_tellable, own_front, served_front}

-- the beginning, and the steps behind it
behind_begun : (conv : ℕ) (list : List Step) (trace : Trace) (begun : IsBegunBy conv list) → trace ++ list ≡ (trace ++ steps.Begun conv ∷ []) ++ begun.more
behind_begun conv list trace begun = ap (λ l. trace ++ l) begun.is ∙ sym (append_assoc trace (steps.Begun conv ∷ []) begun.more)

pub begun_tellable : (conv : ℕ) (list : List Step) → IsBegunBy conv list → AllTellable list
begun_tellable conv list begun = let P : List Step → Type 0 = AllTellable in subst P (sym begun.is) (tt, all_tellable conv begun.more begun.own)

-- all its steps were told
pub begun_all : (P : Trace → Type 0) (conv : ℕ) (trace list : Trace) (net now : Option Trace) → IsBegunBy conv list → P (trace ++ list) → ((told : Trace) → net ≡ Some told → now ≡ Some (told ++ list)) →
    AddsBegun P conv trace net now
begun_all P conv trace list net now begun holds tells = record {
  more = begun.more;
  own = begun.own;
  holds = subst P (behind_begun conv list trace begun) holds;
  tells = λ told is. tells told is ∙ ap Some (behind_begun conv list told begun);
}

same_head : (x y : Step) (a b : List Step) → x ∷ a ≡ y ∷ b → y ≡ x
same_head x y a b e = cc

same_tail : (x y : Step) (a b : List Step) → x ∷ a ≡ y ∷ b → a ≡ b
same_tail x y a b e = cc

-- some of its steps
front_of_begun : (conv : ℕ) (prefix list : List Step) → IsPrefixOf prefix list → IsBegunBy conv list → IsFrontOfBegun conv prefix
front_of_begun conv [] list front begun = tt
front_of_begun conv (x ∷ prefix) list (rest, whole) begun =
    let same : steps.Begun conv ∷ begun.more ≡ x ∷ (prefix ++ rest) = sym begun.is ∙ whole in
    let P : List Step → Type 0 = AllOf conv in
    (same_head (steps.Begun conv) x begun.more (prefix ++ rest) same, own_front conv prefix rest (subst P (same_tail (steps.Begun conv) x begun.more (prefix ++ rest) same) begun.own))

module _ {C : Type 0} (standing : Standing C) (awaited : C → Option Ask) (number : C → ℕ) (made_due : C → List Move → List Command) {S : Type 0} (answers : Answering S) where
  -- the conversation was admitted behind its beginning
  pub admitted_begun : (conv moment : ℕ) (conversation : C) (before after : Conversations C) {old new : AnswererState S} (first given : List Step) → first ≡ steps.Begun conv ∷ [] →
      Admits standing awaited number made_due answers conv moment conversation before after old new first given → IsBegunBy conv given
  admitted_begun conv moment conversation before after first given is a = record {
    more = a.more;
    is = a.grown ∙ ap (λ l. l ++ a.more) is;
    own = a.own;
  }

  pub admitted_alone : (conv moment : ℕ) (conversation : C) (before after : Conversations C) {old new : AnswererState S} (first given : List Step) → first ≡ steps.Begun conv ∷ [] →
      Admits standing awaited number made_due answers conv moment conversation before after old new first given →
      (due : Due) (course : Course S) (trace : Trace) → IsNow moment trace → ((moves : List Move) → made_due conversation moves ≡ due conv None moves) →
      TableStands standing awaited number made_due answers due course old before trace →
      TableStands standing awaited number made_due answers due course new after (trace ++ given)
  admitted_alone conv moment conversation before after {old} {new} first given is a due course trace now owes stands =
      let P : Trace → Type 0 = TableStands standing awaited number made_due answers due course new after in
      let whole : given ≡ steps.Begun conv ∷ a.more = a.grown ∙ ap (λ l. l ++ a.more) is in
      subst P (sym (ap (λ l. trace ++ l) whole ∙ sym (append_assoc trace (steps.Begun conv ∷ []) a.more))) (a.alone due course trace now owes stands)

  module _ (fails : Failing S) where
    -- Behind the trace before its beginning the answerer was asked what it was asked, whatever of its steps was told.
    leaves_begun : (due : Due) (course : Course S) (now : AnswererState S) (files : FilesMeaning) (table : Conversations C) (trace more : Trace) →
        TableStands standing awaited number made_due answers due course now table trace → FilesAfter answers fails now files → LeavesFiles answers fails due course ⊥ files (trace ++ more)
    leaves_begun due course now files table trace more stands after = record {
      prefix = trace;
      rest = more;
      split = refl;
      made = course;
      front_of = whole_front course;
      last = now;
      pending = stands.pending;
      answered = stands.answered;
      after = after;
      whole = λ no. absurd no;
    }

    -- no step was told
    pub begun_none : (due : Due) (course : Course S) (now : AnswererState S) (files : FilesMeaning) (table : Conversations C) (trace told : Trace) (conv : ℕ) (net : Option Trace) →
        TableStands standing awaited number made_due answers due course now table trace → FilesAfter answers fails now files → net ≡ Some told →
        BreaksBegun answers fails due course conv trace told net files
    begun_none due course now files table trace told conv net stands after is =
        let P : Trace → Type 0 = IsServed answers due in
        let Q : Trace → Type 0 = IsAnswered answers due course in
        record {
          more = [];
          own = tt;
          is = is ∙ ap Some (sym (append-nil told));
          served = subst P (sym (append-nil trace)) stands.served;
          follows = subst Q (sym (append-nil trace)) (record { made = course; front_of = whole_front course; last = now; pending = stands.pending; answered = stands.answered });
          leaves = leaves_begun due course now files table trace [] stands after;
        }

    -- some of its steps were told
    pub begun_part : (due : Due) (course : Course S) (old new : AnswererState S) (files : FilesMeaning) (before after : Conversations C) (trace told list : Trace) (conv : ℕ) (net : Option Trace)
        (taken new_taken : List Flow) → TableStands standing awaited number made_due answers due course old before trace →
        TableStands standing awaited number made_due answers due course new after (trace ++ list) → FilesAfter answers fails old files → IsBegunBy conv list →
        ToldPart list told net taken new_taken → BreaksBegun answers fails due course conv trace told net files
    begun_part due course old new files before after trace told list conv net taken new_taken stands next behind begun part =
        let P : Trace → Type 0 = IsServed answers due in
        let whole : trace ++ list ≡ (trace ++ part.given) ++ part.prefix.0 = ap (λ l. trace ++ l) part.prefix.1 ∙ sym (append_assoc trace part.given part.prefix.0) in
        record {
          more = part.given;
          own = front_of_begun conv part.given list part.prefix begun;
          is = part.is;
          served = served_front answers due (trace ++ part.given) part.prefix.0 (subst P whole next.served);
          follows = answered_front answers due course (trace ++ part.given) part.prefix.0 (trace ++ list) whole
              (record { made = course; front_of = whole_front course; last = new; pending = next.pending; answered = next.answered });
          leaves = leaves_begun due course old files before trace part.given stands behind;
        }
