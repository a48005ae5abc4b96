-- Something heard, and the steps that follow from it that were told.
use Rattle.std.proofs.Common.{◌≡◌, ℕ, List, [], ◌∷◌, ◌++◌, Option, Some, refl, ap, sym, ◌∙◌, subst, append_assoc}
use Rattle.std.proofs.lemmas.List.{append-nil}
use Rattle.px_text.specs.Prefix.{IsPrefixOf}
use Rattle.px_message.specs.declared.flow.Flow.{Flow}
use Rattle.px_event.specs.declared.ask.Ask.{Ask}
use Rattle.px_event.specs.declared.command.Command.{Command}
use Rattle.px_event.specs.declared.heard.Heard.{Heard}
use Rattle.px_event.specs.declared.step.Step.TheVariants as steps
use Rattle.px_event.specs.Layer.{Move, Standing}
use Rattle.px_event.specs.Trace.{Trace}
use Rattle.px_event.specs.View.{View, seen_of}
use Rattle.px_core.specs.declared.table.Conversations.{Conversations}
use Rattle.px_core.specs.Answered.{IsAnswered, LeavesFiles, at_other}
use Rattle.px_core.specs.Answers.{Answering, AnswererState, Failing, FilesAfter, FilesMeaning}
use Rattle.px_core.specs.Course.{Course}
use Rattle.px_core.specs.Due.{Due, IsServed}
use Rattle.px_core.specs.Router.{TableStands}
use Rattle.px_core.specs.Run.{BreaksHeard, IsOfHeard, ToldPart}
use Rattle.px_core.proofs.AnsweredLemmas.{answered_front, whole_front}
use Rattle.px_core.proofs.RouteLemmas.{heard_served}
use Rattle.px_core.proofs.RunLemmas.{front_of_heard, served_front}

module _ {C : Type 0} (standing : Standing C) (awaited : C → Option Ask) (number : C → ℕ) (made_due : C → List Move → List Command)
    (gave : (made state : C) (moves : List Move) (given : List Command) → standing made state moves given → (view : View) → seen_of view given ≡ seen_of view (made_due made moves))
    (grows : (made : C) (moves : List Move) (move : Move) (view : View) → IsPrefixOf (seen_of view (made_due made moves)) (seen_of view (made_due made (moves ++ move ∷ []))))
    {S : Type 0} (answers : Answering S) (fails : Failing S) where
  -- Behind the trace before what was heard the answerer was asked what it was asked, whatever of that was told.
  leaves_heard : (due : Due) (course : Course S) (now : AnswererState S) (files : FilesMeaning) (table : Conversations C) (trace more : Trace) (moment : ℕ) (what : Heard) →
      TableStands standing awaited number made_due answers due course now table trace → FilesAfter answers fails now files →
      LeavesFiles answers fails due course ⊥ files ((trace ++ steps.Heard moment what ∷ []) ++ more)
  leaves_heard due course now files table trace more moment what stands after = record {
    prefix = trace;
    rest = steps.Heard moment what ∷ more;
    split = append_assoc trace (steps.Heard moment what ∷ []) more;
    made = course;
    front_of = whole_front course;
    last = now;
    pending = stands.pending;
    answered = stands.answered;
    after = after;
    whole = λ no. absurd no;
  }

  -- no step was told
  pub heard_none : (due : Due) (course : Course S) (now : AnswererState S) (files : FilesMeaning) (table : Conversations C) (trace told : Trace) (moment : ℕ) (what : Heard) (net : Option Trace) →
      TableStands standing awaited number made_due answers due course now table trace → FilesAfter answers fails now files → net ≡ Some told →
      BreaksHeard answers fails due course what (trace ++ steps.Heard moment what ∷ []) told net files
  heard_none due course now files table trace told moment what net stands after is =
      let there : Trace = trace ++ steps.Heard moment what ∷ [] in
      let P : Trace → Type 0 = IsServed answers due in
      let Q : Trace → Type 0 = IsAnswered answers due course in
      record {
        more = [];
        own = record { own = λ conv news some. tt; none = λ no. refl };
        is = is ∙ ap Some (sym (append-nil told));
        served = subst P (sym (append-nil there)) (heard_served standing awaited number made_due gave grows answers due table trace moment what stands);
        follows = subst Q (sym (append-nil there)) (record {
          made = course;
          front_of = whole_front course;
          last = now;
          pending = stands.pending;
          answered = at_other course trace there now stands.pending (steps.Heard moment what) stands.answered refl tt tt;
        });
        leaves = leaves_heard due course now files table trace [] moment what stands after;
      }

  -- some of the steps were told
  pub heard_part : (due : Due) (course : Course S) (old new : AnswererState S) (files : FilesMeaning) (before after : Conversations C) (trace told list : Trace) (moment : ℕ) (what : Heard) (net : Option Trace)
      (taken new_taken : List Flow) → TableStands standing awaited number made_due answers due course old before trace →
      TableStands standing awaited number made_due answers due course new after ((trace ++ steps.Heard moment what ∷ []) ++ list) → FilesAfter answers fails old files → IsOfHeard what list →
      ToldPart list told net taken new_taken → BreaksHeard answers fails due course what (trace ++ steps.Heard moment what ∷ []) told net files
  heard_part due course old new files before after trace told list moment what net taken new_taken stands next behind own part =
      let there : Trace = trace ++ steps.Heard moment what ∷ [] in
      let P : Trace → Type 0 = IsServed answers due in
      let whole : there ++ list ≡ (there ++ part.given) ++ part.prefix.0 = ap (λ l. there ++ l) part.prefix.1 ∙ sym (append_assoc there part.given part.prefix.0) in
      record {
        more = part.given;
        own = front_of_heard what part.given list part.prefix own;
        is = part.is;
        served = served_front answers due (there ++ part.given) part.prefix.0 (subst P whole next.served);
        follows = answered_front answers due course (there ++ part.given) part.prefix.0 (there ++ list) whole
            (record { made = course; front_of = whole_front course; last = new; pending = next.pending; answered = next.answered });
        leaves = leaves_heard due course old files before trace part.given moment what stands behind;
      }
