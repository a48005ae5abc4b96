-- Orders, operations and lines, by what was done.
use Rattle.std.proofs.Common.{◌≡◌, ◌≢◌, ◌⊎◌, inl, inr, ℕ, Bool, true, false, List, [], ◌∷◌, ◌++◌, Option, Some, None, Result, Ok, Err, IfOk, refl, ap, sym, ◌∙◌, subst}
use Rattle.px_message.specs.declared.flow.Flow.{Flow}
use Rattle.px_message.specs.declared.flow.FlowId.{FlowId}
use Rattle.px_event.specs.declared.ask.Ask.{Ask}
use Rattle.px_event.specs.declared.command.Command.{Command}
use Rattle.px_event.specs.declared.step.Step.{Step}
use Rattle.px_event.specs.Layer.{Move, Standing}
use Rattle.px_event.specs.Trace.{Trace}
use Rattle.px_core.specs.declared.operation.OperateError.{OperateError}
use Rattle.px_core.specs.declared.operation.OperateError.TheVariants as refused
use Rattle.px_core.specs.declared.operation.Operation.{Operation}
use Rattle.px_core.specs.declared.table.Conversations.{Conversations}
use Rattle.px_core.specs.Answers.{Answering, AnswererState, Failing, FilesAfter, FilesMeaning}
use Rattle.px_core.specs.Course.{Course, with_operation}
use Rattle.px_core.specs.Due.{Due}
use Rattle.px_core.specs.Router.{IsJudged, IsNow, IsTabled, MovesBy, TableStands, caused_in, operated_on}
use Rattle.px_core.specs.Run.{AddsSteps, BreaksOff}
use Rattle.px_core.proofs.OperateRunLemmas.{any_tellable}
use Rattle.px_view.specs.declared.answer.OperatorAnswer.TheVariants as answer
use Rattle.px_view.specs.declared.command.CommandError.{CommandError}
use Rattle.px_view.specs.declared.command.CommandError.TheVariants as wrong
use Rattle.px_view.specs.declared.command.Order.{Order}
use Rattle.px_view.specs.declared.command.Order.TheVariants as order
use Rattle.px_view.specs.declared.desk.Line.{Line}
use Rattle.px_view.specs.declared.desk.Line.TheVariants as line
use Rattle.px_view.specs.Answers.{answer_text}
use Rattle.px_view.specs.Commands.{order_of}
use Rattle.px_view.specs.Entry.{entry_line}
use Rattle.px_view.specs.Show.{show_text}
use Rattle.px_obey.specs.declared.outcome.Outcome.{Outcome}
use Rattle.px_obey.specs.declared.outcome.Outcome.TheVariants.{GoesOn, Leaves}
use Rattle.px_obey.specs.Obeyed.{BreaksLine, Obeys, ObeysLine, Point, StandsAt, by_no_order, by_operation, by_order, gives, gives_none, in_operation, lists, no_order, none_told, not_answered, not_closed, operates, outcome_of, point, quits, refuses, refused_text, sent, shows, shows_none, too_long, wrong_text}
use Rattle.px_obey.specs.Over.{AnswersOrder, BreaksOrder, BreaksOver, Doing, GoesOver, IsListOf, IsShownOf, Rests, StandingFor, TakesAll, TellsMore, TellsSome, in_steps, is_not_live, is_shown, long_steps, not_begun, not_said}
use Rattle.px_obey.proofs.ObeyLemmas.{after_none, breaks_behind, breaks_map, breaks_none, goes_kept, goes_map, goes_none, goes_said, now_on}

-- a state is told by its parts
abbrev pub answering : {S : Type 0} → S → FilesMeaning → AnswererState S
answering own files = record { own = own; files = files }

pub state_as : {F S : Type 0} (meaning : F → FilesMeaning) (own new_own : S) (files new_files : F) → new_own ≡ own → new_files ≡ files → answering new_own (meaning new_files) ≡ answering own (meaning files)
state_as meaning own new_own files new_files same kept = ap (λ o. answering o (meaning new_files)) same ∙ ap (λ f. answering own (meaning f)) kept

-- a refusal is not that memory ran out
abbrev pub is_ran_out : OperateError → Bool
is_ran_out refused.NoMemory = true
is_ran_out _ = false

pub other_than : (error given : OperateError) → is_ran_out given ≡ false → error ≡ given → error ≢ refused.NoMemory
other_than error given never is ran = let wrong_way : true ≡ false = sym (ap is_ran_out ran) ∙ (ap is_ran_out is ∙ never) in cc

-- the refusal is what it was found to be
pub judged_as : {S : Type 0} {answers : Answering S} {due : Due} {course : Course S} {now : AnswererState S} {names : List (List ℕ)} {trace : Trace} {operation : Operation} {error given : OperateError} →
    error ≡ given → IsJudged answers due course now names trace operation (Some error) → IsJudged answers due course now names trace operation (Some given)
judged_as same judged = record { pending = judged.pending; answered = judged.answered; is = judged.is ∙ ap Some same }

-- a line that is none, unless memory ran out
is_wrong : (error : CommandError) (text : List ℕ) → (error ≡ wrong.NoMemory) ⊎ (order_of text ≡ Err error) → error ≢ wrong.NoMemory → order_of text ≡ Err error
is_wrong error text (inl ran) other = absurd (other ran)
is_wrong error text (inr is) other = is

abbrev pub is_out_of_memory : CommandError → Bool
is_out_of_memory wrong.NoMemory = true
is_out_of_memory _ = false

pub wrong_said : (conv : ℕ) (error given : CommandError) (outcome : Outcome) (net after : Option Trace) → is_out_of_memory given ≡ false → error ≡ given →
    (outcome ≡ GoesOn) × TellsMore net after (sent conv (wrong_text given) ∷ []) → (error ≢ wrong.NoMemory) × (outcome ≡ GoesOn) × TellsMore net after (sent conv (wrong_text error) ∷ [])
wrong_said conv error given outcome net after never is (goes_on, tells) =
    let P : CommandError → Type 0 = λ e. TellsMore net after (sent conv (wrong_text e) ∷ []) in (
      (λ ran. let wrong_way : true ≡ false = sym (ap is_out_of_memory ran) ∙ (ap is_out_of_memory is ∙ never) in cc),
      goes_on,
      subst P (sym is) tells,
    )

-- what is so of a result at every point
pub if_ok_over : {S T E : Type 0} (result : Result T E) (P : Due → Course S → Trace → T → Type 0) (At : StandingFor S) (Q : T → Type 0) →
    ((t : T) → ((due : Due) (course : Course S) (trace : Trace) → At due course trace → P due course trace t) → Q t) →
    ((due : Due) (course : Course S) (trace : Trace) → At due course trace → IfOk result (P due course trace)) → IfOk result Q
if_ok_over (Ok t) P At Q on all = on t all
if_ok_over (Err e) P At Q on all = tt

-- what the router stood for it stands for then
pub sound_on : {S : Type 0} {answers : Answering S} {drops : List ℕ → S → S → Type 0} {Does : Doing S} {Before After : StandingFor S} {moment : ℕ} {old new : AnswererState S} {net after : Option Trace}
    {taken new_taken : List Flow} → GoesOver answers drops Does Before After moment old new net after taken new_taken → StandsAt Before moment → StandsAt After moment
sound_on g s = let a = g.adds s.due s.course s.trace s.stands s.at_moment in record { due = s.due; course = a.last.course; trace = a.last.trace; stands = a.stands; at_moment = a.at_moment }

module _ {C : Type 0} (standing : Standing C) (awaited : C → Option Ask) (number : C → ℕ) (made_due : C → List Move → List Command) {S : Type 0} (answers : Answering S) where
  pub rests : (now : AnswererState S) (table : Conversations C) (due : Due) (course : Course S) (trace : Trace) → TableStands standing awaited number made_due answers due course now table trace →
      Rests answers due course trace now
  rests now table due course trace s = record { served = s.served; pending = s.pending; answered = s.answered }

  pub kept_stands : (old new : AnswererState S) (table new_table : Conversations C) → new ≡ old → new_table ≡ table → (due : Due) (course : Course S) (trace : Trace) →
      TableStands standing awaited number made_due answers due course old table trace → TableStands standing awaited number made_due answers due course new new_table trace
  kept_stands old new table new_table same kept due course trace s =
      let P : AnswererState S → Type 0 = λ n. TableStands standing awaited number made_due answers due course n table trace in
      let Q : Conversations C → Type 0 = λ t. TableStands standing awaited number made_due answers due course new t trace in
      subst Q (sym kept) (subst P (sym same) s)

  pub tabled : (now : AnswererState S) (table : Conversations C) (moment : ℕ) → StandsAt (λ due course trace. TableStands standing awaited number made_due answers due course now table trace) moment →
      IsTabled standing awaited number made_due answers table
  tabled now table moment s = (s.due, s.course, now, s.trace, s.stands)

module _ {S : Type 0} {answers : Answering S} {drops : List ℕ → S → S → Type 0} {names : S → List (List ℕ)} where
  -- an operation was done
  pub goes_operated : {Before After : StandingFor S} {moment : ℕ} {old new : AnswererState S} {net after : Option Trace} {taken new_taken : List Flow} (operation : Operation) →
      ((due : Due) (course : Course S) (trace : Trace) → Before due course trace → IsNow moment trace → AddsSteps (After due (operated_on course trace operation old new)) operation trace net after) →
      ((due : Due) (course : Course S) (trace : Trace) → Before due course trace → IsJudged answers due course old (names old.own) trace operation None) →
      MovesBy answers drops operation old new → TakesAll net after taken new_taken →
      GoesOver answers drops (λ due first more last. Obeys answers drops names due (order.Act operation) first more (answer_text answer.Done) last) Before After moment old new net after taken new_taken
  goes_operated {Before} {After} {moment} {old} {new} {net} {after} {taken} {new_taken} operation adds done moves takes = record {
    adds = λ due course trace stands now.
        let a = adds due course trace stands now in
        let next : Point S = point (trace ++ a.more) (operated_on course trace operation old new) new in
        record {
          last = next;
          is_now = refl;
          more = a.more;
          does = operates (point trace course old) next operation a.more (done due course trace stands) a.own moves refl refl;
          stands = a.holds;
          at_moment = now_on moment trace a.more (any_tellable (caused_in operation) a.more a.own) now;
          tells = a.tells;
        };
    takes = takes;
    by = by_operation old new operation by_no_order moves;
  }

  -- it was refused
  pub goes_refused : {Before After : StandingFor S} {moment : ℕ} {old new : AnswererState S} {net after : Option Trace} {taken new_taken : List Flow} (operation : Operation) (error : OperateError) →
      ((due : Due) (course : Course S) (trace : Trace) → Before due course trace → IsJudged answers due course old (names old.own) trace operation (Some error)) →
      ((due : Due) (course : Course S) (trace : Trace) → Before due course trace → After due course trace) → new ≡ old → after ≡ net → new_taken ≡ taken →
      GoesOver answers drops (λ due first more last. Obeys answers drops names due (order.Act operation) first more (refused_text error) last) Before After moment old new net after taken new_taken
  goes_refused {Before} {After} {moment} {old} operation error why keeps same told held =
      goes_kept (λ due course trace stands. refuses (point trace course old) operation error (why due course trace stands)) keeps same told held

  -- memory ran out in it
  pub breaks_operated : {fails : Failing S} {Before : StandingFor S} {moment : ℕ} {old : AnswererState S} {files : FilesMeaning} {net after : Option Trace} (operation : Operation) →
      ((due : Due) (course : Course S) (trace told : Trace) → Before due course trace → IsNow moment trace → net ≡ Some told → BreaksOff answers fails due course operation trace told after files) →
      FilesAfter answers fails old files →
      BreaksOver answers fails drops (λ due first more trace course. BreaksOrder answers drops names due (order.Act operation) first more trace course) Before moment old files net after
  breaks_operated {fails} {Before} {moment} {old} {files} operation breaks behind = record {
    breaks = λ due course trace told stands now is.
        let b = breaks due course trace told stands now is in
        record {
          more = b.more;
          trace = trace ++ b.more;
          course = with_operation course trace operation;
          breaks = in_steps operation (point trace course old) b.more b.own;
          is = b.is;
          served = b.served;
          follows = b.follows;
          leaves = b.leaves;
        };
    after_orders = after_none fails old files behind;
  }

  -- its answer, as a text
  pub goes_texted : {Before After : StandingFor S} {moment : ℕ} {old new : AnswererState S} {net after : Option Trace} {taken new_taken : List Flow} (one : Order) (given text : List ℕ) → text ≡ given →
      GoesOver answers drops (λ due first more last. Obeys answers drops names due one first more given last) Before After moment old new net after taken new_taken →
      GoesOver answers drops (λ due first more last. Obeys answers drops names due one first more text last) Before After moment old new net after taken new_taken
  goes_texted one given text is g =
      goes_map (λ due first last more obeys. let P : List ℕ → Type 0 = λ t. Obeys answers drops names due one first more t last in subst P (sym is) obeys) g

  -- memory ran out where the answer was made
  pub breaks_untexted : {fails : Failing S} {Before After : StandingFor S} {moment : ℕ} {old new : AnswererState S} {net after : Option Trace} {taken new_taken : List Flow} (one : Order) (given : List ℕ) →
      ((due : Due) (course : Course S) (trace : Trace) → After due course trace → Rests answers due course trace new) →
      GoesOver answers drops (λ due first more last. Obeys answers drops names due one first more given last) Before After moment old new net after taken new_taken →
      BreaksOver answers fails drops (λ due first more trace course. BreaksOrder answers drops names due one first more trace course) Before moment old new.files net after
  breaks_untexted one given rests g = breaks_behind rests (λ due first last more obeys. not_said one first last more given obeys) g refl

  pub breaks_unbegun : {fails : Failing S} {At : StandingFor S} {moment : ℕ} {old : AnswererState S} {net : Option Trace} (one : Order) →
      ((due : Due) (course : Course S) (trace : Trace) → At due course trace → Rests answers due course trace old) →
      BreaksOver answers fails drops (λ due first more trace course. BreaksOrder answers drops names due one first more trace course) At moment old old.files net net
  breaks_unbegun one rests = breaks_none rests (λ due at. not_begun one at) refl

  pub goes_quit : {At : StandingFor S} {moment : ℕ} {old : AnswererState S} {net : Option Trace} {taken : List Flow} (text : List ℕ) → text ≡ answer_text answer.Bye →
      GoesOver answers drops (λ due first more last. Obeys answers drops names due order.Quit first more text last) At At moment old old net net taken taken
  goes_quit {old = old} text is = goes_texted order.Quit (answer_text answer.Bye) text is (goes_none (λ due course trace stands. quits (point trace course old)))

  list_obeyed : (due : Due) (at : Point S) (text : List ℕ) → IsListOf at.trace text → Obeys answers drops names due order.List at [] text at
  list_obeyed due at text l = let P : List ℕ → Type 0 = λ t. Obeys answers drops names due order.List at [] t at in subst P (sym l.is) (lists at l.list l.live)

  pub goes_listed : {At : StandingFor S} {moment : ℕ} {old : AnswererState S} {net : Option Trace} {taken : List Flow} (text : List ℕ) →
      ((due : Due) (course : Course S) (trace : Trace) → At due course trace → IsListOf trace text) →
      GoesOver answers drops (λ due first more last. Obeys answers drops names due order.List first more text last) At At moment old old net net taken taken
  goes_listed {old = old} text all = goes_none (λ due course trace stands. list_obeyed due (point trace course old) text (all due course trace stands))

  flow_obeyed : (due : Due) (at : Point S) (id : FlowId) (text : List ℕ) → IsShownOf answers due at.course at.trace show_text id text → Obeys answers drops names due (order.Show id) at [] text at
  flow_obeyed due at id text (is_shown flow live last is) = let P : List ℕ → Type 0 = λ t. Obeys answers drops names due (order.Show id) at [] t at in subst P (sym is) (shows at id flow live last)
  flow_obeyed due at id text (is_not_live none is) = let P : List ℕ → Type 0 = λ t. Obeys answers drops names due (order.Show id) at [] t at in subst P (sym is) (shows_none at id none)

  pub goes_shown : {At : StandingFor S} {moment : ℕ} {old : AnswererState S} {net : Option Trace} {taken : List Flow} (id : FlowId) (text : List ℕ) →
      ((due : Due) (course : Course S) (trace : Trace) → At due course trace → IsShownOf answers due course trace show_text id text) →
      GoesOver answers drops (λ due first more last. Obeys answers drops names due (order.Show id) first more text last) At At moment old old net net taken taken
  goes_shown {old = old} id text all = goes_none (λ due course trace stands. flow_obeyed due (point trace course old) id text (all due course trace stands))

  part_obeyed : (due : Due) (at : Point S) (id : FlowId) (from : ℕ) (text : List ℕ) → IsShownOf answers due at.course at.trace (entry_line from) id text → Obeys answers drops names due (order.Entry id from) at [] text at
  part_obeyed due at id from text (is_shown flow live last is) = let P : List ℕ → Type 0 = λ t. Obeys answers drops names due (order.Entry id from) at [] t at in subst P (sym is) (gives at id from flow live last)
  part_obeyed due at id from text (is_not_live none is) = let P : List ℕ → Type 0 = λ t. Obeys answers drops names due (order.Entry id from) at [] t at in subst P (sym is) (gives_none at id from none)

  pub goes_given : {At : StandingFor S} {moment : ℕ} {old : AnswererState S} {net : Option Trace} {taken : List Flow} (id : FlowId) (from : ℕ) (text : List ℕ) →
      ((due : Due) (course : Course S) (trace : Trace) → At due course trace → IsShownOf answers due course trace (entry_line from) id text) →
      GoesOver answers drops (λ due first more last. Obeys answers drops names due (order.Entry id from) first more text last) At At moment old old net net taken taken
  goes_given {old = old} id from text all = goes_none (λ due course trace stands. part_obeyed due (point trace course old) id from text (all due course trace stands))

  -- the order is this one
  pub goes_as : {Before After : StandingFor S} {moment : ℕ} {old new : AnswererState S} {net after : Option Trace} {taken new_taken : List Flow} (one given : Order) (text : List ℕ) → one ≡ given →
      GoesOver answers drops (λ due first more last. Obeys answers drops names due given first more text last) Before After moment old new net after taken new_taken →
      GoesOver answers drops (λ due first more last. Obeys answers drops names due one first more text last) Before After moment old new net after taken new_taken
  goes_as one given text is g =
      goes_map (λ due first last more obeys. let P : Order → Type 0 = λ o. Obeys answers drops names due o first more text last in subst P (sym is) obeys) g

  pub breaks_as : {fails : Failing S} {Before : StandingFor S} {moment : ℕ} {old : AnswererState S} {files : FilesMeaning} {net after : Option Trace} (one given : Order) → one ≡ given →
      BreaksOver answers fails drops (λ due first more trace course. BreaksOrder answers drops names due given first more trace course) Before moment old files net after →
      BreaksOver answers fails drops (λ due first more trace course. BreaksOrder answers drops names due one first more trace course) Before moment old files net after
  breaks_as one given is h =
      breaks_map (λ due first more trace course b. let P : Order → Type 0 = λ o. BreaksOrder answers drops names due o first more trace course in subst P (sym is) b) h

  -- the line is this one
  pub goes_line : {Before After : StandingFor S} {moment : ℕ} {old new : AnswererState S} {net after : Option Trace} {taken new_taken : List Flow} (conv : ℕ) (one given : Line) (outcome : Outcome) → one ≡ given →
      GoesOver answers drops (λ due first more last. ObeysLine answers drops names due conv given first more last outcome) Before After moment old new net after taken new_taken →
      GoesOver answers drops (λ due first more last. ObeysLine answers drops names due conv one first more last outcome) Before After moment old new net after taken new_taken
  goes_line conv one given outcome is g =
      goes_map (λ due first last more obeys. let P : Line → Type 0 = λ l. ObeysLine answers drops names due conv l first more last outcome in subst P (sym is) obeys) g

  pub breaks_line : {fails : Failing S} {Before : StandingFor S} {moment : ℕ} {old : AnswererState S} {files : FilesMeaning} {net after : Option Trace} (conv : ℕ) (one given : Line) → one ≡ given →
      BreaksOver answers fails drops (λ due first more trace course. BreaksLine answers drops names due conv given first more trace course) Before moment old files net after →
      BreaksOver answers fails drops (λ due first more trace course. BreaksLine answers drops names due conv one first more trace course) Before moment old files net after
  breaks_line conv one given is h =
      breaks_map (λ due first more trace course b. let P : Line → Type 0 = λ l. BreaksLine answers drops names due conv l first more trace course in subst P (sym is) b) h

  -- its answer was said
  pub goes_answered : {Before After : StandingFor S} {moment : ℕ} {old new : AnswererState S} {net between after : Option Trace} {taken new_taken : List Flow} (conv : ℕ) (one : Order) (text : List ℕ) (outcome : Outcome) →
      outcome ≡ outcome_of one →
      GoesOver answers drops (λ due first more last. Obeys answers drops names due one first more text last) Before After moment old new net between taken new_taken →
      TellsMore between after (sent conv text ∷ []) →
      GoesOver answers drops (λ due first more last. AnswersOrder answers drops names due conv one first more last outcome) Before After moment old new net after taken new_taken
  goes_answered conv one text outcome is g tells = goes_said (sent conv text ∷ []) refl
      (λ due first last more obeys. record { caused = more; given = text; obeys = obeys; all = refl; outcome_is = is }) g tells

  pub breaks_unanswered : {fails : Failing S} {Before After : StandingFor S} {moment : ℕ} {old new : AnswererState S} {net between after : Option Trace} {taken new_taken : List Flow} (one : Order) (text : List ℕ) →
      ((due : Due) (course : Course S) (trace : Trace) → After due course trace → Rests answers due course trace new) →
      GoesOver answers drops (λ due first more last. Obeys answers drops names due one first more text last) Before After moment old new net between taken new_taken → after ≡ between →
      BreaksOver answers fails drops (λ due first more trace course. BreaksOrder answers drops names due one first more trace course) Before moment old new.files net after
  breaks_unanswered one text rests g same = breaks_behind rests (λ due first last more obeys. not_said one first last more text obeys) g same

  -- a line is an order
  line_answered : (due : Due) (conv : ℕ) (text : List ℕ) (one : Order) (first last : Point S) (more : List Step) (outcome : Outcome) → order_of text ≡ Ok one →
      AnswersOrder answers drops names due conv one first more last outcome → ObeysLine answers drops names due conv (line.Text text) first more last outcome
  line_answered due conv text one first last more outcome is a =
      let P : List Step → Type 0 = λ m. ObeysLine answers drops names due conv (line.Text text) first m last outcome in
      let Q : Outcome → Type 0 = λ o. ObeysLine answers drops names due conv (line.Text text) first (a.caused ++ sent conv a.given ∷ []) last o in
      subst P (sym a.all) (subst Q (sym a.outcome_is) (by_order text one first last a.caused a.given is a.obeys))

  pub goes_ordered : {Before After : StandingFor S} {moment : ℕ} {old new : AnswererState S} {net after : Option Trace} {taken new_taken : List Flow} (conv : ℕ) (text : List ℕ) (one : Order) (outcome : Outcome) →
      order_of text ≡ Ok one →
      GoesOver answers drops (λ due first more last. AnswersOrder answers drops names due conv one first more last outcome) Before After moment old new net after taken new_taken →
      GoesOver answers drops (λ due first more last. ObeysLine answers drops names due conv (line.Text text) first more last outcome) Before After moment old new net after taken new_taken
  goes_ordered conv text one outcome is g = goes_map (λ due first last more a. line_answered due conv text one first last more outcome is a) g

  line_broken : (due : Due) (conv : ℕ) (text : List ℕ) (one : Order) (first : Point S) (more : List Step) (trace : Trace) (course : Course S) → order_of text ≡ Ok one →
      BreaksOrder answers drops names due one first more trace course → BreaksLine answers drops names due conv (line.Text text) first more trace course
  line_broken due conv text one first more trace course is (not_begun other at) = none_told (line.Text text) first
  line_broken due conv text one first more trace course is (in_steps operation at caused own) = in_operation text operation first more is own
  line_broken due conv text one first more trace course is (not_said other at next caused given obeys) = not_answered text one first next more given is obeys

  pub breaks_ordered : {fails : Failing S} {Before : StandingFor S} {moment : ℕ} {old : AnswererState S} {files : FilesMeaning} {net after : Option Trace} (conv : ℕ) (text : List ℕ) (one : Order) → order_of text ≡ Ok one →
      BreaksOver answers fails drops (λ due first more trace course. BreaksOrder answers drops names due one first more trace course) Before moment old files net after →
      BreaksOver answers fails drops (λ due first more trace course. BreaksLine answers drops names due conv (line.Text text) first more trace course) Before moment old files net after
  breaks_ordered conv text one is h = breaks_map (λ due first more trace course b. line_broken due conv text one first more trace course is b) h

  -- a line is none
  pub goes_wrong : {At : StandingFor S} {moment : ℕ} {old : AnswererState S} {net after : Option Trace} {taken : List Flow} (conv : ℕ) (text : List ℕ) (error : CommandError) (outcome : Outcome) →
      (error ≡ wrong.NoMemory) ⊎ (order_of text ≡ Err error) → (error ≢ wrong.NoMemory) × (outcome ≡ GoesOn) × TellsMore net after (sent conv (wrong_text error) ∷ []) →
      GoesOver answers drops (λ due first more last. ObeysLine answers drops names due conv (line.Text text) first more last outcome) At At moment old old net after taken taken
  goes_wrong {At} {moment} {old} {net} {after} {taken} conv text error outcome why (other, is, tells) =
      let Does : Doing S = λ due first more last. (more ≡ []) × (last ≡ first) in
      let g : GoesOver answers drops Does At At moment old old net net taken taken = goes_none (λ due course trace stands. (refl, refl)) in
      let P : Outcome → Type 0 = λ o. GoesOver answers drops (λ due first more last. ObeysLine answers drops names due conv (line.Text text) first more last o) At At moment old old net after taken taken in
      subst P (sym is) (goes_said (sent conv (wrong_text error) ∷ []) refl
      (λ due first last more e.
      let Q : List Step → Type 0 = λ m. ObeysLine answers drops names due conv (line.Text text) first (m ++ sent conv (wrong_text error) ∷ []) last GoesOn in
      let R : Point S → Type 0 = λ l. ObeysLine answers drops names due conv (line.Text text) first (sent conv (wrong_text error) ∷ []) l GoesOn in
      subst Q (sym e.0) (subst R (sym e.1) (no_order text error first (is_wrong error text why other)))) g tells)

  pub breaks_untold : {fails : Failing S} {At : StandingFor S} {moment : ℕ} {old : AnswererState S} {net after : Option Trace} (conv : ℕ) (one : Line) →
      ((due : Due) (course : Course S) (trace : Trace) → At due course trace → Rests answers due course trace old) → after ≡ net →
      BreaksOver answers fails drops (λ due first more trace course. BreaksLine answers drops names due conv one first more trace course) At moment old old.files net after
  breaks_untold conv one rests same = breaks_none rests (λ due at. none_told one at) same

  -- a line is too long
  pub goes_long : {At : StandingFor S} {moment : ℕ} {old : AnswererState S} {net after : Option Trace} {taken : List Flow} (conv : ℕ) (outcome : Outcome) →
      (outcome ≡ Leaves) × TellsMore net after (long_steps conv) →
      GoesOver answers drops (λ due first more last. ObeysLine answers drops names due conv line.TooLong first more last outcome) At At moment old old net after taken taken
  goes_long {At} {moment} {old} {net} {after} {taken} conv outcome (is, tells) =
      let Does : Doing S = λ due first more last. (more ≡ []) × (last ≡ first) in
      let g : GoesOver answers drops Does At At moment old old net net taken taken = goes_none (λ due course trace stands. (refl, refl)) in
      let P : Outcome → Type 0 = λ o. GoesOver answers drops (λ due first more last. ObeysLine answers drops names due conv line.TooLong first more last o) At At moment old old net after taken taken in
      subst P (sym is) (goes_said (long_steps conv) refl
      (λ due first last more e.
      let Q : List Step → Type 0 = λ m. ObeysLine answers drops names due conv line.TooLong first (m ++ long_steps conv) last Leaves in
      let R : Point S → Type 0 = λ l. ObeysLine answers drops names due conv line.TooLong first (long_steps conv) l Leaves in
      subst Q (sym e.0) (subst R (sym e.1) (too_long first))) g tells)

  pub breaks_long : {fails : Failing S} {At : StandingFor S} {moment : ℕ} {old : AnswererState S} {net after : Option Trace} (conv : ℕ) →
      ((due : Due) (course : Course S) (trace : Trace) → At due course trace → Rests answers due course trace old) →
      TellsSome net after (sent conv (answer_text answer.LineTooLong) ∷ []) →
      BreaksOver answers fails drops (λ due first more trace course. BreaksLine answers drops names due conv line.TooLong first more trace course) At moment old old.files net after
  breaks_long conv rests (inl same) = breaks_none rests (λ due at. none_told line.TooLong at) same
  breaks_long {fails} {At} {moment} {old} {net} {after} conv rests (inr tells) =
      let spoken : List Step = sent conv (answer_text answer.LineTooLong) ∷ [] in
      let Does : Doing S = λ due first more last. (more ≡ []) × (last ≡ first) in
      let g : GoesOver answers drops Does At At moment old old net net [] [] = goes_none (λ due course trace stands. (refl, refl)) in
      let Said : Doing S = λ due first more last. BreaksLine answers drops names due conv line.TooLong first more last.trace last.course in
      let h : GoesOver answers drops Said At At moment old old net after [] [] = goes_said spoken refl
      (λ due first last more e.
      let Q : List Step → Type 0 = λ m. BreaksLine answers drops names due conv line.TooLong first (m ++ spoken) last.trace last.course in
      let R : Point S → Type 0 = λ l. BreaksLine answers drops names due conv line.TooLong first spoken l.trace l.course in
      subst Q (sym e.0) (subst R (sym e.1) (not_closed first))) g tells in
      breaks_behind rests (λ due first last more is. is) h refl
