-- What an operator's lines do to flows and addons, and what they are answered.
--
-- Lines are obeyed one behind the other. What a line is answered hangs on the steps of conversations in front of it, to which those belong that the lines
-- before it caused; and its answer stands behind the steps that it causes itself.
use Rattle.std.specs.Prelude.{◌≡◌, ◌≢◌, ℕ, true, false, List, [], ◌∷◌, ◌++◌, Option, Some, None, Ok, Err}
use Rattle.std.specs.List.{flat_map}
use Rattle.px_message.specs.declared.flow.Flow.{Flow}
use Rattle.px_message.specs.declared.flow.FlowId.{FlowId}
use Rattle.px_event.specs.declared.ask.Hook.{Hook}
use Rattle.px_event.specs.declared.said.Said.TheVariants as said
use Rattle.px_event.specs.declared.side.Side.TheVariants.{Client}
use Rattle.px_event.specs.declared.step.Step.{Step}
use Rattle.px_event.specs.declared.step.Step.TheVariants as steps
use Rattle.px_event.specs.Trace.{Trace}
use Rattle.px_core.specs.declared.operation.OperateError.{OperateError}
use Rattle.px_core.specs.declared.operation.OperateError.TheVariants as refused
use Rattle.px_core.specs.declared.operation.Operation.{Operation}
use Rattle.px_core.specs.Answers.{Answering, AnswererState, Failing, FilesAfter, FilesMeaning}
use Rattle.px_core.specs.Course.{Course, with_operation}
use Rattle.px_core.specs.Due.{Due}
use Rattle.px_core.specs.Live.{AreLive, IsLastAsked, is_live}
use Rattle.px_core.specs.Router.{AllOfAny, IsJudged, IsNow, MovesBy, caused_in, operated_on}
use Rattle.px_view.specs.declared.answer.OperatorAnswer.{OperatorAnswer}
use Rattle.px_view.specs.declared.answer.OperatorAnswer.TheVariants as answer
use Rattle.px_view.specs.declared.command.CommandError.{CommandError}
use Rattle.px_view.specs.declared.command.CommandError.TheVariants as wrong
use Rattle.px_view.specs.declared.command.Order.{Order}
use Rattle.px_view.specs.declared.command.Order.TheVariants as order
use Rattle.px_view.specs.declared.desk.Line.{Line}
use Rattle.px_view.specs.declared.desk.Line.TheVariants as line
use Rattle.px_view.specs.Answers.{answer_text}
use Rattle.px_view.specs.Commands.{order_of}
use Rattle.px_view.specs.Entry.{entry_line}
use Rattle.px_view.specs.Show.{show_text}
use Rattle.px_obey.specs.declared.outcome.Outcome.{Outcome}
use Rattle.px_obey.specs.declared.outcome.Outcome.TheVariants.{GoesOn, Leaves, Quits}

-- the steps of conversations so far, and the course by which the answerer came over them to what it is now
pub record Point (S : Type 0) : Type 0 where
  pub trace : Trace
  pub course : Course S
  pub now : AnswererState S

abbrev pub point : {S : Type 0} → Trace → Course S → AnswererState S → Point S
point trace course now = record { trace = trace; course = course; now = now }

-- how a live flow stands in a list
abbrev pub state_answer : FlowId × Option Hook → OperatorAnswer
state_answer (id, None) = answer.Going id
state_answer (id, Some hook) = answer.Waiting id

abbrev pub state_text : FlowId × Option Hook → List ℕ
state_text one = answer_text (state_answer one)

-- the lines of live flows, with the line of the end
abbrev pub list_text : List (FlowId × Option Hook) → List ℕ
list_text list = flat_map state_text list ++ answer_text answer.End

-- what an operation that is refused is answered; out of memory is no refusal
abbrev pub refused_text : OperateError → List ℕ
refused_text refused.NoSuchFlow = answer_text answer.NoSuchFlow
refused_text refused.NotWaiting = answer_text answer.NotWaiting
refused_text refused.NotThere = answer_text answer.NotThere
refused_text refused.BadValue = answer_text answer.BadValue
refused_text refused.NoSuchAddon = answer_text answer.NoSuchAddon
refused_text refused.NoMemory = []

-- what a line that is no order is answered
abbrev pub wrong_text : CommandError → List ℕ
wrong_text wrong.UnknownCommand = answer_text answer.UnknownCommand
wrong_text wrong.BadNumber = answer_text answer.BadNumber
wrong_text wrong.NoMemory = []

-- what becomes of the connection behind an order
abbrev pub outcome_of : Order → Outcome
outcome_of order.Quit = Quits
outcome_of _ = GoesOn

-- the text is sent to the operator of this connection
abbrev pub sent : ℕ → List ℕ → Step
sent conv text = steps.Said conv (said.Send Client text)

-- the connection is closed
abbrev pub closed : ℕ → Step
closed conv = steps.Said conv (said.Close Client)

module _ {S : Type 0} (answers : Answering S) (drops : List ℕ → S → S → Type 0) (names : S → List (List ℕ)) (due : Due) where
  -- An order is obeyed: from where to where, the steps that it causes, and its answer.
  pub data Obeys : Order → Point S → List Step → List ℕ → Point S → Type 0 where
    lists : (at : Point S) (list : List (FlowId × Option Hook)) → AreLive at.trace list → Obeys order.List at [] (list_text list) at
    shows : (at : Point S) (id : FlowId) (flow : Flow) → is_live id at.trace ≡ true → IsLastAsked answers due at.course at.trace id flow → Obeys (order.Show id) at [] (show_text flow) at
    shows_none : (at : Point S) (id : FlowId) → is_live id at.trace ≡ false → Obeys (order.Show id) at [] (answer_text answer.NoSuchFlow) at
    gives : (at : Point S) (id : FlowId) (from : ℕ) (flow : Flow) → is_live id at.trace ≡ true → IsLastAsked answers due at.course at.trace id flow → Obeys (order.Entry id from) at [] (entry_line from flow) at
    gives_none : (at : Point S) (id : FlowId) (from : ℕ) → is_live id at.trace ≡ false → Obeys (order.Entry id from) at [] (answer_text answer.NoSuchFlow) at
    operates : (at next : Point S) (operation : Operation) (caused : List Step) → IsJudged answers due at.course at.now (names at.now.own) at.trace operation None → AllOfAny (caused_in operation) caused →
        MovesBy answers drops operation at.now next.now → next.trace ≡ at.trace ++ caused → next.course ≡ operated_on at.course at.trace operation at.now next.now →
        Obeys (order.Act operation) at caused (answer_text answer.Done) next
    refuses : (at : Point S) (operation : Operation) (error : OperateError) → IsJudged answers due at.course at.now (names at.now.own) at.trace operation (Some error) → Obeys (order.Act operation) at [] (refused_text error) at
    quits : (at : Point S) → Obeys order.Quit at [] (answer_text answer.Bye) at

  module _ (conv : ℕ) where
    -- A line is obeyed: what the network is told of it, and what becomes of the connection. A line that is too long is answered, and the connection closed.
    pub data ObeysLine : Line → Point S → List Step → Point S → Outcome → Type 0 where
      by_order : (text : List ℕ) (one : Order) (at next : Point S) (caused : List Step) (given : List ℕ) → order_of text ≡ Ok one → Obeys one at caused given next →
          ObeysLine (line.Text text) at (caused ++ sent conv given ∷ []) next (outcome_of one)
      no_order : (text : List ℕ) (error : CommandError) (at : Point S) → order_of text ≡ Err error → ObeysLine (line.Text text) at (sent conv (wrong_text error) ∷ []) at GoesOn
      too_long : (at : Point S) → ObeysLine line.TooLong at (sent conv (answer_text answer.LineTooLong) ∷ closed conv ∷ []) at Leaves

    -- Lines are obeyed in their order, and behind each the next one is.
    pub data ObeysAll (first : Point S) : List Line → List Step → Point S → Type 0 where
      none_obeyed : ObeysAll first [] [] first
      one_obeyed : (lines next_lines : List Line) (told next_told more : List Step) (one : Line) (at next : Point S) → ObeysAll first lines told at → ObeysLine one at more next GoesOn →
          next_lines ≡ lines ++ one ∷ [] → next_told ≡ told ++ more → ObeysAll first next_lines next_told next

    -- Lines are obeyed up to the first behind which no other is: one that is too long, or that ends the run.
    pub data ObeysLines (first : Point S) (lines : List Line) : List Step → Point S → Outcome → Type 0 where
      all_obeyed : (told : List Step) (last : Point S) → ObeysAll first lines told last → ObeysLines first lines told last GoesOn
      ended_at : (front rest : List Line) (one : Line) (told more next_told : List Step) (at last : Point S) (outcome : Outcome) → lines ≡ front ++ one ∷ rest → ObeysAll first front told at →
          ObeysLine one at more last outcome → outcome ≢ GoesOn → next_told ≡ told ++ more → ObeysLines first lines next_told last outcome

    -- What was told of a line in which memory ran out: nothing; steps of its operation; all of them, but not the answer; or the answer without the close.
    pub data BreaksLine : Line → Point S → List Step → Trace → Course S → Type 0 where
      none_told : (one : Line) (at : Point S) → BreaksLine one at [] at.trace at.course
      in_operation : (text : List ℕ) (operation : Operation) (at : Point S) (caused : List Step) → order_of text ≡ Ok (order.Act operation) → AllOfAny (caused_in operation) caused →
          BreaksLine (line.Text text) at caused (at.trace ++ caused) (with_operation at.course at.trace operation)
      not_answered : (text : List ℕ) (one : Order) (at next : Point S) (caused : List Step) (given : List ℕ) → order_of text ≡ Ok one → Obeys one at caused given next →
          BreaksLine (line.Text text) at caused next.trace next.course
      not_closed : (at : Point S) → BreaksLine line.TooLong at (sent conv (answer_text answer.LineTooLong) ∷ []) at.trace at.course

    -- Lines of which the first are obeyed, and in whose next memory ran out.
    pub record BreaksLines (first : Point S) (lines : List Line) (told : List Step) (trace : Trace) (course : Course S) : Type 0 where
      pub front : List Line
      pub one : Line
      pub rest : List Line
      pub split : lines ≡ front ++ one ∷ rest
      pub front_told : List Step
      pub at : Point S
      pub obeyed : ObeysAll first front front_told at
      pub more : List Step
      pub breaks : BreaksLine one at more trace course
      pub all : told ≡ front_told ++ more

-- Answers, and addons that are taken away, one behind the other, each from the state and the files that the one before left.
pub data ByOrders {S : Type 0} (answers : Answering S) (drops : List ℕ → S → S → Type 0) (first : AnswererState S) : AnswererState S → Type 0 where
  by_no_order : ByOrders answers drops first first
  by_operation : (old new : AnswererState S) (operation : Operation) → ByOrders answers drops first old → MovesBy answers drops operation old new → ByOrders answers drops first new

-- What files mean behind them: all were made, or memory ran out in the answers of the last.
pub record FilesAfterOrders {S : Type 0} (answers : Answering S) (fails : Failing S) (drops : List ℕ → S → S → Type 0) (first : AnswererState S) (files : FilesMeaning) : Type 0 where
  pub last : AnswererState S
  pub by : ByOrders answers drops first last
  pub after : FilesAfter answers fails last files

-- A router stands for some trace, by what the answerer is and files mean now, and this was the moment of what was heard last.
pub record StandsAt {S : Type 0} (Stands : Due → Course S → Trace → Type 0) (moment : ℕ) : Type 0 where
  pub due : Due
  pub course : Course S
  pub trace : Trace
  pub stands : Stands due course trace
  pub at_moment : IsNow moment trace
