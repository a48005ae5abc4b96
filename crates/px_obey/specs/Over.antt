-- What a call over a router and a network comes to: what was done at the point where it began, or what was told of it when memory ran out.
--
-- Each is over what was done (`Does`, `Breaks`), by the due of the conversations, and over what the router stands for before and after.
use Rattle.std.specs.Prelude.{◌≡◌, ◌⊎◌, ℕ, true, false, List, [], ◌∷◌, ◌++◌, Option, Some}
use Rattle.std.specs.List.{flat_map}
use Rattle.px_message.specs.declared.flow.Flow.{Flow}
use Rattle.px_message.specs.declared.flow.FlowId.{FlowId}
use Rattle.px_event.specs.declared.ask.Hook.{Hook}
use Rattle.px_event.specs.declared.step.Step.{Step}
use Rattle.px_event.specs.Trace.{Trace}
use Rattle.px_core.specs.Answered.{Answers, IsAnswered, LeavesFiles, Pending}
use Rattle.px_core.specs.Answers.{Answering, AnswererState, Failing, FilesMeaning}
use Rattle.px_core.specs.Course.{Course, with_operation}
use Rattle.px_core.specs.Due.{Due, IsServed}
use Rattle.px_core.specs.Live.{AreLive, IsLastAsked, is_live}
use Rattle.px_core.specs.Router.{AllOfAny, IsNow, caused_in}
use Rattle.px_core.specs.Run.{done_of, Tells}
use Rattle.px_core.specs.declared.operation.Operation.{Operation}
use Rattle.px_view.specs.declared.answer.OperatorAnswer.TheVariants as answer
use Rattle.px_view.specs.declared.command.Order.{Order}
use Rattle.px_view.specs.declared.desk.Line.{Line}
use Rattle.px_view.specs.declared.command.Order.TheVariants as order
use Rattle.px_view.specs.Answers.{answer_text}
use Rattle.px_obey.specs.declared.outcome.Outcome.{Outcome}
use Rattle.px_obey.specs.Obeyed.{BreaksLines, ByOrders, FilesAfterOrders, Obeys, ObeysLines, Point, closed, list_text, outcome_of, point, sent}

-- what is done from where to where, with the steps that are told of it
abbrev pub Doing : Type 0 → Type 1
Doing S = Due → Point S → List Step → Point S → Type 0

-- what was told of it from where on, when memory ran out, and over which trace of conversations the answerer came by which course
abbrev pub Breaking : Type 0 → Type 1
Breaking S = Due → Point S → List Step → Trace → Course S → Type 0

-- what a router stands for
abbrev pub StandingFor : Type 0 → Type 1
StandingFor S = Due → Course S → Trace → Type 0

-- It was done: the router stands for what it leads to, by the answerer as it is now, at the same moment; and where the network tells its steps, it tells these too.
pub record Adds {S : Type 0} (Does : Point S → List Step → Point S → Type 0) (Stands : Course S → Trace → Type 0) (moment : ℕ) (first : Point S) (now : AnswererState S) (before after : Option Trace) : Type 0 where
  pub last : Point S
  pub is_now : last.now ≡ now
  pub more : List Step
  pub does : Does first more last
  pub stands : Stands last.course last.trace
  pub at_moment : IsNow moment last.trace
  pub tells : (told : Trace) → before ≡ Some told → after ≡ Some (told ++ more)

-- Memory ran out in it: the trace of conversations with what was told is served, and the answerer came over it by the course.
pub record Breaks {S : Type 0} (answers : Answering S) (fails : Failing S) (due : Due) (Stops : Point S → List Step → Trace → Course S → Type 0) (first : Point S) (told : Trace) (now : Option Trace)
    (files : FilesMeaning) : Type 0 where
  pub more : List Step
  pub trace : Trace
  pub course : Course S
  pub breaks : Stops first more trace course
  pub is : now ≡ Some (told ++ more)
  pub served : IsServed answers due trace
  pub follows : IsAnswered answers due course trace
  pub leaves : LeavesFiles answers fails due course ⊥ files trace

-- the flows that the network's steps finish were taken, where they were before
abbrev pub TakesAll : Option Trace → Option Trace → List Flow → List Flow → Type 0
TakesAll before after taken new_taken = (trace : Trace) → before ≡ Some trace → taken ≡ flat_map done_of trace → Tells (λ told. new_taken ≡ flat_map done_of told) trace after

-- it was done, whatever the router stood for
pub record GoesOver {S : Type 0} (answers : Answering S) (drops : List ℕ → S → S → Type 0) (Does : Doing S) (Before After : StandingFor S) (moment : ℕ) (old new : AnswererState S)
    (before after : Option Trace) (taken new_taken : List Flow) : Type 0 where
  pub adds : (due : Due) (course : Course S) (trace : Trace) → Before due course trace → IsNow moment trace → Adds (Does due) (After due) moment (point trace course old) new before after
  pub takes : TakesAll before after taken new_taken
  pub by : ByOrders answers drops old new

-- memory ran out in it, whatever the router stood for
pub record BreaksOver {S : Type 0} (answers : Answering S) (fails : Failing S) (drops : List ℕ → S → S → Type 0) (Stops : Breaking S) (Before : StandingFor S) (moment : ℕ) (old : AnswererState S)
    (files : FilesMeaning) (before after : Option Trace) : Type 0 where
  pub breaks : (due : Due) (course : Course S) (trace told : Trace) → Before due course trace → IsNow moment trace → before ≡ Some told →
      Breaks answers fails due (Stops due) (point trace course old) told after files
  pub after_orders : FilesAfterOrders answers fails drops old files

-- what a router that stands for a trace says of the answerer there
pub record Rests {S : Type 0} (answers : Answering S) (due : Due) (course : Course S) (trace : Trace) (now : AnswererState S) : Type 0 where
  pub served : IsServed answers due trace
  pub pending : Pending
  pub answered : Answers answers due course trace now pending

-- What was told of an order in which memory ran out: nothing; steps of its operation; or all of them, but not the answer.
pub data BreaksOrder {S : Type 0} (answers : Answering S) (drops : List ℕ → S → S → Type 0) (names : S → List (List ℕ)) (due : Due) : Order → Point S → List Step → Trace → Course S → Type 0 where
  not_begun : (one : Order) (at : Point S) → BreaksOrder answers drops names due one at [] at.trace at.course
  in_steps : (operation : Operation) (at : Point S) (caused : List Step) → AllOfAny (caused_in operation) caused →
      BreaksOrder answers drops names due (order.Act operation) at caused (at.trace ++ caused) (with_operation at.course at.trace operation)
  not_said : (one : Order) (at next : Point S) (caused : List Step) (given : List ℕ) → Obeys answers drops names due one at caused given next →
      BreaksOrder answers drops names due one at caused next.trace next.course

-- these are the lines of the live flows of the trace
pub record IsListOf (trace : Trace) (text : List ℕ) : Type 0 where
  pub list : List (FlowId × Option Hook)
  pub live : AreLive trace list
  pub is : text ≡ list_text list

-- this is what is told of the flow, as it was asked about last
pub data IsShownOf {S : Type 0} (answers : Answering S) (due : Due) (course : Course S) (trace : Trace) (telling : Flow → List ℕ) (id : FlowId) (text : List ℕ) : Type 0 where
  is_shown : (flow : Flow) → is_live id trace ≡ true → IsLastAsked answers due course trace id flow → text ≡ telling flow → IsShownOf answers due course trace telling id text
  is_not_live : is_live id trace ≡ false → text ≡ answer_text answer.NoSuchFlow → IsShownOf answers due course trace telling id text

-- An order was obeyed and answered.
pub record AnswersOrder {S : Type 0} (answers : Answering S) (drops : List ℕ → S → S → Type 0) (names : S → List (List ℕ)) (due : Due) (conv : ℕ) (one : Order) (first : Point S) (more : List Step) (last : Point S)
    (outcome : Outcome) : Type 0 where
  pub caused : List Step
  pub given : List ℕ
  pub obeys : Obeys answers drops names due one first caused given last
  pub all : more ≡ caused ++ sent conv given ∷ []
  pub outcome_is : outcome ≡ outcome_of one

-- the network tells these steps more, where it tells its steps
abbrev pub TellsMore : Option Trace → Option Trace → List Step → Type 0
TellsMore before after more = (told : Trace) → before ≡ Some told → after ≡ Some (told ++ more)

-- what the operator of a line that is too long is told
abbrev pub long_steps : ℕ → List Step
long_steps conv = sent conv (answer_text answer.LineTooLong) ∷ closed conv ∷ []

-- the network tells nothing more, or these steps
abbrev pub TellsSome : Option Trace → Option Trace → List Step → Type 0
TellsSome before after more = (after ≡ before) ⊎ TellsMore before after more

-- lines were obeyed over a router, or memory ran out in them
abbrev pub AddsAnswers : {S : Type 0} → Answering S → (List ℕ → S → S → Type 0) → (S → List (List ℕ)) → Due → (Course S → Trace → Type 0) → ℕ → ℕ → List Line → Point S → AnswererState S → Outcome → Option Trace → Option Trace → Type 0
AddsAnswers answers drops names due Stands moment conv lines first now outcome =
    Adds (λ from more last. ObeysLines answers drops names due conv from lines more last outcome) Stands moment first now

abbrev pub BreaksAnswers : {S : Type 0} → Answering S → Failing S → (List ℕ → S → S → Type 0) → (S → List (List ℕ)) → Due → ℕ → List Line → Point S → Trace → Option Trace → FilesMeaning → Type 0
BreaksAnswers answers fails drops names due conv lines =
    Breaks answers fails due (λ from more trace course. BreaksLines answers drops names due conv from lines more trace course)
