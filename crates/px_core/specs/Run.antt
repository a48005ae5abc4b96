-- What a call that works off one thing heard tells.
use Rattle.std.specs.Prelude.{◌≡◌, ◌≢◌, ℕ, nat_lt, if◌then◌else◌, List, [], ◌∷◌, ◌++◌, Option, Some, None}
use Rattle.std.specs.List.{flat_map}
use Rattle.px_text.specs.Prefix.{IsPrefixOf}
use Rattle.px_message.specs.declared.address.Address.{Address}
use Rattle.px_message.specs.declared.flow.Flow.{Flow}
use Rattle.px_event.specs.declared.heard.Heard.{Heard}
use Rattle.px_event.specs.declared.heard.Heard.TheVariants as heard
use Rattle.px_event.specs.declared.side.Door.TheVariants.{Proxy}
use Rattle.px_event.specs.declared.step.Step.{Step}
use Rattle.px_event.specs.declared.step.Step.TheVariants as steps
use Rattle.px_event.specs.Layer.{Move}
use Rattle.px_event.specs.Trace.{Trace}
use Rattle.px_core.specs.declared.news.News.{News}
use Rattle.px_core.specs.declared.router.Router.{Router}
use Rattle.px_core.specs.Calls.{number_end, addressed}
use Rattle.px_core.specs.Answered.{IsAnswered, LeavesFiles}
use Rattle.px_core.specs.Answers.{Answering, Failing, FilesMeaning}
use Rattle.px_core.specs.Course.{Course, with_operation}
use Rattle.px_core.specs.Due.{Due, IsServed}
use Rattle.px_core.specs.Held.{AllOf}
use Rattle.px_core.specs.Router.{AllOfAny, caused_in, found}
use Rattle.px_core.specs.declared.operation.Operation.{Operation}

-- the maker means this due
abbrev pub IsDueOf : Due → Due → Type 0
IsDueOf made due = (conv : ℕ) (peer : Option Address) (moves : List Move) → made conv peer moves ≡ due conv peer moves

-- the trace is told with more steps, and the fact holds of it
pub record Tells (P : Trace → Type 0) (trace : Trace) (told : Option Trace) : Type 0 where
  pub more : Trace
  pub is : told ≡ Some (trace ++ more)
  pub holds : P (trace ++ more)

-- a step that is said or noted
abbrev pub IsTellable : Step → Type 0
IsTellable (steps.Heard moment what) = ⊥
IsTellable _ = Unit {0}

abbrev pub AllTellable : List Step → Type 0
AllTellable [] = Unit {0}
AllTellable (step ∷ rest) = IsTellable step × AllTellable rest

-- the number of the conversation that begins with what was heard
abbrev pub begun_by : Heard → Option ℕ
begun_by (heard.Accepted conv Proxy peer) = if nat_lt conv number_end then Some conv else None
begun_by _ = None

-- the flow that a step finishes
abbrev pub done_of : Step → List Flow
done_of (steps.Done flow) = flow ∷ []
done_of _ = []

-- some of these steps were told, as far as memory sufficed, and of the flows that those finish some were handed on
pub record ToldPart (list : List Step) (trace : Trace) (told : Option Trace) (before after : List Flow) : Type 0 where
  pub given : List Step
  pub prefix : IsPrefixOf given list
  pub is : told ≡ Some (trace ++ given)
  pub taken : List Flow
  pub handed : IsPrefixOf taken (flat_map done_of given)
  pub grown : after ≡ before ++ taken

-- These steps are of the conversation that was heard alone; where what was heard is no conversation's, there are none.
pub record IsOfHeard (what : Heard) (list : List Step) : Type 0 where
  pub own : (conv : ℕ) (news : News) → addressed what ≡ Some (conv, news) → AllOf conv list
  pub none : addressed what ≡ None → list ≡ []

-- the trace is told with more steps, each of the conversation that was heard
pub record TellsOfHeard (what : Heard) (trace : Trace) (told : Option Trace) : Type 0 where
  pub more : List Step
  pub is : told ≡ Some (trace ++ more)
  pub own : IsOfHeard what more

-- what a router has of the conversations that were not heard is what it had
pub record KeepsOthers {C A : Type 0} (what : Heard) (before after : Router C A) : Type 0 where
  pub others : (conv other : ℕ) (news : News) → addressed what ≡ Some (conv, news) → conv ≢ other → found after.table other ≡ found before.table other
  pub none : addressed what ≡ None → after.table ≡ before.table

-- Steps that follow, of whom they may be. The fact holds of the trace with them, and where the network tells its steps, it tells these too.
pub record Adds (Own : List Step → Type 0) (P : Trace → Type 0) (trace : Trace) (before after : Option Trace) : Type 0 where
  pub more : List Step
  pub own : Own more
  pub holds : P (trace ++ more)
  pub tells : (told : Trace) → before ≡ Some told → after ≡ Some (told ++ more)

-- What memory ran out in: what was told of the steps that follow. The trace with them is served, and the answerer came over it by the course.
pub record Breaks {S : Type 0} (Own : List Step → Type 0) (answers : Answering S) (fails : Failing S) (due : Due) (course : Course S) (trace told : Trace) (now : Option Trace)
    (files : FilesMeaning) : Type 0 where
  pub more : List Step
  pub own : Own more
  pub is : now ≡ Some (told ++ more)
  pub served : IsServed answers due (trace ++ more)
  pub follows : IsAnswered answers due course (trace ++ more)
  pub leaves : LeavesFiles answers fails due course ⊥ files (trace ++ more)

-- something heard: steps of the conversation that was heard alone
abbrev pub AddsHeard : (Trace → Type 0) → Heard → Trace → Option Trace → Option Trace → Type 0
AddsHeard P what = Adds (IsOfHeard what) P

abbrev pub BreaksHeard : {S : Type 0} → Answering S → Failing S → Due → Course S → Heard → Trace → Trace → Option Trace → FilesMeaning → Type 0
BreaksHeard answers fails due course what = Breaks (IsOfHeard what) answers fails due course

-- an operation: steps of the conversation whose hook it answers, and the course with the operation
abbrev pub AddsSteps : (Trace → Type 0) → Operation → Trace → Option Trace → Option Trace → Type 0
AddsSteps P operation = Adds (AllOfAny (caused_in operation)) P

abbrev pub BreaksOff : {S : Type 0} → Answering S → Failing S → Due → Course S → Operation → Trace → Trace → Option Trace → FilesMeaning → Type 0
BreaksOff answers fails due course operation trace = Breaks (AllOfAny (caused_in operation)) answers fails due (with_operation course trace operation) trace

-- A conversation without a client has begun: its first step says so, and the others are its own. The fact holds of the trace with them, and where the network
-- tells its steps, it tells these too.
pub record AddsBegun (P : Trace → Type 0) (conv : ℕ) (trace : Trace) (before after : Option Trace) : Type 0 where
  pub more : List Step
  pub own : AllOf conv more
  pub holds : P ((trace ++ steps.Begun conv ∷ []) ++ more)
  pub tells : (told : Trace) → before ≡ Some told → after ≡ Some ((told ++ steps.Begun conv ∷ []) ++ more)

-- these steps are the conversation's beginning, with steps of its own behind it
pub record IsBegunBy (conv : ℕ) (list : List Step) : Type 0 where
  pub more : List Step
  pub is : list ≡ steps.Begun conv ∷ more
  pub own : AllOf conv more

-- these steps are none, or the conversation's beginning with steps of its own behind it
abbrev pub IsFrontOfBegun : ℕ → List Step → Type 0
IsFrontOfBegun conv [] = Unit {0}
IsFrontOfBegun conv (step ∷ rest) = (step ≡ steps.Begun conv) × AllOf conv rest

-- a conversation without a client that memory ran out in, as it began
abbrev pub BreaksBegun : {S : Type 0} → Answering S → Failing S → Due → Course S → ℕ → Trace → Trace → Option Trace → FilesMeaning → Type 0
BreaksBegun answers fails due course conv = Breaks (IsFrontOfBegun conv) answers fails due course
