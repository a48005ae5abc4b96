-- What an answerer was asked over a trace of many conversations, and what it gave.
--
-- One answerer answers the hooks of all conversations. What it is moves at each hook that is asked, in the order of the trace, and
-- else where the course of the run says so. So what it gives follows from what it was at first, from all that it was asked before and
-- from those changes. A hook that it let wait is answered where the course has an operator's word, and nowhere else; and what
-- lines made of its draft by then, the course says too.
use Rattle.std.specs.Prelude.{◌≡◌, ℕ, ◌==◌, ◌&&◌, if◌then◌else◌, List, [], ◌∷◌, ◌++◌, Option, Some, None, Ok}
use Rattle.px_message.specs.declared.flow.Flow.{Flow}
use Rattle.px_message.specs.declared.flow.FlowId.{FlowId}
use Rattle.px_event.specs.declared.ask.Ask.{Ask}
use Rattle.px_event.specs.declared.ask.Ask.TheVariants as asks
use Rattle.px_event.specs.declared.ask.Hook.{Hook}
use Rattle.px_event.specs.declared.reply.Reply.{Reply}
use Rattle.px_event.specs.declared.step.Step.{Step}
use Rattle.px_event.specs.declared.step.Step.TheVariants as steps
use Rattle.px_event.specs.Trace.{Trace}
use Rattle.px_core.specs.declared.answerer.Answer.{Answer}
use Rattle.px_core.specs.declared.answerer.Answer.TheVariants as answer
use Rattle.px_core.specs.Answers.{Answering, AnswererState, Failing, FilesAfter, FilesMeaning}
use Rattle.px_core.specs.Course.{Course, Operated, IsFrontOf, is_marked, with_change, with_operation}
use Rattle.px_core.specs.Drafts.{answers_for, edited_at, released_by, with_edits}
use Rattle.px_core.specs.Due.{Due, IsAskedLast}
use Rattle.px_core.specs.Hooks.{open_hook}
use Rattle.px_core.specs.declared.answerer.Draft.{Draft}
use Rattle.px_core.specs.declared.operation.Operation.{Operation}
use Rattle.px_core.specs.declared.operation.Operation.TheVariants as operations
use Rattle.px_draft.specs.declared.edit.Edit.{Edit}
use Rattle.px_draft.specs.declared.edited.Edited.{Edited}
use Rattle.px_draft.specs.Edits.{changed}

-- what the answerer gave to a hook, and what lines made of it since, where it is a draft that waits and any did
pub record GivenTo : Type 0 where
  pub ask : Ask
  pub answer : Answer
  pub edited : Option Edited

-- what it gave, which no line has changed
abbrev pub just_given : Ask → Answer → GivenTo
just_given ask what = record { ask = ask; answer = what; edited = None }

-- a draft with which the hook of a flow waits
abbrev pub left_waiting : ℕ → Hook → Draft → Option Edited → GivenTo
left_waiting index hook draft edited = record { ask = asks.Hook index hook; answer = answer.Wait draft; edited = edited }

-- What is pending: by conversation, what it gave to the hook that is asked and not answered, with what lines made of it; and by conversation and index, what each flow
-- was when it was asked about it last, until that flow is finished.
pub record Pending : Type 0 where
  pub given : ℕ → Option GivenTo
  pub shown : ℕ → ℕ → Option Flow

-- no hook was asked
abbrev pub nothing_pending : Pending
nothing_pending = record { given = λ conv. None; shown = λ conv index. None }

-- in this conversation that is given, and in the others what was before
abbrev pub with_given : ℕ → Option GivenTo → (ℕ → Option GivenTo) → ℕ → Option GivenTo
with_given conv what before other = if other == conv then what else before other

-- of this flow that is shown, and of the others what was before
abbrev pub with_shown : ℕ → ℕ → Option Flow → (ℕ → ℕ → Option Flow) → ℕ → ℕ → Option Flow
with_shown conv index what before other place = if (conv == other) && (index == place) then what else before other place

-- in this conversation that is pending, and in the others what was before
abbrev pub with_pending : ℕ → Option GivenTo → Pending → Pending
with_pending conv what before = record { given = with_given conv what before.given; shown = before.shown }

-- a hook was asked about this flow, and this was given
abbrev pub with_asked : ℕ → GivenTo → Flow → Pending → Pending
with_asked conv what flow before = record { given = with_given conv (Some what) before.given; shown = with_shown conv flow.id.index (Some flow) before.shown }

-- behind a step that asks nothing and answers nothing: a flow that is finished is shown no more
abbrev pub shown_behind : Step → (ℕ → ℕ → Option Flow) → ℕ → ℕ → Option Flow
shown_behind (steps.Done flow) before = with_shown flow.id.conv flow.id.index None before
shown_behind _ before = before

abbrev pub pending_behind : Step → Pending → Pending
pending_behind step before = record { given = before.given; shown = shown_behind step before.shown }

-- a flow that the step finishes has its mark where one of these operations was to mark it
abbrev pub IsMarkedBy : List Operated → Step → Type 0
IsMarkedBy made (steps.Done flow) = flow.marked ≡ is_marked made flow.id.conv flow.id.index
IsMarkedBy made _ = Unit {0}

-- the step neither asks a hook nor answers one
abbrev pub IsNoAnswer : Step → Type 0
IsNoAnswer (steps.Asked conv ask) = ⊥
IsNoAnswer (steps.Answered conv ask reply) = ⊥
IsNoAnswer _ = Unit {0}

-- The answerer over a trace, by a course, and what is pending then. It begins as the course says, and moves at each hook that is asked,
-- once, by its own relation and about the flow that is due there, with the mark that the course made in front of it. A reply that it gave at
-- once stands in the trace as that hook's answer. A hook that it let wait is answered by an operation of the course, in its place, with what
-- that makes of the draft as the changes of the course in front of it left it, each of which changed it. Nothing else is an answer. A flow that is finished has its mark too. All changes and operations of the course were
-- made, each once, in their order and behind its own trace.
pub data Answers {S : Type 0} (answers : Answering S) (due : Due) : Course S → Trace → AnswererState S → Pending → Type 0 where
  at_first : (course : Course S) → course.changes ≡ [] → course.operations ≡ [] → Answers answers due course [] course.first nothing_pending
  at_hook : (course : Course S) (trace next : Trace) (old new : AnswererState S) (pending : Pending) (conv : ℕ) (hook : Hook) (flow : Flow) (given : Answer) →
      Answers answers due course trace old pending → next ≡ trace ++ steps.Asked conv (asks.Hook flow.id.index hook) ∷ [] → pending.given conv ≡ None →
      IsAskedLast due trace conv (asks.Hook flow.id.index hook) flow → flow.marked ≡ is_marked course.operations conv flow.id.index →
      answers hook flow old.own old.files new.own new.files given →
      Answers answers due course next new (with_asked conv (just_given (asks.Hook flow.id.index hook) given) flow pending)
  at_reply : (course : Course S) (trace next : Trace) (now : AnswererState S) (pending : Pending) (conv : ℕ) (ask : Ask) (reply : Reply) →
      Answers answers due course trace now pending → next ≡ trace ++ steps.Answered conv ask reply ∷ [] →
      pending.given conv ≡ Some (just_given ask (answer.Reply reply)) →
      Answers answers due course next now (with_pending conv None pending)
  at_other : (course : Course S) (trace next : Trace) (now : AnswererState S) (pending : Pending) (step : Step) →
      Answers answers due course trace now pending → next ≡ trace ++ step ∷ [] → IsNoAnswer step → IsMarkedBy course.operations step →
      Answers answers due course next now (pending_behind step pending)
  at_change : (course next : Course S) (trace : Trace) (old new : AnswererState S) (pending : Pending) →
      Answers answers due course trace old pending → next ≡ with_change course trace old new → Answers answers due next trace new pending
  at_mark : (course next : Course S) (trace : Trace) (now : AnswererState S) (pending : Pending) (id : FlowId) →
      Answers answers due course trace now pending → next ≡ with_operation course trace (operations.Mark id) → Answers answers due next trace now pending
  at_edit : (course next : Course S) (trace : Trace) (now : AnswererState S) (pending : Pending) (id : FlowId) (change : Edit) (hook : Hook) (draft : Draft) (was : Option Edited) (edited : Edited) →
      Answers answers due course trace now pending → next ≡ with_operation course trace (operations.Edit id change) → pending.given id.conv ≡ Some (left_waiting id.index hook draft was) →
      changed change (edited_at hook draft was) ≡ Ok edited → Answers answers due next trace now (with_pending id.conv (Some (left_waiting id.index hook draft (Some edited))) pending)
  at_release : (course made : Course S) (trace next : Trace) (now : AnswererState S) (pending : Pending) (operation : Operation) (id : FlowId) (hook : Hook) (draft : Draft) (edited : Option Edited) →
      Answers answers due course trace now pending → made ≡ with_operation course trace operation → answers_for operation ≡ Some id →
      pending.given id.conv ≡ Some (left_waiting id.index hook draft edited) →
      next ≡ trace ++ steps.Answered id.conv (asks.Hook id.index hook) (released_by operation (with_edits edited draft)) ∷ [] →
      Answers answers due made next now (with_pending id.conv None pending)

-- It came over the whole trace, with the first changes of the course.
pub record IsAnswered {S : Type 0} (answers : Answering S) (due : Due) (course : Course S) (trace : Trace) : Type 0 where
  pub made : Course S
  pub front_of : IsFrontOf course made
  pub last : AnswererState S
  pub pending : Pending
  pub answered : Answers answers due made trace last pending

-- At a rest of a trace: the answerer came over it with the first changes of the course, and each hook that is open was let wait, with this draft.
pub record RestsBy {S : Type 0} (answers : Answering S) (due : Due) (course : Course S) (trace : Trace) : Type 0 where
  pub made : Course S
  pub front_of : IsFrontOf course made
  pub now : AnswererState S
  pub pending : Pending
  pub answered : Answers answers due made trace now pending
  pub waits : (conv : ℕ) (ask : Ask) → open_hook conv trace ≡ Some ask → (draft : Draft) × (edited : Option Edited) × (pending.given conv ≡ Some (record { ask = ask; answer = answer.Wait draft; edited = edited }))

-- What files mean at the end of a trace that came by this course. All that was answered stands in the trace, all changes were made, and the
-- files are what the last answer or change left; or, where that is not said, behind some prefix of the trace more was answered than the
-- trace has, and the last of it may have run out of memory.
pub record LeavesFiles {S : Type 0} (answers : Answering S) (fails : Failing S) (due : Due) (course : Course S) (Whole : Type 0) (files : FilesMeaning)
    (trace : Trace) : Type 0 where
  pub prefix : Trace
  pub rest : Trace
  pub split : trace ≡ prefix ++ rest
  pub made : Course S
  pub front_of : IsFrontOf course made
  pub last : AnswererState S
  pub pending : Pending
  pub answered : Answers answers due made prefix last pending
  pub after : FilesAfter answers fails last files
  pub whole : Whole → (rest ≡ []) × (files ≡ last.files) × (made ≡ course)
