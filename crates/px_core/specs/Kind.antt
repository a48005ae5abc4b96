-- Answers of a kind: what holds of each answer that an answerer gives from states of one property, and what becomes of files then.
use Rattle.std.specs.Prelude.{◌≡◌, ◌≢◌, ℕ, [], ◌∷◌, ◌++◌}
use Rattle.px_message.specs.declared.flow.Flow.{Flow}
use Rattle.px_event.specs.declared.ask.Ask.{Ask}
use Rattle.px_event.specs.declared.ask.Ask.TheVariants as asks
use Rattle.px_event.specs.declared.ask.Hook.{Hook}
use Rattle.px_event.specs.declared.reply.Reply.{Reply}
use Rattle.px_event.specs.declared.step.Step.{Step}
use Rattle.px_event.specs.declared.step.Step.TheVariants as steps
use Rattle.px_event.specs.Trace.{Trace}
use Rattle.px_core.specs.declared.answerer.Answer.{Answer}
use Rattle.px_core.specs.Answers.{Answering, Failing, FilesMeaning}
use Rattle.px_core.specs.Drafts.{ComesTo}
use Rattle.px_core.specs.Due.{Due, IsAskedLast}

-- From each of its own states that is so, whatever files mean, each answer leads to one that is so, and is of this kind.
pub record KeepsKind {S : Type 0} (answers : Answering S) (is : S → Type 0) (gives : Hook → Flow → Answer → Type 0) : Type 0 where
  pub stays : (hook : Hook) (flow : Flow) (old : S) (old_files : FilesMeaning) (new : S) (new_files : FilesMeaning) (given : Answer) →
      is old → answers hook flow old old_files new new_files given → is new
  pub gives_so : (hook : Hook) (flow : Flow) (old : S) (old_files : FilesMeaning) (new : S) (new_files : FilesMeaning) (given : Answer) →
      is old → answers hook flow old old_files new new_files given → gives hook flow given

-- A property of its own states, and a relation of files that holds of files as they are and from files to files. From each state that
-- is so each answer leads to one that is so, and each answer and each failure changes files as the relation says.
pub record KeepsFiles {S : Type 0} (answers : Answering S) (fails : Failing S) (is : S → Type 0) (goes : FilesMeaning → FilesMeaning → Type 0) : Type 0 where
  pub same : (files : FilesMeaning) → goes files files
  pub on : (first between last : FilesMeaning) → goes first between → goes between last → goes first last
  pub stays : (hook : Hook) (flow : Flow) (old : S) (old_files : FilesMeaning) (new : S) (new_files : FilesMeaning) (given : Answer) →
      is old → answers hook flow old old_files new new_files given → is new
  pub given_so : (hook : Hook) (flow : Flow) (old : S) (old_files : FilesMeaning) (new : S) (new_files : FilesMeaning) (given : Answer) →
      is old → answers hook flow old old_files new new_files given → goes old_files new_files
  pub failed_so : (hook : Hook) (flow : Flow) (old : S) (old_files new_files : FilesMeaning) →
      is old → fails hook flow old old_files new_files → goes old_files new_files

-- the step asks no hook of this conversation, and answers none
abbrev pub LeavesAlone : ℕ → Step → Type 0
LeavesAlone conv (steps.Asked number ask) = number ≢ conv
LeavesAlone conv (steps.Answered number ask reply) = number ≢ conv
LeavesAlone conv _ = Unit {0}

abbrev pub AllLeaveAlone : ℕ → Trace → Type 0
AllLeaveAlone conv [] = Unit {0}
AllLeaveAlone conv (step ∷ rest) = LeavesAlone conv step × AllLeaveAlone conv rest

-- An answer behind this trace is to the hook that was asked last in the conversation and that no step behind answers; it is of this
-- kind for the flow with which the hook was asked, as it was due there.
pub record IsOfKind (gives : Hook → Flow → Answer → Type 0) (due : Due) (trace : Trace) (conv : ℕ) (ask : Ask) (given : Answer) : Type 0 where
  pub prefix : Trace
  pub rest : Trace
  pub split : trace ≡ prefix ++ steps.Asked conv ask ∷ rest
  pub alone : AllLeaveAlone conv rest
  pub hook : Hook
  pub flow : Flow
  pub asked : ask ≡ asks.Hook flow.id.index hook
  pub last : IsAskedLast due prefix conv ask flow
  pub gives_so : gives hook flow given

-- where the trace ends with an answer, it comes from such a one: it is that one, or what an operator made of the draft with which the hook waited, by changes of its flow or by ending it
abbrev pub EndsOfKind : (Hook → Flow → Answer → Type 0) → Due → Trace → Type 0
EndsOfKind gives due trace = (prefix : Trace) (conv : ℕ) (ask : Ask) (reply : Reply) →
    trace ≡ prefix ++ steps.Answered conv ask reply ∷ [] → (given : Answer) × (kind : IsOfKind gives due prefix conv ask given) × ComesTo kind.hook given reply
