-- The promise on a trace of many conversations, for any due.
use Rattle.std.specs.Prelude.{◌≡◌, ℕ, List, [], ◌∷◌, ◌++◌, Option, Some, None}
use Rattle.px_text.specs.Prefix.{IsPrefixOf}
use Rattle.px_message.specs.declared.address.Address.{Address}
use Rattle.px_message.specs.declared.flow.Flow.{Flow}
use Rattle.px_event.specs.declared.ask.Ask.{Ask}
use Rattle.px_event.specs.declared.ask.Ask.TheVariants as asks
use Rattle.px_event.specs.declared.ask.Hook.{Hook}
use Rattle.px_event.specs.declared.reply.Reply.{Reply}
use Rattle.px_event.specs.declared.command.Command.{Command}
use Rattle.px_event.specs.declared.step.Step.TheVariants as steps
use Rattle.px_event.specs.Layer.{Move}
use Rattle.px_event.specs.Trace.{Trace, Always, BeforeEachHeard}
use Rattle.px_event.specs.View.{View, Atom, about, flows, IsTold, seen_of, seen_in}
use Rattle.px_core.specs.declared.answerer.Answer.{Answer}
use Rattle.px_core.specs.declared.answerer.Answer.TheVariants as answer
use Rattle.px_core.specs.declared.answerer.Draft.{Draft}
use Rattle.px_core.specs.Answers.{Answering, FilesMeaning}
use Rattle.px_core.specs.Calls.{Calls, calls}
use Rattle.px_core.specs.Drafts.{ComesTo}
use Rattle.px_core.specs.Hooks.{open_hook, EndsInTurn}
use Rattle.px_core.specs.Unmarked.{unmarked, all_unmarked}

-- what is due in the conversation of each number, by where its client is, if it has one, and by its calls
abbrev pub Due : Type 0
Due = ℕ → Option Address → List Move → List Command

-- in a conversation whose client is there; nothing is due in one that has not begun
abbrev pub due_at : Due → ℕ → Option (Option Address) → List Move → List Command
due_at due conv None moves = []
due_at due conv (Some peer) moves = due conv peer moves

-- in a conversation of which this is known
abbrev pub due_by : Due → ℕ → Calls → List Command
due_by due conv c = due_at due conv c.peer c.moves

-- what a view has of what is due in a conversation of a trace
abbrev pub due_in : Due → View → ℕ → Trace → List Atom
due_in due view conv trace = seen_of view (due_by due conv (calls conv trace))

-- in each conversation and each view, what the trace has begins what is due, but for marks
abbrev pub IsWithinDue : Due → Trace → Type 0
IsWithinDue due trace = (conv : ℕ) (view : View) → IsTold view → IsPrefixOf (all_unmarked (seen_in view conv trace)) (all_unmarked (due_in due view conv trace))

-- in each conversation and each view, the trace has what is due, but for marks
abbrev pub IsAllTold : Due → Trace → Type 0
IsAllTold due trace = (conv : ℕ) (view : View) → IsTold view → all_unmarked (seen_in view conv trace) ≡ all_unmarked (due_in due view conv trace)

-- the flow, but for its mark, is the one with which the conversation was asked last
pub record IsAskedLast (due : Due) (trace : Trace) (conv : ℕ) (ask : Ask) (flow : Flow) : Type 0 where
  pub earlier : List Atom
  pub last : all_unmarked (due_in due flows conv trace) ≡ earlier ++ about ask (unmarked flow) ∷ []

-- An answer after this trace comes from one that the answerer may give to the hook about the flow with which it was asked last: it is that
-- one, or what an operator made of the draft with which the hook waits, by changes of its flow or by ending it.
pub record IsMet {S : Type 0} (answers : Answering S) (due : Due) (trace : Trace) (conv : ℕ) (ask : Ask) (reply : Reply) : Type 0 where
  pub hook : Hook
  pub flow : Flow
  pub asked : ask ≡ asks.Hook flow.id.index hook
  pub last : IsAskedLast due trace conv ask flow
  pub given : Answer
  pub comes : ComesTo hook given reply
  pub old : S
  pub old_files : FilesMeaning
  pub new : S
  pub new_files : FilesMeaning
  pub answers_so : answers hook flow old old_files new new_files given

-- so is the answer with which the trace ends, where it ends with one
abbrev pub EndsMet : {S : Type 0} → Answering S → Due → Trace → Type 0
EndsMet answers due trace = (prefix : Trace) (conv : ℕ) (ask : Ask) (reply : Reply) →
    trace ≡ prefix ++ steps.Answered conv ask reply ∷ [] → IsMet answers due prefix conv ask reply

-- A hook that is not answered in this trace waits: with this draft the answerer may let it wait, about the flow with which it
-- was asked last.
pub record Waits {S : Type 0} (answers : Answering S) (due : Due) (trace : Trace) (conv : ℕ) (ask : Ask) (draft : Draft) : Type 0 where
  pub hook : Hook
  pub flow : Flow
  pub asked : ask ≡ asks.Hook flow.id.index hook
  pub last : IsAskedLast due trace conv ask flow
  pub old : S
  pub old_files : FilesMeaning
  pub new : S
  pub new_files : FilesMeaning
  pub answers_so : answers hook flow old old_files new new_files (answer.Wait draft)

-- each hook that is open waits
abbrev pub OpenOnesWait : {S : Type 0} → Answering S → Due → Trace → Type 0
OpenOnesWait answers due trace = (conv : ℕ) (ask : Ask) → open_hook conv trace ≡ Some ask → (draft : Draft) × Waits answers due trace conv ask draft

-- At every moment what the trace has begins what is due, and directly before each thing heard it has all of it; each answer
-- is one that the answerer may give. At every moment a hook is asked only where none is open in its conversation, and an
-- answer is to the hook that is open; directly before each thing heard none is open but those that the answerer lets wait.
pub record IsServed {S : Type 0} (answers : Answering S) (due : Due) (trace : Trace) : Type 0 where
  pub within : Always (IsWithinDue due) trace
  pub told : BeforeEachHeard (IsAllTold due) trace
  pub met : Always (EndsMet answers due) trace
  pub turns : Always EndsInTurn trace
  pub waits : BeforeEachHeard (OpenOnesWait answers due) trace
