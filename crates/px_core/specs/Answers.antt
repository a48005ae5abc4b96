-- What an answerer's answer may be.
use Rattle.std.specs.Prelude.{◌≡◌, ℕ, List, Option}
use Rattle.px_message.specs.declared.flow.Flow.{Flow}
use Rattle.px_event.specs.declared.ask.Hook.{Hook}
use Rattle.px_outside.specs.Files.{Contents}
use Rattle.px_outside.specs.declared.files.FileCall.{FileCall}
use Rattle.px_core.specs.declared.answerer.Answer.{Answer}

-- all that files mean
pub record FilesMeaning : Type 0 where
  pub contents : Option Contents
  pub calls : Option (List FileCall)
  pub misses : ℕ
  pub faults : ℕ
  pub losses : ℕ

-- so do these files, by their parts
abbrev pub files_meaning : {F : Type 0} → (F → Option Contents) → (F → Option (List FileCall)) → (F → ℕ) → (F → ℕ) → (F → ℕ) → F → FilesMeaning
files_meaning contents calls misses faults losses files =
    record { contents = contents files; calls = calls files; misses = misses files; faults = faults files; losses = losses files }

-- what an answerer answers by: its own state, and what files mean
pub record AnswererState (S : Type 0) : Type 0 where
  pub own : S
  pub files : FilesMeaning

-- so is this answerer with these files, by what they mean
abbrev pub state_of : {A F S : Type 0} → (A → S) → (F → Option Contents) → (F → Option (List FileCall)) → (F → ℕ) → (F → ℕ) → (F → ℕ) → A → F → AnswererState S
state_of state contents calls misses faults losses answerer files =
    record { own = state answerer; files = files_meaning contents calls misses faults losses files }

-- The answers to a hook about a flow, by the answerer's state and the files before and after.
abbrev pub Answering : Type 0 → Type 1
Answering S = Hook → Flow → S → FilesMeaning → S → FilesMeaning → Answer → Type 0

-- What an answer that ran out of memory does to files: the hook, the flow, the answerer's state and the files before, and the files
-- after.
abbrev pub Failing : Type 0 → Type 1
Failing S = Hook → Flow → S → FilesMeaning → FilesMeaning → Type 0

-- Answers one behind the other, each from the state and the files that the one before left.
pub data ByAnswers {S : Type 0} (answers : Answering S) : AnswererState S → AnswererState S → Type 0 where
  by_none : (at : AnswererState S) → ByAnswers answers at at
  by_answer : (first old new : AnswererState S) (hook : Hook) (flow : Flow) (given : Answer) →
      ByAnswers answers first old → answers hook flow old.own old.files new.own new.files given → ByAnswers answers first new

-- What files mean after answers from this state on: all were given, or the last one ran out of memory.
pub data FilesAfter {S : Type 0} (answers : Answering S) (fails : Failing S) (first : AnswererState S) (files : FilesMeaning) : Type 0 where
  after_answers : (last : AnswererState S) → ByAnswers answers first last → files ≡ last.files → FilesAfter answers fails first files
  after_failure : (last : AnswererState S) (hook : Hook) (flow : Flow) → ByAnswers answers first last → fails hook flow last.own last.files files →
      FilesAfter answers fails first files
