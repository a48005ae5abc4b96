-- What a run promises by its status.
use Rattle.std.specs.Prelude.{◌≡◌, ◌≢◌, ◌⊎◌, ◌<◌, ◌≤◌, ℕ, ◌+◌, Bool, true, false, List, Option, Some, option_map}
use Rattle.px_event.specs.Trace.{Trace, BeforeEachHeard}
use Rattle.px_message.specs.declared.address.Address.{Address}
use Rattle.px_outside.specs.Net.{Listening, at}
use Rattle.px_core.specs.Answered.{IsAnswered, LeavesFiles, RestsBy}
use Rattle.px_core.specs.Answers.{Answering, AnswererState, Failing, FilesMeaning}
use Rattle.px_core.specs.Course.{Change, Operated}
use Rattle.px_core.specs.Due.{Due, IsServed, IsAllTold}
use Rattle.px_app.specs.Over.{Reaches, ReachesPart, course_from}
use Rattle.px_app.specs.Saved.{SavesTo}
use Rattle.px_words.specs.Appends.{Append}
use Rattle.px_app.specs.Statuses.{heard_count}
use Rattle.px_app.specs.Worked.{Worked, WorkedPart}
use Rattle.px_app.specs.declared.printing.Printing.{Printing}
use Rattle.px_app.specs.declared.status.Status.{Status}
use Rattle.px_app.specs.declared.status.Status.TheVariants.{Ended, BudgetSpent, NoMemory}

-- this status comes only where the run has its cause, which is over by what was heard last or is not, and where it has it; and no more is heard than
-- may be
pub record IsEnd (budget : ℕ) (status : Status) (over : Bool) (told : Trace) : Type 0 where
  pub ended : status ≡ Ended → over ≡ true
  pub ends : over ≡ true → (status ≡ Ended) ⊎ (status ≡ NoMemory)
  pub within : heard_count told ≤ budget
  pub count : status ≡ BudgetSpent → heard_count told ≡ budget
  pub goes_on : status ≡ BudgetSpent → over ≡ false
  pub spent : 0 < budget → heard_count told ≡ budget → over ≡ false → (status ≡ BudgetSpent) ⊎ (status ≡ NoMemory)

-- What was told of a run that ended with this status and these files, where so many things may be heard, the answerer was this at first and flows are
-- saved there; and what was printed and appended.
pub record IsRun {S : Type 0} (answers : Answering S) (drops : List ℕ → S → S → Type 0) (names : S → List (List ℕ)) (fails : Failing S) (due : Due) (first : AnswererState S) (to : Option SavesTo) (budget : ℕ)
    (status : Status) (printing : Printing) (files : FilesMeaning) (start now : Option (List ℕ)) (told : Trace) : Type 0 where
  pub trace : Trace
  pub changes : List (Change S)
  pub operations : List Operated
  pub over : Bool
  pub made : List Append
  pub worked : WorkedPart answers drops names due first told trace (course_from first changes operations)
  pub worked_whole : status ≢ NoMemory → Worked answers drops names due first told trace (course_from first changes operations) over
  pub served : IsServed answers due trace
  pub follows : IsAnswered answers due (course_from first changes operations) trace
  pub leaves : LeavesFiles answers fails due (course_from first changes operations) (status ≢ NoMemory) files trace
  pub whole : status ≢ NoMemory → IsAllTold due trace
  pub waits : BeforeEachHeard (RestsBy answers due (course_from first changes operations)) trace
  pub waits_whole : status ≢ NoMemory → RestsBy answers due (course_from first changes operations) trace
  pub is_end : IsEnd budget status over told
  pub reaches : status ≢ NoMemory → Reaches to printing changes made trace start now
  pub part : ReachesPart to changes made trace start now

-- What was told of a run in which memory ran out, whose answerer was this at first, with these files at the end.
pub record BreaksOff {S : Type 0} (answers : Answering S) (drops : List ℕ → S → S → Type 0) (names : S → List (List ℕ)) (fails : Failing S) (due : Due) (first : AnswererState S) (to : Option SavesTo)
    (files : FilesMeaning) (start now : Option (List ℕ)) (told : Trace) : Type 0 where
  pub trace : Trace
  pub changes : List (Change S)
  pub operations : List Operated
  pub made : List Append
  pub worked : WorkedPart answers drops names due first told trace (course_from first changes operations)
  pub served : IsServed answers due trace
  pub follows : IsAnswered answers due (course_from first changes operations) trace
  pub leaves : LeavesFiles answers fails due (course_from first changes operations) ⊥ files trace
  pub waits : BeforeEachHeard (RestsBy answers due (course_from first changes operations)) trace
  pub part : ReachesPart to changes made trace start now

-- the fact holds of the trace, which is told
pub record Told (P : Trace → Type 0) (told : Option Trace) : Type 0 where
  pub trace : Trace
  pub tells : told ≡ Some trace
  pub holds : P trace

-- a trace is told, with nothing heard beside what was heard before, and the fact holds of it
pub record ToldOn (P : Trace → Type 0) (before : Trace) (told : Option Trace) : Type 0 where
  pub after : Trace
  pub tells : told ≡ Some after
  pub count : heard_count after ≡ heard_count before
  pub holds : P after

-- a trace is told, with one more thing heard, and the fact holds of it
pub record ToldNext (P : Trace → Type 0) (before : Trace) (told : Option Trace) : Type 0 where
  pub after : Trace
  pub tells : told ≡ Some after
  pub count : heard_count after ≡ heard_count before + 1
  pub holds : P after

abbrev pub place_of : Address → List ℕ × ℕ
place_of address = (address.host, address.port)

-- it listens for clients at this host and port, and for operators at that, or for none
pub record ListensAt (place : List ℕ × ℕ) (control_place : Option (List ℕ × ℕ)) (listening : Listening) : Type 0 where
  pub proxy : Address
  pub control : Option Address
  pub here : listening ≡ at proxy control
  pub at_place : place_of proxy ≡ place
  pub control_at : option_map place_of control ≡ control_place
