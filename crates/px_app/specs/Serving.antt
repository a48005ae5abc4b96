-- What a run of many conversations stands for between two things heard.
use Rattle.std.specs.Prelude.{◌≡◌, ℕ, Bool, false, List, ◌++◌, Option, Some}
use Rattle.px_event.specs.declared.ask.Ask.{Ask}
use Rattle.px_event.specs.declared.command.Command.{Command}
use Rattle.px_event.specs.declared.heard.Heard.{Heard}
use Rattle.px_event.specs.declared.step.Step.{Step}
use Rattle.px_event.specs.Layer.{Move, Standing}
use Rattle.px_event.specs.Trace.{Trace, BeforeEachHeard}
use Rattle.px_core.specs.Answered.{IsAnswered, LeavesFiles, RestsBy}
use Rattle.px_core.specs.Answers.{Answering, AnswererState, Failing, FilesMeaning}
use Rattle.px_core.specs.Course.{Change, Course, Operated}
use Rattle.px_core.specs.Due.{Due, IsServed}
use Rattle.px_core.specs.Run.{IsDueOf}
use Rattle.px_core.specs.Router.{IsNow, RouterStands}
use Rattle.px_core.specs.declared.router.Router.{Router}
use Rattle.px_app.specs.Operating.{OperatorsStand}
use Rattle.px_app.specs.Over.{Reaches, course_from, finished_in}
use Rattle.px_app.specs.Run.{BreaksOff, IsRun}
use Rattle.px_app.specs.Saved.{SavesTo}
use Rattle.px_words.specs.Appends.{Append}
use Rattle.px_app.specs.Replayed.{NoneWaits, Replays}
use Rattle.px_app.specs.Replaying.{ReplaysStand}
use Rattle.px_app.specs.Statuses.{code_of, heard_count}
use Rattle.px_app.specs.Worked.{Breaks, Turns, Worked}
use Rattle.px_app.specs.declared.operators.Operators.{Operators}
use Rattle.px_app.specs.declared.printing.Printing.{Printing}
use Rattle.px_app.specs.declared.replaying.Replaying.{Replaying}
use Rattle.px_app.specs.declared.status.Status.{Status}

module _ {C S : Type 0} (standing : Standing C) (awaited : C → Option Ask) (number : C → ℕ) (made_due : C → List Move → List Command) (answers : Answering S)
    (drops : List ℕ → S → S → Type 0) (names : S → List (List ℕ)) where
  -- The router stands for the steps of conversations in what is told, and operators for theirs; and so much of it was printed and saved.
  pub record Rests {A : Type 0} (state : A → S) (due : Due) (first : AnswererState S) (to : Option SavesTo) (files : FilesMeaning) (router : Router C A) (operators : Operators) (printing : Printing)
      (start now : Option (List ℕ)) (over : Bool) (told : Trace) : Type 0 where
    pub trace : Trace
    pub changes : List (Change S)
    pub operations : List Operated
    pub made : List Append
    pub stands : RouterStands standing awaited number made_due answers state due (course_from first changes operations) files router trace
    pub worked : Worked answers drops names due first told trace (course_from first changes operations) over
    pub waits : BeforeEachHeard (RestsBy answers due (course_from first changes operations)) trace
    pub operators_stand : over ≡ false → OperatorsStand operators trace
    pub same_done : finished_in told ≡ finished_in trace
    pub reaches : Reaches to printing changes made trace start now

  -- It rests so, it knows how far it came with so many requests that are sent again, and this is the moment of what was heard last.
  pub record RestsNow {A : Type 0} (state : A → S) (due : Due) (first : AnswererState S) (to : Option SavesTo) (files : FilesMeaning) (router : Router C A) (operators : Operators) (printing : Printing)
      (replaying : Replaying) (total : ℕ) (start now : Option (List ℕ)) (over : Bool) (moment : ℕ) (told : Trace) : Type 0 where
    pub rests : Rests state due first to files router operators printing start now over told
    pub replays : ReplaysStand replaying total told
    pub is_now : IsNow moment told

  -- Between two things heard: none of them waits to begin.
  pub record Between {A : Type 0} (state : A → S) (due : Due) (first : AnswererState S) (to : Option SavesTo) (files : FilesMeaning) (router : Router C A) (operators : Operators) (printing : Printing)
      (replaying : Replaying) (total : ℕ) (start now : Option (List ℕ)) (told : Trace) : Type 0 where
    pub rests : Rests state due first to files router operators printing start now false told
    pub replays : ReplaysStand replaying total told
    pub goes : NoneWaits total told

  -- so many things were heard, and it stands for what is told
  pub record ToldTurn {A : Type 0} (state : A → S) (due : Due) (first : AnswererState S) (to : Option SavesTo) (files : FilesMeaning) (router : Router C A) (operators : Operators) (printing : Printing)
      (replaying : Replaying) (total : ℕ) (start now : Option (List ℕ)) (count : ℕ) (told : Option Trace) : Type 0 where
    pub trace : Trace
    pub tells : told ≡ Some trace
    pub stands : Between state due first to files router operators printing replaying total start now trace
    pub counts : heard_count trace ≡ count

  -- One thing heard was worked off: the router stands for what it leads to, and so do operators, where the run goes on; and where the network tells its steps, it told these too.
  pub record Turned {A : Type 0} (state : A → S) (due : Due) (files : FilesMeaning) (router : Router C A) (operators : Operators) (trace : Trace) (course : Course S) (moment : ℕ) (what : Heard)
      (over : Bool) (before after : Option Trace) : Type 0 where
    pub more : List Step
    pub next : Trace
    pub turned : Course S
    pub turns : Turns answers drops names due trace course moment what more next turned over
    pub stands : RouterStands standing awaited number made_due answers state due turned files router next
    pub operators_stand : over ≡ false → OperatorsStand operators next
    pub tells : (told : Trace) → before ≡ Some told → after ≡ Some (told ++ more)

  -- it stands for some trace, by what the maker means and with what these files mean
  abbrev pub IsSound : {A : Type 0} → (A → S) → Due → FilesMeaning → Router C A → Type 0
  IsSound state made files router = (due : Due) × (course : Course S) × (trace : Trace) × IsDueOf made due × RouterStands standing awaited number made_due answers state due course files router trace

-- Memory ran out while one thing heard was worked off: what was told of its steps. The steps of conversations with it are served, and the answerer came over them by the course.
pub record TurnBroke {S : Type 0} (answers : Answering S) (drops : List ℕ → S → S → Type 0) (names : S → List (List ℕ)) (fails : Failing S) (due : Due) (trace : Trace) (course : Course S) (moment : ℕ)
    (what : Heard) (told : Trace) (now : Option Trace) (files : FilesMeaning) : Type 0 where
  pub more : List Step
  pub next : Trace
  pub broken : Course S
  pub breaks : Breaks answers drops names due trace course moment what more next broken
  pub is : now ≡ Some (told ++ more)
  pub served : IsServed answers due next
  pub follows : IsAnswered answers due broken next
  pub leaves : LeavesFiles answers fails due broken ⊥ files next

-- Memory ran out: what was told, and that requests were sent again in their turn.
pub record BrokeOff {S : Type 0} (answers : Answering S) (drops : List ℕ → S → S → Type 0) (names : S → List (List ℕ)) (fails : Failing S) (due : Due) (first : AnswererState S) (to : Option SavesTo)
    (files : FilesMeaning) (total : ℕ) (start now : Option (List ℕ)) (told : Trace) : Type 0 where
  pub breaks : BreaksOff answers drops names fails due first to files start now told
  pub replays : Replays total 8 told

-- A run that ended so, and the requests that it sent again.
pub record Ran {S : Type 0} (answers : Answering S) (drops : List ℕ → S → S → Type 0) (names : S → List (List ℕ)) (fails : Failing S) (due : Due) (first : AnswererState S) (to : Option SavesTo) (budget : ℕ)
    (status : Status) (printing : Printing) (files : FilesMeaning) (total : ℕ) (start now : Option (List ℕ)) (told : Trace) : Type 0 where
  pub run : IsRun answers drops names fails due first to budget status printing files start now told
  pub replays : Replays total (code_of status) told
