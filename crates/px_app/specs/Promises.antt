-- What a run promises of its trace, of its status and of what is printed.
use Rattle.std.specs.Prelude.{◌≡◌, ◌≢◌, ◌⊎◌, ◌<◌, ◌≤◌, ℕ, Bool, true, false, List, ◌++◌, Option, None}
use Rattle.px_event.specs.Trace.{Trace, BeforeEachHeard}
use Rattle.px_outside.specs.Sink.{Writes, WritesPart}
use Rattle.px_core.specs.Answered.{IsAnswered, LeavesFiles, RestsBy}
use Rattle.px_core.specs.Answers.{Answering, AnswererState, Failing, FilesMeaning}
use Rattle.px_core.specs.Course.{Change, Operated}
use Rattle.px_core.specs.Due.{IsServed, IsAllTold}
use Rattle.px_core.specs.Hooks.{IsAllAnswered}
use Rattle.px_exchange.specs.declared.mode.Mode.{Mode}
use Rattle.px_filter.specs.Expression.{Expression}
use Rattle.px_message.specs.declared.flow.Flow.{Flow}
use Rattle.px_resend.specs.Due.{most_replayed}
use Rattle.px_app.specs.Dues.{run_due}
use Rattle.px_app.specs.Lines.{line_of}
use Rattle.px_app.specs.Replayed.{Replays}
use Rattle.px_app.specs.Listed.{listed}
use Rattle.px_app.specs.Over.{Reaches, ReachesPart, course_from}
use Rattle.px_app.specs.Saved.{SavesTo}
use Rattle.px_words.specs.Appends.{Append}
use Rattle.px_app.specs.Statuses.{heard_count}
use Rattle.px_app.specs.Worked.{Worked, WorkedPart}
use Rattle.px_app.specs.declared.printing.Printing.{Printing}
use Rattle.px_app.specs.declared.printing.Printing.TheVariants.{Whole, Failed}

-- What was told of a run in this mode, with this key of masks, which sends the requests of these flows again, whose answerer answers so, which with the files was this at first, and that
-- ended with this status and with these files. The trace has the steps of conversations: what is told without what was said to operators. Files were changed so beside the
-- answers, flows were to wait by this filter, and operators did this to flows; and the run was over by what was heard last, or was not.
pub record Promises {S : Type 0} (answers : Answering S) (drops : List ℕ → S → S → Type 0) (names : S → List (List ℕ)) (fails : Failing S) (intercept : Option Expression) (mode : Mode) (key : List ℕ) (resent : List Flow)
    (first : AnswererState S) (changes : List (Change S)) (operations : List Operated) (files : FilesMeaning) (status : ℕ) (over : Bool) (told trace : Trace) : Type 0 where
  -- What follows of each thing heard: steps of its own conversation; or, of an operator's lines, for each in turn what it caused and then its answer. Between them a request that is
  -- sent again begins, with steps of its own.
  pub worked : WorkedPart answers drops names (run_due mode key resent) first told trace (course_from first changes operations)
  pub worked_whole : status ≢ 8 → Worked answers drops names (run_due mode key resent) first told trace (course_from first changes operations) over
  -- At every moment, in each conversation and each view, it has a beginning of what is due, and before each thing heard all of it.
  -- A hook is asked only where none is open in its conversation, and an answer is to the hook that is open.
  pub served : IsServed answers (run_due mode key resent) trace
  -- From what it was at first the answerer came over the whole trace: it moved at each hook that was asked, once, in the order of the
  -- trace, and at the changes; and a reply that it gave is that hook's answer.
  pub follows : IsAnswered answers (run_due mode key resent) (course_from first changes operations) trace
  -- and so the files are what its last answer or the last change left; unless out of memory, where more may have been answered than
  -- the trace has
  pub leaves : LeavesFiles answers fails (run_due mode key resent) (course_from first changes operations) (status ≢ 8) files trace
  -- before each thing heard, and at the end unless out of memory, each hook that is open was let wait by the answerer on its way
  pub waits : BeforeEachHeard (RestsBy answers (run_due mode key resent) (course_from first changes operations)) trace
  pub waits_whole : status ≢ 8 → RestsBy answers (run_due mode key resent) (course_from first changes operations) trace
  -- and where no flow is to wait, no hook is open there
  pub hooks : intercept ≡ None → BeforeEachHeard IsAllAnswered trace
  pub hooks_whole : intercept ≡ None → status ≢ 8 → IsAllAnswered trace
  -- The requests of the flows that are sent again begin in their order, each in the step in which the flow of the one before is finished.
  pub replays : Replays (most_replayed resent) status told
  -- and at the end all that is due is there, unless out of memory
  pub whole : status ≢ 8 → IsAllTold (run_due mode key resent) trace

-- What a run printed and saved over its trace: of each finished flow its line and then its text, where flows are saved, up to a write or
-- an append that failed; and behind them the status's line. The changes of files are the appends.
pub record Outputs {S : Type 0} (failed : Type 0) (to : Option SavesTo) (changes : List (Change S)) (status : ℕ) (trace : Trace) (start now : Option (List ℕ)) : Type 0 where
  pub made : List Append
  pub part : (printed : Option (List ℕ)) × ReachesPart to changes made trace start printed
  -- how far it came, and what the sink had then; behind a failure it is not written to
  pub reached : Printing
  pub printed : Option (List ℕ)
  pub reaches : status ≢ 8 → Reaches to reached changes made trace start printed
  pub silent : status ≢ 8 → reached ≡ Failed → now ≡ printed
  pub cause : status ≢ 8 → reached ≡ Failed → failed
  pub ended : status ≡ 0 → reached ≡ Whole
  pub lost : status ≡ 7 → reached ≡ Failed

-- The status of a run that serves, by whether its network and its sink failed.
pub record HasCause (net_failed sink_failed : Type 0) (status : ℕ) : Type 0 where
  pub fault : status ≡ 5 → net_failed
  pub lost : status ≡ 7 → sink_failed
  pub statuses : (status ≡ 0) ⊎ ((status ≡ 5) ⊎ ((status ≡ 6) ⊎ ((status ≡ 7) ⊎ (status ≡ 8))))
  pub complete : ¬ net_failed → ¬ sink_failed → (status ≡ 0) ⊎ ((status ≡ 6) ⊎ (status ≡ 8))

-- The status by what was told, where so many things may be heard: whether the run was over, and how many things were heard, which with every status are no more
-- than that.
pub record EndsSo (most status : ℕ) (over : Bool) (told : Trace) : Type 0 where
  pub ended : (status ≡ 0) ⊎ (status ≡ 7) → over ≡ true
  pub ends : over ≡ true → (status ≡ 0) ⊎ ((status ≡ 7) ⊎ (status ≡ 8))
  pub within : heard_count told ≤ most
  pub budget : status ≡ 6 → (heard_count told ≡ most) × (over ≡ false)
  pub spent : 0 < most → heard_count told ≡ most → over ≡ false → (status ≡ 6) ⊎ (status ≡ 8)

-- What a sink that began so has got: a beginning of the lines of the finished flows with the status's line behind them. It is all
-- of them with status 0, and unless out of memory wherever the sink's faults did not rise.
pub record Prints (sink_failed : Type 0) (status : ℕ) (trace : Trace) (start now : Option (List ℕ)) : Type 0 where
  pub begun : WritesPart (listed trace ++ line_of status) start now
  pub whole : (status ≡ 0) ⊎ ((status ≢ 8) × ¬ sink_failed) → Writes (listed trace ++ line_of status) start now
