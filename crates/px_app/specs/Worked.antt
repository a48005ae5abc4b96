-- How a run goes on: one thing heard, and the steps that follow from it, for conversations and for operators; or a conversation that begins with no one heard.
--
-- Two traces go side by side. What is told has every step; the steps of conversations are those without what was said to operators.
use Rattle.std.specs.Prelude.{◌≡◌, ℕ, Bool, true, false, List, [], ◌∷◌, ◌++◌}
use Rattle.px_event.specs.declared.heard.Heard.{Heard}
use Rattle.px_event.specs.declared.step.Step.{Step}
use Rattle.px_event.specs.declared.step.Step.TheVariants as steps
use Rattle.px_event.specs.Trace.{Trace}
use Rattle.px_core.specs.Answered.{Answers, Pending}
use Rattle.px_core.specs.Answers.{Answering, AnswererState}
use Rattle.px_core.specs.Course.{Course, begins_at, with_change}
use Rattle.px_core.specs.Due.{Due}
use Rattle.px_core.specs.Held.{AllOf}
use Rattle.px_core.specs.Run.{IsFrontOfBegun, IsOfHeard}
use Rattle.px_obey.specs.declared.outcome.Outcome.{Outcome}
use Rattle.px_obey.specs.declared.outcome.Outcome.TheVariants.{Leaves, Quits}
use Rattle.px_obey.specs.Obeyed.{BreaksLines, ObeysLines, Point, closed, point}
use Rattle.px_view.specs.declared.desk.Line.{Line}
use Rattle.px_app.specs.Operators.{nothing, says, leaves, word_of}
use Rattle.px_app.specs.Statuses.{is_end}

-- whether the run ends by it
abbrev pub is_quit : Outcome → Bool
is_quit Quits = true
is_quit _ = false

-- whether the connection was closed
abbrev pub has_left : Outcome → Bool
has_left Leaves = true
has_left _ = false

module _ {S : Type 0} (answers : Answering S) (drops : List ℕ → S → S → Type 0) (names : S → List (List ℕ)) (due : Due) where
  -- Behind the steps of conversations so far something is heard: the steps that are told of it, and those of conversations with it, by which course; and whether the run
  -- ends by it. It is a conversation's, and then so are its steps; or lines of an operator, who is answered behind what each line caused; or an operator leaves, and is let go.
  pub data Turns (trace : Trace) (course : Course S) (moment : ℕ) (what : Heard) : List Step → Trace → Course S → Bool → Type 0 where
    of_conversation : (more : List Step) → word_of trace what ≡ nothing → IsOfHeard what more →
        Turns trace course moment what more ((trace ++ steps.Heard moment what ∷ []) ++ more) course (is_end what)
    of_operator : (conv : ℕ) (lines : List Line) (more : List Step) (now : AnswererState S) (pending : Pending) (last : Point S) (outcome : Outcome) → word_of trace what ≡ says conv lines →
        Answers answers due course (trace ++ steps.Heard moment what ∷ []) now pending →
        ObeysLines answers drops names due conv (point (trace ++ steps.Heard moment what ∷ []) course now) lines more last outcome →
        Turns trace course moment what more last.trace last.course (is_quit outcome)
    of_leaving : (conv : ℕ) → word_of trace what ≡ leaves conv → Turns trace course moment what (closed conv ∷ []) (trace ++ steps.Heard moment what ∷ []) course false

  -- the same where memory ran out within it
  pub data Breaks (trace : Trace) (course : Course S) (moment : ℕ) (what : Heard) : List Step → Trace → Course S → Type 0 where
    in_conversation : (more : List Step) → word_of trace what ≡ nothing → IsOfHeard what more →
        Breaks trace course moment what more ((trace ++ steps.Heard moment what ∷ []) ++ more) course
    in_lines : (conv : ℕ) (lines : List Line) (more : List Step) (now : AnswererState S) (pending : Pending) (last : Trace) (broken : Course S) → word_of trace what ≡ says conv lines →
        Answers answers due course (trace ++ steps.Heard moment what ∷ []) now pending →
        BreaksLines answers drops names due conv (point (trace ++ steps.Heard moment what ∷ []) course now) lines more last broken →
        Breaks trace course moment what more last broken
    in_silence : Breaks trace course moment what [] (trace ++ steps.Heard moment what ∷ []) course

  -- A run from its beginning: what is told, the steps of conversations, the course, and whether it ends. Behind each thing heard or begun, when all its steps were told, the answerer's
  -- files may change, as the flows that finished are saved.
  pub data Worked (first : AnswererState S) : Trace → Trace → Course S → Bool → Type 0 where
    not_begun : Worked first [] [] (begins_at first) false
    one_worked : (told next_told trace next : Trace) (course turned saved : Course S) (moment : ℕ) (what : Heard) (more : List Step) (over : Bool) (old new : AnswererState S) →
        Worked first told trace course false → Turns trace course moment what more next turned over → next_told ≡ (told ++ steps.Heard moment what ∷ []) ++ more →
        new.own ≡ old.own → saved ≡ with_change turned next old new → Worked first next_told next saved over
    -- a conversation without a client begins, with steps of its own behind
    one_begun : (told next_told trace next : Trace) (course saved : Course S) (conv : ℕ) (more : List Step) (old new : AnswererState S) →
        Worked first told trace course false → AllOf conv more → next_told ≡ (told ++ steps.Begun conv ∷ []) ++ more → next ≡ (trace ++ steps.Begun conv ∷ []) ++ more →
        new.own ≡ old.own → saved ≡ with_change course next old new → Worked first next_told next saved false

  -- a run that ended so, or broke off within one thing heard or begun
  pub data WorkedPart (first : AnswererState S) : Trace → Trace → Course S → Type 0 where
    all_worked : (told trace : Trace) (course : Course S) (over : Bool) → Worked first told trace course over → WorkedPart first told trace course
    breaks_in : (told next_told trace next : Trace) (course broken : Course S) (moment : ℕ) (what : Heard) (more : List Step) →
        Worked first told trace course false → Breaks trace course moment what more next broken → next_told ≡ (told ++ steps.Heard moment what ∷ []) ++ more →
        WorkedPart first next_told next broken
    breaks_begun : (told next_told trace next : Trace) (course : Course S) (conv : ℕ) (more : List Step) → Worked first told trace course false → IsFrontOfBegun conv more →
        next_told ≡ told ++ more → next ≡ trace ++ more → WorkedPart first next_told next course
