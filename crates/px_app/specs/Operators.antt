-- Operators in a trace: whose lines are obeyed, and where they stand.
--
-- A connection that is accepted at the control door is an operator's, until it closes or a line of it is too long. Whose number has begun a conversation is none.
use Rattle.std.specs.Prelude.{ℕ, ◌==◌, if◌then◌else◌, List, [], ◌∷◌, Option, Some, None}
use Rattle.px_message.specs.declared.address.Address.{Address}
use Rattle.px_event.specs.declared.heard.Heard.{Heard}
use Rattle.px_event.specs.declared.heard.Heard.TheVariants as heard
use Rattle.px_event.specs.declared.side.Door.TheVariants.{Control}
use Rattle.px_event.specs.declared.side.Side.TheVariants.{Client}
use Rattle.px_event.specs.declared.step.Step.{Step}
use Rattle.px_event.specs.declared.step.Step.TheVariants as steps
use Rattle.px_event.specs.Trace.{Trace}
use Rattle.px_core.specs.Calls.{calls}
use Rattle.px_view.specs.declared.desk.Line.{Line}
use Rattle.px_view.specs.Desk.{Stand, fresh, stands, told}

-- One thing heard more: where the lines of this connection stand; none where it is no operator's.
abbrev pub stand_on : ℕ → Stand → Heard → Stand
stand_on conv stand (heard.Accepted number Control peer) = if number == conv then fresh else stand
stand_on conv stand (heard.Piece number Client bytes) = if number == conv then stands bytes stand else stand
stand_on conv stand (heard.Closed number Client) = if number == conv then None else stand
stand_on conv stand _ = stand

-- one step more
abbrev pub stand_by_step : ℕ → Stand → Step → Stand
stand_by_step conv stand (steps.Heard moment what) = stand_on conv stand what
stand_by_step conv stand _ = stand

abbrev pub stand_from : ℕ → Stand → Trace → Stand
stand_from conv stand [] = stand
stand_from conv stand (step ∷ rest) = stand_from conv (stand_by_step conv stand step) rest

-- where the lines of the connection of this number stand behind the trace
abbrev pub operator_stand : ℕ → Trace → Stand
operator_stand conv trace = stand_from conv None trace

-- What something heard is to operators: nothing; lines that it completes; or that an operator leaves.
pub data Word : Type 0 where
  nothing : Word
  says : (conv : ℕ) (lines : List Line) → Word
  leaves : (conv : ℕ) → Word

-- bytes of a connection whose lines stand so, and which has begun a conversation or not
abbrev pub says_at : ℕ → Stand → Option (Option Address) → List ℕ → Word
says_at conv (Some kept) None bytes = says conv (told bytes (Some kept))
says_at conv stand peer bytes = nothing

abbrev pub leaves_at : ℕ → Stand → Option (Option Address) → Word
leaves_at conv (Some kept) None = leaves conv
leaves_at conv stand peer = nothing

-- what it is behind a trace
abbrev pub word_of : Trace → Heard → Word
word_of trace (heard.Piece conv Client bytes) = says_at conv (operator_stand conv trace) (calls conv trace).peer bytes
word_of trace (heard.Closed conv Client) = leaves_at conv (operator_stand conv trace) (calls conv trace).peer
word_of trace _ = nothing
