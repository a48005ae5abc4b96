-- What the flow of a WebSocket has of its messages, said by what was asked about, and by the replies and their moments alone: no stages, bytes or frames.
use Rattle.std.specs.Prelude.{◌≡◌, ◌<◌, ℕ, nat_lt, true, false, if◌then◌else◌, List, [], ◌∷◌, ◌++◌, length, Option, Some, None}
use Rattle.std.specs.List.{flat_map}
use Rattle.px_message.specs.declared.flow.Flow.{Flow}
use Rattle.px_message.specs.declared.flow.WsMessage.{WsMessage}
use Rattle.px_message.specs.declared.messages.WsRecord.{WsRecord}
use Rattle.px_event.specs.declared.command.Command.{Command}
use Rattle.px_event.specs.declared.command.Command.TheVariants as commands
use Rattle.px_event.specs.declared.event.Event.{Event}
use Rattle.px_event.specs.declared.event.Rests.{Rests}
use Rattle.px_event.specs.declared.reply.Reply.{Reply}
use Rattle.px_event.specs.declared.reply.Reply.TheVariants as replies
use Rattle.px_event.specs.Layer.{Move, Replied, Took}
use Rattle.px_event.specs.Stands.{due_by}
use Rattle.px_relay.specs.Chain.{first_at, own_chain}
use Rattle.px_relay.specs.Messages.{Message, payload_of}
use Rattle.px_relay.specs.Sending.{Terms}
use Rattle.px_relay.specs.Stages.{relaying}

-- ---- what was asked about, and what was finished

abbrev pub asked_in : Command → List Flow
asked_in (commands.Ask ask flow) = flow ∷ []
asked_in _ = []

abbrev pub done_in : Command → List Flow
done_in (commands.Done flow) = flow ∷ []
done_in _ = []

abbrev pub flows_asked : List Command → List Flow
flows_asked owed = flat_map asked_in owed

abbrev pub flows_done : List Command → List Flow
flows_done owed = flat_map done_in owed

-- ---- the moves, of which each is a step

abbrev pub moment_of : Move → ℕ
moment_of (Took moment event) = moment
moment_of (Replied moment reply) = moment

abbrev pub reply_in : Move → List Reply
reply_in (Took moment event) = []
reply_in (Replied moment reply) = reply ∷ []

abbrev pub replies_of : List Move → List Reply
replies_of moves = flat_map reply_in moves

-- what is due by moves, of a WebSocket that was handed what was left of both sides
abbrev pub due_of : Terms → Rests → List Move → List Command
due_of terms rests moves = due_by (own_chain terms rests) (relaying first_at) moves

abbrev pub asked_of : Terms → Rests → List Move → List Flow
asked_of terms rests moves = flows_asked (due_of terms rests moves)

-- events come at any time, and a reply to what is asked and has none
pub data IsCourse (terms : Terms) (rests : Rests) : List Move → Type 0 where
  begins : IsCourse terms rests []
  hears : (past next : List Move) (moment : ℕ) (event : Event) → IsCourse terms rests past → next ≡ past ++ Took moment event ∷ [] → IsCourse terms rests next
  answers : (past next : List Move) (moment : ℕ) (reply : Reply) → IsCourse terms rests past → length (replies_of past) < length (asked_of terms rests past) →
      next ≡ past ++ Replied moment reply ∷ [] → IsCourse terms rests next

-- ---- when each was asked about

-- a step's moment, if at its end more is asked about than before it
abbrev pub moment_by : Terms → Rests → List Move → Move → List ℕ
moment_by terms rests before move =
    if nat_lt (length (asked_of terms rests before)) (length (asked_of terms rests (before ++ move ∷ []))) then moment_of move ∷ [] else []

abbrev pub moments_behind : Terms → Rests → List Move → List Move → List ℕ
moments_behind terms rests before [] = []
moments_behind terms rests before (move ∷ moves) = moment_by terms rests before move ++ moments_behind terms rests (before ++ move ∷ []) moves

abbrev pub moments_of : Terms → Rests → List Move → List ℕ
moments_of terms rests moves = moments_behind terms rests [] moves

-- ---- what is kept of the messages that were answered

abbrev pub as_read : WsMessage → Message
as_read message = record { text = message.text; lengths = []; payload = message.payload }

abbrev pub record_of : WsMessage → ℕ → Reply → List WsRecord
record_of message moment replies.Kill = []
record_of message moment replies.Discard =
    record { from_client = message.from_client; text = message.text; payload = message.payload; moment = moment; dropped = true } ∷ []
record_of message moment reply =
    record { from_client = message.from_client; text = message.text; payload = payload_of (as_read message) reply; moment = moment; dropped = false } ∷ []

abbrev pub record_in : Option WsMessage → ℕ → Reply → List WsRecord
record_in None moment reply = []
record_in (Some message) moment reply = record_of message moment reply

-- the first flow was asked about at the first of these moments, and the first reply is to it; and so on
abbrev pub records_of : List Flow → List ℕ → List Reply → List WsRecord
records_of [] moments replies = []
records_of (flow ∷ flows) [] replies = []
records_of (flow ∷ flows) (moment ∷ moments) [] = []
records_of (flow ∷ flows) (moment ∷ moments) (reply ∷ replies) = record_in flow.message moment reply ++ records_of flows moments replies

-- A flow that is asked about has the records of the messages in front of its own, and a finished one those of all.
pub record KeepsRecords (terms : Terms) (rests : Rests) (moves : List Move) : Type 0 where
  pub asks : (before after : List Flow) (flow : Flow) → asked_of terms rests moves ≡ before ++ flow ∷ after →
      flow.messages ≡ records_of before (moments_of terms rests moves) (replies_of moves)
  pub ends : (before after : List Flow) (flow : Flow) → flows_done (due_of terms rests moves) ≡ before ++ flow ∷ after →
      flow.messages ≡ records_of (asked_of terms rests moves) (moments_of terms rests moves) (replies_of moves)

abbrev pub RecordsAreThoseAnswered : Type 0
RecordsAreThoseAnswered = (terms : Terms) (rests : Rests) (moves : List Move) → IsCourse terms rests moves → KeepsRecords terms rests moves
