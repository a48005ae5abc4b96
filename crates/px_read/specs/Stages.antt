-- What the fields of a reader of one message stand for.
use Rattle.std.specs.Prelude.{◌≡◌, ℕ, Bool, true, false, List, [], Result, Ok, Err, None, ⊤}
use Rattle.px_message.specs.declared.length.Length.{Length}
use Rattle.px_message.specs.declared.length.Length.TheVariants as lengths
use Rattle.px_message.specs.declared.fault.Fault.{Fault}
use Rattle.px_message.specs.declared.fault.Fault.TheVariants.{BadChunk, BadResponse, ServerClosed}
use Rattle.px_read.specs.Chunks.{ChunkPlace, in_line, Reading, goes_on, fails}
use Rattle.px_read.specs.Chunking.{Chunking, reads, ended}
use Rattle.px_read.specs.Chunking as chunking
use Rattle.px_read.specs.Readings.{only}
use Rattle.px_read.specs.Reader.{State, MessagePlace, has_shut, at_head, in_counted, in_chunks, up_to_close, behind_end, refused, request, response}
use Rattle.px_read.specs.declared.head.ResponseHead.{ResponseHead}
use Rattle.px_read.specs.declared.message_reader.stage.Sender.{Sender}
use Rattle.px_read.specs.declared.message_reader.stage.Sender.TheVariants.{Client, Server}
use Rattle.px_read.specs.declared.message_reader.stage.MessageStage.{MessageStage}
use Rattle.px_read.specs.declared.message_reader.stage.MessageStage.TheVariants as stage
use Rattle.px_read.specs.declared.part.Part.{Part}
use Rattle.px_read.specs.declared.part.Part.TheVariants as part

-- what the side's faults are told as
abbrev pub fault_of : Sender → Fault → Fault
fault_of Client fault = fault
fault_of Server fault = BadResponse

abbrev pub chunk_place : Sender → Chunking → MessagePlace
chunk_place side (reads place) = in_chunks side place
chunk_place side (ended trailers) = behind_end trailers
chunk_place side chunking.refused = refused (fault_of side BadChunk)

abbrev pub state_at : MessagePlace → List ℕ → Bool → State
state_at place rest closed = record { place = place; rest = rest; closed = closed }

-- the stage, these bytes behind it; a reader of heads has its own
abbrev pub seen_as : MessageStage → List ℕ → Bool → State
seen_as (stage.Request reader) rest closed = state_at (at_head request) reader.rest closed
seen_as (stage.Response asked_head reader) rest closed = state_at (at_head (response asked_head)) reader.rest closed
seen_as (stage.Counted side left) rest closed = state_at (in_counted side left) rest closed
seen_as (stage.Chunked side reader) rest closed = state_at (chunk_place side reader) rest closed
seen_as (stage.ToClose side) rest closed = state_at (up_to_close side) rest closed
seen_as (stage.Ended trailers) rest closed = state_at (behind_end trailers) rest closed
seen_as (stage.Refused fault) rest closed = state_at (refused fault) rest closed

-- the close counts there
abbrev pub heeded : MessageStage → Bool → Bool
heeded (stage.Request reader) closed = false
heeded (stage.Response asked_head reader) closed = closed
heeded (stage.Counted side left) closed = has_shut side closed
heeded (stage.Chunked side reader) closed = has_shut side closed
heeded (stage.ToClose side) closed = has_shut side closed
heeded (stage.Ended trailers) closed = false
heeded (stage.Refused fault) closed = false

-- the readers within have not stopped
abbrev pub IsStage : MessageStage → Type 0
IsStage (stage.Request reader) = reader.failed ≡ None
IsStage (stage.Response asked_head reader) = reader.failed ≡ None
IsStage (stage.Chunked side reader) = (place : ChunkPlace) × (reader ≡ reads place)
IsStage _ = ⊤

-- a reader of heads has all bytes that were fed: none stand beside it
abbrev pub StandOnce : MessageStage → List ℕ → Type 0
StandOnce (stage.Request reader) rest = rest ≡ []
StandOnce (stage.Response asked_head reader) rest = rest ≡ []
StandOnce _ rest = ⊤

-- the place behind a head, at a body of this length
abbrev pub body_place : Sender → Length → MessagePlace
body_place side lengths.None = behind_end []
body_place side (lengths.Bytes n) = in_counted side n
body_place side lengths.Chunked = in_chunks side (in_line [])
body_place side lengths.ToClose = up_to_close side

abbrev pub request_place : Result Length Fault → MessagePlace
request_place (Ok length) = body_place Client length
request_place (Err fault) = refused fault

-- what is to come where no byte tells anything
abbrev pub cut_off : Bool → Reading
cut_off false = only goes_on
cut_off true = only (fails ServerClosed)

-- what the head of a response gives, by the length of its body, and where that leads
abbrev pub answered : Result Length Fault → ResponseHead → List ℕ → Bool → Part × State
answered (Ok length) head rest closed = (part.Response head, state_at (body_place Server length) rest closed)
answered (Err fault) head rest closed = (part.Bad BadResponse, state_at (refused BadResponse) rest closed)
