-- A reader of one message as its callers see it: where in the message the next byte stands, the bytes that were fed and not
-- used, and whether the sender has closed. What it gave and what it has to come are together what the bytes tell, however
-- they were cut.
use Rattle.std.specs.Prelude.{◌≡◌, ℕ, ◌+◌, ◌<◌, Bool, true, false, List, [], ◌++◌, length, min, ⊤}
use Rattle.px_text.specs.Prefix.{IsPrefixOf}
use Rattle.px_message.specs.declared.fault.Fault.{Fault}
use Rattle.px_read.specs.Marks.{BeginsWithNoByte, Mark, marks_of}
use Rattle.px_read.specs.Chunking.{LineHasRoom, place_keeps}
use Rattle.px_read.specs.Kept.{fields_keep}
use Rattle.px_read.specs.Chunks.{ChunkPlace, goes_on, whole, fails, Reading, chunks_from}
use Rattle.px_read.specs.Readings.{only, behind_bytes, counted_reading, closing_reading, as_response, request_reading, response_reading}
use Rattle.px_read.specs.declared.message_reader.stage.Sender.{Sender}
use Rattle.px_read.specs.declared.message_reader.stage.Sender.TheVariants.{Client, Server}
use Rattle.px_read.specs.declared.part.Part.{Part}
use Rattle.px_read.specs.declared.part.Part.TheVariants as part

-- what is read
pub data Message : Type 0 where
  request : Message
  -- a response, to a HEAD or not
  response : (asked_head : Bool) → Message

-- what these bytes, and the close behind them, tell of it
abbrev pub reading_of : Message → Bool → List ℕ → Reading
reading_of request closed bytes = request_reading bytes
reading_of (response asked_head) closed bytes = response_reading asked_head closed bytes

-- where in a message the next byte stands
pub data MessagePlace : Type 0 where
  -- before its head
  at_head : (message : Message) → MessagePlace
  -- in a body of which so many bytes are to come
  in_counted : (side : Sender) (left : ℕ) → MessagePlace
  -- in a chunked body
  in_chunks : (side : Sender) (place : ChunkPlace) → MessagePlace
  -- in a body up to the close
  up_to_close : (side : Sender) → MessagePlace
  -- behind a whole one, which had these trailers
  behind_end : (trailers : List (List ℕ × List ℕ)) → MessagePlace
  -- behind a fault
  refused : (fault : Fault) → MessagePlace

pub record State : Type 0 where
  pub place : MessagePlace
  -- the bytes that were fed and not used
  pub rest : List ℕ
  -- the sender has closed
  pub closed : Bool

-- a client's close changes nothing of its body; a server's ends or spoils it
abbrev pub has_shut : Sender → Bool → Bool
has_shut Client closed = false
has_shut Server closed = closed

abbrev pub as_sent : Sender → Bool → Reading → Reading
as_sent Client closed reading = reading
as_sent Server closed reading = as_response closed reading

abbrev pub is_client : Sender → Bool
is_client Client = true
is_client Server = false

-- a close changes nothing of what is to come there: the sender is a client, or the message has ended
abbrev pub is_clients : MessagePlace → Bool
is_clients (at_head request) = true
is_clients (at_head (response asked_head)) = false
is_clients (in_counted side left) = is_client side
is_clients (in_chunks side place) = is_client side
is_clients (up_to_close side) = is_client side
is_clients (behind_end trailers) = true
is_clients (refused fault) = true

-- the state as it is where its sender has not closed
abbrev pub opened : State → State
opened state = record state { closed = false }

-- what bytes from a place on tell
abbrev pub reading_from : MessagePlace → Bool → List ℕ → Reading
reading_from (at_head message) closed bytes = reading_of message closed bytes
reading_from (in_counted side left) closed bytes = as_sent side closed (counted_reading left bytes)
reading_from (in_chunks side place) closed bytes = as_sent side closed (chunks_from place bytes)
reading_from (up_to_close side) closed bytes = as_sent side closed (closing_reading (has_shut side closed) bytes)
reading_from (behind_end trailers) closed bytes = only (whole trailers 0)
reading_from (refused fault) closed bytes = only (fails fault)

-- what a reader has to come, of what it was fed
abbrev pub to_come : State → Reading
to_come state = reading_from state.place state.closed state.rest

-- ---- from state to state

-- bytes and a close that may come: none behind a close
abbrev pub MayFollow : Bool → List ℕ → Bool → Type 0
MayFollow false more later = ⊤
MayFollow true more later = (more ≡ []) × (later ≡ true)

-- a reading behind marks that were told of so many bytes
abbrev pub behind_marks : List Mark → ℕ → Reading → Reading
behind_marks marks count reading =
    record { marks = marks ++ reading.marks; finish = behind_bytes count reading.finish }

-- on the way from the old state to the new one these marks were told: whatever follows, they and what the new one has to
-- come are what the old one had to come
pub record Tells (marks : List Mark) (old new : State) : Type 0 where
  pub closed : new.closed ≡ old.closed
  -- the bytes that were used
  pub used : List ℕ
  pub bytes : old.rest ≡ used ++ new.rest
  pub reading : (more : List ℕ) (later : Bool) → MayFollow old.closed more later
      → reading_from old.place later (old.rest ++ more)
      ≡ behind_marks marks (length used) (reading_from new.place later (new.rest ++ more))

-- before a message of which these bytes were fed
abbrev pub before_all : Message → List ℕ → Bool → State
before_all message fed closed = record { place = at_head message; rest = fed; closed = closed }

-- the state of a reader of this message that gave these marks of these bytes: they are the first of what the bytes tell, and
-- what it has to come is all of the rest, whatever follows
abbrev pub Reads : Message → List Mark → List ℕ → Bool → State → Type 0
Reads message told fed closed state = Tells told (before_all message fed closed) state

-- ---- parts

-- a part that may be given of what is to come: `More` where nothing is told and the message goes on, `End` where nothing is
-- told and it is whole, `Bad` where nothing is told and it is refused, and else the next marks, at least one
abbrev pub IsNext : Part → Reading → Type 0
IsNext part.More reading = reading ≡ only goes_on
IsNext (part.End trailers) reading = (used : ℕ) × (reading ≡ only (whole trailers used))
IsNext (part.Bad fault) reading = reading ≡ only (fails fault)
IsNext given reading = (0 < length (marks_of given)) × IsPrefixOf (marks_of given) reading.marks

-- a piece is as long as what is there: what is to come behind it begins with no byte of the body
abbrev pub IsLongest : Part → Reading → Type 0
IsLongest (part.Piece bytes) reading = BeginsWithNoByte reading.marks
IsLongest given reading = ⊤

-- the end and a fault are for ever
abbrev pub HasStopped : Part → State → Type 0
HasStopped (part.End trailers) state = state.place ≡ behind_end trailers
HasStopped (part.Bad fault) state = state.place ≡ refused fault
HasStopped given state = ⊤

abbrev pub has_stopped : MessagePlace → Bool
has_stopped (behind_end trailers) = true
has_stopped (refused fault) = true
has_stopped place = false

-- a part that leads from one state to another
pub record IsTurn (old : State) (given : Part) (new : State) : Type 0 where
  pub tells : Tells (marks_of given) old new
  pub next : IsNext given (to_come old)
  pub longest : IsLongest given (to_come new)
  pub stopped : HasStopped given new
  pub again : has_stopped old.place ≡ true → new ≡ old

-- ---- what is kept

-- of what was used: a chunk line or trailers that have begun, and the trailers of a whole message
abbrev pub place_of_message_keeps : MessagePlace → ℕ
place_of_message_keeps (at_head message) = 0
place_of_message_keeps (in_counted side left) = 0
place_of_message_keeps (in_chunks side place) = place_keeps place
place_of_message_keeps (up_to_close side) = 0
place_of_message_keeps (behind_end trailers) = fields_keep trailers
place_of_message_keeps (refused fault) = 0

-- of what was not used: all but the bytes that wait, which are those behind the message. Behind a counted body they are told
-- by its length; where the end of a head or of a chunked body is still to be found, all that was fed counts until it was looked at
abbrev pub rest_keeps : MessagePlace → List ℕ → ℕ
rest_keeps (at_head message) rest = length rest
rest_keeps (in_counted side left) rest = min left (length rest)
rest_keeps (in_chunks side place) rest = length rest
rest_keeps (up_to_close side) rest = length rest
rest_keeps (behind_end trailers) rest = 0
rest_keeps (refused fault) rest = length rest

-- how many bytes a reader keeps
abbrev pub keeps : State → ℕ
keeps state = place_of_message_keeps state.place + rest_keeps state.place state.rest

-- a chunk line that has begun has room for one byte more
abbrev pub HasRoom : MessagePlace → Type 0
HasRoom (in_chunks side place) = LineHasRoom place
HasRoom place = ⊤
