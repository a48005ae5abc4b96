-- What the bytes of a stream tell of the message at its front (RFC 9112 sections 2 to 7): its head, its body as far as it
-- has come, and how it stands.
use Rattle.std.specs.Prelude.{ℕ, ◌+◌, Bool, false, nat_le, if◌then◌else◌, List, [], ◌∷◌, length, map, take, drop, Result, Ok, Err}
use Rattle.px_head.specs.Front.{request_front, response_front}
use Rattle.px_head.specs.declared.raw.RawHead.{RawHead}
use Rattle.px_head.specs.declared.front.Front.{Front}
use Rattle.px_head.specs.declared.front.Front.TheVariants as front
use Rattle.px_message.specs.Length.{response_length}
use Rattle.px_message.specs.declared.length.Length.{Length}
use Rattle.px_message.specs.declared.length.Length.TheVariants as lengths
use Rattle.px_message.specs.declared.fault.Fault.{Fault}
use Rattle.px_message.specs.declared.fault.Fault.TheVariants.{BadHead, TooLong, BadResponse, ServerClosed}
use Rattle.px_read.specs.Heads.{code_of, request_body_length, request_head, response_head}
use Rattle.px_read.specs.Marks.{Mark, asks, answers, byte}
use Rattle.px_read.specs.Chunks.{Finish, goes_on, whole, fails, Reading, chunked_reading}

-- nothing is told, and this stands
abbrev pub only : Finish → Reading
only finish = record { marks = []; finish = finish }

-- the finish behind so many bytes more
abbrev pub behind_bytes : ℕ → Finish → Finish
behind_bytes before goes_on = goes_on
behind_bytes before (whole trailers used) = whole trailers (before + used)
behind_bytes before (fails fault) = fails fault

-- the reading behind a head that used so many bytes
abbrev pub behind_head : Mark → ℕ → Reading → Reading
behind_head head used body = record { marks = head ∷ body.marks; finish = behind_bytes used body.finish }

-- a body of so many bytes
abbrev pub counted_reading : ℕ → List ℕ → Reading
counted_reading n bytes =
    record { marks = map byte (take n bytes); finish = if nat_le n (length bytes) then whole [] n else goes_on }

-- a body up to the close
abbrev pub closing_reading : Bool → List ℕ → Reading
closing_reading closed bytes =
    record { marks = map byte bytes; finish = if closed then whole [] (length bytes) else goes_on }

-- a body of this length, of which these bytes were heard, and whether the side has closed behind them
abbrev pub body_reading : Length → Bool → List ℕ → Reading
body_reading lengths.None closed bytes = only (whole [] 0)
body_reading (lengths.Bytes n) closed bytes = counted_reading n bytes
body_reading lengths.Chunked closed bytes = chunked_reading bytes
body_reading lengths.ToClose closed bytes = closing_reading closed bytes

-- ---- a request: its client's close changes nothing of it

abbrev pub request_body : Result Length Fault → List ℕ → Reading
request_body (Err fault) bytes = only (fails fault)
request_body (Ok length) bytes = body_reading length false bytes

abbrev pub request_behind : Front → List ℕ → Reading
request_behind front.Nothing bytes = only goes_on
request_behind front.TooLong bytes = only (fails TooLong)
request_behind front.BadHead bytes = only (fails BadHead)
request_behind (front.Stands raw used) bytes =
    behind_head (asks (request_head raw)) used (request_body (request_body_length raw.first raw.pairs) (drop used bytes))

-- what the client's bytes tell of the request at their front
abbrev pub request_reading : List ℕ → Reading
request_reading bytes = request_behind (request_front bytes) bytes

-- ---- a response, interim or final, to a HEAD or not: its server's close ends or spoils it

-- every fault of a response is one
abbrev pub response_finish : Bool → Finish → Finish
response_finish closed goes_on = if closed then fails ServerClosed else goes_on
response_finish closed (whole trailers used) = whole trailers used
response_finish closed (fails fault) = fails BadResponse

abbrev pub as_response : Bool → Reading → Reading
as_response closed reading = record { marks = reading.marks; finish = response_finish closed reading.finish }

-- a response whose length is at fault tells nothing
abbrev pub response_body : RawHead → ℕ → Result Length Fault → Bool → List ℕ → Reading
response_body raw used (Err fault) closed bytes = only (fails fault)
response_body raw used (Ok length) closed bytes =
    behind_head (answers (response_head raw)) used (body_reading length closed bytes)

abbrev pub response_behind : Front → Bool → Bool → List ℕ → Reading
response_behind front.Nothing asked_head closed bytes = only goes_on
response_behind front.TooLong asked_head closed bytes = only (fails TooLong)
response_behind front.BadHead asked_head closed bytes = only (fails BadHead)
response_behind (front.Stands raw used) asked_head closed bytes =
    response_body raw used (response_length (code_of raw) asked_head raw.pairs) closed (drop used bytes)

-- what the server's bytes, and its close, tell of the response at their front
abbrev pub response_reading : Bool → Bool → List ℕ → Reading
response_reading asked_head closed bytes =
    as_response closed (response_behind (response_front bytes) asked_head closed bytes)
