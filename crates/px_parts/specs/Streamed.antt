-- Whether the body of a message is streamed: sent on as it comes, and not kept until it is whole. It is judged by the length that
-- was read, the size that the answer to the message's head allowed, and the bytes of the body that were heard; so no cut shows.
use Rattle.std.specs.Prelude.{◌≡◌, ℕ, ◌≤◌, Bool, true, false, nat_le, nat_lt, not, ◌&&◌, List, [], ◌++◌, length, take, Option, Some, None, Result, Ok, Err}
use Rattle.std.specs.List.{flat_map}
use Rattle.px_message.specs.Length.{has_no_body, response_length}
use Rattle.px_message.specs.declared.length.Length.{Length}
use Rattle.px_message.specs.declared.length.Length.TheVariants as lengths
use Rattle.px_message.specs.declared.fault.Fault.{Fault}
use Rattle.px_read.specs.Heads.{request_body_length}
use Rattle.px_read.specs.Items.{Item, missing, part, complete, bad_head, bad_body, content_in, request_item, response_item}
use Rattle.px_read.specs.Laws.{head_in}
use Rattle.px_read.specs.Marks.{Mark}
use Rattle.px_read.specs.Readings.{request_reading, response_reading}
use Rattle.px_read.specs.declared.head.RequestHead.{RequestHead}
use Rattle.px_read.specs.declared.head.ResponseHead.{ResponseHead}

-- A body of that length, of which so many bytes were heard, is more than is kept. One whose length is told is judged by it, with
-- the head; one in chunks or up to the close by what came of it.
abbrev pub exceeds : Length → (most heard : ℕ) → Bool
exceeds lengths.None most heard = false
exceeds (lengths.Bytes n) most heard = nat_lt most n
exceeds lengths.Chunked most heard = nat_lt most heard
exceeds lengths.ToClose most heard = nat_lt most heard

-- it is streamed; where no size is allowed, nothing is
abbrev pub is_streamed : Length → (allowed : Option ℕ) → (heard : ℕ) → Bool
is_streamed length None heard = false
is_streamed length (Some most) heard = exceeds length most heard

-- the same of a response that is sent with this code, to HEAD or not: one that can have no body then is not streamed
abbrev pub response_is_streamed : (status : ℕ) → (asked_head : Bool) → Length → (allowed : Option ℕ) → (heard : ℕ) → Bool
response_is_streamed status asked_head length allowed heard =
    not (has_no_body status asked_head) && is_streamed length allowed heard

-- ---- of bytes

-- how many bytes of a body are told
abbrev pub heard_in : List Mark → ℕ
heard_in marks = length (flat_map content_in marks)

-- by what the head says of the length, or refuses
abbrev pub streamed_by : Result Length Fault → Option ℕ → ℕ → Bool
streamed_by (Ok length) allowed heard = is_streamed length allowed heard
streamed_by (Err fault) allowed heard = false

-- nothing is streamed before its head
abbrev pub streams_behind : {H : Type 0} → (H → Result Length Fault) → Option H → Option ℕ → ℕ → Bool
streams_behind says None allowed heard = false
streams_behind says (Some head) allowed heard = streamed_by (says head) allowed heard

abbrev pub request_says : RequestHead → Result Length Fault
request_says head = request_body_length head.method head.fields

abbrev pub response_says : Bool → ResponseHead → Result Length Fault
response_says asked_head head = response_length head.code asked_head head.fields

-- the request at the front of these bytes is streamed where this size is allowed
abbrev pub request_streams : Option ℕ → List ℕ → Bool
request_streams allowed bytes =
    streams_behind request_says (head_in (request_item bytes)) allowed (heard_in (request_reading bytes).marks)

-- so is the response, where it is sent with this code
abbrev pub response_streams : (status : ℕ) → (asked_head closed : Bool) → Option ℕ → List ℕ → Bool
response_streams status asked_head closed allowed bytes =
    not (has_no_body status asked_head)
    && streams_behind (response_says asked_head) (head_in (response_item asked_head closed bytes)) allowed
    (heard_in (response_reading asked_head closed bytes).marks)

-- ---- laws

-- what is streamed stays so, however much more is heard
abbrev pub StreamedStays : Type 0
StreamedStays = (length : Length) (allowed : Option ℕ) (heard more : ℕ) → heard ≤ more → is_streamed length allowed heard ≡ true
    → is_streamed length allowed more ≡ true

abbrev pub RequestStreamsOn : Type 0
RequestStreamsOn = (allowed : Option ℕ) (bytes more : List ℕ) → request_streams allowed bytes ≡ true
    → request_streams allowed (bytes ++ more) ≡ true

abbrev pub ResponseStreamsOn : Type 0
ResponseStreamsOn = (status : ℕ) (asked_head closed : Bool) (allowed : Option ℕ) (bytes more : List ℕ)
    → response_streams status asked_head false allowed bytes ≡ true
    → response_streams status asked_head closed allowed (bytes ++ more) ≡ true

-- the first so many of the bytes are judged so from this number on, and not before
pub record BeginsAt (judged : List ℕ → Bool) (bytes : List ℕ) (place : ℕ) : Type 0 where
  pub within : place ≤ length bytes
  pub tells : (count : ℕ) → count ≤ length bytes → judged (take count bytes) ≡ nat_le place count

-- A message that is streamed is so from one byte on, whichever pieces the bytes come in: a look at a front of them tells exactly
-- whether that byte is among it. (There is one such place, and bytes that follow do not move it.)
abbrev pub RequestStreamsFrom : Type 0
RequestStreamsFrom = (allowed : Option ℕ) (bytes : List ℕ) → request_streams allowed bytes ≡ true
    → (place : ℕ) × BeginsAt (request_streams allowed) bytes place

abbrev pub ResponseStreamsFrom : Type 0
ResponseStreamsFrom = (status : ℕ) (asked_head : Bool) (allowed : Option ℕ) (bytes : List ℕ)
    → response_streams status asked_head false allowed bytes ≡ true
    → (place : ℕ) × BeginsAt (response_streams status asked_head false allowed) bytes place

-- Of a body that is not streamed where a size is allowed, no more bytes were heard than that: so no more of it is ever kept.
abbrev pub RequestKeepsLittle : Type 0
RequestKeepsLittle = (most : ℕ) (bytes : List ℕ) → request_streams (Some most) bytes ≡ false → heard_in (request_reading bytes).marks ≤ most

-- so of a response that is sent with a code that can have a body
abbrev pub ResponseKeepsLittle : Type 0
ResponseKeepsLittle = (status : ℕ) (asked_head closed : Bool) (most : ℕ) (bytes : List ℕ) → has_no_body status asked_head ≡ false
    → response_streams status asked_head closed (Some most) bytes ≡ false → heard_in (response_reading asked_head closed bytes).marks ≤ most

-- bytes that follow do not move it
abbrev pub PlaceStays : Type 0
PlaceStays = (judged : List ℕ → Bool) (bytes more : List ℕ) (place later : ℕ) → BeginsAt judged bytes place
    → BeginsAt judged (bytes ++ more) later → later ≡ place

-- the server's close behind the bytes changes nothing of the judgement
abbrev pub CloseChangesNothing : Type 0
CloseChangesNothing = (status : ℕ) (asked_head closed : Bool) (allowed : Option ℕ) (bytes : List ℕ)
    → response_streams status asked_head closed allowed bytes ≡ response_streams status asked_head false allowed bytes

-- what was heard of a body is its content
abbrev pub content_so_far : {H : Type 0} → Item H → List ℕ
content_so_far missing = []
content_so_far (part head body) = body.content
content_so_far (complete head body trailers used) = body.content
content_so_far (bad_head fault) = []
content_so_far (bad_body fault head body) = body.content

abbrev pub RequestHeardIsContent : Type 0
RequestHeardIsContent = (bytes : List ℕ) (head : RequestHead) → head_in (request_item bytes) ≡ Some head
    → heard_in (request_reading bytes).marks ≡ length (content_so_far (request_item bytes))

abbrev pub ResponseHeardIsContent : Type 0
ResponseHeardIsContent = (asked_head closed : Bool) (bytes : List ℕ) (head : ResponseHead)
    → head_in (response_item asked_head closed bytes) ≡ Some head
    → heard_in (response_reading asked_head closed bytes).marks ≡ length (content_so_far (response_item asked_head closed bytes))
