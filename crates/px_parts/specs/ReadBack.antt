-- Messages that were sent on as they came, as they are read: the text of all marks of a whole message is one message, with the same
-- marks behind the head that was sent, and nothing is left of it (RFC 9112 sections 2.1, 6.3 and 11.2).
use Rattle.std.specs.Prelude.{◌≡◌, ◌≢◌, ℕ, Bool, true, false, List, ◌∷◌, ◌++◌, length, Ok}
use Rattle.px_message.specs.Length.{has_no_body, request_length, response_length}
use Rattle.px_message.specs.Settle.{framing}
use Rattle.px_message.specs.declared.length.Length.TheVariants.{ToClose}
use Rattle.px_message.specs.declared.request.Request.{Request}
use Rattle.px_message.specs.declared.response.Response.{Response}
use Rattle.px_read.specs.Chunks.{whole}
use Rattle.px_read.specs.Heads.{asks_tunnel}
use Rattle.px_read.specs.Items.{Body, complete, request_item, response_item}
use Rattle.px_read.specs.Marks.{Mark, asks, answers}
use Rattle.px_read.specs.Readings.{request_reading, response_reading}
use Rattle.px_read.specs.declared.head.RequestHead.{RequestHead}
use Rattle.px_read.specs.declared.head.ResponseHead.{ResponseHead}
use Rattle.px_write.specs.ReadBack.{RequestHeadStands, ResponseHeadStands, TrailersStand, read_request_head, read_response_head}
use Rattle.px_write.specs.declared.form.Form.{Form}
use Rattle.px_parts.specs.Texts.{request_so_far, response_so_far}

-- ---- requests

-- The head that is sent frames the body as the head that was read: it has the same framing fields, in their order, and neither is
-- that of a CONNECT, which has no body.
pub record FramesRequest (sent : Request) (head : RequestHead) : Type 0 where
  pub fields : framing sent.fields ≡ framing head.fields
  pub no_tunnel : asks_tunnel head ≡ false

-- the text is read as this head and these marks, whatever follows it
abbrev pub IsRequestText : List ℕ → RequestHead → List Mark → List (List ℕ × List ℕ) → Type 0
IsRequestText text head marks trailers = (rest : List ℕ)
    → request_reading (text ++ rest) ≡ record { marks = asks head ∷ marks; finish = whole trailers (length text) }

-- A whole request that was sent on as it came is read with the head that was sent, and the same marks: the sender's chunks, its bytes
-- and its trailers. The head and the trailers are to be read as they stand.
abbrev pub StreamedRequestReadsBack : Request → Form → Type 0
StreamedRequestReadsBack sent form = (bytes : List ℕ) (head : RequestHead) (marks : List Mark) (trailers : List (List ℕ × List ℕ)) (used : ℕ)
    → request_reading bytes ≡ record { marks = asks head ∷ marks; finish = whole trailers used }
    → FramesRequest sent head → RequestHeadStands sent form → TrailersStand sent.fields trailers
    → IsRequestText (request_so_far sent form bytes) (read_request_head sent form) marks trailers

-- so it is the same item: with the same sizes of chunks, the same content and the same trailers
abbrev pub StreamedRequestIsSame : Request → Form → Type 0
StreamedRequestIsSame sent form = (bytes : List ℕ) (head : RequestHead) (body : Body) (trailers : List (List ℕ × List ℕ)) (used : ℕ)
    → request_item bytes ≡ complete head body trailers used
    → FramesRequest sent head → RequestHeadStands sent form → TrailersStand sent.fields trailers
    → (rest : List ℕ) → let text = request_so_far sent form bytes in
    request_item (text ++ rest) ≡ complete (read_request_head sent form) body trailers (length text)

-- ---- responses, to HEAD or not

-- the head that is sent frames the body as the head that was read: both can have one or neither
pub record FramesResponse (sent : Response) (asked_head : Bool) (head : ResponseHead) : Type 0 where
  pub fields : framing sent.fields ≡ framing head.fields
  pub body : has_no_body sent.status asked_head ≡ has_no_body head.code asked_head

-- these bytes, behind which the server has closed or not, are read as this head and these marks, and use so many bytes
abbrev pub AreReadAs : (asked_head closed : Bool) → List ℕ → ResponseHead → List Mark → List (List ℕ × List ℕ) → ℕ → Type 0
AreReadAs asked_head closed bytes head marks trailers used =
    response_reading asked_head closed bytes ≡ record { marks = answers head ∷ marks; finish = whole trailers used }

-- A whole response that was sent on as it came is read back: whatever follows it where its body does not run to the close, and in any
-- case where the server closes right behind it.
abbrev pub StreamedResponseReadsBack : Bool → Response → Type 0
StreamedResponseReadsBack asked_head sent =
    (shut : Bool) (bytes : List ℕ) (head : ResponseHead) (marks : List Mark) (trailers : List (List ℕ × List ℕ)) (used : ℕ)
    → AreReadAs asked_head shut bytes head marks trailers used
    → FramesResponse sent asked_head head → ResponseHeadStands sent → TrailersStand sent.fields trailers
    → let text = response_so_far sent asked_head shut bytes in
    (response_length sent.status asked_head sent.fields ≢ Ok ToClose → (closed : Bool) (rest : List ℕ)
    → AreReadAs asked_head closed (text ++ rest) (read_response_head sent) marks trailers (length text))
    × AreReadAs asked_head true text (read_response_head sent) marks trailers (length text)

abbrev pub StreamedResponseIsSame : Bool → Response → Type 0
StreamedResponseIsSame asked_head sent =
    (shut : Bool) (bytes : List ℕ) (head : ResponseHead) (body : Body) (trailers : List (List ℕ × List ℕ)) (used : ℕ)
    → response_item asked_head shut bytes ≡ complete head body trailers used
    → FramesResponse sent asked_head head → ResponseHeadStands sent → TrailersStand sent.fields trailers
    → let text = response_so_far sent asked_head shut bytes in
    (response_length sent.status asked_head sent.fields ≢ Ok ToClose → (closed : Bool) (rest : List ℕ)
    → response_item asked_head closed (text ++ rest) ≡ complete (read_response_head sent) body trailers (length text))
    × (response_item asked_head true text ≡ complete (read_response_head sent) body trailers (length text))

-- ---- what frames a body

-- the length that a head says is told by its framing fields alone: so fields that were settled for a streamed body, which are framed
-- as those that were read, say the length that was read
abbrev pub LengthIsFraming : Type 0
LengthIsFraming = (sent read : List (List ℕ × List ℕ)) → framing sent ≡ framing read
    → (request_length sent ≡ request_length read)
    × ((code : ℕ) (asked_head : Bool) → response_length code asked_head sent ≡ response_length code asked_head read)
