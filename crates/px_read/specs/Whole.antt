-- What is read as whole has a body as long as its own head says (RFC 9112 section 6.3), so settling changes nothing of it.
use Rattle.std.specs.Prelude.{◌≡◌, ◌≤◌, ℕ, Bool, List, length, drop, All, IsUtf8}
use Rattle.httparse.specs.Grammar.{AllPass, is_uri_byte}
use Rattle.px_head.specs.Laws.{IsPair, IsValueText}
use Rattle.px_message.specs.Length.{response_length}
use Rattle.px_message.specs.Settle.{Fits, IsWholeRequest, IsWholeResponse, settled_request, settled_response}
use Rattle.px_message.specs.declared.request.Request.{Request}
use Rattle.px_message.specs.declared.response.Response.{Response}
use Rattle.px_read.specs.Heads.{request_body_length}
use Rattle.px_read.specs.Items.{Body, complete, request_item, response_item, answer_list}
use Rattle.px_read.specs.declared.head.RequestHead.{RequestHead}
use Rattle.px_read.specs.declared.head.ResponseHead.{ResponseHead}

-- the request is the one at the front of the bytes, as it was read. Its host, port and path are what its target is taken for,
-- which is said elsewhere.
pub record IsReadRequest (bytes : List ℕ) (request : Request) : Type 0 where
  pub head : RequestHead
  pub body : Body
  pub used : ℕ
  pub whole : request_item bytes ≡ complete head body request.trailers used
  pub method : request.method ≡ head.method
  pub version : request.version ≡ head.version
  pub fields : request.fields ≡ head.fields
  pub content : request.body ≡ body.content

-- the response is the one at the front of the bytes, to a HEAD or not, with the server's close behind them or not
pub record IsReadResponse (asked_head closed : Bool) (bytes : List ℕ) (response : Response) : Type 0 where
  pub head : ResponseHead
  pub body : Body
  pub used : ℕ
  pub whole : response_item asked_head closed bytes ≡ complete head body response.trailers used
  pub version : response.version ≡ head.version
  pub status : response.status ≡ head.code
  pub reason : response.reason ≡ head.reason
  pub fields : response.fields ≡ head.fields
  pub content : response.body ≡ body.content

-- ---- laws of items

-- the content of a whole request, and its trailers, are those of a body of the length that its head gives: of none where it is a CONNECT
abbrev pub WholeRequestFits : Type 0
WholeRequestFits = (bytes : List ℕ) (head : RequestHead) (body : Body) (trailers : List (List ℕ × List ℕ)) (used : ℕ)
    → request_item bytes ≡ complete head body trailers used → Fits (request_body_length head.method head.fields) body.content trailers

abbrev pub WholeResponseFits : Type 0
WholeResponseFits = (asked_head closed : Bool) (bytes : List ℕ) (head : ResponseHead) (body : Body)
    (trailers : List (List ℕ × List ℕ)) (used : ℕ) → response_item asked_head closed bytes ≡ complete head body trailers used
    → Fits (response_length head.code asked_head head.fields) body.content trailers

-- the final response is the one at the front of the bytes behind the interim ones
abbrev pub FinalIsBehindInterim : Type 0
FinalIsBehindInterim = (asked_head closed : Bool) (bytes : List ℕ)
    → (answer_list asked_head closed bytes).final
    ≡ response_item asked_head closed (drop (answer_list asked_head closed bytes).used bytes)

-- fields as they are read: at most 100, each with a token and a value without a control byte but the tab, and without a blank
-- at either end
pub record AreReadFields (fields : List (List ℕ × List ℕ)) : Type 0 where
  pub pairs : All IsPair fields
  pub few : length fields ≤ 100

-- a whole request's target is UTF-8 without blanks and control bytes, and its fields and trailers are such fields
abbrev pub WholeRequestIsValid : Type 0
WholeRequestIsValid = (bytes : List ℕ) (head : RequestHead) (body : Body) (trailers : List (List ℕ × List ℕ)) (used : ℕ)
    → request_item bytes ≡ complete head body trailers used
    → (AllPass is_uri_byte head.target × IsUtf8 head.target) × AreReadFields head.fields × AreReadFields trailers

-- a whole response's reason has no control byte but the tab, and its fields and trailers are such fields
abbrev pub WholeResponseIsValid : Type 0
WholeResponseIsValid = (asked_head closed : Bool) (bytes : List ℕ) (head : ResponseHead) (body : Body)
    (trailers : List (List ℕ × List ℕ)) (used : ℕ) → response_item asked_head closed bytes ≡ complete head body trailers used
    → IsValueText head.reason × AreReadFields head.fields × AreReadFields trailers

-- ---- laws of messages

-- a request that was read is whole
abbrev pub ReadRequestIsWhole : Type 0
ReadRequestIsWhole = (bytes : List ℕ) (request : Request) → IsReadRequest bytes request → IsWholeRequest request

-- and settling changes nothing of it
abbrev pub ReadRequestStays : Type 0
ReadRequestStays = (bytes : List ℕ) (request : Request) → IsReadRequest bytes request → settled_request request ≡ request

abbrev pub ReadResponseIsWhole : Type 0
ReadResponseIsWhole = (asked_head closed : Bool) (bytes : List ℕ) (response : Response)
    → IsReadResponse asked_head closed bytes response → IsWholeResponse asked_head response

abbrev pub ReadResponseStays : Type 0
ReadResponseStays = (asked_head closed : Bool) (bytes : List ℕ) (response : Response)
    → IsReadResponse asked_head closed bytes response → settled_response asked_head response ≡ response
