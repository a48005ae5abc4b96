-- Written messages as they are read: no text that is written for a whole message is read as two or as another one (RFC 9112
-- sections 2.1, 6.3 and 11.2).
use Rattle.std.specs.Prelude.{ℕ, ◌≡◌, ◌≢◌, ◌≤◌, bytes_eq, ◌==◌, ◌&&◌, Bool, true, not, if◌then◌else◌, List, [], ◌∷◌, ◌++◌, length, codes, decimal, Some, Ok, All, IsUtf8}
use Rattle.httparse.specs.Grammar.{AllPass, is_value_byte, trim_ows}
use Rattle.px_head.specs.Front.{request_front, response_front, trailer_front}
use Rattle.px_head.specs.declared.raw.RawHead.{RawHead}
use Rattle.px_head.specs.declared.front.Front.TheVariants.{Stands}
use Rattle.px_message.specs.Length.{is_framed_in_chunks, response_length}
use Rattle.px_message.specs.Settle.{IsWholeRequest, IsWholeResponse, settled_request, settled_response}
use Rattle.px_message.specs.Target.{absolute, asterisk, origin, target_form}
use Rattle.px_message.specs.declared.length.Length.TheVariants.{ToClose}
use Rattle.px_message.specs.declared.request.Request.{Request}
use Rattle.px_message.specs.declared.response.Response.{Response}
use Rattle.px_read.specs.Items.{Body, complete, request_item, response_item}
use Rattle.px_read.specs.Whole.{IsReadRequest, IsReadResponse}
use Rattle.px_read.specs.declared.head.RequestHead.{RequestHead}
use Rattle.px_read.specs.declared.head.ResponseHead.{ResponseHead}
use Rattle.px_write.specs.TargetPath.{path_said}
use Rattle.px_write.specs.Text.{fields_text, request_head_text, request_text, response_head_text, response_text, target_text, version_text}
use Rattle.px_write.specs.declared.form.Form.{Form}
use Rattle.px_write.specs.declared.form.Form.TheVariants.{Origin, Absolute}

-- ---- what is read as it stands

-- the parts of a request's head, as they are written
abbrev pub request_parts : Request → Form → RawHead
request_parts request form = record {
  first = request.method;
  second = target_text form request.host request.port request.path;
  third = version_text request.version;
  pairs = request.fields;
}

-- the parts of a response's head, as they are written
abbrev pub response_parts : Response → RawHead
response_parts response = record {
  first = version_text response.version;
  second = decimal response.status;
  third = response.reason;
  pairs = response.fields;
}

-- trailers, as they are written
abbrev pub trailer_parts : List (List ℕ × List ℕ) → RawHead
trailer_parts trailers = record { first = []; second = []; third = []; pairs = trailers }

-- the request's head is read as it stands: by itself, all of it, and with the same parts
abbrev pub RequestHeadStands : Request → Form → Type 0
RequestHeadStands request form =
    request_front (request_head_text request form) ≡ Stands (request_parts request form) (length (request_head_text request form))

-- the response's head is read as it stands
abbrev pub ResponseHeadStands : Response → Type 0
ResponseHeadStands response =
    response_front (response_head_text response) ≡ Stands (response_parts response) (length (response_head_text response))

-- trailers are read as they stand, where the fields frame the body in chunks, behind which alone they are written
abbrev pub TrailersStand : List (List ℕ × List ℕ) → List (List ℕ × List ℕ) → Type 0
TrailersStand fields trailers = is_framed_in_chunks fields ≡ true
    → trailer_front (fields_text trailers) ≡ Stands (trailer_parts trailers) (length (fields_text trailers))

-- ---- which heads and trailers are

-- a field whose value has no control byte but the tab, and no blank at either end
abbrev pub IsPlainField : List ℕ × List ℕ → Type 0
IsPlainField field = AllPass is_value_byte field.1 × (trim_ows field.1 ≡ field.1)

-- at most 100 such fields
abbrev pub ArePlain : List (List ℕ × List ℕ) → Type 0
ArePlain fields = All IsPlainField fields × (length fields ≤ 100)

-- the head of a request is read as it stands where its path is UTF-8 and its fields are plain, up to 65,536 bytes
abbrev pub PlainRequestStands : Request → Form → Type 0
PlainRequestStands request form = IsUtf8 request.path → ArePlain request.fields
    → length (request_head_text request form) ≤ 65536 → RequestHeadStands request form

-- so is that of a response, where its reason has no control byte but the tab
abbrev pub PlainResponseStands : Response → Type 0
PlainResponseStands response = AllPass is_value_byte response.reason → ArePlain response.fields
    → length (response_head_text response) ≤ 65536 → ResponseHeadStands response

-- and trailers
abbrev pub PlainTrailersStand : List (List ℕ × List ℕ) → Type 0
PlainTrailersStand trailers = ArePlain trailers → length (fields_text trailers) ≤ 65536
    → (fields : List (List ℕ × List ℕ)) → TrailersStand fields trailers

-- ---- what is read

-- the request's head with its target in that form
abbrev pub read_request_head : Request → Form → RequestHead
read_request_head request form = record {
  method = request.method;
  target = target_text form request.host request.port request.path;
  version = request.version;
  fields = request.fields;
}

abbrev pub read_response_head : Response → ResponseHead
read_response_head response = record {
  version = response.version;
  code = response.status;
  reason = response.reason;
  fields = response.fields;
}

-- the body of this content, in one chunk where it is framed in chunks and not empty, and else in none
abbrev pub one_chunk : Bool → List ℕ → Body
one_chunk framed content =
    if framed && not (length content == 0) then record { sizes = length content ∷ []; ended = 1; content = content }
    else record { sizes = []; ended = 0; content = content }

-- ---- laws of requests

-- The text is read as this one request, whatever follows it: with the same head, body and trailers, and the message behind it
-- begins where it ends.
abbrev pub IsRequestText : List ℕ → Request → Form → Type 0
IsRequestText text request form = (rest : List ℕ)
    → request_item (text ++ rest)
    ≡ complete (read_request_head request form) (one_chunk (is_framed_in_chunks request.fields) request.body) request.trailers
    (length text)

-- where head and trailers are read as they stand, the text that is written of a request is read as it
abbrev pub RequestReadsBack : Request → Form → Type 0
RequestReadsBack request form = RequestHeadStands request form → TrailersStand request.fields request.trailers
    → IsRequestText (request_text request form) request form

-- a whole request is read back
abbrev pub WholeRequestReadsBack : Request → Form → Type 0
WholeRequestReadsBack request form = IsWholeRequest request → RequestReadsBack request form

-- and so is every request, once it is settled
abbrev pub SettledRequestReadsBack : Request → Form → Type 0
SettledRequestReadsBack request form = RequestReadsBack (settled_request request) form

-- A request that was read, whose path is the one that its target says, is read as it was once it is settled and written. A
-- blank may be written behind a colon where none was read, so the head and the trailers that are written are to have at most
-- 65,536 bytes each.
abbrev pub ReadRequestReadsBack : Request → Form → Type 0
ReadRequestReadsBack request form = (bytes : List ℕ) (read : IsReadRequest bytes request)
    → path_said (target_form request.method read.head.target) ≡ Some request.path
    → length (request_head_text request form) ≤ 65536 → length (fields_text request.trailers) ≤ 65536
    → IsRequestText (request_text (settled_request request) form) request form

-- the target of a request to a server is read as its path; `*` is the server as a whole
abbrev pub OriginReadsBack : Request → Type 0
OriginReadsBack request =
    target_form request.method (target_text Origin request.host request.port request.path)
    ≡ Some (if bytes_eq request.path (codes "*") then asterisk else origin request.path)

-- the target of a request to a proxy is read as its host, port and path. The path `*` has no URL of its own.
abbrev pub AbsoluteReadsBack : Request → Type 0
AbsoluteReadsBack request = request.path ≢ codes "*"
    → target_form request.method (target_text Absolute request.host request.port request.path)
    ≡ Some (absolute request.host request.port request.path)

-- ---- laws of responses, to HEAD or not

-- the bytes, behind which the server has closed or not, are read as this one response, which uses so many of them
abbrev pub AreReadAs : Bool → Bool → List ℕ → ℕ → Response → Type 0
AreReadAs asked_head closed bytes used response =
    response_item asked_head closed bytes
    ≡ complete (read_response_head response) (one_chunk (is_framed_in_chunks response.fields) response.body) response.trailers used

-- so is this text, whatever follows it
abbrev pub IsResponseText : Bool → List ℕ → Response → Type 0
IsResponseText asked_head text response = (closed : Bool) (rest : List ℕ)
    → AreReadAs asked_head closed (text ++ rest) (length text) response

-- so is this text where the server closes right behind it
abbrev pub IsResponseTextAtClose : Bool → List ℕ → Response → Type 0
IsResponseTextAtClose asked_head text response = AreReadAs asked_head true text (length text) response

-- the response is read as this one, whatever follows it, whether its server has closed behind that or not
abbrev pub ResponseReadsBack : Bool → Response → Type 0
ResponseReadsBack asked_head response =
    ResponseHeadStands response → TrailersStand response.fields response.trailers
    → response_length response.status asked_head response.fields ≢ Ok ToClose
    → IsResponseText asked_head (response_text response asked_head) response

-- a response whose body runs to the close is read as it is where the server closes right behind it
abbrev pub ResponseReadsBackAtClose : Bool → Response → Type 0
ResponseReadsBackAtClose asked_head response =
    ResponseHeadStands response → TrailersStand response.fields response.trailers
    → IsResponseTextAtClose asked_head (response_text response asked_head) response

-- a whole response is read back
abbrev pub WholeResponseReadsBack : Bool → Response → Type 0
WholeResponseReadsBack asked_head response = IsWholeResponse asked_head response
    → ResponseReadsBack asked_head response × ResponseReadsBackAtClose asked_head response

-- and so is every response, once it is settled
abbrev pub SettledResponseReadsBack : Bool → Response → Type 0
SettledResponseReadsBack asked_head response =
    let settled = settled_response asked_head response in
    ResponseReadsBack asked_head settled × ResponseReadsBackAtClose asked_head settled

-- A response that was read, settled and written is read as it was: whatever follows it, where its body does not run to the
-- close, and in any case where its server closes right behind it.
abbrev pub ReadResponseReadsBack : Bool → Response → Type 0
ReadResponseReadsBack asked_head response = (shut : Bool) (bytes : List ℕ) → IsReadResponse asked_head shut bytes response
    → length (response_head_text response) ≤ 65536 → length (fields_text response.trailers) ≤ 65536
    → (response_length response.status asked_head response.fields ≢ Ok ToClose
    → IsResponseText asked_head (response_text (settled_response asked_head response) asked_head) response)
    × IsResponseTextAtClose asked_head (response_text (settled_response asked_head response) asked_head) response
