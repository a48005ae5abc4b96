-- Messages whose framing fields are true to their bodies (RFC 9112 section 6), and what settling makes of the others.
use Rattle.std.specs.Prelude.{ℕ, ◌≡◌, ◌^◌, ◌<◌, ◌==◌, ◌||◌, Bool, not, if◌then◌else◌, List, [], ◌++◌, length, filter, decimal, Some, Result, Ok, Err, bytes_eq}
use Rattle.std.specs.Ordering.{eq_of_both, on}
use Rattle.std.specs.Cmp.Lexicographic.{pointwise}
use Rattle.px_message.specs.Fields.{is_named, set_in, without}
use Rattle.px_message.specs.Length.{agree, coded_length, content_length, has_no_body, is_framed_in_chunks, request_length, response_length, stands, stated_length, transfer_encoding}
use Rattle.px_message.specs.declared.length.Length.{Length}
use Rattle.px_message.specs.declared.length.Length.TheVariants as lengths
use Rattle.px_message.specs.declared.fault.Fault.{Fault}
use Rattle.px_message.specs.declared.request.Request.{Request}
use Rattle.px_message.specs.declared.response.Response.{Response}

-- the fields with a Content-Length that is this number: where all that stand say it already, they stay
abbrev pub measured : ℕ → List (List ℕ × List ℕ) → List (List ℕ × List ℕ)
measured n fields = if agree (stated_length fields) (Some n) then fields else set_in content_length (decimal n) fields

-- the fields of a request without codings, with a body of so many bytes: none needs no Content-Length
-- (RFC 9112 section 6.3, rule 7)
abbrev pub measured_request : ℕ → List (List ℕ × List ℕ) → List (List ℕ × List ℕ)
measured_request n fields = if stands content_length fields || not (n == 0) then measured n fields else fields

-- the fields of a response without codings, with a body of so many bytes: where no Content-Length stands, the body runs
-- to the close (rule 8)
abbrev pub measured_response : ℕ → List (List ℕ × List ℕ) → List (List ℕ × List ℕ)
measured_response n fields = if stands content_length fields then measured n fields else fields

-- the fields of a request: chunks need no Content-Length, and codings that do not frame are none of a request's (rule 4)
abbrev pub settled_request_fields : ℕ → List (List ℕ × List ℕ) → List (List ℕ × List ℕ)
settled_request_fields n fields =
    if is_framed_in_chunks fields then without content_length fields
    else measured_request n (without transfer_encoding fields)

-- the fields of a response with codings, by what these are refused as or frame
abbrev pub settled_by_codings : Result Length Fault → ℕ → List (List ℕ × List ℕ) → List (List ℕ × List ℕ)
settled_by_codings (Ok _) n fields = without content_length fields
settled_by_codings (Err _) n fields = measured_response n (without transfer_encoding fields)

-- the fields of a response that can have a body
abbrev pub settled_response_fields : ℕ → List (List ℕ × List ℕ) → List (List ℕ × List ℕ)
settled_response_fields n fields =
    if stands transfer_encoding fields then settled_by_codings (coded_length fields) n fields
    else measured_response n fields

-- the trailers of a message with these fields: chunks alone have them (RFC 9112 section 7.1.2)
abbrev pub settled_trailers : List (List ℕ × List ℕ) → List (List ℕ × List ℕ) → List (List ℕ × List ℕ)
settled_trailers fields trailers = if is_framed_in_chunks fields then trailers else []

abbrev pub settled_request : Request → Request
settled_request request = record request {
  fields = settled_request_fields (length request.body) request.fields;
  trailers = settled_trailers request.fields request.trailers;
}

-- to HEAD or not; where it can have no body, its fields tell of one that is not sent (RFC 9110 section 8.6), and stay
abbrev pub settled_response : Bool → Response → Response
settled_response asked_head response =
    if has_no_body response.status asked_head then record response { body = []; trailers = [] }
    else record response {
      fields = settled_response_fields (length response.body) response.fields;
      trailers = settled_trailers response.fields response.trailers;
    }

-- the field is one of the two that frame
abbrev pub is_framing : List ℕ × List ℕ → Bool
is_framing field = is_named transfer_encoding field || is_named content_length field

-- the framing fields, in their order
abbrev pub framing : List (List ℕ × List ℕ) → List (List ℕ × List ℕ)
framing fields = filter is_framing fields

-- the two lists are equal, byte by byte
abbrev pub are_same : List (List ℕ × List ℕ) → List (List ℕ × List ℕ) → Bool
are_same a b = pointwise (eq_of_both (on (λ f. f.0) bytes_eq) (on (λ f. f.1) bytes_eq)) a b

-- the fields of a message whose body passes by as it was read: its framing fields are those that were read
abbrev pub settled_streamed : List (List ℕ × List ℕ) → List (List ℕ × List ℕ) → List (List ℕ × List ℕ)
settled_streamed read fields =
    if are_same (framing fields) (framing read) then fields
    else without content_length (without transfer_encoding fields) ++ framing read

-- ---- what holds of it

-- body and trailers are those of a message whose head gives this length
abbrev pub Fits : Result Length Fault → List ℕ → List (List ℕ × List ℕ) → Type 0
Fits (Ok lengths.None) body trailers = (body ≡ []) × (trailers ≡ [])
Fits (Ok (lengths.Bytes n)) body trailers = (length body ≡ n) × (trailers ≡ [])
Fits (Ok lengths.Chunked) body trailers = Unit {0}
Fits (Ok lengths.ToClose) body trailers = trailers ≡ []
Fits (Err _) body trailers = ⊥

-- the whole message is one as it is read: its body is as long as its own head says
abbrev pub IsWholeRequest : Request → Type 0
IsWholeRequest request = Fits (request_length request.fields) request.body request.trailers

abbrev pub IsWholeResponse : Bool → Response → Type 0
IsWholeResponse asked_head response =
    Fits (response_length response.status asked_head response.fields) response.body response.trailers

-- Laws. A body that memory holds has fewer than 2 ^ 64 bytes.

-- what is settled is whole
abbrev pub SettledRequestIsWhole : Type 0
SettledRequestIsWhole = (request : Request) → length request.body < 2 ^ 64 → IsWholeRequest (settled_request request)

abbrev pub SettledResponseIsWhole : Type 0
SettledResponseIsWhole = (asked_head : Bool) (response : Response) → length response.body < 2 ^ 64
    → IsWholeResponse asked_head (settled_response asked_head response)

-- what is whole stays as it is
abbrev pub WholeRequestStays : Type 0
WholeRequestStays = (request : Request) → IsWholeRequest request → settled_request request ≡ request

abbrev pub WholeResponseStays : Type 0
WholeResponseStays = (asked_head : Bool) (response : Response) → IsWholeResponse asked_head response
    → settled_response asked_head response ≡ response

-- settling twice is settling once
abbrev pub RequestSettlesOnce : Type 0
RequestSettlesOnce = (request : Request) → length request.body < 2 ^ 64
    → settled_request (settled_request request) ≡ settled_request request

abbrev pub ResponseSettlesOnce : Type 0
ResponseSettlesOnce = (asked_head : Bool) (response : Response) → length response.body < 2 ^ 64
    → settled_response asked_head (settled_response asked_head response) ≡ settled_response asked_head response

-- a message whose body passes by has the framing fields that were read, byte by byte and in their order
abbrev pub StreamedIsFramedAsRead : Type 0
StreamedIsFramedAsRead = (read fields : List (List ℕ × List ℕ)) → framing (settled_streamed read fields) ≡ framing read

-- it stays as it is where it has them, and so after it was settled
abbrev pub StreamedStays : Type 0
StreamedStays = (read fields : List (List ℕ × List ℕ)) → framing fields ≡ framing read → settled_streamed read fields ≡ fields

abbrev pub StreamedSettlesOnce : Type 0
StreamedSettlesOnce = (read fields : List (List ℕ × List ℕ))
    → settled_streamed read (settled_streamed read fields) ≡ settled_streamed read fields
