-- The text of a message (RFC 9112 sections 2 to 7): every line ends in CRLF, single spaces stand in the start line, also
-- before an empty reason, and a field is its name, a colon, a space and its value.
use Rattle.std.specs.Prelude.{ℕ, Bool, ◌==◌, if◌then◌else◌, List, [], ◌∷◌, ◌++◌, length, codes, decimal}
use Rattle.std.specs.List.{flat_map}
use Rattle.std.specs.Borrow.{Bor}
use Rattle.px_text.specs.Blank.{crlf}
use Rattle.px_text.specs.Number.{hexadecimal}
use Rattle.px_message.specs.Length.{is_framed_in_chunks, has_no_body}
use Rattle.px_message.specs.Url.{url_text}
use Rattle.px_message.specs.declared.version.Version.{Version}
use Rattle.px_message.specs.declared.version.Version.TheVariants.{Http10, Http11}
use Rattle.px_message.specs.declared.request.Request.{Request}
use Rattle.px_message.specs.declared.response.Response.{Response}
use Rattle.px_write.specs.declared.form.Form.{Form}
use Rattle.px_write.specs.declared.form.Form.TheVariants.{Origin, Absolute}

-- the pieces of a text, one behind the other
abbrev pub joined : List (Bor (List ℕ)) → List ℕ
joined pieces = flat_map (λ piece. piece.now) pieces

-- the name of a version (RFC 9112 section 2.3)
unfoldable pub version_text : Version → List ℕ
version_text Http10 = codes "HTTP/1.0"
version_text Http11 = codes "HTTP/1.1"

-- the line that begins a request (RFC 9112 section 3)
abbrev pub request_line : List ℕ → List ℕ → List ℕ → List ℕ
request_line method target version = method ++ 32 ∷ [] ++ target ++ 32 ∷ [] ++ version ++ crlf

-- the line that begins a response (RFC 9112 section 4)
abbrev pub status_line : List ℕ → ℕ → List ℕ → List ℕ
status_line version code reason = version ++ 32 ∷ [] ++ decimal code ++ 32 ∷ [] ++ reason ++ crlf

-- the line of a field (RFC 9112 section 5)
abbrev pub field_line : List ℕ × List ℕ → List ℕ
field_line field = field.0 ++ 58 ∷ 32 ∷ [] ++ field.1 ++ crlf

-- the fields, and the empty line behind them
abbrev pub fields_text : List (List ℕ × List ℕ) → List ℕ
fields_text fields = flat_map field_line fields ++ crlf

-- the target in the form that its place asks (RFC 9112 sections 3.2.1 and 3.2.2)
abbrev pub target_text : Form → List ℕ → ℕ → List ℕ → List ℕ
target_text Origin host port path = path
target_text Absolute host port path = url_text host port path

abbrev pub request_head_text : Request → Form → List ℕ
request_head_text request form =
    request_line request.method (target_text form request.host request.port request.path) (version_text request.version)
    ++ fields_text request.fields

-- the head of a response: a status line and fields; an interim response is one, and has no more (RFC 9110 section 15.2)
abbrev pub interim_text : Version → ℕ → List ℕ → List (List ℕ × List ℕ) → List ℕ
interim_text version code reason fields = status_line (version_text version) code reason ++ fields_text fields

abbrev pub response_head_text : Response → List ℕ
response_head_text response = interim_text response.version response.status response.reason response.fields

-- a chunk of this content, or none where there is none (RFC 9112 section 7.1)
abbrev pub chunk_text : List ℕ → List ℕ
chunk_text content = if length content == 0 then [] else (hexadecimal (length content) ++ crlf ++ content ++ crlf)

-- the last chunk and the trailers
abbrev pub last_chunk_text : List (List ℕ × List ℕ) → List ℕ
last_chunk_text trailers = 48 ∷ crlf ++ fields_text trailers

-- a whole body: in one chunk with its trailers where the fields frame it in chunks, and else as it is
abbrev pub body_text : List (List ℕ × List ℕ) → List ℕ → List (List ℕ × List ℕ) → List ℕ
body_text fields content trailers =
    if is_framed_in_chunks fields then chunk_text content ++ last_chunk_text trailers else content

-- a whole request
abbrev pub request_text : Request → Form → List ℕ
request_text request form = request_head_text request form ++ body_text request.fields request.body request.trailers

-- the body of a response, or nothing where it can have none
abbrev pub response_body_text : Response → Bool → List ℕ
response_body_text response asked_head =
    if has_no_body response.status asked_head then [] else body_text response.fields response.body response.trailers

-- a whole response: where it can have no body, its head alone
abbrev pub response_text : Response → Bool → List ℕ
response_text response asked_head = response_head_text response ++ response_body_text response asked_head
