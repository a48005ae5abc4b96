-- The responses of map local.
use Rattle.std.specs.Prelude.{ℕ, ◌==◌, ◌||◌, false, List, [], ◌∷◌, ◌++◌, length, codes, decimal, Option, Some, None, if◌then◌else◌}
use Rattle.px_message.specs.Fields.{is_same_name}
use Rattle.px_message.specs.Length.{content_length}
use Rattle.px_message.specs.declared.response.Response.{Response}
use Rattle.px_message.specs.declared.version.Version.TheVariants.{Http11}

-- what stands behind the last dot of a path, or nothing where it has none
abbrev pub extension_from : List ℕ → List ℕ → List ℕ
extension_from found [] = found
extension_from found (b ∷ text) = if b == 46 then extension_from text text else extension_from found text

abbrev pub extension : List ℕ → List ℕ
extension path = extension_from [] path

-- the media type of an image or of a font with this extension, whose letters count in either case
abbrev pub other_type : List ℕ → Option (List ℕ)
other_type e =
    if is_same_name e (codes "png") then Some (codes "image/png")
    else (if is_same_name e (codes "jpg") || is_same_name e (codes "jpeg") then Some (codes "image/jpeg")
    else (if is_same_name e (codes "gif") then Some (codes "image/gif")
    else (if is_same_name e (codes "svg") then Some (codes "image/svg+xml")
    else (if is_same_name e (codes "woff2") then Some (codes "font/woff2")
    else None))))

-- the media type of a file with this extension (RFC 9110 section 8.3.1)
abbrev pub media_type : List ℕ → Option (List ℕ)
media_type e =
    if is_same_name e (codes "html") || is_same_name e (codes "htm") then Some (codes "text/html")
    else (if is_same_name e (codes "css") then Some (codes "text/css")
    else (if is_same_name e (codes "js") then Some (codes "text/javascript")
    else (if is_same_name e (codes "json") then Some (codes "application/json")
    else (if is_same_name e (codes "txt") then Some (codes "text/plain")
    else other_type e))))

-- the field Content-Type, where the type is known
abbrev pub type_field : Option (List ℕ) → List (List ℕ × List ℕ)
type_field None = []
type_field (Some media) = (codes "Content-Type", media) ∷ []

-- who speaks, and how long the body is (RFC 9110 section 8.6)
abbrev pub fields_with : List (List ℕ × List ℕ) → ℕ → List (List ℕ × List ℕ)
fields_with given count = (codes "Server", codes "mitm") ∷ given ++ (content_length, decimal count) ∷ []

abbrev pub answered : ℕ → List ℕ → List (List ℕ × List ℕ) → List ℕ → Response
answered status reason fields body = record {
  version = Http11;
  status = status;
  reason = reason;
  fields = fields;
  body = body;
  trailers = [];
  streamed = false;
}

-- the response with a file
abbrev pub file_response : List ℕ → List ℕ → Response
file_response path body =
    answered 200 (codes "OK") (fields_with (type_field (media_type (extension path))) (length body)) body

-- the response that says no more than its status, as px_write's `short_response` of 404 and of 500
abbrev pub not_found : Response
not_found = answered 404 (codes "Not Found") (fields_with [] 0) []

abbrev pub internal_error : Response
internal_error = answered 500 (codes "Internal Server Error") (fields_with [] 0) []
