-- The length of a message's body (RFC 9112 section 6.3, in this proxy's profile): the first rule that applies decides.
use Rattle.std.specs.Prelude.{ℕ, ◌/◌, Bool, false, ◌==◌, ◌&&◌, ◌||◌, not, if◌then◌else◌, List, [], ◌∷◌, map, codes, Option, Some, None, Result, Ok, Err}
use Rattle.std.specs.List.{list_any, flat_map}
use Rattle.px_text.specs.Number.{decimal_value}
use Rattle.px_message.specs.Fields.{is_named, is_same_name, values_of, parts, elements_of, has_element}
use Rattle.px_message.specs.declared.length.Length.{Length}
use Rattle.px_message.specs.declared.length.Length.TheVariants as lengths
use Rattle.px_message.specs.declared.fault.Fault.{Fault}
use Rattle.px_message.specs.declared.fault.Fault.TheVariants.{BothLengths, BadLength, BadCoding}

-- the names of the two framing fields
abbrev pub transfer_encoding : List ℕ
transfer_encoding = codes "Transfer-Encoding"

abbrev pub content_length : List ℕ
content_length = codes "Content-Length"

-- a field of that name stands
abbrev pub stands : List ℕ → List (List ℕ × List ℕ) → Bool
stands name fields = list_any (is_named name) fields

-- the coding is `chunked`, in any case
abbrev pub is_chunked : List ℕ → Bool
is_chunked coding = is_same_name coding (codes "chunked")

-- the last coding is `chunked`, and no other is
abbrev pub ends_chunked : List (List ℕ) → Bool
ends_chunked [] = false
ends_chunked (coding ∷ []) = is_chunked coding
ends_chunked (coding ∷ next ∷ codings) = not (is_chunked coding) && ends_chunked (next ∷ codings)

-- the message's codings, as if all values of Transfer-Encoding were joined by commas
abbrev pub codings : List (List ℕ × List ℕ) → List (List ℕ)
codings fields = elements_of transfer_encoding fields

-- where Transfer-Encoding alone frames the body: in chunks, or not at all
abbrev pub is_framed_in_chunks : List (List ℕ × List ℕ) → Bool
is_framed_in_chunks fields = ends_chunked (codings fields)

-- two numbers are there and equal
abbrev pub agree : Option ℕ → Option ℕ → Bool
agree (Some a) (Some b) = a == b
agree _ _ = false

-- the one number that all are
abbrev pub agreed : List (Option ℕ) → Option ℕ
agreed [] = None
agreed (number ∷ []) = number
agreed (number ∷ next ∷ numbers) = if agree number (agreed (next ∷ numbers)) then number else None

-- the number that every part of every Content-Length value is, or none
abbrev pub stated_length : List (List ℕ × List ℕ) → Option ℕ
stated_length fields = agreed (map decimal_value (flat_map parts (values_of content_length fields)))

abbrev pub by_stated : Option ℕ → Result Length Fault
by_stated None = Err BadLength
by_stated (Some n) = Ok (lengths.Bytes n)

-- the length of a request's body
abbrev pub request_length : List (List ℕ × List ℕ) → Result Length Fault
request_length fields =
    if stands transfer_encoding fields then (
    if stands content_length fields then Err BothLengths
    else (if is_framed_in_chunks fields then Ok lengths.Chunked else Err BadCoding))
    else (if stands content_length fields then by_stated (stated_length fields) else Ok lengths.None)

-- a response of this status code has no body: an interim one, 204 or 304; nor has an answer to HEAD (RFC 9110 section 6.4.1)
abbrev pub has_no_body : ℕ → Bool → Bool
has_no_body code asked_head = asked_head || (code / 100 == 1) || code == 204 || code == 304

-- the length of a response's body by its codings alone
abbrev pub coded_length : List (List ℕ × List ℕ) → Result Length Fault
coded_length fields =
    if has_element transfer_encoding (codes "chunked") fields
    then (if is_framed_in_chunks fields then Ok lengths.Chunked else Err BadCoding)
    else Ok lengths.ToClose

-- the length of the body of a response that can have one
abbrev pub framed_length : List (List ℕ × List ℕ) → Result Length Fault
framed_length fields =
    if stands transfer_encoding fields then (
    if stands content_length fields then Err BothLengths else coded_length fields)
    else (if stands content_length fields then by_stated (stated_length fields) else Ok lengths.ToClose)

-- the length of a response's body
abbrev pub response_length : ℕ → Bool → List (List ℕ × List ℕ) → Result Length Fault
response_length code asked_head fields =
    if has_no_body code asked_head then Ok lengths.None else framed_length fields
