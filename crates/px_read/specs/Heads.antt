-- Heads in the types of messages.
use Rattle.std.specs.Prelude.{◌≡◌, ◌≤◌, ℕ, Bool, ◌==◌, ◌&&◌, ◌/◌, not, if◌then◌else◌, List, codes, bytes_eq, Some, Result, Ok}
use Rattle.std.specs.Str.Parse.{digits_value}
use Rattle.px_text.specs.Number.{decimal_value}
use Rattle.px_head.specs.declared.raw.RawHead.{RawHead}
use Rattle.px_message.specs.Length.{request_length}
use Rattle.px_message.specs.declared.fault.Fault.{Fault}
use Rattle.px_message.specs.declared.length.Length.{Length}
use Rattle.px_message.specs.declared.length.Length.TheVariants as lengths
use Rattle.px_message.specs.declared.version.Version.{Version}
use Rattle.px_message.specs.declared.version.Version.TheVariants.{Http10, Http11}
use Rattle.px_read.specs.declared.head.RequestHead.{RequestHead}
use Rattle.px_read.specs.declared.head.ResponseHead.{ResponseHead}

-- the version of that name (RFC 9112 section 2.3); the grammar of heads has two
abbrev pub version_named : List ℕ → Version
version_named text = if bytes_eq text (codes "HTTP/1.0") then Http10 else Http11

-- the code of three digits (RFC 9112 section 4)
abbrev pub code_of : RawHead → ℕ
code_of raw = digits_value 10 raw.second

-- the digits of a number from 100 to 999
abbrev pub IsCodeText : List ℕ → Type 0
IsCodeText digits = (n : ℕ) × (decimal_value digits ≡ Some n) × (100 ≤ n) × (n ≤ 999)

abbrev pub request_head : RawHead → RequestHead
request_head raw = record {
  method = raw.first;
  target = raw.second;
  version = version_named raw.third;
  fields = raw.pairs;
}

abbrev pub connect_method : List ℕ
connect_method = codes "CONNECT"

-- the request is a CONNECT
abbrev pub asks_tunnel : RequestHead → Bool
asks_tunnel head = bytes_eq head.method connect_method

-- The length of a request's body, by its method and its fields. A CONNECT has no content, and its framing fields are not looked at
-- (RFC 9110 section 9.3.6).
abbrev pub request_body_length : (method : List ℕ) → (fields : List (List ℕ × List ℕ)) → Result Length Fault
request_body_length method fields = if bytes_eq method connect_method then Ok lengths.None else request_length fields

abbrev pub response_head : RawHead → ResponseHead
response_head raw = record {
  version = version_named raw.first;
  code = code_of raw;
  reason = raw.third;
  fields = raw.pairs;
}

-- an interim response: another one follows it (RFC 9110 section 15.2). 101 ends HTTP on the connection and is final.
abbrev pub is_interim : ResponseHead → Bool
is_interim head = (head.code / 100 == 1) && not (head.code == 101)
