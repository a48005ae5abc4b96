-- What the words of a change are worth.
use Rattle.std.specs.Prelude.{ℕ, ◌==◌, List, length, Option, Some, None, option_and_then, if◌then◌else◌}
use Rattle.std.specs.Result.{result_ok}
use Rattle.base64.specs.Engines.{standard}
use Rattle.base64.specs.GeneralPurpose.{decode_of, encode_of}
use Rattle.httparse.specs.Grammar.{is_token}
use Rattle.px_text.specs.Number.{decimal_value}
use Rattle.px_message.specs.Status.{is_status}
use Rattle.px_message.specs.Value.{is_value}

-- base64 in the alphabet with `+` and `/`, padded (RFC 4648 section 4)
abbrev pub base64_text : List ℕ → List ℕ
base64_text bytes = encode_of standard bytes

-- the bytes whose base64 the text is, or none
unfoldable pub bytes_of : List ℕ → Option (List ℕ)
bytes_of text = result_ok (decode_of standard text)

-- the bytes, if they may be a field's value
abbrev pub checked_value : List ℕ → Option (List ℕ)
checked_value bytes = if is_value bytes then Some bytes else None

-- the value whose base64 the text is
abbrev pub value_of : List ℕ → Option (List ℕ)
value_of text = option_and_then checked_value (bytes_of text)

-- the text as a name: a token (RFC 9110 section 5.6.2)
abbrev pub name_of : List ℕ → Option (List ℕ)
name_of text = if is_token text then Some text else None

-- the number, if it is the code of a response
abbrev pub checked_status : ℕ → Option ℕ
checked_status code = if is_status code then Some code else None

-- the status of three digits (RFC 9112 section 4)
abbrev pub status_of : List ℕ → Option ℕ
status_of text = if length text == 3 then option_and_then checked_status (decimal_value text) else None
