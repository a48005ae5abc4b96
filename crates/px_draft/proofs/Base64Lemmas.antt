-- The base64 of bytes is read as them, and nothing else is.
use Rattle.std.proofs.Common.{◌≡◌, ℕ, List, Some, Result, Ok, Err, refl, ap}
use Rattle.std.specs.Result.{result_ok}
use Rattle.base64.specs.Engines.{standard}
use Rattle.base64.specs.GeneralPurpose.{IsBytes, IsConsistent, IsStrict, decode_of}
use Rattle.base64.specs.declared.decode.DecodeError.{DecodeError}
use Rattle.base64.proofs.EngineFacts.{decode_of-encode_of, decode_of_strict}
use Rattle.px_draft.specs.Laws.{Base64IsRead}
use Rattle.px_draft.specs.Words.{base64_text, bytes_of}

standard_consistent : IsConsistent standard
standard_consistent = refl

standard_strict : IsStrict standard
standard_strict = (refl, refl)

ok_from : (outcome : Result (List ℕ) DecodeError) (bytes : List ℕ) → result_ok outcome ≡ Some bytes → outcome ≡ Ok bytes
ok_from (Ok found) bytes is = cc
ok_from (Err e) bytes is = cc

pub bytes_back : (bytes : List ℕ) → IsBytes bytes → bytes_of (base64_text bytes) ≡ Some bytes
unfolding bytes_of
bytes_back bytes are = ap result_ok (decode_of-encode_of standard bytes standard_consistent are)

only_base64 : (text bytes : List ℕ) → IsBytes text → bytes_of text ≡ Some bytes → text ≡ base64_text bytes
unfolding bytes_of
only_base64 text bytes are is = decode_of_strict standard text bytes standard_strict are (ok_from (decode_of standard text) bytes is)

pub base64_read : Base64IsRead
base64_read = record { back = bytes_back; only = only_base64 }
