-- Bytes as base64.
use Rattle.std.specs.Prelude.{ℕ, List}
use Rattle.base64.specs.GeneralPurpose.{encode_of}
use Rattle.base64.specs.Engines.{standard}

-- base64 in the alphabet with `+` and `/`, padded (RFC 4648 section 4)
abbrev pub base64_text : List ℕ → List ℕ
base64_text bytes = encode_of standard bytes
