-- The bytes of a frame in the shortest form (RFC 6455 section 5.2).
use Rattle.std.specs.Prelude.{◌≡◌, ℕ, ◌+◌, ◌≤◌, Bool, true, false, nat_le, if◌then◌else◌, List, [], ◌∷◌, ◌++◌, length, Option, Some, None, is_some, ⊤}
use Rattle.std.specs.Int.{to_be_bytes, w16, w64}
use Rattle.px_frame.specs.Head.{is_control, is_opcode}
use Rattle.px_frame.specs.Mask.{under_key}

-- a bit as the highest of a byte
abbrev pub high : Bool → ℕ
high true = 128
high false = 0

abbrev pub key_bytes : Option (List ℕ) → List ℕ
key_bytes None = []
key_bytes (Some key) = key

-- the mask bit and the length, in 7 bits where it is at most 125, in 16 where it is below 65,536, else in 64
abbrev pub length_text : Bool → ℕ → List ℕ
length_text masked count =
    if nat_le count 125 then (high masked + count) ∷ []
    else (if nat_le count 65535 then (high masked + 126) ∷ to_be_bytes w16 count else (high masked + 127) ∷ to_be_bytes w64 count)

-- the head of a frame with a payload of so many bytes
abbrev pub head_text : Bool → ℕ → Option (List ℕ) → ℕ → List ℕ
head_text fin opcode key count = (high fin + opcode) ∷ (length_text (is_some key) count ++ key_bytes key)

abbrev pub frame_text : Bool → ℕ → Option (List ℕ) → List ℕ → List ℕ
frame_text fin opcode key payload = head_text fin opcode key (length payload) ++ under_key key payload

-- what may be written: an opcode that is defined, and a control frame whole and short
pub record MayWrite (fin : Bool) (opcode count : ℕ) : Type 0 where
  pub defined : is_opcode opcode ≡ true
  pub whole : is_control opcode ≡ true → fin ≡ true
  pub short : is_control opcode ≡ true → count ≤ 125

-- a key has four bytes
abbrev pub IsKey : Option (List ℕ) → Type 0
IsKey None = ⊤
IsKey (Some key) = length key ≡ 4
