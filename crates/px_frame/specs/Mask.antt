-- Masking: byte i of a payload is XORed with byte i modulo 4 of the key (RFC 6455 section 5.3).
use Rattle.std.specs.Prelude.{ℕ, ◌+◌, ◌%◌, List, [], ◌∷◌, slice_index, Option, Some, None, bit_xor}

-- the bytes, the first of which is byte `at` of its payload, under the key
abbrev pub under : List ℕ → ℕ → List ℕ → List ℕ
under key at [] = []
under key at (byte ∷ bytes) = bit_xor byte (slice_index key (at % 4)) ∷ under key (at + 1) bytes

-- a payload under a key, or as it is where there is none
abbrev pub under_key : Option (List ℕ) → List ℕ → List ℕ
under_key None payload = payload
under_key (Some key) payload = under key 0 payload
