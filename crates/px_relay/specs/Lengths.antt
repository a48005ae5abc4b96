-- How the lengths of a message's fragments are kept: neighbours that are equal are one run, and runs are pairs of bytes.
use Rattle.std.specs.Prelude.{◌≡◌, ℕ, suc, ◌+◌, ◌-◌, ◌^◌, ◌≤◌, ◌==◌, min, if◌then◌else◌, List, [], ◌∷◌, ◌++◌, length, replicate, Option, Some, None}

-- ---- what pairs of bytes say

-- a length with so many bytes more (it is below 2^64)
abbrev pub longer : ℕ → ℕ → ℕ
longer part count = min (part + count) (2 ^ 64 - 1)

-- The lengths that pairs say, where so many bytes of the next one were said before. A pair that begins with 255 says that a length has so many bytes
-- more, and another pair has the rest; any other says its last bytes, and how often more than once it stands.
abbrev pub lengths_behind : ℕ → List ℕ → List ℕ
lengths_behind part [] = []
lengths_behind part (more ∷ []) = []
lengths_behind part (more ∷ count ∷ pairs) =
    if more == 255 then lengths_behind (longer part count) pairs
    else replicate (suc more) (longer part count) ++ lengths_behind 0 pairs

-- ---- how many they are

-- the bytes of frames with payloads of these lengths, at least: two of a head (RFC 6455 section 5.2), and the payload
abbrev pub heard : List ℕ → ℕ
heard [] = 0
heard (count ∷ counts) = 2 + (count + heard counts)

-- Pairs say these lengths, and so many bytes of the next one: whatever pairs follow go on there. They are no more bytes than were heard.
pub record Say (counts : List ℕ) (part : ℕ) (pairs : List ℕ) : Type 0 where
  pub follows : (rest : List ℕ) → lengths_behind 0 (pairs ++ rest) ≡ counts ++ lengths_behind part rest
  pub few : length pairs ≤ heard counts + part

-- pairs that end with a length
abbrev pub AreWhole : List ℕ → Type 0
AreWhole pairs = Say (lengths_behind 0 pairs) 0 pairs

-- pairs and a last run, of one fragment at least
pub record AreKept (pairs : List ℕ) (times : ℕ) : Type 0 where
  pub whole : AreWhole pairs
  pub some : 1 ≤ times

-- ---- one by one

-- a list by what was taken from its front, if it has one
abbrev pub ahead : Option ℕ → List ℕ → List ℕ
ahead None counts = counts
ahead (Some count) counts = count ∷ counts

-- the front was taken, if there is one
abbrev pub Yields : Option ℕ → List ℕ → List ℕ → Type 0
Yields None before after = (before ≡ []) × (after ≡ [])
Yields (Some count) before after = before ≡ count ∷ after
