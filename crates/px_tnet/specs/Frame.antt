-- The outside of an item: how long its payload is, the payload, and a byte that tells the payload's kind.
use Rattle.std.specs.Prelude.{◌≡◌, ℕ, ◌<◌, ◌≤◌, ◌⊎◌, List, [], ◌∷◌, ◌++◌, length, decimal}

-- a payload has fewer bytes than this, so that its length has nine digits at most
abbrev pub too_many : ℕ
too_many = 1000000000

abbrev pub colon : ℕ
colon = 58

-- the length in decimal digits without a leading zero, a colon, the payload, and the tag
abbrev pub framed : List ℕ → ℕ → List ℕ
framed payload tag = decimal (length payload) ++ (colon ∷ (payload ++ (tag ∷ [])))

-- the text is a payload in its frame, with a rest behind it
abbrev pub Framed : List ℕ → ℕ → List ℕ → List ℕ → Type 0
Framed payload tag rest text = (length payload < too_many) × (text ≡ framed payload tag ++ rest)

-- the digits of some length
abbrev pub IsLength : List ℕ → Type 0
IsLength digits = (count : ℕ) × (count < too_many) × (digits ≡ decimal count)

-- digits of a length may come to stand behind it, or nothing has to
abbrev pub BeginsLength : List ℕ → Type 0
BeginsLength text = (text ≡ []) ⊎ IsLength text

-- the text ends before its item does, and nothing else is wrong so far: it ends within the length, or a colon stands
-- behind the length, but too few bytes behind the colon for payload and tag
abbrev pub IsCut : List ℕ → Type 0
IsCut text =
    BeginsLength text
    ⊎ ((count : ℕ) × (behind : List ℕ) × (count < too_many) × (text ≡ decimal count ++ (colon ∷ behind)) × (length behind ≤ count))

-- some byte goes on with no length, and is no colon behind one: no digit stands in front, a zero leads, a tenth digit
-- stands, or another byte than a colon stands behind the digits
abbrev pub IsBadLength : List ℕ → Type 0
IsBadLength text =
    (front : List ℕ) × (byte : ℕ) × (behind : List ℕ) × (text ≡ front ++ (byte ∷ behind)) × BeginsLength front
    × (¬ (BeginsLength (front ++ (byte ∷ [])))) × (¬ (IsLength front × (byte ≡ colon)))
