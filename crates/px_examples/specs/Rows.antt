-- Rows: an input each, and what a definition says of it.
use Rattle.std.specs.Prelude.{◌≡◌, ℕ, Bool, MatchBool, ◌==◌, not, if◌then◌else◌, List, [], ◌∷◌, map, filter, length, codes}
use Rattle.std.specs.List.{slice_split, before_first, after_first}
use Prim.Native.String.{String}

infix 100 ◌gives◌
-- the bytes of a text, with the answer
abbrev pub ◌gives◌ : {B : Type 0} → String → B → List ℕ × B
text gives answer = (codes text, answer)

-- the definition says each row's answer of its input
abbrev pub Hold : {A B : Type 0} → (A → B) → List (A × B) → Type 0
Hold says rows = map (λ row. says row.0) rows ≡ map (λ row. row.1) rows

-- a fact holds of each row's input where the row says so, and else does not
abbrev pub Tell : {A : Type 0} → (A → Type 0) → List (A × Bool) → Type 0
Tell P [] = Unit {0}
Tell P (row ∷ rows) = MatchBool row.1 (P row.0) (¬ (P row.0)) × Tell P rows

-- what stands in front of the first stroke, and behind it
abbrev pub before_stroke : List ℕ → List ℕ
before_stroke text = before_first (λ b. b == 124) text

abbrev pub behind_stroke : List ℕ → List ℕ
behind_stroke text = after_first (λ b. b == 124) text

abbrev pub without_blank : List ℕ → List ℕ
without_blank [] = []
without_blank (b ∷ text) = if b == 32 then text else b ∷ text

-- a name up to a colon, and the value behind it and one blank
abbrev pub field_in : List ℕ → List ℕ × List ℕ
field_in line = (before_first (λ b. b == 58) line, without_blank (after_first (λ b. b == 58) line))

-- the fields of a text, one a line
abbrev pub fields_in : List ℕ → List (List ℕ × List ℕ)
fields_in text = map field_in (filter (λ line. not (length line == 0)) (slice_split (λ b. b == 10) text))

abbrev pub fields : String → List (List ℕ × List ℕ)
fields text = fields_in (codes text)
