-- What follows of the definitions.
use Rattle.std.specs.Prelude.{◌≡◌, ◌≤◌, ◌↔◌, ℕ, zero, suc, ◌+◌, ◌*◌, List, [], ◌++◌, length, take, drop}
use Rattle.px_entry.specs.Parts.{most, part_of}

-- the first parts of a text, each from where the one before ends
abbrev pub parts : ℕ → List ℕ → List ℕ
parts zero text = []
parts (suc count) text = parts count text ++ part_of (count * most) text

-- Parts make the text.
pub record PartsMakeIt (text : List ℕ) : Type 0 where
  -- the first of them are its front, and enough of them are all of it
  pub front : (count : ℕ) → parts count text ≡ take (count * most) text
  pub whole : (count : ℕ) → length text ≤ count * most → parts count text ≡ text
  -- a part is followed by what stands behind it, wherever it begins
  pub next : (from : ℕ) → part_of from text ++ drop (from + length (part_of from text)) text ≡ drop from text
  -- it is never too large, and empty exactly at the end and behind it
  pub small : (from : ℕ) → length (part_of from text) ≤ most
  pub empty : (from : ℕ) → (part_of from text ≡ []) ↔ (length text ≤ from)

abbrev pub PartsMakeTheEntry : Type 0
PartsMakeTheEntry = (text : List ℕ) → PartsMakeIt text
