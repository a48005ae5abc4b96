-- More blanks in a text, where they stand between tokens, before the first or behind the last.
use Rattle.std.specs.Prelude.{◌≡◌, ℕ, true, false, List, [], ◌∷◌, ◌++◌, length}
use Rattle.px_filter.specs.Tokens.{front_token, is_blank}

-- The other text is the text with more blanks (none, or any number at each place), read from the left: the other has a blank more, both have a
-- blank (each a space or a tab), or both have the same token, whose first byte is c and whose further bytes are the word.
pub data IsMoreBlank : List ℕ → List ℕ → Type 0 where
  ended : IsMoreBlank [] []
  blank_more : {c : ℕ} {text other : List ℕ} → is_blank c ≡ true → IsMoreBlank text other → IsMoreBlank text (c ∷ other)
  both_blank : {c d : ℕ} {text other : List ℕ} → is_blank c ≡ true → is_blank d ≡ true → IsMoreBlank text other →
      IsMoreBlank (c ∷ text) (d ∷ other)
  same_token : {c : ℕ} (word text other : List ℕ) → is_blank c ≡ false → (front_token c (word ++ text)).1 ≡ length (c ∷ word) →
      IsMoreBlank text other → IsMoreBlank (c ∷ (word ++ text)) (c ∷ (word ++ other))
