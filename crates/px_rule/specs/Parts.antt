-- The parts of a rule's text, as the code holds them.
use Rattle.std.specs.Prelude.{◌≡◌, ℕ, suc, List, [], ◌∷◌, map}
use Rattle.std.specs.Str.{chars, encode_utf8_all}
use Rattle.px_rule.specs.Spec.{split_up_to}
use Rattle.px_rule.specs.declared.spec.Parts.{Parts}
use Rattle.px_rule.specs.declared.spec.Parts.TheVariants.{One, Two, Three}

abbrev pub parts_in : Parts → List (List ℕ)
parts_in (One a) = a.now ∷ []
parts_in (Two a b) = a.now ∷ b.now ∷ []
parts_in (Three a b c) = a.now ∷ b.now ∷ c.now ∷ []

-- the text has no separator, so that no split finds one
abbrev pub IsWhole : ℕ → List ℕ → Type 0
IsWhole separator text = (most : ℕ) → map encode_utf8_all (split_up_to most separator (chars text)) ≡ text ∷ []

-- the two stand before and behind the first separator of the text
abbrev pub IsCut : ℕ → List ℕ → List ℕ → List ℕ → Type 0
IsCut separator text front back =
    ((most : ℕ) → map encode_utf8_all (split_up_to (suc most) separator (chars text))
    ≡ front ∷ map encode_utf8_all (split_up_to most separator (chars back)))
    × (encode_utf8_all (chars back) ≡ back)
