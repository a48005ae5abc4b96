-- Parts of a value are values.
use Rattle.std.proofs.Common.{◌≡◌, ◌∙◌, ℕ, Bool, true, false, ◌&&◌, List, [], ◌∷◌, ◌++◌, take, drop, reverse, refl, ap}
use Rattle.std.proofs.lemmas.Bool.{and_from, and_parts, cond_both}
use Rattle.std.proofs.lemmas.List.{reverse-append}
use Rattle.std.proofs.lemmas.List.Elements.{All-drop, All-take}
use Rattle.std.proofs.lemmas.List.Folds.{list_all-append}
use Rattle.std.proofs.lemmas.List.Sums.{AllPass-from_list_all, list_all-from_AllPass}
use Rattle.px_message.specs.Fields.{is_blank, trim_blanks, trim_start}
use Rattle.px_message.specs.Value.{is_value, is_value_byte}

pub value_take : (n : ℕ) (text : List ℕ) → is_value text ≡ true → is_value (take n text) ≡ true
value_take n text is =
    list_all-from_AllPass is_value_byte (take n text) (All-take (λ b. is_value_byte b ≡ true) n text (AllPass-from_list_all is_value_byte text is))

pub value_drop : (n : ℕ) (text : List ℕ) → is_value text ≡ true → is_value (drop n text) ≡ true
value_drop n text is =
    list_all-from_AllPass is_value_byte (drop n text) (All-drop (λ b. is_value_byte b ≡ true) n text (AllPass-from_list_all is_value_byte text is))

pub value_append : (a b : List ℕ) → is_value a ≡ true → is_value b ≡ true → is_value (a ++ b) ≡ true
value_append a b first second = list_all-append is_value_byte a b ∙ and_from _ _ first second

turned : (a b : Bool) → (a && (b && true)) ≡ (b && a)
turned true true = refl
turned true false = refl
turned false true = refl
turned false false = refl

value_reverse : (text : List ℕ) → is_value (reverse text) ≡ is_value text
value_reverse [] = refl
value_reverse (b ∷ text) =
    ap is_value (reverse-append (b ∷ []) text) ∙ list_all-append is_value_byte (reverse text) (b ∷ [])
    ∙ ap (λ t. t && (is_value_byte b && true)) (value_reverse text) ∙ turned (is_value text) (is_value_byte b)

value_trim_start : (text : List ℕ) → is_value text ≡ true → is_value (trim_start text) ≡ true
value_trim_start [] is = refl
value_trim_start (b ∷ text) is =
    cond_both (is_blank b) (trim_start text) (b ∷ text) (λ t. is_value t ≡ true)
    (λ _. value_trim_start text (and_parts (is_value_byte b) (is_value text) is).1) (λ _. is)

pub value_trim : (text : List ℕ) → is_value text ≡ true → is_value (trim_blanks text) ≡ true
value_trim text is =
    value_reverse (trim_start (reverse (trim_start text)))
    ∙ value_trim_start (reverse (trim_start text)) (value_reverse (trim_start text) ∙ value_trim_start text is)
