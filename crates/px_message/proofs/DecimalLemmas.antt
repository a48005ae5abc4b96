-- The digits of a number as a field's value: nothing to trim, no comma, and read as the number.
use Rattle.std.proofs.Common.{◌≡◌, ◌∙◌, ◌<◌, ◌^◌, ◌==◌, ◌&&◌, ℕ, Bool, true, false, not, Some, List, [], ◌∷◌, ◌++◌, map, refl, ap, arith, reverse}
use Rattle.std.specs.Prelude.{decimal}
use Rattle.std.specs.List.{flat_map, list_all}
use Rattle.std.specs.Str.Parse.{AllDigits}
use Rattle.std.specs.Char.{digit_value}
use Rattle.std.proofs.lemmas.Bool.Decides.{nat_tests}
use Rattle.std.proofs.lemmas.Fmt.{decimal_is_IsNumeral}
use Rattle.std.proofs.lemmas.List.{reverse-append, reverse-reverse}
use Rattle.std.proofs.lemmas.List.Folds.{list_all-append}
use Rattle.std.proofs.lemmas.List.Splits.{slice_split_none}
use Rattle.std.proofs.lemmas.List.Sums.{AllPass-from_list_all}
use Rattle.px_text.specs.Number.{decimal_value}
use Rattle.px_text.proofs.NumberLemmas.{number_value-Some}
use Rattle.px_message.specs.Fields.{is_blank, parts, set_in, trim_blanks, trim_start}
use Rattle.px_message.specs.Length.{agreed, content_length, stated_length}
use Rattle.px_message.specs.Value.{is_value, is_value_byte}
use Rattle.px_message.proofs.FieldLaws.{values_of-set_in}

-- a byte that is neither blank nor comma, nor any that a value may not hold
abbrev is_mark : ℕ → Bool
is_mark b = not (is_blank b) && not (b == 44) && is_value_byte b

digit_mark : (b : ℕ) → digit_value b < 10 → is_mark b ≡ true
digit_mark b h = grind (arith, nat_tests)

digits_marks : (text : List ℕ) → AllDigits 10 text → list_all is_mark text ≡ true
digits_marks [] h = refl
digits_marks (b ∷ text) h = rw (digit_mark b h.0) (digits_marks text h.1)

both_so : (a b : Bool) → (a && b) ≡ true → (a ≡ true) × (b ≡ true)
both_so true b h = (refl, h)
both_so false b h = absurd (let e = h in cc)

reverse_marks : (text : List ℕ) → list_all is_mark text ≡ true → list_all is_mark (reverse text) ≡ true
reverse_marks [] h = refl
reverse_marks (b ∷ text) h =
    let both = both_so (is_mark b) (list_all is_mark text) h in
    ap (list_all is_mark) (reverse-append (b ∷ []) text) ∙ list_all-append is_mark (reverse text) (b ∷ [])
    ∙ (λ i. reverse_marks text both.1 i && (both.0 i && true))

no_blank : (b : ℕ) → is_mark b ≡ true → is_blank b ≡ false
no_blank b h = grind (arith, nat_tests)

no_comma : (b : ℕ) → is_mark b ≡ true → (b == 44) ≡ false
no_comma b h = grind (arith, nat_tests)

trim_none : (text : List ℕ) → list_all is_mark text ≡ true → trim_start text ≡ text
trim_none [] h = refl
trim_none (b ∷ text) h = rw (no_blank b (both_so (is_mark b) (list_all is_mark text) h).0) refl

trim_both : (text : List ℕ) → list_all is_mark text ≡ true → trim_blanks text ≡ text
trim_both text h =
    ap (λ (t : List ℕ). reverse (trim_start (reverse t))) (trim_none text h)
    ∙ ap reverse (trim_none (reverse text) (reverse_marks text h)) ∙ reverse-reverse text

one_part : (text : List ℕ) → list_all is_mark text ≡ true → parts text ≡ text ∷ []
one_part text h =
    ap (map trim_blanks) (slice_split_none (λ b. b == 44) text (λ k d less. no_comma _ (AllPass-from_list_all is_mark text h k d less)))
    ∙ ap (λ (t : List ℕ). t ∷ []) (trim_both text h)

decimal_marks : (n : ℕ) → n < 2 ^ 64 → list_all is_mark (decimal n) ≡ true
decimal_marks n small = digits_marks (decimal n) (decimal_is_IsNumeral n small).0.1

marks_value : (text : List ℕ) → list_all is_mark text ≡ true → is_value text ≡ true
marks_value [] h = refl
marks_value (b ∷ text) h =
    let both = both_so (is_mark b) (list_all is_mark text) h in
    let byte = both_so (not (is_blank b) && not (b == 44)) (is_value_byte b) both.0 in
    λ i. byte.1 i && marks_value text both.1 i

-- digits may be a field's value
pub decimal_is_value : (n : ℕ) → n < 2 ^ 64 → is_value (decimal n) ≡ true
decimal_is_value n small = marks_value (decimal n) (decimal_marks n small)

decimal_is_read : (n : ℕ) → n < 2 ^ 64 → decimal_value (decimal n) ≡ Some n
decimal_is_read n small =
    let numeral = decimal_is_IsNumeral n small in
    number_value-Some 10 (decimal n) (numeral.0, rw numeral.1 small) ∙ ap Some numeral.1

-- a Content-Length that was set states its number
pub stated-decimal : (n : ℕ) (fields : List (List ℕ × List ℕ)) → n < 2 ^ 64 →
    stated_length (set_in content_length (decimal n) fields) ≡ Some n
stated-decimal n fields small =
    ap (λ (values : List (List ℕ)). agreed (map decimal_value (flat_map parts values))) (values_of-set_in content_length (decimal n) fields)
    ∙ ap (λ (texts : List (List ℕ)). agreed (map decimal_value (texts ++ []))) (one_part (decimal n) (decimal_marks n small))
    ∙ decimal_is_read n small
