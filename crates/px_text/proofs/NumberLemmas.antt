-- Digits as a test and as a fact.
use Rattle.std.proofs.Common.{ℕ, ◌<◌, ◌≤◌, ◌^◌, ◌≡◌, ◌&&◌, Bool, true, false, refl, ap, ◌∙◌, sym, arith, List, [], ◌∷◌, length, Option, Some, None, MatchOption, zero, suc}
use Rattle.std.specs.Prelude.{if◌then◌else◌}
use Rattle.std.specs.Char.{is_digit, digit_value}
use Rattle.std.specs.List.{list_all}
use Rattle.std.specs.Str.{IsAscii, IsUtf8}
use Rattle.std.specs.Str.Parse.{AllDigits, digits_value}
use Rattle.std.proofs.lemmas.Bool.{ltb-true, lt-ltb}
use Rattle.std.proofs.lemmas.Bool.Decides.{nat_tests}
use Rattle.std.proofs.lemmas.Str.{IsUtf8-from_ascii}
use Rattle.px_text.specs.Number.{is_number, number_value, IsNumber}

-- each digit passes the test
pub list_all-from_AllDigits : (base : ℕ) (text : List ℕ) → AllDigits base text → list_all (λ digit. is_digit digit base) text ≡ true
list_all-from_AllDigits base [] h = refl
list_all-from_AllDigits base (c ∷ cs) h = rw (lt-ltb (digit_value c) base h.0) (list_all-from_AllDigits base cs h.1)

and-left : (a b : Bool) → (a && b) ≡ true → a ≡ true
and-left true b h = refl
and-left false b h = h

and-right : (a b : Bool) → (a && b) ≡ true → b ≡ true
and-right true b h = h
and-right false b h = cc

-- and each byte that passes it is one
pub AllDigits-from_list_all : (base : ℕ) (text : List ℕ) → list_all (λ digit. is_digit digit base) text ≡ true → AllDigits base text
AllDigits-from_list_all base [] h = tt
AllDigits-from_list_all base (c ∷ cs) h = (
  ltb-true (digit_value c) base (and-left _ (list_all (λ digit. is_digit digit base) cs) h),
  AllDigits-from_list_all base cs (and-right (is_digit c base) _ h),
)

-- the value of a number's text
pub number_value-Some : (base : ℕ) (text : List ℕ) → IsNumber base text → number_value base text ≡ Some (digits_value base text)
number_value-Some base text h =
    rw (lt-ltb 0 (length text) h.0.0, list_all-from_AllDigits base text h.0.1, lt-ltb (digits_value base text) (2 ^ 64) h.1) refl

is_number_by : (base : ℕ) (text : List ℕ) (b : Bool) → is_number base text ≡ b → ¬ (IsNumber base text) → (if b then Some (digits_value base text) else None) ≡ None
is_number_by base text true is none = absurd (none (
  (ltb-true 0 (length text) (and-left _ _ (and-left _ _ is)), AllDigits-from_list_all base text (and-right _ _ (and-left _ _ is))),
  ltb-true (digits_value base text) (2 ^ 64) (and-right _ _ is),
))
is_number_by base text false is none = refl

-- no value where the text is no number
pub number_value-None : (base : ℕ) (text : List ℕ) → ¬ (IsNumber base text) → number_value base text ≡ None
number_value-None base text none = is_number_by base text (is_number base text) refl none

-- what the cases of a reader come to
pub number_value_by_cases : (base : ℕ) (text : List ℕ) (r : Option ℕ)
    → MatchOption r (¬ (IsNumber base text)) (λ n. IsNumber base text × (n ≡ digits_value base text))
    → r ≡ number_value base text
number_value_by_cases base text None h = sym (number_value-None base text h)
number_value_by_cases base text (Some n) h = ap Some h.1 ∙ sym (number_value-Some base text h.0)

digit_below : (c : ℕ) → digit_value c < 36 → c < 128
digit_below c h = grind (arith, nat_tests)

-- digits of a base up to 36 are ASCII
pub IsAscii-from_AllDigits : (base : ℕ) (text : List ℕ) → base ≤ 36 → AllDigits base text → IsAscii text
IsAscii-from_AllDigits base [] high h i = omega arith
IsAscii-from_AllDigits base (c ∷ cs) high h zero = let a = h.0 in digit_below c (omega arith)
IsAscii-from_AllDigits base (c ∷ cs) high h (suc i) = IsAscii-from_AllDigits base cs high h.1 i

pub IsUtf8-from_IsNumber : (base : ℕ) (text : List ℕ) → base ≤ 36 → IsNumber base text → IsUtf8 text
IsUtf8-from_IsNumber base text high h = IsUtf8-from_ascii text (IsAscii-from_AllDigits base text high h.0.1)
