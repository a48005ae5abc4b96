-- Which number a word is.
use Rattle.std.proofs.Common.{◌≡◌, ℕ, ◌<◌, ◌^◌, List, sym, ap, ◌∙◌, subst, arith}
use Rattle.std.specs.Str.Parse.{IsNumeral, digits_value}
use Rattle.std.proofs.lemmas.Fmt.{decimal_is_IsNumeral}
use Rattle.px_text.specs.Number.{IsDecimal}
use Rattle.px_gen.specs.Word.{IsCount}

small : (word : List ℕ) (n : ℕ) → IsCount word n → n < 2 ^ 64
small word n is = let most = is.1 in omega arith

-- a word that is a number is read as it
pub is_the_number : (word : List ℕ) (n : ℕ) → IsCount word n → digits_value 10 word ≡ n
is_the_number word n is = ap (λ text. digits_value 10 text) is.0 ∙ (decimal_is_IsNumeral n (small word n is)).1

-- and it is digits
pub is_digits : (word : List ℕ) (n : ℕ) → IsCount word n → IsDecimal word
is_digits word n is =
    let less : digits_value 10 word < 2 ^ 64 = subst (λ m. m < 2 ^ 64) (sym (is_the_number word n is)) (small word n is) in
    (subst (λ text. IsNumeral 10 text) (sym is.0) (decimal_is_IsNumeral n (small word n is)).0, less)
