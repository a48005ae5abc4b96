-- Digits of a number of 32 bits.
use Rattle.std.proofs.Common.{◌≡◌, ◌∙◌, ◌<◌, ◌^◌, ℕ, List, Result, Ok, Err, true, false, decimal, sym, ap, subst, arith, nat_eq}
use Rattle.std.proofs.lemmas.Cmp.{nat_list_eq_equiv}
use Rattle.std.proofs.lemmas.Fmt.{IsAscii-decimal, parse-decimal}
use Rattle.std.proofs.lemmas.Str.{IsUtf8-from_ascii}
use Rattle.std.specs.Cmp.Lexicographic.{pointwise}
use Rattle.std.specs.Str.{IsUtf8}
use Rattle.std.specs.Str.Parse.{ParsesUnsigned}

pub number_is_utf8 : (n : ℕ) (bytes : List ℕ) → n < 2 ^ 32 → bytes ≡ decimal n → IsUtf8 bytes
number_is_utf8 n bytes h same = subst IsUtf8 (sym same) (IsUtf8-from_ascii (decimal n) (IsAscii-decimal n (omega arith)))

-- digits are read as their number
pub number_is_parsed : {E : Type 0} (n : ℕ) (bytes text : List ℕ) (r : Result ℕ E) → n < 2 ^ 32 → bytes ≡ decimal n → text ≡ bytes
    → ParsesUnsigned 32 10 text r → r ≡ Ok n
number_is_parsed n bytes text r small is same parses = parse-decimal 32 n text r small (omega arith) (same ∙ is) parses

read_of : {E : Type 0} → ℕ → Result ℕ E → ℕ
read_of d (Ok n) = n
read_of d (Err e) = d

-- the number that was read has other digits
pub other_number : {E : Type 0} (n m : ℕ) (bytes text : List ℕ) (r : Result ℕ E) → bytes ≡ decimal n → r ≡ Ok n → r ≡ Ok m
    → text ≡ decimal m → false ≡ pointwise nat_eq text bytes → ⊥
unfolding read_of
other_number n m bytes text r is read given shown other =
    let same : n ≡ m = ap (read_of n) (sym read ∙ given) in
    let e : text ≡ bytes = shown ∙ ap decimal (sym same) ∙ sym is in
    let t : pointwise nat_eq text bytes ≡ true = ap (λ x. pointwise nat_eq x bytes) e ∙ nat_list_eq_equiv.refl bytes in
    let f = other ∙ t in
    cc
