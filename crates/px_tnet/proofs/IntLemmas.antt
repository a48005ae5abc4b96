-- Digits of a number with its sign.
use Rattle.std.proofs.Common.{◌≡◌, ◌∙◌, ◌<◌, ◌^◌, ℕ, ℤ, List, Result, Ok, Err, true, false, sym, ap, subst, w64, SFits, to_z, of_z, nat_eq}
use Rattle.std.proofs.lemmas.Cmp.{nat_list_eq_equiv}
use Rattle.std.proofs.lemmas.Fmt.{IsAscii-signed, parse-signed_decimal}
use Rattle.std.proofs.lemmas.Str.{IsUtf8-from_ascii}
use Rattle.std.proofs.Math.Dec.{lt→ltb}
use Rattle.std.proofs.Math.Facts.{sfits_lit, to_z-of_z}
use Rattle.std.specs.Cmp.Lexicographic.{pointwise}
use Rattle.std.specs.Fmt.{signed_decimal}
use Rattle.std.specs.Int.Signed.{mag}
use Rattle.std.specs.Str.{IsUtf8}
use Rattle.std.specs.Str.Parse.{ParsesSigned}
use Rattle.px_tnet.specs.Kinds.{IsInt}

pub int_is_utf8 : (n : ℤ) (bytes : List ℕ) → IsInt n bytes → IsUtf8 bytes
int_is_utf8 n bytes h = subst IsUtf8 (sym h.1) (IsUtf8-from_ascii (signed_decimal n) (IsAscii-signed n h.0))

fits : (n : ℤ) → mag n < 2 ^ 63 → SFits w64 n
fits n h = sfits_lit (lt→ltb (mag n) (2 ^ 63) h)

-- digits are read as their number
pub int_is_parsed : {E : Type 0} (n : ℤ) (bytes text : List ℕ) (r : Result ℤ E) → IsInt n bytes → text ≡ bytes
    → ParsesSigned w64 10 text r → r ≡ Ok n
int_is_parsed n bytes text r h same parses = parse-signed_decimal w64 n text r (fits n h.0) h.0 (same ∙ h.1) parses

read_of : {E : Type 0} → ℤ → Result ℤ E → ℤ
read_of d (Ok n) = n
read_of d (Err e) = d

-- the number that was read has other digits than the payload, so the payload is none's
pub other_digits : {E : Type 0} (n m : ℤ) (bytes text : List ℕ) (r : Result ℤ E) → IsInt n bytes → r ≡ Ok n → r ≡ Ok m
    → text ≡ signed_decimal (to_z w64 (of_z w64 m)) → false ≡ pointwise nat_eq text bytes → ⊥
unfolding read_of
other_digits n m bytes text r h read given shown other =
    let same : n ≡ m = ap (read_of n) (sym read ∙ given) in
    let e : text ≡ bytes = shown ∙ ap (λ x. signed_decimal (to_z w64 (of_z w64 x))) (sym same) ∙ ap signed_decimal (to_z-of_z {w = w64} (fits n h.0)) ∙ sym h.1 in
    let t : pointwise nat_eq text bytes ≡ true = ap (λ x. pointwise nat_eq x bytes) e ∙ nat_list_eq_equiv.refl bytes in
    let f = other ∙ t in
    cc
