-- Where a part of a rule's text begins.
use Rattle.std.proofs.Common.{◌≡◌, ℕ, zero, suc, ◌+◌, ◌<◌, Bool, true, false, List, [], ◌∷◌, ◌++◌, length, map, take, drop, slice_get, Some, IsUtf8, refl, sym, ap, ◌∙◌, arith}
use Rattle.std.proofs.Math.Seq.{take-append_seam, drop-append-add}
use Rattle.std.proofs.lemmas.List.{append-nil}
use Rattle.std.proofs.lemmas.Str.{IsUtf8-from_is_utf8, encodes-append, encodes-chars, is_utf8-from_IsUtf8}
use Rattle.std.specs.Char.{encode_utf8}
use Rattle.std.specs.Str.{chars, encode_utf8_all, is_utf8}
use Rattle.px_filter.specs.Parsing.{place_of}
use Rattle.px_filter.specs.Shown.{shown}
use Rattle.px_filter.specs.declared.filter.FilterError.{FilterError}
use Rattle.px_rule.specs.Laws.{joined}
use Rattle.px_rule.specs.Spec.{parts_of, spec_parts, split_up_to}
use Rattle.px_rule.specs.declared.cause.RuleCause.{RuleCause}
use Rattle.px_rule.proofs.LawLemmas.{split_joined}
use Rattle.px_rule.proofs.SpecLemmas.{some_part}
use Rattle.px_options.specs.Shown.{behind_parts, filter_note, refusal_place, rule_note, separator_length}

-- one part more
pub one_part : (separator : ℕ) (parts : List (List ℕ)) (i : ℕ) (part : List ℕ) → slice_get parts i ≡ Some part
    → behind_parts separator (take (i + 1) parts) ≡ behind_parts separator (take i parts) + length part + separator
one_part separator [] i part is = absurd (cc)
one_part separator (p ∷ ps) zero part is = let same : p ≡ part = cc in rw same (omega arith)
one_part separator (p ∷ ps) (suc i) part is =
    let next : suc i + 1 ≡ suc (i + 1) = omega arith in
    let rest = one_part separator ps i part is in
    ap (λ n. behind_parts separator (take n (p ∷ ps))) next ∙ omega (arith, rest)

not_utf8 : (text : List ℕ) (b : Bool) → is_utf8 text ≡ b → ¬ (IsUtf8 text) → b ≡ false
not_utf8 text true is none = absurd (none (IsUtf8-from_is_utf8 text is))
not_utf8 text false is none = refl

-- what is shown of a text, and of other bytes
pub noted : (text : List ℕ) (cause : RuleCause) → IsUtf8 text → rule_note text cause ≡ shown text (refusal_place text cause)
noted text cause utf8 = rw (is_utf8-from_IsUtf8 text utf8) refl

pub unnoted : (text : List ℕ) (cause : RuleCause) → ¬ (IsUtf8 text) → rule_note text cause ≡ []
unnoted text cause none = rw (not_utf8 text (is_utf8 text) refl none) refl

pub filter_noted : (text : List ℕ) (cause : FilterError) → IsUtf8 text → filter_note text cause ≡ shown text (place_of cause)
filter_noted text cause utf8 = rw (is_utf8-from_IsUtf8 text utf8) refl

pub filter_unnoted : (text : List ℕ) (cause : FilterError) → ¬ (IsUtf8 text) → filter_note text cause ≡ []
filter_unnoted text cause none = rw (not_utf8 text (is_utf8 text) refl none) refl

-- the parts, each with the separator in front
abbrev led : List ℕ → List (List ℕ) → List ℕ
led separator [] = []
led separator (part ∷ parts) = separator ++ (part ++ led separator parts)

led_text : (c : ℕ) (part : List ℕ) (parts : List (List ℕ)) → led (encode_utf8 c) (map encode_utf8_all (part ∷ parts)) ≡ encode_utf8_all (c ∷ joined c (part ∷ parts))
led_text c part [] = ap (λ t. encode_utf8 c ++ t) (append-nil (encode_utf8_all part))
led_text c part (next ∷ parts) =
    ap (λ t. encode_utf8 c ++ (encode_utf8_all part ++ t)) (led_text c next parts)
    ∙ ap (λ t. encode_utf8 c ++ t) (sym (encodes-append part (c ∷ joined c (next ∷ parts))))

led_some : (c : ℕ) (parts : List (List ℕ)) → 0 < length parts → led (encode_utf8 c) (map encode_utf8_all parts) ≡ encode_utf8_all (c ∷ joined c parts)
led_some c [] some = absurd (omega (arith, some))
led_some c (part ∷ parts) some = led_text c part parts

past : (separator part rest : List ℕ) (n : ℕ) → drop (length separator + length part + n) (separator ++ (part ++ rest)) ≡ drop n rest
past separator part rest n =
    let at : length separator + length part + n ≡ length separator + (length part + n) = omega arith in
    ap (λ k. drop k (separator ++ (part ++ rest))) at ∙ drop-append-add separator (part ++ rest) (length part + n) ∙ drop-append-add part rest n

in_led : (separator : List ℕ) (parts : List (List ℕ)) (n : ℕ) (part : List ℕ) → slice_get parts n ≡ Some part
    → take (length part) (drop (behind_parts (length separator) (take n parts)) (led separator parts)) ≡ part
in_led separator [] n part is = absurd (cc)
in_led separator (p ∷ ps) zero part is =
    let same : p ≡ part = cc in
    let at : length separator ≡ length separator + 0 = omega arith in
    ap (λ k. take (length part) (drop k (separator ++ (p ++ led separator ps)))) at
    ∙ ap (λ t. take (length part) t) (drop-append-add separator (p ++ led separator ps) 0)
    ∙ ap (λ q. take (length part) (q ++ led separator ps)) same
    ∙ take-append_seam part (led separator ps)
in_led separator (p ∷ ps) (suc n) part is =
    ap (λ t. take (length part) t) (past separator p (led separator ps) (behind_parts (length separator) (take n ps)))
    ∙ in_led separator ps n part is

in_chars : (most n : ℕ) (cs part : List ℕ) → slice_get (map encode_utf8_all (parts_of most cs)) n ≡ Some part
    → take (length part) (drop (behind_parts (length (encode_utf8_all (take 1 cs))) (take n (map encode_utf8_all (parts_of most cs)))) (encode_utf8_all cs)) ≡ part
in_chars most n [] part is = absurd (cc)
in_chars most n (c ∷ cs) part is =
    let parts = split_up_to most c cs in
    let whole : led (encode_utf8 c) (map encode_utf8_all parts) ≡ encode_utf8_all (c ∷ cs) =
    led_some c parts (some_part most c cs) ∙ ap (λ t. encode_utf8_all (c ∷ t)) (split_joined most c cs) in
    let one : encode_utf8_all (take 1 (c ∷ cs)) ≡ encode_utf8 c = append-nil (encode_utf8 c) in
    ap (λ k. take (length part) (drop (behind_parts (length k) (take n (map encode_utf8_all parts))) (encode_utf8_all (c ∷ cs)))) one
    ∙ ap (λ t. take (length part) (drop (behind_parts (length (encode_utf8 c)) (take n (map encode_utf8_all parts))) t)) (sym whole)
    ∙ in_led (encode_utf8 c) (map encode_utf8_all parts) n part is

-- a part stands behind those in front of it
pub part_stands : (most n : ℕ) (text part : List ℕ) → IsUtf8 text → slice_get (spec_parts most text) n ≡ Some part
    → take (length part) (drop (behind_parts (separator_length text) (take n (spec_parts most text))) text) ≡ part
part_stands most n text part utf8 is =
    let whole : encode_utf8_all (chars text) ≡ text = encodes-chars text utf8 in
    ap (λ t. take (length part) (drop (behind_parts (separator_length text) (take n (spec_parts most text))) t)) (sym whole)
    ∙ in_chars most n (chars text) part is
