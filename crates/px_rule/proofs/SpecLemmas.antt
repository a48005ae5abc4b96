-- A text that is cut at its first separator.
use Rattle.std.proofs.Common.{◌≡◌, ℕ, zero, suc, ◌+◌, Bool, true, false, List, [], ◌∷◌, ◌++◌, ◌==◌, ◌||◌, map, take, drop, length, refl, sym, ap, ◌∙◌, IsUtf8, IsCharBoundary, subst, arith, ◌≤◌, ◌<◌, if◌then◌else◌, Some, None}
use Rattle.std.proofs.lemmas.Bool.{eq-eqb, lt-ltb, le-ltb, ne_eqb}
use Rattle.std.proofs.lemmas.List.{take-append-drop, length-map}
use Rattle.std.proofs.Math.Seq.{take-append_seam, drop-append-add}
use Rattle.std.proofs.lemmas.Str.{chars-append, chars_past_char, chars_from_encodes, encodes-chars, IsUtf8-append, IsUtf8-encode, IsUtf8-take, IsUtf8-drop, IsCharBoundary-from_drop}
use Rattle.std.specs.Char.{IsScalar, encode_utf8}
use Rattle.std.specs.List.{list_any, before_first, after_first, position_or_len}
use Rattle.std.specs.Str.{chars, encode_utf8_all, NonePass, NoCharPasses}
use Rattle.std.specs.Str.Pattern.{FindsChar, SplitsAroundMatch}
use Rattle.px_rule.specs.Spec.{split_up_to, parts_of, spec_parts, spec_refusal, refused_count}
use Rattle.px_rule.specs.declared.spec.SpecError.TheVariants.{WrongCount}
use Rattle.px_rule.specs.Parts.{IsCut, IsWhole}

-- whether a character is the separator
abbrev is : ℕ → ℕ → Bool
is separator c = c == separator

same : (c : ℕ) → is c c ≡ true
same c = eq-eqb c c refl

none_there : (c : ℕ) (xs : List ℕ) → NonePass (is c) xs → list_any (is c) xs ≡ false
none_there c [] h = refl
none_there c (x ∷ xs) h = rw (h.0, none_there c xs h.1)

-- where the first separator stands behind xs
place : (c : ℕ) (xs ys : List ℕ) → NonePass (is c) xs → position_or_len (is c) (xs ++ (c ∷ ys)) ≡ length xs
place c [] ys h = rw (same c)
place c (x ∷ xs) ys h = rw (h.0) (omega (arith, place c xs ys h.1))

there : (c : ℕ) (xs ys : List ℕ) → list_any (is c) (xs ++ (c ∷ ys)) ≡ true
there c [] ys = rw (same c)
there c (x ∷ xs) ys = rw (there c xs ys, or-true (is c x))
  where
    or-true : (b : Bool) → (b || true) ≡ true
    or-true true = refl
    or-true false = refl

before : (c : ℕ) (xs ys : List ℕ) → NonePass (is c) xs → before_first (is c) (xs ++ (c ∷ ys)) ≡ xs
before c xs ys h = ap (λ n. take n (xs ++ (c ∷ ys))) (place c xs ys h) ∙ take-append_seam xs (c ∷ ys)

after : (c : ℕ) (xs ys : List ℕ) → NonePass (is c) xs → after_first (is c) (xs ++ (c ∷ ys)) ≡ ys
after c xs ys h = ap (λ n. drop (n + 1) (xs ++ (c ∷ ys))) (place c xs ys h) ∙ drop-append-add xs (c ∷ ys) 1

pub whole : (c : ℕ) (text : List ℕ) → IsUtf8 text → NoCharPasses (is c) text → IsWhole c text
whole c text utf8 none most =
    let none' = none_there c (chars text) (rw (chars_from_encodes none.0 text utf8 none.1) at none.2) in
    ap (map encode_utf8_all) (unsplit most none') ∙ ap (λ t. t ∷ []) (encodes-chars text utf8)
  where
    unsplit : (most : ℕ) → list_any (is c) (chars text) ≡ false → split_up_to most c (chars text) ≡ chars text ∷ []
    unsplit zero h = refl
    unsplit (suc most) h = rw h

pub cut : (c : ℕ) (text front back : List ℕ) → IsScalar c → IsUtf8 text → SplitsAroundMatch (FindsChar c) text front back → IsCut c text front back
cut c text front back scalar utf8 (i, j, found, is_front, is_back, ordered, _, long) = (
  λ most. ap (λ t. map encode_utf8_all (split_up_to (suc most) c t)) whole_text
      ∙ ap (map encode_utf8_all) (split most) ∙ ap (λ t. t ∷ map encode_utf8_all (split_up_to most c (chars back))) (encodes-chars front utf8_front),
  encodes-chars back utf8_back,
)
  where
    behind : drop i text ≡ encode_utf8 c ++ back
    behind = found.1.split ∙ ap (λ t. encode_utf8 c ++ t) (sym is_back)

    utf8_back : IsUtf8 back
    utf8_back = subst IsUtf8 (sym is_back) (IsUtf8-drop text j utf8 (subst (IsCharBoundary text) (sym found.1.ends) found.1.after))

    utf8_behind : IsUtf8 (drop i text)
    utf8_behind = subst IsUtf8 (sym behind) (IsUtf8-append (encode_utf8 c) back (IsUtf8-encode c scalar) utf8_back)

    within : i ≤ length text
    within = omega (arith, ordered, long)

    utf8_front : IsUtf8 front
    utf8_front = subst IsUtf8 (sym is_front) (IsUtf8-take text i utf8 (IsCharBoundary-from_drop text i within utf8_behind))

    whole_text : chars text ≡ chars front ++ (c ∷ chars back)
    whole_text =
        ap chars (sym (take-append-drop i text) ∙ ap (λ t. t ++ drop i text) (sym is_front)) ∙ chars-append front (drop i text) utf8_front
        ∙ ap (λ t. chars front ++ t) (chars_past_char (drop i text) back c utf8_behind behind)

    none : NonePass (is c) (chars front)
    none = subst (NonePass (is c)) (chars_from_encodes found.0.0 front utf8_front (found.0.1 ∙ sym is_front)) found.0.2

    split : (most : ℕ) → split_up_to (suc most) c (chars front ++ (c ∷ chars back)) ≡ chars front ∷ split_up_to most c (chars back)
    split most = rw (there c (chars front) (chars back), before c (chars front) (chars back) none, after c (chars front) (chars back) none)

-- a text's parts, by its first character and what stands behind it
pub by_first : (most separator : ℕ) (text rest : List ℕ) → IsUtf8 text → text ≡ encode_utf8 separator ++ rest →
    spec_parts most text ≡ map encode_utf8_all (split_up_to most separator (chars rest))
by_first most separator text rest utf8 is_text =
    ap (λ t. map encode_utf8_all (parts_of most t)) (chars_past_char text rest separator utf8 is_text)

pub some_part : (most separator : ℕ) (text : List ℕ) → 0 < length (split_up_to most separator text)
some_part zero separator text = omega arith
some_part (suc most) separator text = at_test (list_any (is separator) text)
  where
    at_test : (b : Bool) → 0 < length (if b then before_first (is separator) text ∷ split_up_to most separator (after_first (is separator) text) else text ∷ [])
    at_test true = omega arith
    at_test false = omega arith

refused_few : (most count : ℕ) → 0 < count → count < most → refused_count most count ≡ Some (WrongCount count)
refused_few most count some few = rw (ne_eqb count 0 (omega (arith, some)), lt-ltb count most few)

refused_none : (most count : ℕ) → 0 < count → most ≤ count → refused_count most count ≡ None
refused_none most count some many = rw (ne_eqb count 0 (omega (arith, some)), le-ltb count most many)

counted : (most separator count : ℕ) (rest : List ℕ) (parts : List (List ℕ)) → parts ≡ map encode_utf8_all (split_up_to most separator (chars rest)) →
    count ≡ length parts → 0 < count
counted most separator count rest parts are is_count =
    subst (λ n. 0 < n) (sym (is_count ∙ ap length are ∙ length-map (split_up_to most separator (chars rest)) encode_utf8_all)) (some_part most separator (chars rest))

pub few_parts : (most separator count : ℕ) (text rest : List ℕ) (parts : List (List ℕ)) → IsUtf8 text → text ≡ encode_utf8 separator ++ rest →
    parts ≡ map encode_utf8_all (split_up_to most separator (chars rest)) → count ≡ length parts → count < most →
    spec_refusal most text ≡ Some (WrongCount count)
few_parts most separator count text rest parts utf8 is_text are is_count few =
    ap (refused_count most) (ap length (by_first most separator text rest utf8 is_text ∙ sym are) ∙ sym is_count)
    ∙ refused_few most count (counted most separator count rest parts are is_count) few

pub enough_parts : (most separator count : ℕ) (text rest : List ℕ) (parts : List (List ℕ)) → IsUtf8 text → text ≡ encode_utf8 separator ++ rest →
    parts ≡ map encode_utf8_all (split_up_to most separator (chars rest)) → count ≡ length parts → most ≤ count →
    (parts ≡ spec_parts most text) × (spec_refusal most text ≡ None)
enough_parts most separator count text rest parts utf8 is_text are is_count many = (
  are ∙ sym (by_first most separator text rest utf8 is_text),
  ap (refused_count most) (ap length (by_first most separator text rest utf8 is_text ∙ sym are) ∙ sym is_count)
      ∙ refused_none most count (counted most separator count rest parts are is_count) many,
)
