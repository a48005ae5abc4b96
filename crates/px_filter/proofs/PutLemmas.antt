-- Where a blank may be put: in front of each token, and at the end.
use Rattle.std.proofs.Common.{◌≡◌, ◌≤◌, ◌<◌, ◌+◌, ◌-◌, ◌==◌, ℕ, zero, suc, Bool, true, false, cond, List, [], ◌∷◌, ◌++◌, length, take, drop, Option, Some, None, sym, ap, ◌∙◌, subst, inl, inr, arith, min, append_assoc, length-append, length-take, take-append-drop, ne_eqb}
use Rattle.std.proofs.Math.Seq.{drop-append_seam}
use Rattle.std.proofs.lemmas.Bool.{cases_Bool, eqb-true}
use Rattle.std.specs.Char.{is_ascii_alphabetic}
use Rattle.std.specs.List.{list_any}
use Rattle.px_filter.specs.Blanks.{IsMoreBlank, ended, blank_more, both_blank, same_token}
use Rattle.px_filter.specs.Tokens.{bare_token, escaped, front_token, is_bare, is_blank, is_quote, operator_token, put, quoted, quoted_token, run, skip, tokens_of, tokens_within}
use Rattle.px_filter.specs.declared.token.Token.{Token}
use Rattle.px_filter.specs.declared.token.Placed.{Placed}
use Rattle.px_filter.proofs.BlankLemmas.{blank_step, second, token_step}
use Rattle.px_filter.proofs.TokenLemmas.{front_some}

-- a token ends within the text
abbrev Fits : ℕ → Option (List ℕ × ℕ) → Type 0
Fits most None = Unit {0}
Fits most (Some (word, n)) = n ≤ most

fits_by : (most : ℕ) (b : Bool) (x y : Option (List ℕ × ℕ)) → Fits most x → Fits most y → Fits most (cond b x y)
fits_by most true x y f g = f
fits_by most false x y f g = g

fits_skip : (most : ℕ) (x : Option (List ℕ × ℕ)) → Fits most x → Fits (suc most) (skip x)
fits_skip most None f = tt
fits_skip most (Some (word, n)) f = omega arith

fits_put : (most c : ℕ) (x : Option (List ℕ × ℕ)) → Fits most x → Fits (suc most) (put c x)
fits_put most c None f = tt
fits_put most c (Some (word, n)) f = omega arith

mutual
  quoted_fits : (quote : ℕ) (text : List ℕ) → Fits (length text) (quoted quote text)
  quoted_fits quote [] = tt
  quoted_fits quote (c ∷ text) =
      fits_by (suc (length text)) (c == quote) (Some ([], 1)) _ (omega arith)
      (fits_by (suc (length text)) (c == 92) (skip (escaped quote text)) (put c (quoted quote text))
      (fits_skip (length text) (escaped quote text) (escaped_fits quote text))
      (fits_put (length text) c (quoted quote text) (quoted_fits quote text)))

  escaped_fits : (quote : ℕ) (text : List ℕ) → Fits (length text) (escaped quote text)
  escaped_fits quote [] = tt
  escaped_fits quote (c ∷ text) = fits_put (length text) c (quoted quote text) (quoted_fits quote text)

quoted_token_fits : (most : ℕ) (x : Option (List ℕ × ℕ)) → Fits most x → (quoted_token x most).1 ≤ suc most
quoted_token_fits most None f = omega arith
quoted_token_fits most (Some (word, n)) f = omega arith

run_fits : (test : ℕ → Bool) (text : List ℕ) → run test text ≤ length text
run_fits test text = simp length-take (omega arith)

either_fits : (most : ℕ) (b : Bool) (x y : Token × ℕ) → x.1 ≤ most → y.1 ≤ most → (cond b x y).1 ≤ most
either_fits most true x y f g = f
either_fits most false x y f g = g

front_fits : (c : ℕ) (text : List ℕ) → (front_token c text).1 ≤ suc (length text)
front_fits c text =
    let by = either_fits (suc (length text)) in
    let letters = run_fits is_ascii_alphabetic text in
    by (c == 33) _ _ (omega arith) (by (c == 38) _ _ (omega arith) (by (c == 124) _ _ (omega arith) (by (c == 40) _ _ (omega arith)
    (by (c == 41) _ _ (omega arith) (by (c == 126) (operator_token text) _ (omega arith)
    (by (is_quote c) (quoted_token (quoted c text) (length text)) (bare_token (c ∷ text))
    (quoted_token_fits (length text) (quoted c text) (quoted_fits c text)) (run_fits is_bare (c ∷ text))))))))

-- the token at the front and what stands behind it
token_cut : (c : ℕ) (text : List ℕ) → is_blank c ≡ false →
    (word rest : List ℕ) × (text ≡ word ++ rest) × ((front_token c (word ++ rest)).1 ≡ suc (length word))
token_cut c text no_blank =
    let used = (front_token c text).1 in
    let some = front_some c text no_blank in
    let most = front_fits c text in
    let whole = take-append-drop (used - 1) text in
    let size = length-take (used - 1) text in (
      take (used - 1) text,
      drop (used - 1) text,
      sym whole,
      ap (λ l. (front_token c l).1) whole ∙ omega (arith, size),
    )

-- no blank more
none_more : (n : ℕ) (text : List ℕ) → length text ≤ n → IsMoreBlank text text
none_more n [] h = ended
none_more zero (c ∷ text) h = absurd (omega arith)
none_more (suc n) (c ∷ text) h =
    elim (cases_Bool (is_blank c)) [
      | inl blank ↦ both_blank blank blank (none_more n text (omega arith))
      | inr byte ↦
          let cut = token_cut c text byte in
          let size = length-append cut.0 cut.1 in
          let own = none_more n cut.1 (omega (arith, size, ap length cut.2)) in
          subst (λ l. IsMoreBlank (c ∷ l) (c ∷ l)) (sym cut.2) (same_token cut.0 cut.1 cut.1 byte cut.3 own)
    ]

-- a blank at the end
one_behind : {text other : List ℕ} (d : ℕ) → is_blank d ≡ true → IsMoreBlank text other → IsMoreBlank text (other ++ (d ∷ []))
one_behind d is ended = blank_more is ended
one_behind d is (blank_more blank more) = blank_more blank (one_behind d is more)
one_behind d is (both_blank blank also more) = both_blank blank also (one_behind d is more)
one_behind d is (same_token {c = c} word text other byte long more) =
    subst (λ l. IsMoreBlank (c ∷ (word ++ text)) (c ∷ l)) (sym (append_assoc word other (d ∷ [])))
    (same_token word text (other ++ (d ∷ [])) byte long (one_behind d is more))

pub put_behind : (text : List ℕ) (blank : ℕ) → is_blank blank ≡ true → IsMoreBlank text (text ++ (blank ∷ []))
put_behind text blank is = one_behind blank is (none_more (length text) text (omega arith))

-- a token begins at the place
abbrev Begins : ℕ → List Placed → Type 0
Begins place ts = list_any (λ t. t.place == place) ts ≡ true

begins_behind : (place : ℕ) (t : Placed) (ts : List Placed) → t.place < place → Begins place (t ∷ ts) → Begins place ts
begins_behind place t ts before h = second (t.place == place) _ (ne_eqb t.place place (λ same. omega (arith, same))) h

begins_after : (n p place : ℕ) (text : List ℕ) → Begins place (tokens_within n p text) → p ≤ place
unfolding tokens_within
begins_after zero p place text h = absurd cc
begins_after (suc n) p place [] h = absurd cc
begins_after (suc n) p place (c ∷ text) h =
    let used = (front_token c text).1 in
    elim (cases_Bool (is_blank c)) [
      | inl blank ↦
          let own = begins_after n (p + 1) place text (subst (Begins place) (blank_step n p c text blank) h) in
          omega arith
      | inr byte ↦ elim (cases_Bool (p == place)) [
        | inl here ↦ let same = eqb-true p place here in omega (arith, same)
        | inr other ↦
            let own = begins_after n (p + used) place (drop used (c ∷ text))
            (second (p == place) _ other (subst (Begins place) (token_step n p c text byte) h)) in
            omega arith
      ]
    ]

-- a blank in front of the token
before : (n p place d : ℕ) (front behind : List ℕ) → is_blank d ≡ true → length (front ++ behind) ≤ n → place ≡ p + length front →
    Begins place (tokens_within n p (front ++ behind)) → IsMoreBlank (front ++ behind) (front ++ (d ∷ behind))
before n p place d [] behind is fits at h = blank_more is (none_more n behind fits)
before zero p place d (c ∷ front) behind is fits at h = absurd (omega arith)
before (suc n) p place d (c ∷ front) behind is fits at h =
    elim (cases_Bool (is_blank c)) [
      | inl blank ↦
          both_blank blank blank (before n (p + 1) place d front behind is (omega arith) (omega arith)
          (subst (Begins place) (blank_step n p c (front ++ behind) blank) h))
      | inr byte ↦
          let rest = begins_behind place (record { place = p; token = (front_token c (front ++ behind)).0 }) _ (omega arith)
          (subst (Begins place) (token_step n p c (front ++ behind) byte) h) in
          by_token byte (λ left q. before n q place d left behind is) rest (begins_after n (p + (front_token c (front ++ behind)).1) place (drop ((front_token c (front ++ behind)).1) (c ∷ (front ++ behind))) rest)
    ]
  where
    by_token : is_blank c ≡ false →
        ((left : List ℕ) (q : ℕ) → length (left ++ behind) ≤ n → place ≡ q + length left → Begins place (tokens_within n q (left ++ behind)) →
        IsMoreBlank (left ++ behind) (left ++ (d ∷ behind))) →
        Begins place (tokens_within n (p + (front_token c (front ++ behind)).1) (drop ((front_token c (front ++ behind)).1) (c ∷ (front ++ behind)))) →
        p + (front_token c (front ++ behind)).1 ≤ place →
        IsMoreBlank (c ∷ (front ++ behind)) (c ∷ (front ++ (d ∷ behind)))
    by_token byte again rest after =
        let used = (front_token c (front ++ behind)).1 in
        let some = front_some c (front ++ behind) byte in
        let word = take (used - 1) front in
        let left = drop (used - 1) front in
        let whole : word ++ left ≡ front = take-append-drop (used - 1) front in
        let size : length word ≡ min (used - 1) (length front) = length-take (used - 1) front in
        let long : used ≡ suc (length word) = omega (arith, size, at) in
        let parts : front ++ behind ≡ word ++ (left ++ behind) = ap (λ l. l ++ behind) (sym whole) ∙ append_assoc word left behind in
        let also : front ++ (d ∷ behind) ≡ word ++ (left ++ (d ∷ behind)) = ap (λ l. l ++ (d ∷ behind)) (sym whole) ∙ append_assoc word left (d ∷ behind) in
        let cut : drop used (c ∷ (front ++ behind)) ≡ left ++ behind =
        ap (λ k. drop k (c ∷ (front ++ behind))) long ∙ ap (λ l. drop (suc (length word)) (c ∷ l)) parts ∙ drop-append_seam (c ∷ word) (left ++ behind) in
        let lengths = ap length parts in
        let wide = length-append word (left ++ behind) in
        let split = ap length (sym whole) ∙ length-append word left in
        let own = again left (p + used) (omega (arith, lengths, wide, fits)) (omega (arith, long, split, at))
        (subst (λ l. Begins place (tokens_within n (p + used) l)) cut rest) in
        subst (λ l. IsMoreBlank (c ∷ (front ++ behind)) (c ∷ l)) (sym also)
        (subst (λ l. IsMoreBlank (c ∷ l) (c ∷ (word ++ (left ++ (d ∷ behind))))) (sym parts)
        (same_token word (left ++ behind) (left ++ (d ∷ behind)) byte (ap (λ l. (front_token c l).1) (sym parts) ∙ long) own))

pub put_before : (front behind : List ℕ) (blank : ℕ) → is_blank blank ≡ true →
    list_any (λ t. t.place == length front) (tokens_of (front ++ behind)) ≡ true → IsMoreBlank (front ++ behind) (front ++ (blank ∷ behind))
put_before front behind blank is h =
    before (length (front ++ behind)) 0 (length front) blank front behind is (omega arith) (omega arith) h
