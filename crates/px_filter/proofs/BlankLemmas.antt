-- More blanks between tokens change no token.
use Rattle.std.proofs.Common.{◌≡◌, ◌≤◌, ◌<◌, ◌+◌, ◌==◌, ◌||◌, ◌⊎◌, ℕ, zero, suc, Bool, true, false, cond, List, [], ◌∷◌, ◌++◌, length, take, drop, map, Option, Some, None, Ok, refl, sym, ap, ◌∙◌, subst, inl, inr, arith, length-append, length-drop}
use Rattle.std.proofs.Math.Seq.{drop-append_seam}
use Rattle.std.proofs.lemmas.Bool.{cases_Bool, cond-false, eqb-true}
use Rattle.std.specs.Char.{is_ascii_alphabetic}
use Rattle.std.specs.List.{prefix_len}
use Rattle.px_filter.specs.Blanks.{IsMoreBlank, ended, blank_more, both_blank, same_token}
use Rattle.px_filter.specs.Expression.{Expression}
use Rattle.px_filter.specs.Operators.{operator_of}
use Rattle.px_filter.specs.Parsing.{parse}
use Rattle.px_filter.specs.Tokens.{bare_token, escaped, front_token, is_bare, is_blank, is_quote, operator_token, put, quoted, quoted_token, run, skip, tokens_of, tokens_within}
use Rattle.px_filter.specs.declared.token.Token.{Token}
use Rattle.px_filter.specs.declared.token.Token.TheVariants as token
use Rattle.px_filter.specs.declared.token.Placed.{Placed}
use Rattle.px_filter.proofs.MovedLemmas.{moved}
use Rattle.px_filter.proofs.TokenLemmas.{none_left}

-- one of two bytes
pub second : (a b : Bool) → a ≡ false → (a || b) ≡ true → b ≡ true
second false b off h = h
second true b off h = absurd cc

by_two : (P : ℕ → Type 0) (m n d : ℕ) → P m → P n → (d == m || d == n) ≡ true → P d
by_two P m n d first other h =
    elim (cases_Bool (d == m)) [
      | inl is ↦ subst P (sym (eqb-true d m is)) first
      | inr off ↦ subst P (sym (eqb-true d n (second (d == m) (d == n) off h))) other
    ]

blank_is_not_bare : (d : ℕ) → is_blank d ≡ true → is_bare d ≡ false
blank_is_not_bare d h = by_two (λ d. is_bare d ≡ false) 32 9 d refl refl h

blank_is_no_letter : (d : ℕ) → is_blank d ≡ true → is_ascii_alphabetic d ≡ false
blank_is_no_letter d h = by_two (λ d. is_ascii_alphabetic d ≡ false) 32 9 d refl refl h

blank_is_no_slash : (d : ℕ) → is_blank d ≡ true → (d == 92) ≡ false
blank_is_no_slash d h = by_two (λ d. (d == 92) ≡ false) 32 9 d refl refl h

blank_is_not_quote : (quote d : ℕ) → is_quote quote ≡ true → is_blank d ≡ true → (d == quote) ≡ false
blank_is_not_quote quote d is h =
    by_two (λ d. (d == quote) ≡ false) 32 9 d (by_two (λ q. (32 == q) ≡ false) 39 34 quote refl refl is)
    (by_two (λ q. (9 == q) ≡ false) 39 34 quote refl refl is) h

-- a run ends at a blank, and where it ended before
run_on : (test : ℕ → Bool) (c : ℕ) (text : List ℕ) → test c ≡ true → run test (c ∷ text) ≡ suc (run test text)
run_on test c text h =
    let one : 1 + prefix_len test text ≡ suc (prefix_len test text) = omega arith in
    rw h (ap (λ k. length (take k (c ∷ text))) one)

run_off : (test : ℕ → Bool) (c : ℕ) (text : List ℕ) → test c ≡ false → run test (c ∷ text) ≡ 0
run_off test c text h = rw h refl

run_first : (test : ℕ → Bool) (c : ℕ) (text other : List ℕ) → run test (c ∷ text) ≡ 0 → run test (c ∷ other) ≡ 0
run_first test c text other h =
    elim (cases_Bool (test c)) [
      | inl on ↦ let more = run_on test c text on in absurd (omega arith)
      | inr off ↦ run_off test c other off
    ]

run_stops : {text other : List ℕ} (test : ℕ → Bool) → ((d : ℕ) → is_blank d ≡ true → test d ≡ false) → IsMoreBlank text other →
    run test text ≡ 0 → run test other ≡ 0
run_stops test blanks ended h = h
run_stops test blanks (blank_more {c = c} {other = other} blank more) h = run_off test c other (blanks c blank)
run_stops test blanks (both_blank {d = d} {other = other} blank is more) h = run_off test d other (blanks d is)
run_stops test blanks (same_token {c = c} word text other byte long more) h =
    run_first test c (word ++ text) (word ++ other) h

run_same : (test : ℕ → Bool) (word text other : List ℕ) → (run test text ≡ 0 → run test other ≡ 0) →
    run test (word ++ text) ≡ length word → run test (word ++ other) ≡ length word
run_same test [] text other stops h = stops h
run_same test (c ∷ word) text other stops h =
    elim (cases_Bool (test c)) [
      | inl on ↦
          let one = run_on test c (word ++ text) on in
          run_on test c (word ++ other) on ∙ ap suc (run_same test word text other stops (omega arith))
      | inr off ↦ let none = run_off test c (word ++ text) off in absurd (omega arith)
    ]

taken : (word rest : List ℕ) → take (length word) (word ++ rest) ≡ word
taken [] rest = refl
taken (c ∷ word) rest = ap (λ l. c ∷ l) (taken word rest)

operator_is : (word rest : List ℕ) → run is_ascii_alphabetic (word ++ rest) ≡ length word →
    operator_token (word ++ rest) ≡ (token.Operator (operator_of word), length word + 1)
operator_is word rest h =
    ap (λ k. (token.Operator (operator_of (take k (word ++ rest))), k + 1)) h
    ∙ ap (λ l. (token.Operator (operator_of l), length word + 1)) (taken word rest)

bare_is : (word rest : List ℕ) → run is_bare (word ++ rest) ≡ length word → bare_token (word ++ rest) ≡ (token.Word word, length word)
bare_is word rest h =
    ap (λ k. (token.Word (take k (word ++ rest)), k)) h ∙ ap (λ l. (token.Word l, length word)) (taken word rest)

-- The token of the other text: it has as many bytes, or it is not closed and the text ends.
abbrev Goes : Type 0 → ℕ → ℕ → Token × ℕ → Token × ℕ → Type 0
Goes Ends used whole f g = (g.0 ≡ f.0) × ((g.1 ≡ used) ⊎ (Ends × (whole ≤ g.1)))

by_test : (Ends : Type 0) (used whole : ℕ) (b : Bool) (x y v w : Token × ℕ) → (cond b x y).1 ≡ used →
    (b ≡ true → x.1 ≡ used → Goes Ends used whole x v) → (b ≡ false → y.1 ≡ used → Goes Ends used whole y w) →
    Goes Ends used whole (cond b x y) (cond b v w)
by_test Ends used whole true x y v w h f g = f refl h
by_test Ends used whole false x y v w h f g = g refl h

-- a word in quotes is the same, if it is closed
abbrev Keeps : Type 0 → ℕ → Option (List ℕ × ℕ) → Option (List ℕ × ℕ) → Type 0
Keeps Ends used None other = Ends → other ≡ None
Keeps Ends used (Some (word, n)) other = n ≡ used → other ≡ Some (word, n)

keeps_by : (Ends : Type 0) (used : ℕ) (b : Bool) (x y v w : Option (List ℕ × ℕ)) → Keeps Ends used x v → Keeps Ends used y w →
    Keeps Ends used (cond b x y) (cond b v w)
keeps_by Ends used true x y v w f g = f
keeps_by Ends used false x y v w f g = g

keeps_skip : (Ends : Type 0) (used : ℕ) (x v : Option (List ℕ × ℕ)) → Keeps Ends used x v → Keeps Ends (suc used) (skip x) (skip v)
keeps_skip Ends used None v f = λ ends. ap skip (f ends)
keeps_skip Ends used (Some (word, n)) v f = λ long. ap skip (f (omega arith))

keeps_put : (Ends : Type 0) (used c : ℕ) (x v : Option (List ℕ × ℕ)) → Keeps Ends used x v → Keeps Ends (suc used) (put c x) (put c v)
keeps_put Ends used c None v f = λ ends. ap (put c) (f ends)
keeps_put Ends used c (Some (word, n)) v f = λ long. ap (put c) (f (omega arith))

-- a closed word has a byte: its last quote
abbrev HasByte : Option (List ℕ × ℕ) → Type 0
HasByte None = Unit {0}
HasByte (Some (word, n)) = 0 < n

some_by : (b : Bool) (x y : Option (List ℕ × ℕ)) → HasByte x → HasByte y → HasByte (cond b x y)
some_by true x y f g = f
some_by false x y f g = g

some_skip : (x : Option (List ℕ × ℕ)) → HasByte (skip x)
some_skip None = tt
some_skip (Some (word, n)) = omega arith

some_put : (c : ℕ) (x : Option (List ℕ × ℕ)) → HasByte (put c x)
some_put c None = tt
some_put c (Some (word, n)) = omega arith

quoted_has : (quote : ℕ) (text : List ℕ) → HasByte (quoted quote text)
quoted_has quote [] = tt
quoted_has quote (c ∷ text) =
    some_by (c == quote) (Some ([], 1)) _ (omega arith)
    (some_by (c == 92) (skip (escaped quote text)) (put c (quoted quote text)) (some_skip (escaped quote text))
    (some_put c (quoted quote text)))

escaped_has : (quote : ℕ) (text : List ℕ) → HasByte (escaped quote text)
escaped_has quote [] = tt
escaped_has quote (c ∷ text) = some_put c (quoted quote text)

keeps_none : (Ends : Type 0) (x v : Option (List ℕ × ℕ)) → HasByte x → (Ends → v ≡ None) → Keeps Ends 0 x v
keeps_none Ends None v has f = f
keeps_none Ends (Some (word, n)) v has f = λ long. absurd (omega arith)

-- blanks close no quote
never_closed : {text other : List ℕ} (quote : ℕ) → is_quote quote ≡ true → IsMoreBlank text other → length text ≤ 0 →
    (quoted quote other ≡ None) × (escaped quote other ≡ None)
never_closed quote is ended ends = (refl, refl)
never_closed quote is (blank_more {c = c} blank more) ends =
    let own = never_closed quote is more ends in
    (rw (blank_is_not_quote quote c is blank, blank_is_no_slash c blank) (ap (put c) own.0), ap (put c) own.0)
never_closed quote is (both_blank blank after more) ends = absurd (omega arith)
never_closed quote is (same_token word text other byte long more) ends = absurd (omega arith)

mutual
  quoted_keeps : (quote : ℕ) (word text other : List ℕ) → is_quote quote ≡ true → IsMoreBlank text other →
      Keeps (length text ≤ 0) (length word) (quoted quote (word ++ text)) (quoted quote (word ++ other))
  quoted_keeps quote [] text other is more =
      keeps_none (length text ≤ 0) (quoted quote text) (quoted quote other) (quoted_has quote text) (λ ends. (never_closed quote is more ends).0)
  quoted_keeps quote (c ∷ word) text other is more =
      let Ends = length text ≤ 0 in
      let used = suc (length word) in
      keeps_by Ends used (c == quote) (Some ([], 1)) _ (Some ([], 1)) _ (λ long. refl)
      (keeps_by Ends used (c == 92) (skip (escaped quote (word ++ text))) (put c (quoted quote (word ++ text)))
      (skip (escaped quote (word ++ other))) (put c (quoted quote (word ++ other)))
      (keeps_skip Ends (length word) (escaped quote (word ++ text)) (escaped quote (word ++ other)) (escaped_keeps quote word text other is more))
      (keeps_put Ends (length word) c (quoted quote (word ++ text)) (quoted quote (word ++ other)) (quoted_keeps quote word text other is more)))

  escaped_keeps : (quote : ℕ) (word text other : List ℕ) → is_quote quote ≡ true → IsMoreBlank text other →
      Keeps (length text ≤ 0) (length word) (escaped quote (word ++ text)) (escaped quote (word ++ other))
  escaped_keeps quote [] text other is more =
      keeps_none (length text ≤ 0) (escaped quote text) (escaped quote other) (escaped_has quote text) (λ ends. (never_closed quote is more ends).1)
  escaped_keeps quote (c ∷ word) text other is more =
      keeps_put (length text ≤ 0) (length word) c (quoted quote (word ++ text)) (quoted quote (word ++ other)) (quoted_keeps quote word text other is more)

quoted_goes : (word text other : List ℕ) (x v : Option (List ℕ × ℕ)) → Keeps (length text ≤ 0) (length word) x v →
    (quoted_token x (length (word ++ text))).1 ≡ suc (length word) →
    Goes (length text ≤ 0) (suc (length word)) (suc (length (word ++ other))) (quoted_token x (length (word ++ text)))
    (quoted_token v (length (word ++ other)))
quoted_goes word text other None v keeps long =
    let size = length-append word text in
    let ends : length text ≤ 0 = omega arith in
    subst (λ o. Goes (length text ≤ 0) (suc (length word)) (suc (length (word ++ other))) (quoted_token None (length (word ++ text)))
    (quoted_token o (length (word ++ other)))) (sym (keeps ends)) (refl, inr (ends, omega arith))
quoted_goes word text other (Some (w, n)) v keeps long =
    subst (λ o. Goes (length text ≤ 0) (suc (length word)) (suc (length (word ++ other))) (quoted_token (Some (w, n)) (length (word ++ text)))
    (quoted_token o (length (word ++ other)))) (sym (keeps (omega arith))) (refl, inl long)

-- two tokens that are one
one_goes : (Ends : Type 0) (used whole : ℕ) (f g h : Token × ℕ) → f ≡ h → g ≡ h → h.1 ≡ used → Goes Ends used whole f g
one_goes Ends used whole f g h is also long = (ap (λ x. x.0) also ∙ sym (ap (λ x. x.0) is), inl (ap (λ x. x.1) also ∙ long))

front_goes : (c : ℕ) (word text other : List ℕ) → IsMoreBlank text other → (front_token c (word ++ text)).1 ≡ suc (length word) →
    Goes (length text ≤ 0) (suc (length word)) (suc (length (word ++ other))) (front_token c (word ++ text)) (front_token c (word ++ other))
front_goes c word text other more long =
    let by = by_test (length text ≤ 0) (suc (length word)) (suc (length (word ++ other))) in
    by (c == 33) _ _ _ _ long (λ b h. (refl, inl h)) (λ b0 h0.
    by (c == 38) _ _ _ _ h0 (λ b h. (refl, inl h)) (λ b1 h1.
    by (c == 124) _ _ _ _ h1 (λ b h. (refl, inl h)) (λ b2 h2.
    by (c == 40) _ _ _ _ h2 (λ b h. (refl, inl h)) (λ b3 h3.
    by (c == 41) _ _ _ _ h3 (λ b h. (refl, inl h)) (λ b4 h4.
    by (c == 126) (operator_token (word ++ text)) _ (operator_token (word ++ other)) _ h4 (λ b h. operator_goes h) (λ b5 h5.
    by (is_quote c) (quoted_token (quoted c (word ++ text)) (length (word ++ text))) (bare_token (c ∷ (word ++ text)))
    (quoted_token (quoted c (word ++ other)) (length (word ++ other))) (bare_token (c ∷ (word ++ other))) h5
    (λ b h. quoted_goes word text other (quoted c (word ++ text)) (quoted c (word ++ other)) (quoted_keeps c word text other b more) h)
    (λ b h. bare_goes h)))))))
  where
    operator_goes : (operator_token (word ++ text)).1 ≡ suc (length word) →
        Goes (length text ≤ 0) (suc (length word)) (suc (length (word ++ other))) (operator_token (word ++ text)) (operator_token (word ++ other))
    operator_goes h =
        let here : run is_ascii_alphabetic (word ++ text) ≡ length word = omega arith in
        let there = run_same is_ascii_alphabetic word text other (run_stops is_ascii_alphabetic blank_is_no_letter more) here in
        one_goes (length text ≤ 0) (suc (length word)) (suc (length (word ++ other))) _ _ (token.Operator (operator_of word), length word + 1)
        (operator_is word text here) (operator_is word other there) (omega arith)

    bare_goes : (bare_token (c ∷ (word ++ text))).1 ≡ suc (length word) →
        Goes (length text ≤ 0) (suc (length word)) (suc (length (word ++ other))) (bare_token (c ∷ (word ++ text))) (bare_token (c ∷ (word ++ other)))
    bare_goes here =
        let there = run_same is_bare (c ∷ word) text other (run_stops is_bare blank_is_not_bare more) here in
        one_goes (length text ≤ 0) (suc (length word)) (suc (length (word ++ other))) _ _ (token.Word (c ∷ word), suc (length word))
        (bare_is (c ∷ word) text here) (bare_is (c ∷ word) other there) refl

-- tokens without their places
abbrev kinds : List Placed → List Token
kinds = map (λ t. t.token)

pub blank_step : (n p c : ℕ) (text : List ℕ) → is_blank c ≡ true → tokens_within (suc n) p (c ∷ text) ≡ tokens_within n (p + 1) text
unfolding tokens_within
blank_step n p c text blank = rw blank refl

pub token_step : (n p c : ℕ) (text : List ℕ) → is_blank c ≡ false →
    tokens_within (suc n) p (c ∷ text)
    ≡ record { place = p; token = (front_token c text).0 } ∷ tokens_within n (p + (front_token c text).1) (drop ((front_token c text).1) (c ∷ text))
unfolding tokens_within
token_step n p c text blank = cond-false (is_blank c) _ _ blank

-- what stands behind the token
behind : (word text other : List ℕ) (c n m p q used also : ℕ) → used ≡ length (c ∷ word) →
    ((also ≡ suc (length word)) ⊎ ((length text ≤ 0) × (suc (length (word ++ other)) ≤ also))) →
    kinds (tokens_within n p text) ≡ kinds (tokens_within m q other) →
    kinds (tokens_within n p (drop used (c ∷ (word ++ text)))) ≡ kinds (tokens_within m q (drop also (c ∷ (word ++ other))))
behind word text other c n m p q used also long goes same =
    let here : drop used (c ∷ (word ++ text)) ≡ text =
    ap (λ k. drop k (c ∷ (word ++ text))) long ∙ drop-append_seam (c ∷ word) text in
    ap (λ l. kinds (tokens_within n p l)) here
    ∙ elim goes [
      | inl as_long ↦
          (same ∙ sym (ap (λ l. kinds (tokens_within m q l))
          (ap (λ k. drop k (c ∷ (word ++ other))) as_long ∙ drop-append_seam (c ∷ word) other)))
      | inr unclosed ↦
          let none = length-drop also (c ∷ (word ++ other)) in
          (ap kinds (none_left n p text unclosed.0)
          ∙ sym (ap kinds (none_left m q (drop also (c ∷ (word ++ other))) (omega (arith, none, unclosed.1)))))
    ]

same_within : {text other : List ℕ} → IsMoreBlank text other → (n m p q : ℕ) → length text ≤ n → length other ≤ m →
    kinds (tokens_within n p text) ≡ kinds (tokens_within m q other)
same_within ended n m p q fits also = ap kinds (none_left n p [] (omega arith) ∙ sym (none_left m q [] (omega arith)))
same_within (blank_more blank more) n zero p q fits also = absurd (omega arith)
same_within (blank_more {c = c} {other = other} blank more) n (suc m) p q fits also =
    same_within more n m p (q + 1) fits (omega arith) ∙ sym (ap kinds (blank_step m q c other blank))
same_within (both_blank blank is more) zero m p q fits also = absurd (omega arith)
same_within (both_blank blank is more) (suc n) zero p q fits also = absurd (omega arith)
same_within (both_blank {c = c} {d = d} {text = text} {other = other} blank is more) (suc n) (suc m) p q fits also =
    ap kinds (blank_step n p c text blank) ∙ same_within more n m (p + 1) (q + 1) (omega arith) (omega arith)
    ∙ sym (ap kinds (blank_step m q d other is))
same_within (same_token word text other byte long more) zero m p q fits also = absurd (omega arith)
same_within (same_token word text other byte long more) (suc n) zero p q fits also = absurd (omega arith)
same_within (same_token {c = c} word text other byte long more) (suc n) (suc m) p q fits also =
    let f = front_token c (word ++ text) in
    let g = front_token c (word ++ other) in
    let size = length-append word text in
    let wide = length-append word other in
    let goes = front_goes c word text other more long in
    let rest = behind word text other c n m (p + f.1) (q + g.1) f.1 g.1 long goes.1
    (same_within more n m (p + f.1) (q + g.1) (omega (arith, size)) (omega (arith, wide))) in
    ap kinds (token_step n p c (word ++ text) byte)
    ∙ ap (λ l. f.0 ∷ l) rest
    ∙ ap (λ k. k ∷ kinds (tokens_within m (q + g.1) (drop g.1 (c ∷ (word ++ other))))) (sym goes.0)
    ∙ sym (ap kinds (token_step m q c (word ++ other) byte))

pub same_kinds : (text other : List ℕ) → IsMoreBlank text other → map (λ t. t.token) (tokens_of text) ≡ map (λ t. t.token) (tokens_of other)
same_kinds text other more = same_within more (length text) (length other) 0 0 (omega arith) (omega arith)

pub more_read : (text other : List ℕ) (e : Expression) → IsMoreBlank text other → parse text ≡ Ok e → parse other ≡ Ok e
more_read text other e more = moved text other e (same_kinds text other more)

pub fewer_read : (text other : List ℕ) (e : Expression) → IsMoreBlank text other → parse other ≡ Ok e → parse text ≡ Ok e
fewer_read text other e more = moved other text e (sym (same_kinds text other more))
