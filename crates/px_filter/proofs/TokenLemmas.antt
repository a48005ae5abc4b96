-- Tokens, one at a time.
use Rattle.std.proofs.Common.{◌≡◌, ◌<◌, ◌≤◌, ◌+◌, ◌-◌, ◌==◌, ℕ, zero, suc, Bool, true, false, cond, List, [], ◌∷◌, ◌++◌, length, get_or, drop, refl, sym, ap, ◌∙◌, subst, arith, length-drop, length-take, Option, Some, None}
use Rattle.std.proofs.lemmas.Bool.{cond-false}
use Rattle.std.proofs.lemmas.List.{append-nil}
use Rattle.px_filter.specs.Tokens.{is_blank, is_bare, is_quote, run, front_token, operator_token, quoted_token, quoted, tokens_within, tokens_of}
use Rattle.px_filter.specs.declared.token.Token.{Token}
use Rattle.px_filter.specs.declared.token.Placed.{Placed}

bare_some : (c : ℕ) (text : List ℕ) → is_blank c ≡ false → is_quote c ≡ false → (c == 40) ≡ false → (c == 41) ≡ false → (c == 126) ≡ false →
    0 < run is_bare (c ∷ text)
bare_some c text blank quote paren close tilde =
    let bare : is_bare c ≡ true = rw (blank, quote, paren, close, tilde) refl in
    rw bare (simp length-take (omega arith))

quoted_some : (found : Option (List ℕ × ℕ)) (rest : ℕ) → 0 < (quoted_token found rest).1
quoted_some None rest = omega arith
quoted_some (Some (word, used)) rest = omega arith

either : (b : Bool) (x y : Token × ℕ) → 0 < x.1 → (b ≡ false → 0 < y.1) → 0 < (cond b x y).1
either true x y h k = h
either false x y h k = k refl

-- a token has a byte
pub front_some : (c : ℕ) (text : List ℕ) → is_blank c ≡ false → 0 < (front_token c text).1
front_some c text blank =
    either (c == 33) _ _ (omega arith) (λ a. either (c == 38) _ _ (omega arith) (λ b. either (c == 124) _ _ (omega arith)
    (λ d. either (c == 40) _ _ (omega arith) (λ paren. either (c == 41) _ _ (omega arith)
    (λ close. either (c == 126) (operator_token text) _ (omega arith)
    (λ tilde. either (is_quote c) (quoted_token (quoted c text) (length text)) _ (quoted_some (quoted c text) (length text))
    (λ quote. bare_some c text blank quote paren close tilde)))))))

-- what is said of the token at the front
abbrev Says : List ℕ → Token → ℕ → Type 0
Says text token used = (c : ℕ) (behind : List ℕ) → text ≡ c ∷ behind → (token, used) ≡ front_token c behind

pub used_some : (text : List ℕ) (token : Token) (used : ℕ) → 0 < length text → is_blank (get_or text 0 0) ≡ false → Says text token used →
    0 < used
used_some [] token used h blank says = absurd (omega arith)
used_some (c ∷ text) token used h blank says =
    subst (λ (f : Token × ℕ). 0 < f.1) (sym (says c text refl)) (front_some c text blank)

pub taken_blank : (n place : ℕ) (text : List ℕ) → 0 < length text → is_blank (get_or text 0 0) ≡ true →
    tokens_within n (place + 1) (drop 1 text) ≡ tokens_within (suc n) place text
unfolding tokens_within
taken_blank n place [] h blank = absurd (omega arith)
taken_blank n place (c ∷ text) h blank = rw blank refl

pub taken_token : (n place : ℕ) (text : List ℕ) (token : Token) (used : ℕ) → 0 < length text → is_blank (get_or text 0 0) ≡ false →
    Says text token used →
    (record { place = place; token = token } ∷ tokens_within n (place + used) (drop used text)) ≡ tokens_within (suc n) place text
unfolding tokens_within
taken_token n place [] token used h blank says = absurd (omega arith)
taken_token n place (c ∷ text) token used h blank says =
    let along : Token × ℕ → List Placed =
    λ f. record { place = place; token = f.0 } ∷ tokens_within n (place + f.1) (drop f.1 (c ∷ text)) in
    ap along (says c text refl)
    ∙ sym (cond-false (is_blank c) (tokens_within n (place + 1) text) (along (front_token c text)) blank)

pub none_left : (n place : ℕ) (rest : List ℕ) → length rest ≤ 0 → tokens_within n place rest ≡ []
unfolding tokens_within
none_left zero place rest h = refl
none_left (suc n) place [] h = refl
none_left (suc n) place (c ∷ rest) h = absurd (omega arith)

-- at the text's end
pub all_taken : (text rest : List ℕ) (tokens : List Placed) (n place : ℕ) → length rest ≤ 0 →
    tokens ++ tokens_within n place rest ≡ tokens_of text → tokens ≡ tokens_of text
all_taken text rest tokens n place h whole =
    sym (append-nil tokens) ∙ ap (λ ts. tokens ++ ts) (sym (none_left n place rest h)) ∙ whole

-- one more taken
pub taken_more : (text rest behind : List ℕ) (old new : List Placed) (used n : ℕ) → length rest ≤ length text → 0 < length rest →
    length rest ≤ n → 0 < used → used ≤ length rest → behind ≡ drop used rest →
    ((m : ℕ) → new ++ tokens_within m ((length text - length rest) + used) (drop used rest)
    ≡ old ++ tokens_within (suc m) (length text - length rest) rest) →
    old ++ tokens_within n (length text - length rest) rest ≡ tokens_of text →
    (length behind ≤ length text)
    × ((k : ℕ) × (length behind ≤ k) × (new ++ tokens_within k (length text - length behind) behind ≡ tokens_of text))
taken_more text rest behind old new used zero within some fits one fewer is taken whole = absurd (omega arith)
taken_more text rest behind old new used (suc m) within some fits one fewer is taken whole =
    let short : length behind ≡ length rest - used = ap length is ∙ length-drop used rest in
    let place : length text - length behind ≡ (length text - length rest) + used = omega arith in (
      omega arith,
      (
        m,
        omega arith,
        ap (λ p. new ++ tokens_within m p behind) place
            ∙ ap (λ r. new ++ tokens_within m ((length text - length rest) + used) r) is ∙ taken m ∙ whole,
      ),
    )
