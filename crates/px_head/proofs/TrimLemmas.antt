-- A value without the blanks at its ends has none there.
use Rattle.std.proofs.Common.{ℕ, suc, ◌≤◌, ◌≡◌, Bool, true, false, List, [], ◌∷◌, ◌++◌, length, reverse, refl, sym, ap, ◌∙◌, subst, arith}
use Rattle.std.proofs.lemmas.List.{reverse-append, reverse-reverse}
use Rattle.httparse.specs.Grammar.{is_ows, skip_ows, trim_ows}

skip_short : (text : List ℕ) → length (skip_ows text) ≤ length text
skip_short [] = omega arith
skip_short (b ∷ text) = by_test (is_ows b) refl (skip_short text)
  where
    by_test : (v : Bool) → is_ows b ≡ v → length (skip_ows text) ≤ length text → length (skip_ows (b ∷ text)) ≤ suc (length text)
    by_test true blank below = rw blank (omega arith)
    by_test false other below = rw other (omega arith)

-- what was skipped stands in front
skipped : (text : List ℕ) → (blank : List ℕ) × (text ≡ blank ++ skip_ows text)
skipped [] = ([], refl)
skipped (b ∷ text) = by_test (is_ows b) refl (skipped text)
  where
    by_test : (v : Bool) → is_ows b ≡ v → (blank : List ℕ) × (text ≡ blank ++ skip_ows text)
        → (blank : List ℕ) × (b ∷ text ≡ blank ++ skip_ows (b ∷ text))
    by_test true blank behind = (b ∷ behind.0, rw blank (ap (λ (t : List ℕ). b ∷ t) behind.1))
    by_test false other behind = ([], rw other refl)

skip_twice : (text : List ℕ) → skip_ows (skip_ows text) ≡ skip_ows text
skip_twice [] = refl
skip_twice (b ∷ text) = by_test (is_ows b) refl (skip_twice text)
  where
    by_test : (v : Bool) → is_ows b ≡ v → skip_ows (skip_ows text) ≡ skip_ows text → skip_ows (skip_ows (b ∷ text)) ≡ skip_ows (b ∷ text)
    by_test true blank again = rw blank again
    by_test false other again = rw other (rw other refl)

-- a beginning of what has no blank in front has none
skip_front : (front rest : List ℕ) → skip_ows (front ++ rest) ≡ front ++ rest → skip_ows front ≡ front
skip_front [] rest is = refl
skip_front (b ∷ front) rest is = by_test (is_ows b) refl
  where
    by_test : (v : Bool) → is_ows b ≡ v → skip_ows (b ∷ front) ≡ b ∷ front
    by_test true blank =
        let e : skip_ows (front ++ rest) ≡ b ∷ (front ++ rest) = rw blank at is in
        let below = skip_short (front ++ rest) in
        let size = ap (λ (t : List ℕ). length t) e in
        absurd (omega arith)
    by_test false other = rw other refl

pub trim_twice : (text : List ℕ) → trim_ows (trim_ows text) ≡ trim_ows text
unfolding trim_ows
trim_twice text =
    let front = skip_ows text in
    let back = skip_ows (reverse (skip_ows text)) in
    let w = skipped (reverse (skip_ows text)) in
    let whole : skip_ows text ≡ reverse (skip_ows (reverse (skip_ows text))) ++ reverse w.0 =
    sym (reverse-reverse (skip_ows text)) ∙ ap (λ (t : List ℕ). reverse t) w.1 ∙ reverse-append w.0 (skip_ows (reverse (skip_ows text))) in
    let plain : skip_ows (reverse (skip_ows (reverse (skip_ows text)))) ≡ reverse (skip_ows (reverse (skip_ows text))) =
    skip_front (reverse (skip_ows (reverse (skip_ows text)))) (reverse w.0)
    (subst (λ (t : List ℕ). skip_ows t ≡ t) whole (skip_twice text)) in
    ap (λ (t : List ℕ). reverse (skip_ows (reverse t))) plain
    ∙ ap (λ (t : List ℕ). reverse (skip_ows t)) (reverse-reverse (skip_ows (reverse (skip_ows text))))
    ∙ ap (λ (t : List ℕ). reverse t) (skip_twice (reverse (skip_ows text)))
