-- Where a block ends: what the test looks at, where a search may go on, and that more bytes change nothing.
use Rattle.std.proofs.Common.{ℕ, ◌+◌, ◌-◌, ◌<◌, ◌≤◌, ◌≡◌, Bool, true, false, ◌&&◌, ◌||◌, List, ◌++◌, length, refl, sym, ap, ◌∙◌, arith, inl, inr, Some, None, length-append}
use Rattle.std.specs.Prelude.{nat_le, ◌==◌, slice_index}
use Rattle.std.proofs.lemmas.Bool.{leb-true, lt-leb}
use Rattle.std.proofs.lemmas.Bool.Decides.{leb_tells}
use Rattle.std.proofs.lemmas.List.{get_or_append_left}
use Rattle.px_text.specs.Blank.{ends_blank, blank_end}
use Rattle.px_text.specs.Least.{least}
use Rattle.px_text.proofs.LeastLemmas.{least-Some, least-None, least_skip, least_same, least_more}

-- no block that begins at `start` ends at `reached` or before
abbrev pub NoEnd : List ℕ → ℕ → ℕ → Type 0
NoEnd bytes start reached = (end : ℕ) → end ≤ reached → ends_blank bytes start end ≡ false

le_test : (a b : ℕ) → a ≤ b → nat_le a b ≡ true
le_test a b h = elim (leb_tells a b) [ inl t ↦ t.0 | inr f ↦ (let g = f.1 in absurd (omega arith)) ]

-- an end is two bytes behind the start at least
pub ends_blank-short : (bytes : List ℕ) (start end : ℕ) → end < start + 2 → ends_blank bytes start end ≡ false
ends_blank-short bytes start end short = rw (lt-leb (start + 2) end short) refl

pub ends_blank-long : (bytes : List ℕ) (start end : ℕ) → ends_blank bytes start end ≡ true → start + 2 ≤ end
ends_blank-long bytes start end is = elim (leb_tells (start + 2) end) [
  | inl t ↦ t.1
  | inr f ↦ absurd (let e = sym (ends_blank-short bytes start end f.1) ∙ is in cc)
]

-- more bytes change nothing up to their place
pub ends_blank-append : (bytes more : List ℕ) (start end : ℕ) → end ≤ length bytes
    → ends_blank (bytes ++ more) start end ≡ ends_blank bytes start end
ends_blank-append bytes more start end fits = elim (leb_tells (start + 2) end) [
  | inl t ↦
      let long = t.1 in
      rw (
        get_or_append_left bytes more 0 (end - 1) (omega arith),
        get_or_append_left bytes more 0 (end - 2) (omega arith),
        get_or_append_left bytes more 0 (end - 3) (omega arith),
      ) refl
  | inr f ↦ ends_blank-short (bytes ++ more) start end f.1 ∙ sym (ends_blank-short bytes start end f.1)
]

-- three bytes are all that the test looks at
pub ends_blank-start : (bytes : List ℕ) (start other end : ℕ) → start ≤ other → other + 3 ≤ end
    → ends_blank bytes other end ≡ ends_blank bytes start end
ends_blank-start bytes start other end ordered far = rw (
  le_test (start + 2) end (omega arith),
  le_test (start + 3) end (omega arith),
  le_test (other + 2) end (omega arith),
  le_test (other + 3) end (omega arith),
) refl

less : (p p' q r s s' t u : Bool) → (p' ≡ true → p ≡ true) → (s' ≡ true → s ≡ true)
    → ((p && q) && (r || ((s && t) && u))) ≡ false → ((p' && q) && (r || ((s' && t) && u))) ≡ false
less p false q r s s' t u hp hs h = refl
less p true false r s s' t u hp hs h = refl
less p true true false s false t u hp hs h = refl
less p true true false s true t u hp hs h = rw (hp refl, hs refl) at h
less p true true true s s' t u hp hs h = absurd (let e : true ≡ false = rw (hp refl) at h in cc)

-- a later start has no end that an earlier one lacks
pub ends_blank-later : (bytes : List ℕ) (start other end : ℕ) → start ≤ other → ends_blank bytes start end ≡ false
    → ends_blank bytes other end ≡ false
ends_blank-later bytes start other end ordered = less
    (nat_le (start + 2) end) (nat_le (other + 2) end) (slice_index bytes (end - 1) == 10) (slice_index bytes (end - 2) == 10)
    (nat_le (start + 3) end) (nat_le (other + 3) end) (slice_index bytes (end - 2) == 13) (slice_index bytes (end - 3) == 10)
    (λ t. let a = leb-true (other + 2) end t in le_test (start + 2) end (omega arith))
    (λ t. let a = leb-true (other + 3) end t in le_test (start + 3) end (omega arith))

-- ---- the end of a block

pub record IsBlankEnd (bytes : List ℕ) (start end : ℕ) : Type 0 where
  pub ends : ends_blank bytes start end ≡ true
  pub behind : start + 2 ≤ end
  pub within : end ≤ length bytes
  pub first : (k : ℕ) → k < end → ends_blank bytes start k ≡ false

pub blank_end-Some : (bytes : List ℕ) (start end : ℕ) → start ≤ length bytes → blank_end bytes start ≡ Some end
    → IsBlankEnd bytes start end
blank_end-Some bytes start end fits is =
    let found = least-Some (ends_blank bytes start) start (length bytes + 1 - start) end is in
    let below = found.below in
    record {
      ends = found.passes;
      behind = ends_blank-long bytes start end found.passes;
      within = omega arith;
      first = λ k low. elim (leb_tells start k) [
        | inl t ↦ found.first k t.1 low
        | inr f ↦ (let g = f.1 in ends_blank-short bytes start k (omega arith))
      ];
    }

pub blank_end-None : (bytes : List ℕ) (start : ℕ) → start ≤ length bytes → blank_end bytes start ≡ None
    → NoEnd bytes start (length bytes)
blank_end-None bytes start fits is end low = elim (leb_tells start end) [
  | inl t ↦ (let g = t.1 in least-None (ends_blank bytes start) start (length bytes + 1 - start) is end g (omega arith))
  | inr f ↦ (let g = f.1 in ends_blank-short bytes start end (omega arith))
]

-- more bytes behind the end change nothing
pub blank_end-append : (bytes more : List ℕ) (start end : ℕ) → start ≤ length bytes → blank_end bytes start ≡ Some end
    → blank_end (bytes ++ more) start ≡ Some end
blank_end-append bytes more start end fits is =
    let e : length (bytes ++ more) + 1 - start ≡ (length bytes + 1 - start) + length more =
    (let l = length-append bytes more in omega arith) in
    ap (λ (n : ℕ). least (ends_blank (bytes ++ more) start) start n) e
    ∙ least_more (ends_blank (bytes ++ more) start) start (length bytes + 1 - start) (length more) end
    (least_same (ends_blank (bytes ++ more) start) (ends_blank bytes start) start (length bytes + 1 - start)
    (λ k low high. ends_blank-append bytes more start k (omega arith))
    ∙ is)

-- a search may go on two bytes before the place that an earlier one has reached
pub blank_end-resume : (bytes : List ℕ) (start from : ℕ) → start ≤ from → from + 2 ≤ length bytes
    → NoEnd bytes start (from + 2) → blank_end bytes from ≡ blank_end bytes start
blank_end-resume bytes start from ordered fits none =
    let later : (k : ℕ) → k < from + 3 → ends_blank bytes from k ≡ false =
    λ k low. ends_blank-later bytes start from k ordered (none k (omega arith)) in
    let a : length bytes + 1 - from ≡ 3 + (length bytes - (from + 2)) = omega arith in
    let b : length bytes + 1 - start ≡ (from + 3 - start) + (length bytes - (from + 2)) = omega arith in
    let c : start + (from + 3 - start) ≡ from + 3 = omega arith in
    ap (λ (n : ℕ). least (ends_blank bytes from) from n) a
    ∙ least_skip (ends_blank bytes from) from 3 (length bytes - (from + 2)) (λ k low high. later k high)
    ∙ least_same (ends_blank bytes from) (ends_blank bytes start) (from + 3) (length bytes - (from + 2))
    (λ k low high. ends_blank-start bytes start from k ordered low)
    ∙ ap (λ (n : ℕ). least (ends_blank bytes start) n (length bytes - (from + 2))) (sym c)
    ∙ sym (least_skip (ends_blank bytes start) start (from + 3 - start) (length bytes - (from + 2))
    (λ k low high. none k (omega arith)))
    ∙ ap (λ (n : ℕ). least (ends_blank bytes start) start n) (sym b)
