-- The place of an ask, and the list after it.
use Rattle.std.proofs.Common.{◌≡◌, ◌∙◌, ℕ, zero, suc, ◌<◌, ◌≤◌, Bool, true, false, ◌==◌, ◌||◌, List, [], ◌∷◌, length, map, get_or, set, Some, None, refl, sym, ap, arith, inl, inr, if◌then◌else◌}
use Rattle.std.specs.List.{position, position_or_len, slice_get}
use Rattle.std.specs.Prelude.{nat_lt}
use Rattle.std.proofs.lemmas.Bool.{cases_lt, eq-eqb, eqb-true, lt-ltb}
use Rattle.std.proofs.lemmas.List.Sums.{fails_before_first}
use Rattle.std.proofs.lemmas.List.Quantifiers.{position-Some}
use Rattle.std.proofs.lemmas.Option.{none-some, same_Some, slice_get-get_or, slice_get_within, get_or_from_slice_get}
use Rattle.px_replay.specs.declared.recorded.Recording.{Recording}
use Rattle.px_replay.specs.Replaying.{use_at}

-- ---- places in a list

-- what stands under a place of a list that was mapped
pub under : {A B : Type 0} (f : A → B) (xs : List A) (i : ℕ) (y : B) → slice_get (map f xs) i ≡ Some y →
    (x : A) × (slice_get xs i ≡ Some x) × (f x ≡ y)
under f [] i y at = absurd (none-some y at)
under f (x ∷ xs) zero y at = (x, refl, same_Some (f x) y at)
under f (x ∷ xs) (suc i) y at = under f xs i y at

-- the first that passes
pub first_passes : {A : Type 0} (test : A → Bool) (xs : List A) (i : ℕ) → position test xs ≡ Some i →
    (x : A) × (slice_get xs i ≡ Some x) × (test x ≡ true)
first_passes test [] i found = absurd (none-some i found)
first_passes test (x ∷ xs) i found =
    let is = position-Some test (x ∷ xs) i x found in
    (get_or (x ∷ xs) i x, slice_get-get_or (x ∷ xs) i x is.0, is.1)

-- none before it does
pub none_before : {A : Type 0} (test : A → Bool) (xs : List A) (i k : ℕ) (x : A) → position test xs ≡ Some i → k < i →
    slice_get xs k ≡ Some x → test x ≡ false
none_before test xs i k x found before at =
    let is = position-Some test xs i x found in
    ap test (sym (get_or_from_slice_get xs k x x at)) ∙ is.2 k before

-- none does where there is no first
pub none_at_all : {A : Type 0} (test : A → Bool) (xs : List A) (k : ℕ) (x : A) → position test xs ≡ None → slice_get xs k ≡ Some x → test x ≡ false
none_at_all test xs k x found at =
    let within : k < length xs = slice_get_within xs k x at in
    let all : length xs ≤ position_or_len test xs = past (position_or_len test xs) (length xs) found in
    ap test (sym (get_or_from_slice_get xs k x x at)) ∙ fails_before_first test xs k x (omega (arith, within, all))
  where
    past : (n m : ℕ) → (if nat_lt n m then Some n else None) ≡ None → m ≤ n
    past n m none = elim (cases_lt n m) [
      | inl less ↦ absurd (none-some n (sym none ∙ ap (λ b. if b then Some n else None) (lt-ltb n m less)))
      | inr not_less ↦ not_less
    ]

-- ---- the list after an ask

pub same_keys : (place : ℕ) (rs : List Recording) → map (λ r. r.key) (use_at place rs) ≡ map (λ r. r.key) rs
same_keys place [] = refl
same_keys zero (r ∷ rs) = refl
same_keys (suc place) (r ∷ rs) = ap (λ l. r.key ∷ l) (same_keys place rs)

or_true : (b : Bool) → true ≡ (b || true)
or_true true = refl
or_true false = refl

or_false : (b : Bool) → b ≡ (b || false)
or_false true = refl
or_false false = refl

differ : (a b : ℕ) → (a ≡ b → ⊥) → (a == b) ≡ false
differ a b other = by_test (a == b) refl
  where
    by_test : (t : Bool) → (a == b) ≡ t → (a == b) ≡ false
    by_test false is = is
    by_test true is = absurd (other (eqb-true a b is))

pub clash : (t : Bool) → t ≡ false → t ≡ true → ⊥
clash true is other = let e = is in cc
clash false is other = let e = other in cc

one_more : (a b : ℕ) → (a == b) ≡ (suc a == suc b)
one_more a b = by_test (a == b) refl
  where
    by_test : (t : Bool) → (a == b) ≡ t → (a == b) ≡ (suc a == suc b)
    by_test true is = is ∙ sym (eq-eqb (suc a) (suc b) (ap suc (eqb-true a b is)))
    by_test false is = is ∙ sym (differ (suc a) (suc b) (λ same. clash (a == b) is (eq-eqb a b (omega (arith, same)))))

-- what is used after an ask was used before it, or is the place that it got
pub used_after : (given : ℕ → Bool) (place : ℕ) (rs : List Recording) → ((i : ℕ) (r : Recording) → slice_get rs i ≡ Some r → r.used ≡ given i) →
    (i : ℕ) (r : Recording) → slice_get (use_at place rs) i ≡ Some r → r.used ≡ (given i || place == i)
used_after given place [] before i r at = absurd (none-some r at)
used_after given zero (r ∷ rs) before zero other at = ap (λ (o : Recording). o.used) (sym (same_Some _ other at)) ∙ or_true (given 0)
used_after given zero (r ∷ rs) before (suc i) other at =
    before (suc i) other at ∙ or_false (given (suc i)) ∙ ap (λ t. given (suc i) || t) (sym (differ 0 (suc i) (λ same. omega (arith, same))))
used_after given (suc place) (r ∷ rs) before zero other at =
    before 0 other at ∙ or_false (given 0) ∙ ap (λ t. given 0 || t) (sym (differ (suc place) 0 (λ same. omega (arith, same))))
used_after given (suc place) (r ∷ rs) before (suc i) other at =
    used_after (λ n. given (suc n)) place rs (λ n o there. before (suc n) o there) i other at
    ∙ ap (λ t. given (suc i) || t) (one_more place i)

pub use_at-set : (place : ℕ) (rs : List Recording) (d : Recording) → place < length rs →
    use_at place rs ≡ set rs place (record (get_or rs place d) { used = true })
use_at-set place [] d within = absurd (omega (arith, within))
use_at-set zero (r ∷ rs) d within = refl
use_at-set (suc place) (r ∷ rs) d within = ap (λ l. r ∷ l) (use_at-set place rs d (omega (arith, within)))
