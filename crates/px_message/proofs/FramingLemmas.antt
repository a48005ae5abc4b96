-- The framing fields of a message whose body passes by.
use Rattle.std.proofs.Common.{◌≡◌, ◌∙◌, ℕ, Bool, true, false, cond, not, ◌||◌, ◌&&◌, List, [], ◌∷◌, ◌++◌, filter, refl, ap}
use Rattle.std.specs.Prelude.{bytes_eq}
use Rattle.std.specs.Bool.{Decides}
use Rattle.std.proofs.lemmas.Bool.{cond-true, cond-false}
use Rattle.std.proofs.lemmas.List.Elements.{filter-append}
use Rattle.std.proofs.lemmas.Slice.Eq.{bytes_eq-Decides, slice_eq-Decides}
use Rattle.px_message.specs.Fields.{is_named, without}
use Rattle.px_message.specs.Length.{content_length, transfer_encoding}
use Rattle.px_message.specs.Settle.{are_same, framing, is_framing, settled_streamed}

both_tests : (a b : Bool) → (a && b) ≡ true → (a ≡ true) × (b ≡ true)
both_tests true b h = (refl, h)
both_tests false b h = absurd (let e = h in cc)

pair_Decides : (x y : List ℕ × List ℕ) → Decides (bytes_eq x.0 y.0 && bytes_eq x.1 y.1) (x ≡ y)
pair_Decides x y = (
  λ says.
      let both = both_tests (bytes_eq x.0 y.0) (bytes_eq x.1 y.1) says in
      λ i. ((bytes_eq-Decides x.0 y.0).0 both.0 i, (bytes_eq-Decides x.1 y.1).0 both.1 i),
  λ same. λ i. (bytes_eq-Decides x.0 y.0).1 (ap (λ (p : List ℕ × List ℕ). p.0) same) i
      && (bytes_eq-Decides x.1 y.1).1 (ap (λ (p : List ℕ × List ℕ). p.1) same) i,
)

are_same-Decides : (a b : List (List ℕ × List ℕ)) → Decides (are_same a b) (a ≡ b)
are_same-Decides a b = slice_eq-Decides pair_Decides a b (are_same a b) refl

-- the same filter twice
filter-twice : {X : Type 0} (p : X → Bool) (xs : List X) → filter p (filter p xs) ≡ filter p xs
filter-twice p [] = refl
filter-twice {X} p (x ∷ xs) = by_test (p x) refl (filter-twice p xs)
  where
    by_test : (b : Bool) → p x ≡ b → filter p (filter p xs) ≡ filter p xs →
        filter p (cond b (x ∷ filter p xs) (filter p xs)) ≡ cond b (x ∷ filter p xs) (filter p xs)
    by_test true at rest = cond-true _ _ _ at ∙ ap (λ l. x ∷ l) rest
    by_test false at rest = rest

-- nothing is left that either test takes away
filter-neither : {X : Type 0} (p q : X → Bool) (xs : List X) →
    filter (λ x. p x || q x) (filter (λ x. not (q x)) (filter (λ x. not (p x)) xs)) ≡ []
filter-neither p q [] = refl
filter-neither {X} p q (x ∷ xs) = by_tests (p x) (q x) refl refl (filter-neither p q xs)
  where
    by_tests : (b c : Bool) → p x ≡ b → q x ≡ c →
        filter (λ x. p x || q x) (filter (λ x. not (q x)) (filter (λ x. not (p x)) xs)) ≡ [] →
        filter (λ x. p x || q x) (filter (λ x. not (q x)) (cond (not b) (x ∷ filter (λ x. not (p x)) xs) (filter (λ x. not (p x)) xs))) ≡ []
    by_tests true c at_p at_q rest = rest
    by_tests false true at_p at_q rest =
        ap (filter (λ x. p x || q x)) (cond-false _ _ _ (ap not at_q)) ∙ rest
    by_tests false false at_p at_q rest =
        ap (filter (λ x. p x || q x)) (cond-true _ _ _ (ap not at_q))
        ∙ cond-false _ _ _ (λ i. at_p i || at_q i) ∙ rest

unframed : (fields : List (List ℕ × List ℕ)) → framing (without content_length (without transfer_encoding fields)) ≡ []
unframed fields = filter-neither (is_named transfer_encoding) (is_named content_length) fields

pub settled_streamed-framing : (read fields : List (List ℕ × List ℕ)) → framing (settled_streamed read fields) ≡ framing read
settled_streamed-framing read fields = by_test (are_same (framing fields) (framing read)) refl
  where
    by_test : (b : Bool) → are_same (framing fields) (framing read) ≡ b →
        framing (cond b fields (without content_length (without transfer_encoding fields) ++ framing read)) ≡ framing read
    by_test true same = (are_same-Decides (framing fields) (framing read)).0 same
    by_test false other =
        filter-append is_framing (without content_length (without transfer_encoding fields)) (framing read)
        ∙ (λ i. unframed fields i ++ filter-twice is_framing read i)

pub streamed-stays : (read fields : List (List ℕ × List ℕ)) → framing fields ≡ framing read → settled_streamed read fields ≡ fields
streamed-stays read fields same = cond-true _ _ _ ((are_same-Decides (framing fields) (framing read)).1 same)

pub streamed-once : (read fields : List (List ℕ × List ℕ)) →
    settled_streamed read (settled_streamed read fields) ≡ settled_streamed read fields
streamed-once read fields = streamed-stays read (settled_streamed read fields) (settled_streamed-framing read fields)
