-- What is in a list, and keys that are the same.
use Rattle.std.proofs.Common.{◌≡◌, ◌≢◌, ◌∙◌, ◌⊎◌, inl, inr, ℕ, Bool, true, false, refl, ap, sym, subst, List, [], ◌∷◌, ◌++◌, ◌==◌, ◌||◌}
use Rattle.std.specs.List.{list_any}
use Rattle.std.specs.Ordering.{nat_cmp}
use Rattle.std.specs.BTreeMap.{is_at}
use Rattle.std.specs.declared.cmp.Ordering.{Ordering}
use Rattle.std.specs.declared.cmp.Ordering.TheVariants as ordering
use Rattle.std.proofs.lemmas.Bool.{eq-eqb, eqb-true}
use Rattle.std.proofs.lemmas.Cmp.{ranked}
use Rattle.px_wire.specs.Holds.{IsIn}

-- two keys
pub key_case : (a b : ℕ) → ((is_at (nat_cmp a) b ≡ true) × (a ≡ b)) ⊎ (is_at (nat_cmp a) b ≡ false)
key_case a b = by (nat_cmp a b) refl
  where
    by : (o : Ordering) → nat_cmp a b ≡ o → ((is_at (nat_cmp a) b ≡ true) × (a ≡ b)) ⊎ (is_at (nat_cmp a) b ≡ false)
    by ordering.Less e = inr (rw e refl)
    by ordering.Equal e = inl (rw e refl, ranked a b ordering.Equal (sym e))
    by ordering.Greater e = inr (rw e refl)

-- two numbers
pub same_or_not : (a b : ℕ) → (a ≡ b) ⊎ (a ≢ b)
same_or_not a b = by (a == b) refl
  where
    by : (c : Bool) → (a == b) ≡ c → (a ≡ b) ⊎ (a ≢ b)
    by true is = inl (eqb-true a b is)
    by false is = inr (λ e. let wrong : true ≡ false = sym (eq-eqb a b e) ∙ is in cc)

-- what is in a list
module _ {A : Type 0} where
  pub in_append : (x : A) (xs ys : List A) → IsIn x (xs ++ ys) → IsIn x xs ⊎ IsIn x ys
  in_append x [] ys is = inr is
  in_append x (first ∷ xs) ys (inl e) = inl (inl e)
  in_append x (first ∷ xs) ys (inr is) = elim (in_append x xs ys is) [
    | inl here ↦ inl (inr here)
    | inr there ↦ inr there
  ]

  pub in_left : (x : A) (xs ys : List A) → IsIn x xs → IsIn x (xs ++ ys)
  in_left x [] ys is = absurd is
  in_left x (first ∷ xs) ys (inl e) = inl e
  in_left x (first ∷ xs) ys (inr is) = inr (in_left x xs ys is)

  pub in_right : (x : A) (xs ys : List A) → IsIn x ys → IsIn x (xs ++ ys)
  in_right x [] ys is = is
  in_right x (first ∷ xs) ys is = inr (in_right x xs ys is)

  pub in_here : (x : A) (xs ys : List A) → IsIn x (xs ++ x ∷ ys)
  in_here x xs ys = in_right x xs (x ∷ ys) (inl refl)

  pub in_around : (x y : A) (xs ys : List A) → IsIn x (xs ++ y ∷ ys) → (y ≡ x) ⊎ IsIn x (xs ++ ys)
  in_around x y xs ys is = elim (in_append x xs (y ∷ ys) is) [
    | inl here ↦ inr (in_left x xs ys here)
    | inr (inl e) ↦ inl e
    | inr (inr there) ↦ inr (in_right x xs ys there)
  ]

  pub in_other : (x y : A) (xs ys : List A) → IsIn x (xs ++ ys) → IsIn x (xs ++ y ∷ ys)
  in_other x y xs ys is = elim (in_append x xs ys is) [
    | inl here ↦ in_left x xs (y ∷ ys) here
    | inr there ↦ in_right x xs (y ∷ ys) (inr there)
  ]

  -- where it stands
  pub record Among (x : A) (xs : List A) : Type 0 where
    pub front : List A
    pub back : List A
    pub are : xs ≡ front ++ x ∷ back

  pub among : (x : A) (xs : List A) → IsIn x xs → Among x xs
  among x [] is = absurd is
  among x (first ∷ xs) (inl e) = record { front = []; back = xs; are = ap (λ y. y ∷ xs) e }
  among x (first ∷ xs) (inr is) =
      let rest = among x xs is in record { front = first ∷ rest.front; back = rest.back; are = ap (λ ys. first ∷ ys) rest.are }

  -- one passes
  pub any_from : (test : A → Bool) (x : A) (xs : List A) → IsIn x xs → test x ≡ true → list_any test xs ≡ true
  any_from test x [] is so = absurd is
  any_from test x (first ∷ xs) (inl e) so =
      let P : A → Type 0 = λ y. test y ≡ true in
      let here : test first ≡ true = subst P (sym e) so in rw here refl
  any_from test x (first ∷ xs) (inr is) so = by (test first) refl (any_from test x xs is so)
    where
      by : (b : Bool) → test first ≡ b → list_any test xs ≡ true → (test first || list_any test xs) ≡ true
      by true e rest = rw e refl
      by false e rest = rw (e, rest) refl

  pub record Passing (test : A → Bool) (xs : List A) : Type 0 where
    pub one : A
    pub is_in : IsIn one xs
    pub is_so : test one ≡ true

  pub any_one : (test : A → Bool) (xs : List A) → list_any test xs ≡ true → Passing test xs
  any_one test [] is = cc
  any_one test (first ∷ xs) is = by (test first) refl (any_one test xs)
    where
      by : (b : Bool) → test first ≡ b → (list_any test xs ≡ true → Passing test xs) → Passing test (first ∷ xs)
      by true e more = record { one = first; is_in = inl refl; is_so = e }
      by false e more = let rest : list_any test xs ≡ true = rw e at is in
          let p = more rest in record { one = p.one; is_in = inr p.is_in; is_so = p.is_so }

-- a number that was looked for
pub in_from : (x : ℕ) (xs : List ℕ) → list_any (λ other. other == x) xs ≡ true → IsIn x xs
in_from x xs is =
    let p = any_one (λ other. other == x) xs is in
    let P : ℕ → Type 0 = λ n. IsIn n xs in subst P (eqb-true p.one x p.is_so) p.is_in

pub not_in_from : (x : ℕ) (xs : List ℕ) → list_any (λ other. other == x) xs ≡ false → IsIn x xs → ⊥
not_in_from x xs none is =
    let some : list_any (λ other. other == x) xs ≡ true = any_from (λ other. other == x) x xs is (eq-eqb x x refl) in
    let wrong : true ≡ false = sym some ∙ none in cc
