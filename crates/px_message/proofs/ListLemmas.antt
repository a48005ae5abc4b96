-- Filters and searches of lists.
use Rattle.std.proofs.Common.{◌≡◌, ◌∙◌, Bool, true, false, cond, ◌&&◌, ◌||◌, List, [], ◌∷◌, length, map, filter, refl, ap, subst, arith}
use Rattle.std.specs.List.{list_any, flat_map, items_where_true}
use Rattle.std.specs.List.Retain.{IsFiltered, ReturnsInTurn}
use Rattle.std.proofs.lemmas.List.Folds.{list_any-append}

pub list_any-filter_map : {X Y : Type 0} (p q : Y → Bool) (f : X → Y) (xs : List X) →
    list_any p (filter q (map f xs)) ≡ list_any (λ x. q (f x) && p (f x)) xs
list_any-filter_map p q f [] = refl
list_any-filter_map p q f (x ∷ xs) = by_test (q (f x)) (list_any-filter_map p q f xs)
  where
    by_test : (b : Bool) → list_any p (filter q (map f xs)) ≡ list_any (λ x. q (f x) && p (f x)) xs →
        list_any p (cond b (f x ∷ filter q (map f xs)) (filter q (map f xs)))
        ≡ ((b && p (f x)) || list_any (λ x. q (f x) && p (f x)) xs)
    by_test true rest = ap (λ r. p (f x) || r) rest
    by_test false rest = rest

pub list_any-flat_map : {X Y : Type 0} (p : Y → Bool) (f : X → List Y) (xs : List X) →
    list_any p (flat_map f xs) ≡ list_any (λ x. list_any p (f x)) xs
list_any-flat_map p f [] = refl
list_any-flat_map p f (x ∷ xs) =
    list_any-append p (f x) (flat_map f xs) ∙ ap (λ r. list_any p (f x) || r) (list_any-flat_map p f xs)

-- a test that stays as it is and computes a function keeps what a filter by the function keeps
module _ {X F : Type 0} (R : F → X → Bool → F → Type 0) (test : X → Bool) (f : F)
    (says : (x : X) (b : Bool) (q : F) → R f x b q → (b ≡ test x) × (q ≡ f)) where
  first_by : (x : X) (xs ys : List X) (bs : List Bool) (b t : Bool) → b ≡ t → items_where_true bs xs ≡ ys →
      items_where_true (b ∷ bs) (x ∷ xs) ≡ cond t (x ∷ ys) ys
  first_by x xs ys bs true t e rest = ap (λ l. x ∷ l) rest ∙ ap (λ a. cond a (x ∷ ys) ys) e
  first_by x xs ys bs false t e rest = rest ∙ ap (λ a. cond a (x ∷ ys) ys) e

  kept_by : (p q : F) (bs : List Bool) (xs : List X) → p ≡ f → length bs ≡ length xs → ReturnsInTurn R p bs xs q →
      items_where_true bs xs ≡ filter test xs
  kept_by p q [] [] same e h = refl
  kept_by p q [] (x ∷ xs) same e h = absurd (omega arith)
  kept_by p q (b ∷ bs) [] same e h = absurd h
  kept_by p q (b ∷ bs) (x ∷ xs) same e h =
      let told = says x b h.0 (subst (λ (u : F). R u x b h.0) same h.1) in
      first_by x xs (filter test xs) bs b (test x) told.0 (kept_by h.0 q bs xs told.1 (omega arith) h.2)

  pub filter_from_kept : (xs ys : List X) → IsFiltered R f xs ys → ys ≡ filter test xs
  filter_from_kept xs ys h = h.4 ∙ kept_by f h.1 h.0 xs refl h.2 h.3
