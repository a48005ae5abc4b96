-- Folds over the comma lists of fields: over all their elements, and value by value.
use Rattle.std.proofs.Common.{◌≡◌, ◌∙◌, ℕ, Bool, true, false, cond, List, [], ◌∷◌, ◌||◌, map, filter, Option, None, Some, MatchOption, refl, sym, ap}
use Rattle.std.specs.Prelude.{is_some}
use Rattle.std.specs.List.{flat_map, fold, list_any}
use Rattle.std.proofs.lemmas.List.Sums.{fold-append}
use Rattle.px_message.specs.Fields.{is_named, values_of}

-- over the lists of all values, one value after the other
pub fold-flat_map : {A B C : Type 0} (f : B → C → B) (g : A → List C) (start : B) (xs : List A) →
    fold f start (flat_map g xs) ≡ fold (λ s x. fold f s (g x)) start xs
fold-flat_map f g start [] = refl
fold-flat_map f g start (x ∷ xs) =
    fold-append f start (g x) (flat_map g xs) ∙ fold-flat_map f g (fold f start (g x)) xs

-- over those that pass a test, with the others passed by
pub fold-filter_map : {A B C : Type 0} (f : B → C → B) (test : C → Bool) (g : A → C) (start : B) (xs : List A) →
    fold f start (filter test (map g xs)) ≡ fold (λ s x. cond (test (g x)) (f s (g x)) s) start xs
fold-filter_map f test g start [] = refl
fold-filter_map f test g start (x ∷ xs) = by_test (test (g x)) (λ s. fold-filter_map f test g s xs)
  where
    by_test : (b : Bool) →
        ((s : _) → fold f s (filter test (map g xs)) ≡ fold (λ s y. cond (test (g y)) (f s (g y)) s) s xs) →
        fold f start (cond b (g x ∷ filter test (map g xs)) (filter test (map g xs)))
        ≡ fold (λ s y. cond (test (g y)) (f s (g y)) s) (cond b (f start (g x)) start) xs
    by_test true rest = rest (f start (g x))
    by_test false rest = rest start

-- two steps that agree make one fold
pub fold_same_step : {A B : Type 0} (f g : B → A → B) → ((s : B) (x : A) → f s x ≡ g s x) → (start : B) (xs : List A) →
    fold f start xs ≡ fold g start xs
fold_same_step f g same start [] = refl
fold_same_step f g same start (x ∷ xs) =
    ap (λ s. fold f s xs) (same start x) ∙ fold_same_step f g same (g start x) xs

-- whether a list has items
abbrev pub has_items : {A : Type 0} → List A → Bool
has_items [] = false
has_items (x ∷ xs) = true

-- a name stands where it has values
pub has_items-values_of : (name : List ℕ) (fields : List (List ℕ × List ℕ)) →
    has_items (values_of name fields) ≡ list_any (is_named name) fields
has_items-values_of name [] = refl
has_items-values_of name (field ∷ fields) = by_test (is_named name field) (has_items-values_of name fields)
  where
    by_test : (b : Bool) → has_items (values_of name fields) ≡ list_any (is_named name) fields →
        has_items (map (λ f. f.1) (cond b (field ∷ filter (is_named name) fields) (filter (is_named name) fields)))
        ≡ (b || list_any (is_named name) fields)
    by_test true rest = refl
    by_test false rest = rest

-- a first item is there where there are items
pub is_some-first : {A X : Type 0} (view : X → A) (items rest : List A) (first : Option X) →
    MatchOption first ((items ≡ []) × (rest ≡ [])) (λ x. items ≡ view x ∷ rest) → is_some first ≡ has_items items
is_some-first view items rest None h = ap has_items (sym h.0)
is_some-first view items rest (Some x) h = ap has_items (sym h)
