-- What adding, removing and setting a field do to the values of each name.
use Rattle.std.proofs.Common.{◌≡◌, ◌∙◌, Bool, true, false, cond, not, ℕ, List, [], ◌∷◌, ◌++◌, map, filter, refl, sym, ap}
use Rattle.std.proofs.lemmas.List.{append-nil, map-append}
use Rattle.std.proofs.lemmas.List.Elements.{filter-append}
use Rattle.std.proofs.lemmas.Slice.Eq.{bytes_eq-Decides}
use Rattle.px_text.specs.Ascii.{lowercase}
use Rattle.px_message.specs.Fields.{is_named, is_same_name, set_in, values_of, without}

abbrev value_in : List ℕ × List ℕ → List ℕ
value_in f = f.1

pub is_same_name-refl : (a : List ℕ) → is_same_name a a ≡ true
is_same_name-refl a = (bytes_eq-Decides (lowercase a) (lowercase a)).1 refl

-- a field of one name is of no other
pub of_one_name : (a b : List ℕ) → is_same_name b a ≡ false →
    (f : List ℕ × List ℕ) → is_named a f ≡ true → is_named b f ≡ false
of_one_name a b other f at = by_test (is_named b f) refl
  where
    by_test : (t : Bool) → is_named b f ≡ t → t ≡ false
    by_test false h = refl
    by_test true h =
        let at_a : lowercase f.0 ≡ lowercase a = (bytes_eq-Decides (lowercase f.0) (lowercase a)).0 at in
        let at_b : lowercase f.0 ≡ lowercase b = (bytes_eq-Decides (lowercase f.0) (lowercase b)).0 h in
        let same : is_same_name b a ≡ true = (bytes_eq-Decides (lowercase b) (lowercase a)).1 (sym at_b ∙ at_a) in
        cc (other, same)

filter-without : {X : Type 0} (p q : X → Bool) → ((x : X) → p x ≡ true → q x ≡ false) → (xs : List X) →
    filter p (filter (λ x. not (q x)) xs) ≡ filter p xs
filter-without p q apart [] = refl
filter-without {X} p q apart (x ∷ xs) = by_test (p x) (q x) refl refl (filter-without p q apart xs)
  where
    by_test : (b c : Bool) → p x ≡ b → q x ≡ c → filter p (filter (λ x. not (q x)) xs) ≡ filter p xs →
        filter p (cond (not c) (x ∷ filter (λ x. not (q x)) xs) (filter (λ x. not (q x)) xs))
        ≡ cond b (x ∷ filter p xs) (filter p xs)
    by_test b false at kept rest =
        ap (λ t. cond t (x ∷ filter p (filter (λ x. not (q x)) xs)) (filter p (filter (λ x. not (q x)) xs))) at
        ∙ ap (λ l. cond b (x ∷ l) l) rest
    by_test true true at gone rest = absurd (let no : q x ≡ false = apart x at in cc (no, gone))
    by_test false true at gone rest = rest

filter-none_left : {X : Type 0} (p : X → Bool) (xs : List X) → filter p (filter (λ x. not (p x)) xs) ≡ []
filter-none_left p [] = refl
filter-none_left {X} p (x ∷ xs) = by_test (p x) refl (filter-none_left p xs)
  where
    by_test : (b : Bool) → p x ≡ b → filter p (filter (λ x. not (p x)) xs) ≡ [] →
        filter p (cond (not b) (x ∷ filter (λ x. not (p x)) xs) (filter (λ x. not (p x)) xs)) ≡ []
    by_test true at rest = rest
    by_test false at rest =
        ap (λ t. cond t (x ∷ filter p (filter (λ x. not (p x)) xs)) (filter p (filter (λ x. not (p x)) xs))) at ∙ rest

pub values_of-add : (name : List ℕ) (field : List ℕ × List ℕ) (fields : List (List ℕ × List ℕ)) → is_named name field ≡ true →
    values_of name (fields ++ field ∷ []) ≡ values_of name fields ++ field.1 ∷ []
values_of-add name field fields at =
    ap (map value_in) (filter-append (is_named name) fields (field ∷ []))
    ∙ map-append value_in (filter (is_named name) fields) (filter (is_named name) (field ∷ []))
    ∙ ap (λ t. values_of name fields ++ map value_in (cond t (field ∷ []) [])) at

pub values_of-add_other : (name : List ℕ) (field : List ℕ × List ℕ) (fields : List (List ℕ × List ℕ)) →
    is_named name field ≡ false → values_of name (fields ++ field ∷ []) ≡ values_of name fields
values_of-add_other name field fields other =
    ap (map value_in) (filter-append (is_named name) fields (field ∷ []))
    ∙ map-append value_in (filter (is_named name) fields) (filter (is_named name) (field ∷ []))
    ∙ ap (λ t. values_of name fields ++ map value_in (cond t (field ∷ []) [])) other
    ∙ append-nil (values_of name fields)

pub values_of-without : (name : List ℕ) (fields : List (List ℕ × List ℕ)) → values_of name (without name fields) ≡ []
values_of-without name fields = ap (map value_in) (filter-none_left (is_named name) fields)

pub values_of-without_other : (a b : List ℕ) (fields : List (List ℕ × List ℕ)) → is_same_name b a ≡ false →
    values_of a (without b fields) ≡ values_of a fields
values_of-without_other a b fields other =
    ap (map value_in) (filter-without (is_named a) (is_named b) (of_one_name a b other) fields)

pub values_of-set_in : (name value : List ℕ) (fields : List (List ℕ × List ℕ)) →
    values_of name (set_in name value fields) ≡ value ∷ []
values_of-set_in name value [] = ap (λ t. map value_in (cond t ((name, value) ∷ []) [])) (is_same_name-refl name)
values_of-set_in name value (field ∷ fields) = by_test (is_named name field) refl (values_of-set_in name value fields)
  where
    by_test : (b : Bool) → is_named name field ≡ b → values_of name (set_in name value fields) ≡ value ∷ [] →
        values_of name (cond b ((name, value) ∷ without name fields) (field ∷ set_in name value fields)) ≡ value ∷ []
    by_test true at rest =
        let left = filter (is_named name) (without name fields) in
        ap (λ t. map value_in (cond t ((name, value) ∷ left) left)) (is_same_name-refl name)
        ∙ ap (λ l. value ∷ l) (values_of-without name fields)
    by_test false at rest =
        let left = filter (is_named name) (set_in name value fields) in
        ap (λ t. map value_in (cond t (field ∷ left) left)) at ∙ rest

pub values_of-set_in_other : (a b value : List ℕ) (fields : List (List ℕ × List ℕ)) → is_same_name b a ≡ false →
    values_of a (set_in b value fields) ≡ values_of a fields
values_of-set_in_other a b value [] other = ap (λ t. map value_in (cond t ((b, value) ∷ []) [])) other
values_of-set_in_other a b value (field ∷ fields) other =
    by_test (is_named a field) (is_named b field) refl refl (values_of-set_in_other a b value fields other)
  where
    by_test : (s t : Bool) → is_named a field ≡ s → is_named b field ≡ t →
        values_of a (set_in b value fields) ≡ values_of a fields →
        values_of a (cond t ((b, value) ∷ without b fields) (field ∷ set_in b value fields))
        ≡ map value_in (cond s (field ∷ filter (is_named a) fields) (filter (is_named a) fields))
    by_test true true at_a at_b rest =
        absurd (let no : is_named b field ≡ false = of_one_name a b other field at_a in cc (no, at_b))
    by_test false true at_a at_b rest =
        let left = filter (is_named a) (without b fields) in
        ap (λ t. map value_in (cond t ((b, value) ∷ left) left)) other ∙ values_of-without_other a b fields other
    by_test true false at_a at_b rest =
        let left = filter (is_named a) (set_in b value fields) in
        ap (λ t. map value_in (cond t (field ∷ left) left)) at_a ∙ ap (λ l. field.1 ∷ l) rest
    by_test false false at_a at_b rest =
        let left = filter (is_named a) (set_in b value fields) in
        ap (λ t. map value_in (cond t (field ∷ left) left)) at_a ∙ rest
