-- Where a field is set.
use Rattle.std.proofs.Common.{◌≡◌, ◌∙◌, ◌<◌, ◌+◌, ℕ, zero, suc, Bool, true, false, cond, not, Option, None, Some, List, [], ◌∷◌, ◌++◌, length, get_or, take, drop, refl, sym, ap, arith, add-one}
use Rattle.std.specs.List.{position, position_or_len}
use Rattle.std.specs.Prelude.{slice_set, nat_lt}
use Rattle.std.proofs.lemmas.Bool.{cond-true, cond-false}
use Rattle.std.proofs.lemmas.Bool.Decides.{nat_tests}
use Rattle.std.proofs.lemmas.List.Quantifiers.{position-Some}
use Rattle.px_message.specs.Fields.{is_named, set_in, without}

set_in-first : (name value : List ℕ) (field : List ℕ × List ℕ) (fields : List (List ℕ × List ℕ)) →
    is_named name field ≡ true → set_in name value (field ∷ fields) ≡ (name, value) ∷ without name fields
set_in-first name value field fields same = cond-true _ _ _ same

set_in-other : (name value : List ℕ) (field : List ℕ × List ℕ) (fields : List (List ℕ × List ℕ)) →
    is_named name field ≡ false → set_in name value (field ∷ fields) ≡ field ∷ set_in name value fields
set_in-other name value field fields other = cond-false _ _ _ other

set_at : (name value : List ℕ) (fields : List (List ℕ × List ℕ)) (i : ℕ) (d : List ℕ × List ℕ) → i < length fields →
    is_named name (get_or fields i d) ≡ true → ((k : ℕ) → k < i → is_named name (get_or fields k d) ≡ false) →
    slice_set (take (suc i) fields ++ without name (drop (suc i) fields)) i (name, value) ≡ set_in name value fields
set_at name value [] i d within at before = absurd (omega arith)
set_at name value (field ∷ fields) zero d within at before = sym (set_in-first name value field fields at)
set_at name value (field ∷ fields) (suc i) d within at before =
    let rest = set_at name value fields i d (omega arith) at (λ k below. before (suc k) (omega arith)) in
    ap (λ l. field ∷ l) rest ∙ sym (set_in-other name value field fields (before 0 (omega arith)))

-- the field in place of the first of its name, the later ones taken away
set_in-Some : (name value : List ℕ) (fields : List (List ℕ × List ℕ)) (i : ℕ) → position (is_named name) fields ≡ Some i →
    slice_set (take (i + 1) fields ++ without name (drop (i + 1) fields)) i (name, value) ≡ set_in name value fields
set_in-Some name value fields i found =
    let at = position-Some (is_named name) fields i ([], []) found in
    rw (add-one i) (set_at name value fields i ([], []) at.0 at.1 at.2)

none_after : (b : Bool) (l n : ℕ) → cond (nat_lt (cond (not b) (1 + l) 0) (suc n)) (Some (cond (not b) (1 + l) 0)) None ≡ None →
    (b ≡ false) × (cond (nat_lt l n) (Some l) None ≡ None)
none_after true l n none = absurd (grind (arith, nat_tests))
none_after false l n none = (refl, grind (arith, nat_tests))

not_first : (p : List ℕ × List ℕ → Bool) (field : List ℕ × List ℕ) (fields : List (List ℕ × List ℕ)) →
    position p (field ∷ fields) ≡ None → (p field ≡ false) × (position p fields ≡ None)
not_first p field fields none = none_after (p field) (position_or_len p fields) (length fields) none

-- the field at the end, where none has its name
pub set_in-None : (name value : List ℕ) (fields : List (List ℕ × List ℕ)) → position (is_named name) fields ≡ None →
    fields ++ (name, value) ∷ [] ≡ set_in name value fields
set_in-None name value [] none = refl
set_in-None name value (field ∷ fields) none =
    let split = not_first (is_named name) field fields none in
    ap (λ l. field ∷ l) (set_in-None name value fields split.1) ∙ sym (set_in-other name value field fields split.0)

-- a list with no field of that name, without them
pub without-None : (name : List ℕ) (fields : List (List ℕ × List ℕ)) → position (is_named name) fields ≡ None →
    fields ≡ without name fields
without-None name [] none = refl
without-None name (field ∷ fields) none =
    let split = not_first (is_named name) field fields none in
    ap (λ l. field ∷ l) (without-None name fields split.1)
    ∙ sym (cond-true (not (is_named name field)) _ _ (ap not split.0))

-- the first place of a name, at a name and fields that are equal to these
pub same_position : (n name : List ℕ) (found fields : List (List ℕ × List ℕ)) (place : Option ℕ) →
    n ≡ name → found ≡ fields → place ≡ position (is_named n) found → position (is_named name) fields ≡ place
same_position n name found fields place same_name same_fields at =
    sym (at ∙ ap (λ m. position (is_named m) found) same_name ∙ ap (λ l. position (is_named name) l) same_fields)

pub put_at : (n name value : List ℕ) (kept found fields : List (List ℕ × List ℕ)) (i : ℕ) → n ≡ name → found ≡ fields →
    kept ≡ take (i + 1) found ++ without n (drop (i + 1) found) → position (is_named name) fields ≡ Some i →
    slice_set kept i (name, value) ≡ set_in name value fields
put_at n name value kept found fields i same_name same_fields removed at =
    ap (λ l. slice_set l i (name, value))
    (removed ∙ ap (λ m. take (i + 1) found ++ without m (drop (i + 1) found)) same_name
    ∙ ap (λ l. take (i + 1) l ++ without name (drop (i + 1) l)) same_fields)
    ∙ set_in-Some name value fields i at
