-- Texts in parts: what is added for a part is added for the whole.
use Rattle.std.proofs.Common.{◌≡◌, ◌∙◌, ◌<◌, ◌+◌, ℕ, zero, suc, add-one, arith, length, get_or, take, drop, List, [], ◌∷◌, ◌++◌, append_assoc, append-nil, ap, refl, sym}
use Rattle.std.specs.Prelude.{Result, Ok, Err, OnOk, OnErr}
use Rattle.std.specs.List.{flat_map}
use Rattle.px_text.specs.Prefix.{AddsPrefixOf}

-- a prefix of the first part is one of the whole
pub adds_first : (a b old new : List ℕ) → AddsPrefixOf a old new → AddsPrefixOf (a ++ b) old new
adds_first a b old new h =
    (h.0, (h.1.0 ++ b, ap (λ l. l ++ b) h.1.1 ∙ append_assoc h.0 h.1.0 b), h.2)

-- and one of the second part, behind the first
pub adds_second : (a b old middle new : List ℕ) → middle ≡ old ++ a → AddsPrefixOf b middle new → AddsPrefixOf (a ++ b) old new
adds_second a b old middle new first h = (
  a ++ h.0,
  (h.1.0, ap (λ l. a ++ l) h.1.1 ∙ sym (append_assoc a h.0 h.1.0)),
  h.2 ∙ ap (λ l. l ++ h.0) first ∙ append_assoc old a h.0,
)

-- nothing added is a prefix of every text
pub adds_nothing : (text old new : List ℕ) → new ≡ old → AddsPrefixOf text old new
adds_nothing text old new same = ([], (text, refl), same ∙ sym (append-nil old))

-- both parts make the whole
pub both_parts : (a b old middle new : List ℕ) → middle ≡ old ++ a → new ≡ middle ++ b → new ≡ old ++ (a ++ b)
both_parts a b old middle new first second = second ∙ ap (λ l. l ++ b) first ∙ append_assoc old a b

-- what the second part's writing says of the whole
pub ok_behind : {E : Type 0} (result : Result (Unit {0}) E) (a b old middle new : List ℕ) → middle ≡ old ++ a →
    OnOk result (new ≡ middle ++ b) → OnOk result (new ≡ old ++ (a ++ b))
ok_behind (Ok _) a b old middle new first second = both_parts a b old middle new first second
ok_behind (Err _) a b old middle new first second = tt

pub err_behind : {E : Type 0} (result : Result (Unit {0}) E) (a b old middle new : List ℕ) → middle ≡ old ++ a →
    OnErr result (AddsPrefixOf b middle new) → OnErr result (AddsPrefixOf (a ++ b) old new)
err_behind (Ok _) a b old middle new first second = tt
err_behind (Err _) a b old middle new first second = adds_second a b old middle new first second

-- where the first part's writing ends when out of memory
pub err_first : {E : Type 0} (result : Result (Unit {0}) E) (a b old new : List ℕ) → AddsPrefixOf a old new →
    OnErr result (AddsPrefixOf (a ++ b) old new)
err_first (Ok _) a b old new h = tt
err_first (Err _) a b old new h = adds_first a b old new h

pub err_nothing : {E : Type 0} (result : Result (Unit {0}) E) (text old new : List ℕ) → new ≡ old →
    OnErr result (AddsPrefixOf text old new)
err_nothing (Ok _) text old new same = tt
err_nothing (Err _) text old new same = adds_nothing text old new same

-- the items up to one, that one and those behind it
pub flat_map-at : {X : Type 0} (f : X → List ℕ) (xs : List X) (i : ℕ) (d : X) → i < length xs →
    flat_map f xs ≡ flat_map f (take i xs) ++ (f (get_or xs i d) ++ flat_map f (drop (suc i) xs))
flat_map-at f [] i d within = absurd (omega arith)
flat_map-at f (x ∷ xs) zero d within = refl
flat_map-at f (x ∷ xs) (suc i) d within =
    ap (λ l. f x ++ l) (flat_map-at f xs i d (omega arith))
    ∙ sym (append_assoc (f x) (flat_map f (take i xs)) (f (get_or xs i d) ++ flat_map f (drop (suc i) xs)))

take_more : {X : Type 0} (f : X → List ℕ) (xs : List X) (i : ℕ) (d : X) → i < length xs →
    flat_map f (take (suc i) xs) ≡ flat_map f (take i xs) ++ f (get_or xs i d)
take_more f [] i d within = absurd (omega arith)
take_more f (x ∷ xs) zero d within = append-nil (f x)
take_more f (x ∷ xs) (suc i) d within =
    ap (λ l. f x ++ l) (take_more f xs i d (omega arith))
    ∙ sym (append_assoc (f x) (flat_map f (take i xs)) (f (get_or xs i d)))

-- one item more
pub flat_map-take_more : {X : Type 0} (f : X → List ℕ) (xs : List X) (i : ℕ) (d : X) → i < length xs →
    flat_map f (take (i + 1) xs) ≡ flat_map f (take i xs) ++ f (get_or xs i d)
flat_map-take_more f xs i d within = rw (add-one i) (take_more f xs i d within)

-- all items are added where the last of them is
pub adds_item : {X : Type 0} (f : X → List ℕ) (xs : List X) (i : ℕ) (d : X) (old middle new : List ℕ) → i < length xs →
    middle ≡ old ++ flat_map f (take i xs) → AddsPrefixOf (f (get_or xs i d)) middle new →
    AddsPrefixOf (flat_map f xs) old new
adds_item f xs i d old middle new within before h =
    rw (flat_map-at f xs i d within)
    (adds_second (flat_map f (take i xs)) (f (get_or xs i d) ++ flat_map f (drop (suc i) xs)) old middle new before
    (adds_first (f (get_or xs i d)) (flat_map f (drop (suc i) xs)) middle new h))

-- and one item more
pub adds_more : {X : Type 0} (f : X → List ℕ) (xs : List X) (i : ℕ) (d : X) (old middle new : List ℕ) → i < length xs →
    middle ≡ old ++ flat_map f (take i xs) → new ≡ middle ++ f (get_or xs i d) → new ≡ old ++ flat_map f (take (i + 1) xs)
adds_more f xs i d old middle new within before item =
    both_parts (flat_map f (take i xs)) (f (get_or xs i d)) old middle new before item
    ∙ ap (λ l. old ++ l) (sym (flat_map-take_more f xs i d within))

-- and nothing of the next
pub adds_before : {X : Type 0} (f : X → List ℕ) (xs : List X) (i : ℕ) (d : X) (old middle new : List ℕ) → i < length xs →
    middle ≡ old ++ flat_map f (take i xs) → new ≡ middle → AddsPrefixOf (flat_map f xs) old new
adds_before f xs i d old middle new within before same =
    adds_item f xs i d old middle new within before (adds_nothing (f (get_or xs i d)) middle new same)

-- in place of a text one that is equal
pub ok_same : {E : Type 0} (result : Result (Unit {0}) E) (a b old new : List ℕ) → a ≡ b →
    OnOk result (new ≡ old ++ a) → OnOk result (new ≡ old ++ b)
ok_same (Ok _) a b old new same h = h ∙ ap (λ l. old ++ l) same
ok_same (Err _) a b old new same h = tt

pub adds_same : (a b old new : List ℕ) → a ≡ b → AddsPrefixOf a old new → AddsPrefixOf b old new
adds_same a b old new same h = (h.0, (h.1.0, sym same ∙ h.1.1), h.2)

pub err_same : {E : Type 0} (result : Result (Unit {0}) E) (a b old new : List ℕ) → a ≡ b →
    OnErr result (AddsPrefixOf a old new) → OnErr result (AddsPrefixOf b old new)
err_same (Ok _) a b old new same h = tt
err_same (Err _) a b old new same h = adds_same a b old new same h

pub err_adds : {E : Type 0} (result : Result (Unit {0}) E) (text old new : List ℕ) → AddsPrefixOf text old new →
    OnErr result (AddsPrefixOf text old new)
err_adds (Ok _) text old new h = tt
err_adds (Err _) text old new h = h
