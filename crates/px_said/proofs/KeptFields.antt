-- The field that is met here is none of those that tell how long a body is: so without it a body has the length that it had.
use Rattle.std.proofs.Common.{ℕ, ◌≡◌, Bool, true, false, cond, not, ◌&&◌, ◌||◌, List, [], ◌∷◌, map, filter, refl, sym, ap, ◌∙◌, Option, Ok, Err}
use Rattle.std.specs.Prelude.{Result, codes, if◌then◌else◌}
use Rattle.std.specs.List.{flat_map, list_any}
use Rattle.px_text.specs.Number.{decimal_value}
use Rattle.px_message.specs.Fields.{elements, is_named, is_same_name, is_valued, parts, values_of}
use Rattle.px_message.specs.Length.{agreed, by_stated, content_length, ends_chunked, is_framed_in_chunks, request_length, stands, stated_length, transfer_encoding}
use Rattle.px_message.specs.Settle.{framing, is_framing}
use Rattle.px_message.specs.declared.length.Length.{Length}
use Rattle.px_message.specs.declared.length.Length.TheVariants as lengths
use Rattle.px_message.specs.declared.fault.Fault.{Fault}
use Rattle.px_message.specs.declared.fault.Fault.TheVariants.{BothLengths, BadCoding}
use Rattle.px_message.proofs.FieldLaws.{of_one_name}
use Rattle.px_message.proofs.FoldLemmas.{has_items, has_items-values_of}

-- what a test tells apart from others stays where those are taken away
kept : {X : Type 0} (p q : X → Bool) → ((x : X) → p x ≡ true → q x ≡ false) → (xs : List X) → filter p (filter (λ x. not (q x)) xs) ≡ filter p xs
kept p q apart [] = refl
kept {X} p q apart (x ∷ xs) = by_test (p x) (q x) refl refl (kept p q apart xs)
  where
    by_test : (b c : Bool) → p x ≡ b → q x ≡ c → filter p (filter (λ x. not (q x)) xs) ≡ filter p xs →
        filter p (cond (not c) (x ∷ filter (λ x. not (q x)) xs) (filter (λ x. not (q x)) xs))
        ≡ cond b (x ∷ filter p xs) (filter p xs)
    by_test b false at stays rest =
        ap (λ t. cond t (x ∷ filter p (filter (λ x. not (q x)) xs)) (filter p (filter (λ x. not (q x)) xs))) at
        ∙ ap (λ l. cond b (x ∷ l) l) rest
    by_test true true at gone rest = absurd (let no : q x ≡ false = apart x at in cc (no, gone))
    by_test false true at gone rest = rest

-- nothing is taken away where nothing passes
pub none_taken : {X : Type 0} (q : X → Bool) (xs : List X) → list_any q xs ≡ false → filter (λ x. not (q x)) xs ≡ xs
none_taken q [] none = refl
none_taken {X} q (x ∷ xs) none = by_test (q x) none (none_taken q xs)
  where
    by_test : (b : Bool) → (b || list_any q xs) ≡ false → (list_any q xs ≡ false → filter (λ x. not (q x)) xs ≡ xs) →
        cond (not b) (x ∷ filter (λ x. not (q x)) xs) (filter (λ x. not (q x)) xs) ≡ x ∷ xs
    by_test true none rest = absurd (let e = none in cc)
    by_test false none rest = ap (λ l. x ∷ l) (rest none)

pub all_kept : {X : Type 0} (xs : List X) → filter (λ x. true) xs ≡ xs
all_kept [] = refl
all_kept (x ∷ xs) = ap (λ l. x ∷ l) (all_kept xs)

-- ---- the fields that tell a length

abbrev Test : Type 0
Test = List ℕ × List ℕ → Bool

-- no field of this name passes
abbrev SparesName : Test → List ℕ → Type 0
SparesName q name = (field : List ℕ × List ℕ) → is_named name field ≡ true → q field ≡ false

abbrev without_passing : Test → List (List ℕ × List ℕ) → List (List ℕ × List ℕ)
without_passing q fields = filter (λ field. not (q field)) fields

values_kept : (q : Test) (name : List ℕ) (fields : List (List ℕ × List ℕ)) → SparesName q name → values_of name (without_passing q fields) ≡ values_of name fields
values_kept q name fields spares = ap (map (λ f. f.1)) (kept (is_named name) q spares fields)

stands_kept : (q : Test) (name : List ℕ) (fields : List (List ℕ × List ℕ)) → SparesName q name → stands name (without_passing q fields) ≡ stands name fields
stands_kept q name fields spares =
    sym (has_items-values_of name (without_passing q fields)) ∙ ap has_items (values_kept q name fields spares) ∙ has_items-values_of name fields

pub framed_kept : (q : Test) (fields : List (List ℕ × List ℕ)) → SparesName q transfer_encoding
    → is_framed_in_chunks (without_passing q fields) ≡ is_framed_in_chunks fields
framed_kept q fields spares = ap (λ (values : List (List ℕ)). ends_chunked (flat_map elements values)) (values_kept q transfer_encoding fields spares)

stated_kept : (q : Test) (fields : List (List ℕ × List ℕ)) → SparesName q content_length → stated_length (without_passing q fields) ≡ stated_length fields
stated_kept q fields spares =
    ap (λ (values : List (List ℕ)). agreed (map decimal_value (flat_map parts values))) (values_kept q content_length fields spares)

abbrev length_by : Bool → Bool → Bool → Option ℕ → Result Length Fault
length_by coded measured framed stated =
    if coded then (if measured then Err BothLengths else (if framed then Ok lengths.Chunked else Err BadCoding))
    else (if measured then by_stated stated else Ok lengths.None)

pub length_kept : (q : Test) (fields : List (List ℕ × List ℕ)) → SparesName q transfer_encoding → SparesName q content_length
    → request_length (without_passing q fields) ≡ request_length fields
length_kept q fields coding length =
    λ i. length_by (stands_kept q transfer_encoding fields coding i) (stands_kept q content_length fields length i) (framed_kept q fields coding i)
    (stated_kept q fields length i)

pub framing_kept : (q : Test) (fields : List (List ℕ × List ℕ)) → SparesName q transfer_encoding → SparesName q content_length → framing (without_passing q fields) ≡ framing fields
framing_kept q fields coding length = kept is_framing q (λ field at. by_name field (is_named transfer_encoding field) refl at) fields
  where
    by_name : (field : List ℕ × List ℕ) (b : Bool) → is_named transfer_encoding field ≡ b → (is_named transfer_encoding field || is_named content_length field) ≡ true → q field ≡ false
    by_name field true is at = coding field is
    by_name field false is at = length field (ap (λ b. b || is_named content_length field) (sym is) ∙ at)

-- ---- the expectation

abbrev is_wait : Test
is_wait field = is_valued (codes "Expect") (codes "100-continue") field

spares : (name : List ℕ) → is_same_name (codes "Expect") name ≡ false → SparesName is_wait name
spares name other field at =
    ap (λ (b : Bool). b && is_same_name field.1 (codes "100-continue")) (of_one_name name (codes "Expect") other field at)

pub spares_coding : SparesName is_wait transfer_encoding
spares_coding = spares transfer_encoding refl

pub spares_length : SparesName is_wait content_length
spares_length = spares content_length refl
