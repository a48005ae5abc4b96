-- The length that a head says is told by its framing fields alone.
use Rattle.std.proofs.Common.{ℕ, ◌≡◌, ◌≢◌, ◌||◌, ◌&&◌, Bool, true, false, cond, not, List, [], ◌∷◌, filter, map, refl, sym, ap, ◌∙◌, Option, Some, None, Result, Ok, Err}
use Rattle.std.specs.Prelude.{codes, if◌then◌else◌}
use Rattle.std.specs.List.{flat_map, list_any}
use Rattle.std.proofs.lemmas.Bool.{cond-false}
use Rattle.px_text.specs.Number.{decimal_value}
use Rattle.px_message.specs.Fields.{elements, elements_of, has_element, is_named, is_same_name, parts}
use Rattle.px_message.specs.Length.{agreed, by_stated, content_length, ends_chunked, framed_length, has_no_body, is_chunked, is_framed_in_chunks, request_length, stands, stated_length, transfer_encoding}
use Rattle.px_message.specs.Settle.{framing, is_framing}
use Rattle.px_message.specs.declared.length.Length.{Length}
use Rattle.px_message.specs.declared.length.Length.TheVariants as lengths
use Rattle.px_message.specs.declared.fault.Fault.{Fault}
use Rattle.px_message.specs.declared.fault.Fault.TheVariants.{BothLengths, BadCoding}
use Rattle.px_message.proofs.SettleLemmas.{unframed}
use Rattle.px_write.proofs.ReadBackLemmas.{frames}
use Rattle.px_parts.specs.ReadBack.{LengthIsFraming}

-- ---- what stays where others are taken away

-- a test passes only what is kept
abbrev IsWithin : {X : Type 0} → (X → Bool) → (X → Bool) → Type 0
IsWithin {X} p q = (x : X) → p x ≡ true → q x ≡ true

filter_kept : {X : Type 0} (p q : X → Bool) → IsWithin p q → (xs : List X) → filter p (filter q xs) ≡ filter p xs
filter_kept p q within [] = refl
filter_kept {X} p q within (x ∷ xs) = by_test (q x) refl (filter_kept p q within xs)
  where
    not_this : q x ≡ false → (b : Bool) → p x ≡ b → p x ≡ false
    not_this none true at = absurd (let e : false ≡ true = sym none ∙ within x at in cc)
    not_this none false at = at

    by_test : (b : Bool) → q x ≡ b → filter p (filter q xs) ≡ filter p xs
        → filter p (cond b (x ∷ filter q xs) (filter q xs)) ≡ cond (p x) (x ∷ filter p xs) (filter p xs)
    by_test true at rest = ap (λ (l : List X). cond (p x) (x ∷ l) l) rest
    by_test false at rest = rest ∙ sym (cond-false _ _ _ (not_this at (p x) refl))

any_kept : {X : Type 0} (p q : X → Bool) → IsWithin p q → (xs : List X) → list_any p (filter q xs) ≡ list_any p xs
any_kept p q within [] = refl
any_kept {X} p q within (x ∷ xs) = by_test (q x) refl (any_kept p q within xs)
  where
    not_this : q x ≡ false → (b : Bool) → p x ≡ b → p x ≡ false
    not_this none true at = absurd (let e : false ≡ true = sym none ∙ within x at in cc)
    not_this none false at = at

    by_test : (b : Bool) → q x ≡ b → list_any p (filter q xs) ≡ list_any p xs
        → list_any p (cond b (x ∷ filter q xs) (filter q xs)) ≡ (p x || list_any p xs)
    by_test true at rest = ap (λ (b : Bool). p x || b) rest
    by_test false at rest = rest ∙ sym (ap (λ (b : Bool). b || list_any p xs) (not_this at (p x) refl))

-- ---- the framing fields

coding_kept : IsWithin (is_named transfer_encoding) is_framing
coding_kept field at = ap (λ (b : Bool). b || is_named content_length field) at

length_kept : IsWithin (is_named content_length) is_framing
length_kept field at = ap (λ (b : Bool). is_named transfer_encoding field || b) at ∙ or_true (is_named transfer_encoding field)
  where
    or_true : (b : Bool) → (b || true) ≡ true
    or_true true = refl
    or_true false = refl

abbrev elements_in : List (List ℕ × List ℕ) → List (List ℕ)
elements_in fields = flat_map elements (map (λ f. f.1) fields)

abbrev stated_in : List (List ℕ × List ℕ) → List (List ℕ)
stated_in fields = flat_map parts (map (λ f. f.1) fields)

-- all that a length is told by, of fields
pub record SayTheSame (a b : List (List ℕ × List ℕ)) : Type 0 where
  pub coded : stands transfer_encoding a ≡ stands transfer_encoding b
  pub measured : stands content_length a ≡ stands content_length b
  pub codings : elements_of transfer_encoding a ≡ elements_of transfer_encoding b
  pub stated : stated_length a ≡ stated_length b

of_framing : (fields : List (List ℕ × List ℕ)) → SayTheSame (framing fields) fields
of_framing fields = record {
  coded = any_kept (is_named transfer_encoding) is_framing coding_kept fields;
  measured = any_kept (is_named content_length) is_framing length_kept fields;
  codings = ap elements_in (filter_kept (is_named transfer_encoding) is_framing coding_kept fields);
  stated = ap (λ (l : List (List ℕ × List ℕ)). agreed (map decimal_value (stated_in l)))
      (filter_kept (is_named content_length) is_framing length_kept fields);
}

pub same_framing : (a b : List (List ℕ × List ℕ)) → framing a ≡ framing b → SayTheSame a b
same_framing a b same =
    let first = of_framing a in
    let second = of_framing b in
    record {
      coded = sym first.coded ∙ ap (stands transfer_encoding) same ∙ second.coded;
      measured = sym first.measured ∙ ap (stands content_length) same ∙ second.measured;
      codings = sym first.codings ∙ ap (elements_of transfer_encoding) same ∙ second.codings;
      stated = sym first.stated ∙ ap stated_length same ∙ second.stated;
    }

abbrev request_shape : Bool → Bool → Bool → Option ℕ → Result Length Fault
request_shape coded measured framed stated =
    if coded then (if measured then Err BothLengths else (if framed then Ok lengths.Chunked else Err BadCoding))
    else (if measured then by_stated stated else Ok lengths.None)

abbrev response_shape : Bool → Bool → Bool → Bool → Option ℕ → Result Length Fault
response_shape coded measured has framed stated =
    if coded then (if measured then Err BothLengths
    else (if has then (if framed then Ok lengths.Chunked else Err BadCoding) else Ok lengths.ToClose))
    else (if measured then by_stated stated else Ok lengths.ToClose)

pub length-framing : LengthIsFraming
length-framing sent read same =
    let s = same_framing sent read same in (
      λ i. request_shape (s.coded i) (s.measured i) (ends_chunked (s.codings i)) (s.stated i),
      λ code asked_head. λ i. if has_no_body code asked_head then Ok lengths.None
          else response_shape (s.coded i) (s.measured i) (list_any (λ e. is_same_name e (codes "chunked")) (s.codings i)) (ends_chunked (s.codings i)) (s.stated i),
    )

-- ---- what a length says of the codings

ok_same : {a b : Length} (e : ◌≡◌ {A = Result Length Fault} (Ok a) (Ok b)) → a ≡ b
ok_same e = cc

-- where no coding is `chunked` the last is not
unchunked : (codings : List (List ℕ)) → list_any (λ e. is_same_name e (codes "chunked")) codings ≡ false → ends_chunked codings ≡ false
unchunked [] none = refl
unchunked (coding ∷ []) none = by_test (is_chunked coding) none
  where
    by_test : (b : Bool) → (b || false) ≡ false → b ≡ false
    by_test true none = none
    by_test false none = refl
unchunked (coding ∷ next ∷ codings) none =
    by_test (is_chunked coding) (list_any (λ e. is_same_name e (codes "chunked")) (next ∷ codings)) (ends_chunked (next ∷ codings))
    none (unchunked (next ∷ codings))
  where
    by_test : (b more last : Bool) → (b || more) ≡ false → (more ≡ false → last ≡ false) → (not b && last) ≡ false
    by_test true more last none tail = refl
    by_test false more last none tail = tail none

pub request_frames : (fields : List (List ℕ × List ℕ)) (l : Length) → request_length fields ≡ Ok l → is_framed_in_chunks fields ≡ frames l
request_frames fields l is =
    by_tests (stands transfer_encoding fields) (stands content_length fields) (is_framed_in_chunks fields) (stated_length fields)
    (unframed fields) is
  where
    by_tests : (coded measured framed : Bool) (stated : Option ℕ) → (coded ≡ false → framed ≡ false)
        → request_shape coded measured framed stated ≡ Ok l → framed ≡ frames l
    by_tests true true framed stated none is = absurd (let e = is in cc)
    by_tests true false true stated none is = ap frames (ok_same is)
    by_tests true false false stated none is = absurd (let e = is in cc)
    by_tests false true framed None none is = absurd (let e = is in cc)
    by_tests false true framed (Some n) none is = none refl ∙ ap frames (ok_same is)
    by_tests false false framed stated none is = none refl ∙ ap frames (ok_same is)

pub response_frames : (fields : List (List ℕ × List ℕ)) (l : Length) → framed_length fields ≡ Ok l → is_framed_in_chunks fields ≡ frames l
response_frames fields l is =
    by_tests (stands transfer_encoding fields) (stands content_length fields) (has_element transfer_encoding (codes "chunked") fields)
    (is_framed_in_chunks fields) (stated_length fields) (unframed fields) (unchunked (elements_of transfer_encoding fields)) is
  where
    by_tests : (coded measured has framed : Bool) (stated : Option ℕ) → (coded ≡ false → framed ≡ false)
        → (has ≡ false → framed ≡ false) → response_shape coded measured has framed stated ≡ Ok l → framed ≡ frames l
    by_tests true true has framed stated none without is = absurd (let e = is in cc)
    by_tests true false true true stated none without is = ap frames (ok_same is)
    by_tests true false true false stated none without is = absurd (let e = is in cc)
    by_tests true false false framed stated none without is = without refl ∙ ap frames (ok_same is)
    by_tests false true has framed None none without is = absurd (let e = is in cc)
    by_tests false true has framed (Some n) none without is = none refl ∙ ap frames (ok_same is)
    by_tests false false has framed stated none without is = none refl ∙ ap frames (ok_same is)

-- a request's body does not run to the close
pub request_ends : (fields : List (List ℕ × List ℕ)) (l : Length) → request_length fields ≡ Ok l → l ≢ lengths.ToClose
request_ends fields l is to_close =
    by_tests (stands transfer_encoding fields) (stands content_length fields) (is_framed_in_chunks fields)
    (stated_length fields) (is ∙ ap Ok to_close)
  where
    by_tests : (coded measured framed : Bool) (stated : Option ℕ) → request_shape coded measured framed stated ≡ Ok lengths.ToClose → ⊥
    by_tests true true framed stated is = let e = is in cc
    by_tests true false true stated is = let e = is in cc
    by_tests true false false stated is = let e = is in cc
    by_tests false true framed None is = let e = is in cc
    by_tests false true framed (Some n) is = let e = is in cc
    by_tests false false framed stated is = let e = is in cc
