-- What a block is read as, from any head that it is.
use Rattle.std.proofs.Common.{ℕ, ◌<◌, ◌≤◌, ◌≡◌, true, List, [], ◌∷◌, length, get_or, take, map, decimal, refl, sym, ap, ◌∙◌, arith, inl, inr, Some, None}
use Rattle.std.specs.Prelude.{◌⊎◌}
use Rattle.std.specs.Char.{is_ascii_digit, digit_value}
use Rattle.std.specs.Str.Parse.{AllDigits, digits_value}
use Rattle.std.proofs.lemmas.Bool.Decides.{nat_tests}
use Rattle.std.proofs.lemmas.Fmt.{decimal-digits_value}
use Rattle.std.proofs.lemmas.List.Elements.{All-head, All-tail}
use Rattle.std.proofs.lemmas.Str.Parse.{IsNumeralModel, numerals_by_value, tells_digits, digits_value_short}
use Rattle.httparse.specs.Grammar.{AllPass, Field, LineEnd, RequestHead, ResponseHead, print_version, reason_phrase}
use Rattle.httparse.specs.Spans.{span_bytes, header_bytes, name_and_value, IsRequestAt, IsResponseAt, IsSectionAt}
use Rattle.httparse.specs.declared.spans.HeaderSpan.{HeaderSpan}
use Rattle.httparse.specs.declared.spans.RequestSpans.{RequestSpans}
use Rattle.httparse.specs.declared.spans.ResponseSpans.{ResponseSpans}
use Rattle.httparse.proofs.GrammarLemmas.{request_unique, response_unique, section_unique}
use Rattle.px_head.specs.declared.raw.RawHead.{RawHead}
use Rattle.px_head.specs.Heads.{IsRequest, IsResponse, IsTrailers, raw_request, raw_response, raw_trailers, raw_of, request_in, response_in, trailers_in, tell_request, tell_response, tell_section}

-- ---- a decision tells of any head

raw_of-Some : {A : Type 0} (P : A → Type 0) (raw : A → RawHead) → ((a b : A) → P a → P b → a ≡ b)
    → (d : ((a : A) × P a) ⊎ ((a : A) → P a → ⊥)) (a : A) → P a → raw_of raw d ≡ Some (raw a)
raw_of-Some P raw unique (inl w) a p = ap (λ b. Some (raw b)) (unique w.0 a w.1 p)
raw_of-Some P raw unique (inr none) a p = absurd (none a p)

raw_of-None : {A : Type 0} (P : A → Type 0) (raw : A → RawHead)
    → (d : ((a : A) × P a) ⊎ ((a : A) → P a → ⊥)) → ((a : A) → P a → ⊥) → raw_of raw d ≡ None
raw_of-None P raw (inl w) none = absurd (none w.0 w.1)
raw_of-None P raw (inr _) none = refl

raw_of-source : {A : Type 0} (P : A → Type 0) (raw : A → RawHead)
    → (d : ((a : A) × P a) ⊎ ((a : A) → P a → ⊥)) (r : RawHead) → raw_of raw d ≡ Some r
    → (a : A) × P a × (r ≡ raw a)
raw_of-source P raw (inl w) r is = (w.0, w.1, cc)
raw_of-source P raw (inr none) r is = cc

pub request_in-Some : (block : List ℕ) (h : RequestHead) → IsRequest block h → request_in block ≡ Some (raw_request h)
request_in-Some block h x = raw_of-Some (IsRequest block) raw_request
    (λ a b p q. (request_unique block a b [] [] p.0 q.0).0) (tell_request block) h x

pub request_in-None : (block : List ℕ) → ((h : RequestHead) → IsRequest block h → ⊥) → request_in block ≡ None
request_in-None block none = raw_of-None (IsRequest block) raw_request (tell_request block) none

pub request_in-source : (block : List ℕ) (r : RawHead) → request_in block ≡ Some r
    → (h : RequestHead) × IsRequest block h × (r ≡ raw_request h)
request_in-source block r is = raw_of-source (IsRequest block) raw_request (tell_request block) r is

pub response_in-Some : (block : List ℕ) (h : ResponseHead) → IsResponse block h → response_in block ≡ Some (raw_response h)
response_in-Some block h x = raw_of-Some (IsResponse block) raw_response
    (λ a b p q. (response_unique block a b [] [] p.0 q.0).0) (tell_response block) h x

pub response_in-None : (block : List ℕ) → ((h : ResponseHead) → IsResponse block h → ⊥) → response_in block ≡ None
response_in-None block none = raw_of-None (IsResponse block) raw_response (tell_response block) none

pub response_in-source : (block : List ℕ) (r : RawHead) → response_in block ≡ Some r
    → (h : ResponseHead) × IsResponse block h × (r ≡ raw_response h)
response_in-source block r is = raw_of-source (IsResponse block) raw_response (tell_response block) r is

pub trailers_in-Some : (block : List ℕ) (s : List Field × LineEnd) → IsTrailers block s → trailers_in block ≡ Some (raw_trailers s)
trailers_in-Some block s x = raw_of-Some (IsTrailers block) raw_trailers
    (λ a b p q. let same = section_unique block a.0 b.0 a.1 b.1 [] [] p.0 q.0 in λ i. (same.0 i, same.1 i)) (tell_section block) s x

pub trailers_in-None : (block : List ℕ) → ((s : List Field × LineEnd) → IsTrailers block s → ⊥) → trailers_in block ≡ None
trailers_in-None block none = raw_of-None (IsTrailers block) raw_trailers (tell_section block) none

pub trailers_in-source : (block : List ℕ) (r : RawHead) → trailers_in block ≡ Some r
    → (s : List Field × LineEnd) × IsTrailers block s × (r ≡ raw_trailers s)
trailers_in-source block r is = raw_of-source (IsTrailers block) raw_trailers (tell_section block) r is

-- ---- three digits of 100 or more are the text of their value

pub AllDigits-from_AllPass : (ds : List ℕ) → AllPass is_ascii_digit ds → AllDigits 10 ds
AllDigits-from_AllPass [] all = tt
AllDigits-from_AllPass (c ∷ cs) all =
    let first : is_ascii_digit c ≡ true = All-head (λ b. is_ascii_digit b ≡ true) c cs all in
    (digit_low c first, AllDigits-from_AllPass cs (All-tail (λ b. is_ascii_digit b ≡ true) c cs all))
  where
    digit_low : (c : ℕ) → is_ascii_digit c ≡ true → digit_value c < 10
    digit_low c h = grind (arith, nat_tests)

own : IsNumeralModel (AllDigits 10) (digits_value 10)
own = numerals_by_value (AllDigits 10) tells_digits

pub code_short : (ds : List ℕ) → length ds ≡ 3 → AllPass is_ascii_digit ds → digits_value 10 ds < 1000
code_short ds three all = digits_value_short own ds 3 (AllDigits-from_AllPass ds all) (omega arith)

code_first : (ds : List ℕ) → length ds ≡ 3 → AllDigits 10 ds → 100 ≤ digits_value 10 ds → get_or ds 0 0 ≡ 48 → length ds ≡ 1
code_first [] three all low is = absurd (omega arith)
code_first (a ∷ ds) three all low is =
    let short = digits_value_short own ds 2 all.1 (omega arith) in
    let zero_first : digits_value 10 (a ∷ ds) ≡ digits_value 10 ds = ap (λ (v : ℕ). digits_value 10 (v ∷ ds)) is in
    absurd (omega arith)

pub code_text : (ds : List ℕ) → length ds ≡ 3 → AllPass is_ascii_digit ds → 100 ≤ digits_value 10 ds
    → decimal (digits_value 10 ds) ≡ ds
code_text ds three all low =
    let digits = AllDigits-from_AllPass ds all in
    let short = code_short ds three all in
    decimal-digits_value own ds digits (omega arith) (code_first ds three digits low) (omega arith)

-- ---- the parts that the spans cover

pub request_parts : (block : List ℕ) (room : List HeaderSpan) (r : RequestSpans) (h : RequestHead)
    (a b v : List ℕ) (pairs : List (List ℕ × List ℕ)) → IsRequest block h → IsRequestAt block room r h
    → a ≡ span_bytes block r.method → b ≡ span_bytes block r.path → v ≡ print_version r.version
    → pairs ≡ map (header_bytes block) (take r.headers room)
    → Some (record { first = a; second = b; third = v; pairs = pairs }) ≡ request_in block
request_parts block room r h a b v pairs x at pa pb pv pp =
    let ea : a ≡ h.method = pa ∙ at.method in
    let eb : b ≡ h.target = pb ∙ at.path in
    let ev : v ≡ print_version h.minor = pv ∙ ap print_version at.version in
    let ep : pairs ≡ map name_and_value h.fields = pp ∙ at.fields in
    let whole : record { first = a; second = b; third = v; pairs = pairs } ≡ raw_request h =
    λ i. record { first = ea i; second = eb i; third = ev i; pairs = ep i } in
    ap Some whole ∙ sym (request_in-Some block h x)

pub response_parts : (block : List ℕ) (room : List HeaderSpan) (r : ResponseSpans) (h : ResponseHead)
    (a b v : List ℕ) (pairs : List (List ℕ × List ℕ)) → IsResponse block h → IsResponseAt block room r h
    → a ≡ print_version r.version → b ≡ decimal r.code → v ≡ span_bytes block r.reason
    → pairs ≡ map (header_bytes block) (take r.headers room)
    → Some (record { first = a; second = b; third = v; pairs = pairs }) ≡ response_in block
response_parts block room r h a b v pairs x at pa pb pv pp =
    let ea : a ≡ print_version h.minor = pa ∙ ap print_version at.version in
    let digits = x.0.0.digits in
    let eb : b ≡ h.digits = pb ∙ ap decimal at.code ∙ code_text h.digits digits.0 digits.1 x.2 in
    let ev : v ≡ reason_phrase h.reason = pv ∙ at.reason in
    let ep : pairs ≡ map name_and_value h.fields = pp ∙ at.fields in
    let whole : record { first = a; second = b; third = v; pairs = pairs } ≡ raw_response h =
    λ i. record { first = ea i; second = eb i; third = ev i; pairs = ep i } in
    ap Some whole ∙ sym (response_in-Some block h x)

pub trailers_parts : (block : List ℕ) (room : List HeaderSpan) (count : ℕ) (fields : List Field) (last : LineEnd)
    (a b v : List ℕ) (pairs : List (List ℕ × List ℕ)) → IsTrailers block (fields, last)
    → IsSectionAt block 0 room (length block) count fields last
    → a ≡ [] → b ≡ [] → v ≡ [] → pairs ≡ map (header_bytes block) (take count room)
    → Some (record { first = a; second = b; third = v; pairs = pairs }) ≡ trailers_in block
trailers_parts block room count fields last a b v pairs x at ea eb ev pp =
    let ep : pairs ≡ map name_and_value fields = pp ∙ at.fields_are in
    let whole : record { first = a; second = b; third = v; pairs = pairs } ≡ raw_trailers (fields, last) =
    λ i. record { first = ea i; second = eb i; third = ev i; pairs = ep i } in
    ap Some whole ∙ sym (trailers_in-Some block (fields, last) x)
