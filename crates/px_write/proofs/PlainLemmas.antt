-- Heads and trailers with plain fields are those of the grammar, and are read with the parts that were written.
use Rattle.std.proofs.Common.{ℕ, zero, suc, ◌<◌, ◌≤◌, ◌^◌, ◌≡◌, ◌&&◌, Bool, true, false, List, [], ◌∷◌, ◌++◌, length, map, refl, sym, ap, ◌∙◌, subst, arith, Some, append_assoc, append-nil}
use Rattle.std.specs.Prelude.{All, IsUtf8, decimal}
use Rattle.std.specs.Char.{digit_value, is_ascii_digit}
use Rattle.std.specs.List.{flat_map, list_all}
use Rattle.std.specs.Str.Parse.{AllDigits, digits_value}
use Rattle.std.proofs.lemmas.Bool.{ltb-true}
use Rattle.std.proofs.lemmas.Bool.Decides.{nat_tests}
use Rattle.std.proofs.lemmas.Fmt.{decimal_is_IsNumeral, length-decimal-le}
use Rattle.std.proofs.lemmas.Int.Digits.{digits_value-lt}
use Rattle.std.proofs.lemmas.List.{length-map}
use Rattle.std.proofs.lemmas.List.Elements.{All-cons, All-head, All-nil, All-tail}
use Rattle.std.proofs.lemmas.List.Sums.{AllPass-from_list_all}
use Rattle.httparse.specs.Grammar.{AllPass, Field, IsField, IsToken, crlf as end_crlf, RequestHead, ResponseHead, is_token, is_token_byte, is_uri_byte, is_value_byte, print_field, print_request, print_response, print_section, print_version, trim_ows}
use Rattle.httparse.specs.Spans.{name_and_value}
use Rattle.px_head.specs.Front.{request_front, response_front, trailer_front}
use Rattle.px_head.specs.Heads.{IsRequest, IsResponse, IsTrailers}
use Rattle.px_head.specs.declared.front.Front.TheVariants.{Stands}
use Rattle.px_head.proofs.FoundLemmas.{request_found, response_found, trailers_found}
use Rattle.px_message.specs.Status.{is_status}
use Rattle.px_message.specs.Valid.{is_field}
use Rattle.px_message.specs.declared.version.Version.{Version}
use Rattle.px_message.specs.declared.version.Version.TheVariants.{Http10, Http11}
use Rattle.px_write.specs.ReadBack.{ArePlain, IsPlainField, trailer_parts}
use Rattle.px_text.specs.Blank.{crlf}
use Rattle.px_write.specs.Text.{field_line, fields_text, request_line, status_line, version_text}

-- ---- fields

-- a written field in the grammar
abbrev pub line_field : List ℕ × List ℕ → Field
line_field field = record { name = field.0; raw = 32 ∷ field.1; end = end_crlf }

pub lines_printed : (fields : List (List ℕ × List ℕ)) → flat_map field_line fields ≡ flat_map print_field (map line_field fields)
lines_printed [] = refl
lines_printed (field ∷ fields) =
    λ i. append_assoc field.0 (58 ∷ 32 ∷ []) field.1 i ++ crlf ++ lines_printed fields i

pub pairs_back : (fields : List (List ℕ × List ℕ)) → All IsPlainField fields → map name_and_value (map line_field fields) ≡ fields
unfolding trim_ows
pairs_back [] all = refl
pairs_back (field ∷ fields) all =
    let trimmed : trim_ows (32 ∷ field.1) ≡ field.1 = (All-head IsPlainField field fields all).1 in
    λ i. (field.0, trimmed i) ∷ pairs_back fields (All-tail IsPlainField field fields all) i

both_so : (a b : Bool) → (a && b) ≡ true → (a ≡ true) × (b ≡ true)
both_so true b h = (refl, h)
both_so false b h = absurd (let e = h in cc)

pub token_so : (name : List ℕ) → is_token name ≡ true → IsToken name
token_so name is =
    let both = both_so _ (list_all is_token_byte name) is in
    (ltb-true 0 (length name) both.0, AllPass-from_list_all is_token_byte name both.1)

pub field_so : (field : List ℕ × List ℕ) → is_field field ≡ true → IsPlainField field → IsField (line_field field)
field_so field valid plain = record {
  name = token_so field.0 (both_so (is_token field.0) _ valid).0;
  raw = All-cons (λ b. is_value_byte b ≡ true) 32 field.1 refl plain.0;
}

pub fields_so : (fields : List (List ℕ × List ℕ)) → All (λ f. is_field f ≡ true) fields → All IsPlainField fields → All IsField (map line_field fields)
fields_so [] valid plain = All-nil IsField
fields_so (field ∷ fields) valid plain =
    All-cons IsField (line_field field) (map line_field fields)
    (field_so field (All-head (λ f. is_field f ≡ true) field fields valid) (All-head IsPlainField field fields plain))
    (fields_so fields (All-tail (λ f. is_field f ≡ true) field fields valid) (All-tail IsPlainField field fields plain))

pub few_lines : (fields : List (List ℕ × List ℕ)) → length fields ≤ 100 → length (map line_field fields) ≤ 100
few_lines fields few = rw length-map few

pub section_printed : (fields : List (List ℕ × List ℕ)) → fields_text fields ≡ print_section (map line_field fields) end_crlf
section_printed fields = ap (λ (l : List ℕ). l ++ crlf) (lines_printed fields)

pub trailers-plain : (trailers : List (List ℕ × List ℕ)) → All (λ f. is_field f ≡ true) trailers → ArePlain trailers
    → length (fields_text trailers) ≤ 65536
    → trailer_front (fields_text trailers) ≡ Stands (trailer_parts trailers) (length (fields_text trailers))
trailers-plain trailers valid plain short =
    let is : IsTrailers (fields_text trailers) (map line_field trailers, end_crlf) = (
      (fields_so trailers valid plain.0, section_printed trailers ∙ sym (append-nil _)),
      few_lines trailers plain.1,
    ) in
    ap (λ (bytes : List ℕ). trailer_front bytes) (sym (append-nil (fields_text trailers)))
    ∙ trailers_found (fields_text trailers) [] (map line_field trailers, end_crlf) is short
    ∙ ap (λ (pairs : List (List ℕ × List ℕ)). Stands (trailer_parts pairs) (length (fields_text trailers))) (pairs_back trailers plain.0)

-- ---- start lines

abbrev minor_of : Version → ℕ
minor_of Http10 = 0
minor_of Http11 = 1

pub minor_low : (version : Version) → minor_of version ≤ 1
minor_low Http10 = omega arith
minor_low Http11 = omega arith

pub version_printed : (version : Version) → print_version (minor_of version) ≡ version_text version
unfolding version_text
version_printed Http10 = refl
version_printed Http11 = refl

pub regroup_line : (a b c ends section : List ℕ)
    → a ++ 32 ∷ [] ++ b ++ 32 ∷ [] ++ c ++ ends ++ section ≡ [] ++ a ++ 32 ∷ b ++ 32 ∷ c ++ ends ++ section ++ []
regroup_line a b c ends section = simp (append_assoc, append-nil)

-- ---- heads of requests

abbrev request_of : List ℕ → List ℕ → Version → List (List ℕ × List ℕ) → RequestHead
request_of method target version fields = record {
  blank = [];
  method = method;
  target = target;
  minor = minor_of version;
  line_end = end_crlf;
  fields = map line_field fields;
  last = end_crlf;
}

request_printed : (method target : List ℕ) (version : Version) (fields : List (List ℕ × List ℕ))
    → request_line method target (version_text version) ++ fields_text fields ≡ print_request (request_of method target version fields) ++ []
unfolding print_request
request_printed method target version fields =
    regroup_line method target (version_text version) crlf (fields_text fields)
    ∙ (λ i. [] ++ method ++ 32 ∷ target ++ 32 ∷ sym (version_printed version) i ++ crlf ++ section_printed fields i ++ [])

pub request-plain : (method target : List ℕ) (version : Version) (fields : List (List ℕ × List ℕ)) → is_token method ≡ true
    → 0 < length target → AllPass is_uri_byte target → IsUtf8 target → All (λ f. is_field f ≡ true) fields → ArePlain fields
    → length (request_line method target (version_text version) ++ fields_text fields) ≤ 65536
    → request_front (request_line method target (version_text version) ++ fields_text fields)
    ≡ Stands (record { first = method; second = target; third = version_text version; pairs = fields })
    (length (request_line method target (version_text version) ++ fields_text fields))
request-plain method target version fields token some uri text valid plain short =
    let head = request_line method target (version_text version) ++ fields_text fields in
    let is : IsRequest head (request_of method target version fields) = (
      (
        record {
          method = token_so method token;
          target = (some, uri);
          target_text = text;
          minor = minor_low version;
          fields = fields_so fields valid plain.0;
        },
        request_printed method target version fields,
      ),
      few_lines fields plain.1,
    ) in
    ap (λ (bytes : List ℕ). request_front bytes) (sym (append-nil head))
    ∙ request_found head [] (request_of method target version fields) is short
    ∙ (λ i. Stands (record { first = method; second = target; third = version_printed version i; pairs = pairs_back fields plain.0 i }) (length head))

-- ---- heads of responses

pub decimal_byte : (b : ℕ) → digit_value b < 10 → is_ascii_digit b ≡ true
decimal_byte b low = grind (arith, nat_tests)

pub decimal_bytes : (text : List ℕ) → AllDigits 10 text → AllPass is_ascii_digit text
decimal_bytes [] all = All-nil (λ b. is_ascii_digit b ≡ true)
decimal_bytes (b ∷ text) all = All-cons (λ b. is_ascii_digit b ≡ true) b text (decimal_byte b all.0) (decimal_bytes text all.1)

status_range : (code : ℕ) → is_status code ≡ true → (100 ≤ code) × (code ≤ 999)
status_range code valid = (grind (arith, nat_tests), grind (arith, nat_tests))

pub record IsThreeDigits (code : ℕ) : Type 0 where
  pub three : length (decimal code) ≡ 3
  pub digits : AllPass is_ascii_digit (decimal code)
  pub low : 100 ≤ digits_value 10 (decimal code)

pub three_digits : (code : ℕ) → is_status code ≡ true → IsThreeDigits code
three_digits code valid =
    let range = status_range code valid in
    let small : code < 2 ^ 64 = omega (arith, range.1) in
    let numeral = decimal_is_IsNumeral code small in
    let most = length-decimal-le 3 code (omega arith) (omega (arith, range.1)) small in
    let least : 3 ≤ length (decimal code) = at_least (length (decimal code)) code range.0
    (subst (λ (n : ℕ). n < 10 ^ length (decimal code)) numeral.1 (digits_value-lt 10 (decimal code) numeral.0.1)) in
    record {
      three = omega (arith, most, least);
      digits = decimal_bytes (decimal code) numeral.0.1;
      low = subst (λ (n : ℕ). 100 ≤ n) (sym numeral.1) range.0;
    }
  where
    at_least : (count n : ℕ) → 100 ≤ n → n < 10 ^ count → 3 ≤ count
    at_least zero n low fits = absurd (omega arith)
    at_least (suc zero) n low fits = absurd (omega arith)
    at_least (suc (suc zero)) n low fits = absurd (omega arith)
    at_least (suc (suc (suc more))) n low fits = omega arith

abbrev response_of : Version → ℕ → List ℕ → List (List ℕ × List ℕ) → ResponseHead
response_of version code reason fields = record {
  blank = [];
  minor = minor_of version;
  digits = decimal code;
  reason = Some reason;
  line_end = end_crlf;
  fields = map line_field fields;
  last = end_crlf;
}

response_printed : (version : Version) (code : ℕ) (reason : List ℕ) (fields : List (List ℕ × List ℕ))
    → status_line (version_text version) code reason ++ fields_text fields ≡ print_response (response_of version code reason fields) ++ []
unfolding print_response
response_printed version code reason fields =
    regroup_line (version_text version) (decimal code) reason crlf (fields_text fields)
    ∙ (λ i. [] ++ sym (version_printed version) i ++ 32 ∷ decimal code ++ 32 ∷ reason ++ crlf ++ section_printed fields i ++ [])

pub response-plain : (version : Version) (code : ℕ) (reason : List ℕ) (fields : List (List ℕ × List ℕ)) → is_status code ≡ true
    → AllPass is_value_byte reason → All (λ f. is_field f ≡ true) fields → ArePlain fields
    → length (status_line (version_text version) code reason ++ fields_text fields) ≤ 65536
    → response_front (status_line (version_text version) code reason ++ fields_text fields)
    ≡ Stands (record { first = version_text version; second = decimal code; third = reason; pairs = fields })
    (length (status_line (version_text version) code reason ++ fields_text fields))
response-plain version code reason fields status phrase valid plain short =
    let head = status_line (version_text version) code reason ++ fields_text fields in
    let digits = three_digits code status in
    let is : IsResponse head (response_of version code reason fields) = (
      (
        record {
          minor = minor_low version;
          digits = (digits.three, digits.digits);
          reason = phrase;
          fields = fields_so fields valid plain.0;
        },
        response_printed version code reason fields,
      ),
      few_lines fields plain.1,
      digits.low,
    ) in
    ap (λ (bytes : List ℕ). response_front bytes) (sym (append-nil head))
    ∙ response_found head [] (response_of version code reason fields) is short
    ∙ (λ i. Stands (record { first = version_printed version i; second = decimal code; third = reason; pairs = pairs_back fields plain.0 i }) (length head))
