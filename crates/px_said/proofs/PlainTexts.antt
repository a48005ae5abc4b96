-- What was read of a head and of trailers is what the grammar writes: so the text that is written of it is read as it.
use Rattle.std.proofs.Common.{ℕ, zero, suc, ◌<◌, ◌≤◌, ◌^◌, ◌≡◌, ◌&&◌, Bool, true, false, Some, None, List, [], ◌∷◌, ◌++◌, length, map, sym, ap, ◌∙◌, subst, arith, append-nil}
use Rattle.std.specs.Prelude.{All, decimal, if◌then◌else◌}
use Rattle.std.specs.Str.Parse.{digits_value}
use Rattle.std.proofs.lemmas.Bool.Decides.{nat_tests}
use Rattle.std.proofs.lemmas.Fmt.{decimal_is_IsNumeral, length-decimal-le}
use Rattle.std.proofs.lemmas.Int.Digits.{digits_value-lt}
use Rattle.std.proofs.lemmas.List.Elements.{All-weaker}
use Rattle.std.proofs.lemmas.List.Sums.{list_all-from_AllPass}
use Rattle.httparse.specs.Grammar.{crlf as end_crlf, ResponseHead as Printed, is_token, print_response}
use Rattle.px_text.specs.Blank.{crlf}
use Rattle.px_text.specs.Number.{number_value}
use Rattle.px_head.specs.Front.{response_front}
use Rattle.px_head.specs.Heads.{IsResponse}
use Rattle.px_head.specs.Laws.{IsPair, IsPlainByte, IsValueText}
use Rattle.px_head.specs.declared.front.Front.TheVariants.{Stands}
use Rattle.px_head.proofs.FoundLemmas.{response_found}
use Rattle.px_message.specs.Valid.{is_field}
use Rattle.px_message.specs.Value.{is_value, is_value_byte as may_stand}
use Rattle.px_message.specs.declared.version.Version.{Version}
use Rattle.px_message.specs.declared.version.Version.TheVariants.{Http10, Http11}
use Rattle.px_read.specs.Whole.{AreReadFields}
use Rattle.px_write.specs.ReadBack.{ArePlain, IsPlainField, TrailersStand}
use Rattle.px_write.specs.Text.{fields_text, interim_text, version_text}
use Rattle.px_write.proofs.PlainLemmas.{IsThreeDigits, decimal_bytes, few_lines, fields_so, line_field, minor_low, pairs_back, regroup_line, section_printed, trailers-plain, version_printed}

-- ---- fields that were read

stands_in_values : (b : ℕ) → IsPlainByte b → may_stand b ≡ true
stands_in_values b plain =
    let cr = plain.0 in
    let lf = plain.1 in
    let nul = plain.2 in grind (arith, nat_tests)

value_valid : (value : List ℕ) → IsValueText value → is_value value ≡ true
value_valid value text =
    list_all-from_AllPass may_stand value (All-weaker IsPlainByte (λ b. may_stand b ≡ true) stands_in_values value text.plain)

both_true : (a b : Bool) → a ≡ true → b ≡ true → (a && b) ≡ true
both_true a b first second = λ i. first i && second i

field_valid : (field : List ℕ × List ℕ) → IsPair field → is_field field ≡ true
field_valid field pair = both_true (is_token field.0) (is_value field.1) pair.0 (value_valid field.1 pair.1)

pub fields_valid : (fields : List (List ℕ × List ℕ)) → AreReadFields fields → All (λ f. is_field f ≡ true) fields
fields_valid fields read = All-weaker IsPair (λ f. is_field f ≡ true) field_valid fields read.pairs

plain_field : (field : List ℕ × List ℕ) → IsPair field → IsPlainField field
plain_field field pair = (pair.1.bytes, pair.2)

pub fields_plain : (fields : List (List ℕ × List ℕ)) → AreReadFields fields → ArePlain fields
fields_plain fields read = (All-weaker IsPair IsPlainField plain_field fields read.pairs, read.few)

-- trailers that were read stand where they are written
pub trailers_stand : (fields trailers : List (List ℕ × List ℕ)) → AreReadFields trailers → length (fields_text trailers) ≤ 65536 → TrailersStand fields trailers
trailers_stand fields trailers read short framed =
    trailers-plain trailers (fields_valid trailers read) (fields_plain trailers read) short

-- ---- versions

abbrev minor_of : Version → ℕ
minor_of Http10 = 0
minor_of Http11 = 1

-- ---- codes

-- a code as it is written has three digits, an interim one too
three_digits : (code : ℕ) → 100 ≤ code → code ≤ 999 → IsThreeDigits code
three_digits code least most =
    let small : code < 2 ^ 64 = omega (arith, most) in
    let numeral = decimal_is_IsNumeral code small in
    let at_most = length-decimal-le 3 code (omega arith) (omega (arith, most)) small in
    let at_least : 3 ≤ length (decimal code) = by_count (length (decimal code)) code least
    (subst (λ (n : ℕ). n < 10 ^ length (decimal code)) numeral.1 (digits_value-lt 10 (decimal code) numeral.0.1)) in
    record {
      three = omega (arith, at_most, at_least);
      digits = decimal_bytes (decimal code) numeral.0.1;
      low = subst (λ (n : ℕ). 100 ≤ n) (sym numeral.1) least;
    }
  where
    by_count : (count n : ℕ) → 100 ≤ n → n < 10 ^ count → 3 ≤ count
    by_count zero n low fits = absurd (omega arith)
    by_count (suc zero) n low fits = absurd (omega arith)
    by_count (suc (suc zero)) n low fits = absurd (omega arith)
    by_count (suc (suc (suc more))) n low fits = omega arith

-- ---- heads of responses, interim ones too

abbrev printed : Version → ℕ → List ℕ → List (List ℕ × List ℕ) → Printed
printed version code reason fields = record {
  blank = [];
  minor = minor_of version;
  digits = decimal code;
  reason = Some reason;
  line_end = end_crlf;
  fields = map line_field fields;
  last = end_crlf;
}

is_printed : (version : Version) (code : ℕ) (reason : List ℕ) (fields : List (List ℕ × List ℕ))
    → interim_text version code reason fields ≡ print_response (printed version code reason fields) ++ []
unfolding print_response
is_printed version code reason fields =
    regroup_line (version_text version) (decimal code) reason crlf (fields_text fields)
    ∙ (λ i. [] ++ sym (version_printed version) i ++ 32 ∷ decimal code ++ 32 ∷ reason ++ crlf ++ section_printed fields i ++ [])

-- the head of a response of any code is read as it stands
pub head_stands : (version : Version) (code : ℕ) (reason : List ℕ) (fields : List (List ℕ × List ℕ)) → 100 ≤ code → code ≤ 999
    → IsValueText reason → AreReadFields fields → length (interim_text version code reason fields) ≤ 65536
    → response_front (interim_text version code reason fields)
    ≡ Stands (record { first = version_text version; second = decimal code; third = reason; pairs = fields }) (length (interim_text version code reason fields))
head_stands version code reason fields least most phrase read short =
    let head = interim_text version code reason fields in
    let digits = three_digits code least most in
    let is : IsResponse head (printed version code reason fields) = (
      (
        record {
          minor = minor_low version;
          digits = (digits.three, digits.digits);
          reason = phrase.bytes;
          fields = fields_so fields (fields_valid fields read) (fields_plain fields read).0;
        },
        is_printed version code reason fields,
      ),
      few_lines fields read.few,
      digits.low,
    ) in
    ap (λ (bytes : List ℕ). response_front bytes) (sym (append-nil head))
    ∙ response_found head [] (printed version code reason fields) is short
    ∙ (λ i. Stands (record { first = version_printed version i; second = decimal code; third = reason; pairs = pairs_back fields (fields_plain fields read).0 i }) (length head))

-- a number that was read has the value of its digits
pub number_is : (text : List ℕ) (n : ℕ) → number_value 10 text ≡ Some n → digits_value 10 text ≡ n
number_is text n is = by_test _ is
  where
    by_test : (b : Bool) → (if b then Some (digits_value 10 text) else None) ≡ Some n → digits_value 10 text ≡ n
    by_test true is = let e = is in cc
    by_test false is = absurd (let e = is in cc)
