-- What stands at the front, from the place of the block and from what it is read as.
use Rattle.std.proofs.Common.{ℕ, zero, suc, ◌<◌, ◌≤◌, ◌≡◌, ◌≢◌, true, false, List, ◌++◌, length, map, refl, sym, ap, ◌∙◌, subst, arith, inl, inr, Option, Some, None}
use Rattle.std.proofs.lemmas.List.{length-map}
use Rattle.std.specs.Prelude.{slice_range, All}
use Rattle.std.specs.Char.{is_ascii_digit}
use Rattle.std.specs.Str.Parse.{digits_value}
use Rattle.std.proofs.lemmas.Bool.Decides.{leb_tells}
use Rattle.std.proofs.lemmas.Bool.{lt-ltb}
use Rattle.std.proofs.lemmas.Grind.{common_steps}
use Rattle.std.proofs.lemmas.List.Elements.{All-map, All-weaker}
use Rattle.std.proofs.lemmas.List.Sums.{list_all-from_AllPass}
use Rattle.httparse.specs.Grammar.{AllPass, IsToken, is_token, is_token_byte, is_value_byte, Field, field_value, IsField, print_version}
use Rattle.httparse.specs.Spans.{name_and_value}
use Rattle.httparse.proofs.TrimLemmas.{AllPass-trim_ows}
use Rattle.px_text.specs.Number.{decimal_value}
use Rattle.px_text.proofs.NumberLemmas.{number_value-Some}
use Rattle.px_head.specs.declared.raw.RawHead.{RawHead}
use Rattle.px_head.specs.declared.front.Front.TheVariants.{Nothing, TooLong, Stands}
use Rattle.px_head.specs.declared.front.Kind.{Kind}
use Rattle.px_head.specs.declared.front.Kind.TheVariants.{Request, Response, Trailers}
use Rattle.px_head.specs.declared.place.BlockPlace.{BlockPlace}
use Rattle.px_head.specs.declared.place.BlockPlace.TheVariants.{Missing, Exceeded, Block}
use Rattle.px_text.specs.Blank.{blank_end}
use Rattle.px_head.specs.Front.{blank_lines, place_at, place, trailers_end, front, front_in, front_of, read_as}
use Rattle.px_head.specs.Heads.{raw_request, raw_response, raw_trailers}
use Rattle.px_head.specs.Laws.{IsPlainByte, IsValueText, IsPair, IsVersionText, IsRequestParts, IsResponseParts, IsTrailerParts}
use Rattle.px_head.specs.Within.{IsPlaceWithin}
use Rattle.px_head.proofs.BlockLemmas.{request_in-source, response_in-source, trailers_in-source, AllDigits-from_AllPass, code_short}
use Rattle.px_head.proofs.PlaceLemmas.{place_within, place-stays}
use Rattle.px_head.proofs.TrimLemmas.{trim_twice}

-- ---- from the place to the front

pub front-Block : (kind : Kind) (bytes : List ℕ) (start end : ℕ) (o : Option RawHead) → place kind bytes ≡ Block start end
    → read_as kind (slice_range bytes start end) ≡ o → front kind bytes ≡ front_of o end
front-Block kind bytes start end o at reads =
    ap (λ (p : BlockPlace). front_in (read_as kind) bytes p) at ∙ ap (λ (r : Option RawHead). front_of r end) reads

-- a head that stands is a block that is read so
pub record IsStanding (kind : Kind) (bytes : List ℕ) (raw : RawHead) (used : ℕ) : Type 0 where
  pub start : ℕ
  pub at : place kind bytes ≡ Block start used
  pub reads : read_as kind (slice_range bytes start used) ≡ Some raw

standing_in : (kind : Kind) (bytes : List ℕ) (raw : RawHead) (used start end : ℕ) (o : Option RawHead)
    → place kind bytes ≡ Block start end → read_as kind (slice_range bytes start end) ≡ o → front_of o end ≡ Stands raw used
    → IsStanding kind bytes raw used
standing_in kind bytes raw used start end None at reads is = absurd (let e = is in cc)
standing_in kind bytes raw used start end (Some r) at reads is =
    let same_end : end ≡ used = (let e = is in cc) in
    let same_raw : r ≡ raw = (let e = is in cc) in
    record {
      start = start;
      at = at ∙ ap (λ (n : ℕ). Block start n) same_end;
      reads = subst (λ (n : ℕ). read_as kind (slice_range bytes start n) ≡ Some raw) same_end (reads ∙ ap Some same_raw);
    }

standing_by : (kind : Kind) (bytes : List ℕ) (raw : RawHead) (used : ℕ) (p : BlockPlace) → place kind bytes ≡ p
    → front_in (read_as kind) bytes p ≡ Stands raw used → IsStanding kind bytes raw used
standing_by kind bytes raw used Missing at is = absurd (let e = is in cc)
standing_by kind bytes raw used Exceeded at is = absurd (let e = is in cc)
standing_by kind bytes raw used (Block start end) at is =
    standing_in kind bytes raw used start end (read_as kind (slice_range bytes start end)) at refl is

pub standing : (kind : Kind) (bytes : List ℕ) (raw : RawHead) (used : ℕ) → front kind bytes ≡ Stands raw used
    → IsStanding kind bytes raw used
standing kind bytes raw used is = standing_by kind bytes raw used (place kind bytes) refl is

-- ---- what is decided stays

slice_range-append : (bytes more : List ℕ) (start end : ℕ) → start ≤ end → end ≤ length bytes
    → slice_range (bytes ++ more) start end ≡ slice_range bytes start end
slice_range-append bytes more start end ordered fits = grind (arith, common_steps)

stays_by : (kind : Kind) (bytes more : List ℕ) (p : BlockPlace) → place kind bytes ≡ p → place kind (bytes ++ more) ≡ p
    → front kind (bytes ++ more) ≡ front kind bytes
stays_by kind bytes more Missing at later =
    ap (λ (p : BlockPlace). front_in (read_as kind) (bytes ++ more) p) later ∙ sym (ap (λ (p : BlockPlace). front_in (read_as kind) bytes p) at)
stays_by kind bytes more Exceeded at later =
    ap (λ (p : BlockPlace). front_in (read_as kind) (bytes ++ more) p) later ∙ sym (ap (λ (p : BlockPlace). front_in (read_as kind) bytes p) at)
stays_by kind bytes more (Block start end) at later =
    let within = subst (λ (p : BlockPlace). IsPlaceWithin (length bytes) p) at (place_within kind bytes) in
    let a = within.0 in
    let slice = slice_range-append bytes more start end (omega arith) within.1 in
    ap (λ (p : BlockPlace). front_in (read_as kind) (bytes ++ more) p) later
    ∙ ap (λ (block : List ℕ). front_of (read_as kind block) end) slice
    ∙ sym (ap (λ (p : BlockPlace). front_in (read_as kind) bytes p) at)

pub front-stays : (kind : Kind) (bytes more : List ℕ) → front kind bytes ≢ Nothing
    → front kind (bytes ++ more) ≡ front kind bytes
front-stays kind bytes more decided =
    let found : place kind bytes ≢ Missing = λ missing.
    decided (ap (λ (p : BlockPlace). front_in (read_as kind) bytes p) missing) in
    stays_by kind bytes more (place kind bytes) refl (place-stays kind bytes more found)

-- ---- sizes

pub used-within : (kind : Kind) (bytes : List ℕ) (raw : RawHead) (used : ℕ) → front kind bytes ≡ Stands raw used
    → (1 ≤ used) × (used ≤ length bytes) × (used ≤ 65536)
used-within kind bytes raw used is =
    let s = standing kind bytes raw used is in
    let within = subst (λ (p : BlockPlace). IsPlaceWithin (length bytes) p) s.at (place_within kind bytes) in
    let a = within.0 in
    (omega arith, within.1, within.2)

place_at-Missing : (bytes : List ℕ) (start : ℕ) (end : Option ℕ) → place_at bytes start end ≡ Missing → length bytes < 65536
place_at-Missing bytes start None is = elim (leb_tells 65536 (length bytes)) [
  | inl t ↦ absurd (let e : Exceeded ≡ Missing = rw t.0 at is in cc)
  | inr f ↦ f.1
]
place_at-Missing bytes start (Some end) is = elim (leb_tells 65537 end) [
  | inl t ↦ absurd (let e : Exceeded ≡ Missing = rw t.0 at is in cc)
  | inr f ↦ absurd (let e : Block start end ≡ Missing = rw f.0 at is in cc)
]

pub place-Missing : (kind : Kind) (bytes : List ℕ) → place kind bytes ≡ Missing → length bytes < 65536
place-Missing Request bytes is = place_at-Missing bytes (blank_lines bytes) (blank_end bytes (blank_lines bytes)) is
place-Missing Response bytes is = place_at-Missing bytes (blank_lines bytes) (blank_end bytes (blank_lines bytes)) is
place-Missing Trailers bytes is = place_at-Missing bytes 0 (trailers_end bytes) is

front_of-decided : (o : Option RawHead) (end : ℕ) → (front_of o end ≢ Nothing) × (front_of o end ≢ TooLong)
front_of-decided None end = (λ e. cc, λ e. cc)
front_of-decided (Some raw) end = (λ e. cc, λ e. cc)

pub nothing_by : (kind : Kind) (bytes : List ℕ) (p : BlockPlace) → front_in (read_as kind) bytes p ≡ Nothing → p ≡ Missing
nothing_by kind bytes Missing is = refl
nothing_by kind bytes Exceeded is = absurd (let e = is in cc)
nothing_by kind bytes (Block start end) is =
    absurd ((front_of-decided (read_as kind (slice_range bytes start end)) end).0 is)

pub too_long_by : (kind : Kind) (bytes : List ℕ) (p : BlockPlace) → front_in (read_as kind) bytes p ≡ TooLong → p ≡ Exceeded
too_long_by kind bytes Missing is = absurd (let e = is in cc)
too_long_by kind bytes Exceeded is = refl
too_long_by kind bytes (Block start end) is =
    absurd ((front_of-decided (read_as kind (slice_range bytes start end)) end).1 is)

-- ---- the parts of a head

value_plain : (b : ℕ) → is_value_byte b ≡ true → IsPlainByte b
value_plain b passes = (
  λ e. (let f : false ≡ true = subst (λ (v : ℕ). is_value_byte v ≡ true) e passes in cc),
  λ e. (let f : false ≡ true = subst (λ (v : ℕ). is_value_byte v ≡ true) e passes in cc),
  λ e. (let f : false ≡ true = subst (λ (v : ℕ). is_value_byte v ≡ true) e passes in cc),
)

value_text : (text : List ℕ) → AllPass is_value_byte text → IsValueText text
value_text text all = record {
  bytes = all;
  plain = All-weaker (λ b. is_value_byte b ≡ true) IsPlainByte value_plain text all;
}

token_test : (name : List ℕ) → IsToken name → is_token name ≡ true
token_test name token = rw (lt-ltb 0 (length name) token.0, list_all-from_AllPass is_token_byte name token.1) refl

field_pair : (f : Field) → IsField f → IsPair (name_and_value f)
field_pair f x = (token_test f.name x.name, value_text (field_value f) (AllPass-trim_ows is_value_byte f.raw x.raw), trim_twice f.raw)

field_pairs : (fields : List Field) → All IsField fields → All IsPair (map name_and_value fields)
field_pairs fields all = All-map IsPair name_and_value fields
    (All-weaker IsField (λ f. IsPair (name_and_value f)) field_pair fields all)

field_count : (fields : List Field) → length fields ≤ 100 → length (map name_and_value fields) ≤ 100
field_count fields few = rw length-map few

version_text : (minor : ℕ) → minor ≤ 1 → IsVersionText (print_version minor)
version_text zero low = inl refl
version_text (suc zero) low = inr refl
version_text (suc (suc n)) low = absurd (omega arith)

code_value : (digits : List ℕ) → length digits ≡ 3 → AllPass is_ascii_digit digits → 100 ≤ digits_value 10 digits
    → (n : ℕ) × (decimal_value digits ≡ Some n) × (100 ≤ n) × (n ≤ 999)
code_value digits three all low =
    let short = code_short digits three all in (
      digits_value 10 digits,
      number_value-Some 10 digits ((omega arith, AllDigits-from_AllPass digits all), omega arith),
      low,
      omega arith,
    )

pub request_parts_valid : (bytes : List ℕ) (raw : RawHead) (used : ℕ) → front Request bytes ≡ Stands raw used
    → IsRequestParts raw
request_parts_valid bytes raw used is =
    let s = standing Request bytes raw used is in
    let w = request_in-source (slice_range bytes s.start used) raw s.reads in
    let h = w.0 in
    let x = w.1.0.0 in
    let parts : IsRequestParts (raw_request h) = record {
      method = token_test h.method x.method;
      target = (x.target.0, x.target.1, x.target_text);
      version = version_text h.minor x.minor;
      pairs = field_pairs h.fields x.fields;
      few = field_count h.fields w.1.1;
    } in
    subst IsRequestParts (sym w.2) parts

pub response_parts_valid : (bytes : List ℕ) (raw : RawHead) (used : ℕ) → front Response bytes ≡ Stands raw used
    → IsResponseParts raw
response_parts_valid bytes raw used is =
    let s = standing Response bytes raw used is in
    let w = response_in-source (slice_range bytes s.start used) raw s.reads in
    let h = w.0 in
    let x = w.1.0.0 in
    let parts : IsResponseParts (raw_response h) = record {
      version = version_text h.minor x.minor;
      digits = x.digits.0;
      code = code_value h.digits x.digits.0 x.digits.1 w.1.2;
      reason = value_text _ x.reason;
      pairs = field_pairs h.fields x.fields;
      few = field_count h.fields w.1.1;
    } in
    subst IsResponseParts (sym w.2) parts

pub trailer_parts_valid : (bytes : List ℕ) (raw : RawHead) (used : ℕ) → front Trailers bytes ≡ Stands raw used
    → IsTrailerParts raw
trailer_parts_valid bytes raw used is =
    let s = standing Trailers bytes raw used is in
    let w = trailers_in-source (slice_range bytes s.start used) raw s.reads in
    let fields = w.0.0 in
    let parts : IsTrailerParts (raw_trailers w.0) = record {
      first = refl;
      second = refl;
      third = refl;
      pairs = field_pairs fields w.1.0.0;
      few = field_count fields w.1.1;
    } in
    subst IsTrailerParts (sym w.2) parts
