-- A head is written line by line, and no part of a line holds its end; so it ends at its empty line.
use Rattle.std.proofs.Common.{ℕ, ◌<◌, ◌^◌, ◌≡◌, ◌≢◌, ◌==◌, ◌&&◌, ◌||◌, Bool, true, false, cond, List, [], ◌∷◌, ◌++◌, length, refl, sym, ap, ◌∙◌, subst, arith, inl, inr, Some, append_assoc, append-nil, length-append}
use Rattle.std.specs.Prelude.{All, codes, decimal, bytes_eq, slice_index}
use Rattle.std.specs.List.{flat_map, list_all, AllPass}
use Rattle.std.proofs.lemmas.Bool.Decides.{eqb_tells, nat_tests}
use Rattle.std.proofs.lemmas.List.Elements.{All-from_get_or, All-head, All-tail, All-weaker}
use Rattle.std.proofs.lemmas.List.Folds.{list_all-append}
use Rattle.std.proofs.lemmas.List.Sums.{AllPass-from_list_all, list_all-from_AllPass}
use Rattle.std.proofs.lemmas.Slice.Eq.{bytes_eq-Decides}
use Rattle.httparse.specs.Grammar.{is_token, is_token_byte}
use Rattle.http_uri.specs.ByteClasses.{is_authority_byte}
use Rattle.px_text.specs.Blank.{blank_end}
use Rattle.px_text.proofs.LinesLemmas.{EndsLine, HasNoBlank, HasNoBlank_start, IsInLine, IsLineEnd, block_ends, line_ends, line_pushed}
use Rattle.px_message.specs.Host.{IsHost}
use Rattle.px_message.specs.Path.{is_path, is_path_byte}
use Rattle.px_message.specs.Status.{is_status}
use Rattle.px_message.specs.Url.{port_suffix, url_path}
use Rattle.px_message.specs.Valid.{is_field}
use Rattle.px_message.specs.Value.{is_value, is_value_byte}
use Rattle.px_message.specs.declared.version.Version.{Version}
use Rattle.px_message.specs.declared.version.Version.TheVariants.{Http10, Http11}
use Rattle.px_message.proofs.DecimalLemmas.{decimal_is_value}
use Rattle.px_write.specs.Framing.{HeadEnds}
use Rattle.px_text.specs.Blank.{crlf}
use Rattle.px_write.specs.Text.{field_line, fields_text, interim_text, request_line, target_text, version_text}
use Rattle.px_write.specs.declared.form.Form.{Form}
use Rattle.px_write.specs.declared.form.Form.TheVariants.{Origin, Absolute}

-- ---- texts that end no line

both_so : (a b : Bool) → (a && b) ≡ true → (a ≡ true) × (b ≡ true)
both_so true b h = (refl, h)
both_so false b h = absurd (let e = h in cc)

both_values : (a b : List ℕ) → is_value a ≡ true → is_value b ≡ true → is_value (a ++ b) ≡ true
both_values a b ha hb = list_all-append is_value_byte a b ∙ (λ i. ha i && hb i)

in_line : (b : ℕ) → is_value_byte b ≡ true → IsInLine b
in_line b h = (
  λ (e : b ≡ 10). let f : is_value_byte 10 ≡ true = subst (λ (x : ℕ). is_value_byte x ≡ true) e h in absurd (let g = f in cc),
  λ (e : b ≡ 13). let f : is_value_byte 13 ≡ true = subst (λ (x : ℕ). is_value_byte x ≡ true) e h in absurd (let g = f in cc),
)

all_in_line : (text : List ℕ) → is_value text ≡ true → All IsInLine text
all_in_line text h =
    All-weaker (λ b. is_value_byte b ≡ true) IsInLine in_line text (AllPass-from_list_all is_value_byte text h)

-- a byte that is none of the three may stand in a value
value_byte : (b : ℕ) → b ≢ 0 → b ≢ 10 → b ≢ 13 → is_value_byte b ≡ true
value_byte b nz nl nc = elim (eqb_tells b 0) [
  | inl at ↦ absurd (nz at.1)
  | inr z ↦ elim (eqb_tells b 10) [
    | inl at ↦ absurd (nl at.1)
    | inr n ↦ elim (eqb_tells b 13) [
      | inl at ↦ absurd (nc at.1)
      | inr c ↦ rw (z.0, n.0, c.0) refl
    ]
  ]
]

-- bytes of a class without them may stand in a value
class_byte : (p : ℕ → Bool) → p 0 ≡ false → p 10 ≡ false → p 13 ≡ false → (b : ℕ) → p b ≡ true → is_value_byte b ≡ true
class_byte p zero_out lf_out cr_out b h = value_byte b (other 0 zero_out) (other 10 lf_out) (other 13 cr_out)
  where
    other : (c : ℕ) → p c ≡ false → b ≢ c
    other c out e = let so : p c ≡ true = subst (λ (x : ℕ). p x ≡ true) e h in cc (so, out)

class_text : (p : ℕ → Bool) → p 0 ≡ false → p 10 ≡ false → p 13 ≡ false → (text : List ℕ) → AllPass p text → is_value text ≡ true
class_text p z l c text h =
    list_all-from_AllPass is_value_byte text (All-weaker (λ b. p b ≡ true) (λ b. is_value_byte b ≡ true) (class_byte p z l c) text h)

token_out : (is_token_byte 0 ≡ false) × (is_token_byte 10 ≡ false) × (is_token_byte 13 ≡ false)
unfolding is_token_byte
token_out = (refl, refl, refl)

token_value : (text : List ℕ) → is_token text ≡ true → is_value text ≡ true
token_value text h =
    class_text is_token_byte token_out.0 token_out.1 token_out.2 text
    (AllPass-from_list_all is_token_byte text (both_so _ (list_all is_token_byte text) h).1)

path_value : (text : List ℕ) → is_path text ≡ true → is_value text ≡ true
path_value text h = by_test (bytes_eq text (codes "*")) refl h
  where
    by_test : (b : Bool) → bytes_eq text (codes "*") ≡ b → (b || (slice_index text 0 == 47 && list_all is_path_byte text)) ≡ true →
        is_value text ≡ true
    by_test true same h = ap is_value ((bytes_eq-Decides text (codes "*")).0 same)
    by_test false other h =
        class_text is_path_byte refl refl refl text
        (AllPass-from_list_all is_path_byte text (both_so (slice_index text 0 == 47) (list_all is_path_byte text) h).1)

host_value : (text : List ℕ) → IsHost text → is_value text ≡ true
host_value text h =
    class_text is_authority_byte refl refl refl text
    (All-from_get_or (λ b. is_authority_byte b ≡ true) text 0 (λ i less. (h.authority.bytes i less).byte))

version_value : (version : Version) → is_value (version_text version) ≡ true
unfolding version_text
version_value Http10 = refl
version_value Http11 = refl

port_value : (port : ℕ) → port < 2 ^ 64 → is_value (port_suffix port) ≡ true
port_value port small = by_test (port == 80)
  where
    by_test : (b : Bool) → is_value (cond b [] (58 ∷ decimal port)) ≡ true
    by_test true = refl
    by_test false = decimal_is_value port small

url_path_value : (path : List ℕ) → is_path path ≡ true → is_value (url_path path) ≡ true
url_path_value path h = by_test (bytes_eq path (codes "*"))
  where
    by_test : (b : Bool) → is_value (cond b [] path) ≡ true
    by_test true = refl
    by_test false = path_value path h

target_value : (form : Form) (host path : List ℕ) (port : ℕ) → IsHost host → is_path path ≡ true → port < 2 ^ 64 →
    is_value (target_text form host port path) ≡ true
target_value Origin host path port h p small = path_value path p
target_value Absolute host path port h p small =
    both_values (codes "http://" ++ host ++ port_suffix port) (url_path path)
    (both_values (codes "http://" ++ host) (port_suffix port) (host_value host h) (port_value port small)) (url_path_value path p)

-- ---- lines

-- lines that are whole, the last one not empty
record EndsLines (front : List ℕ) : Type 0 where
  no_blank : HasNoBlank 0 front
  ended : EndsLine 0 front

crlf_ends : IsLineEnd crlf
crlf_ends = inr refl

first_line : (text : List ℕ) → 0 < length text → is_value text ≡ true → EndsLines (text ++ crlf)
first_line text some value = record {
  no_blank = line_pushed 0 [] text crlf some (all_in_line text value) crlf_ends (HasNoBlank_start []);
  ended = line_ends 0 [] text crlf (omega arith) some crlf_ends;
}

next_line : (front text : List ℕ) → 0 < length text → is_value text ≡ true → EndsLines front → EndsLines (front ++ (text ++ crlf))
next_line front text some value h = record {
  no_blank = line_pushed 0 front text crlf some (all_in_line text value) crlf_ends h.no_blank;
  ended = line_ends 0 front text crlf (omega arith) some crlf_ends;
}

more_behind : (a b : List ℕ) → 0 < length a → 0 < length (a ++ b)
more_behind a b some = let size = length-append a b in omega arith

one_more : (a b : List ℕ) (x : ℕ) → 0 < length (a ++ x ∷ b)
one_more a b x = let size = length-append a (x ∷ b) in omega arith

-- two texts with a text between them that is not empty
between : (a b c : List ℕ) (x : ℕ) → is_value a ≡ true → is_value (x ∷ b) ≡ true → is_value c ≡ true →
    (0 < length (a ++ x ∷ b ++ c)) × (is_value (a ++ x ∷ b ++ c) ≡ true)
between a b c x value_a value_b value_c = (
  more_behind (a ++ x ∷ b) c (one_more a b x),
  both_values (a ++ x ∷ b) c (both_values a (x ∷ b) value_a value_b) value_c,
)

field_lines : (front : List ℕ) (fields : List (List ℕ × List ℕ)) → AllPass is_field fields → EndsLines front →
    EndsLines (front ++ flat_map field_line fields)
field_lines front [] all h = subst EndsLines (sym (append-nil front)) h
field_lines front (field ∷ fields) all h =
    let both = both_so (is_token field.0) (is_value field.1) (All-head (λ f. is_field f ≡ true) field fields all) in
    let text = between field.0 (32 ∷ []) field.1 58 (token_value field.0 both.0) refl both.1 in
    subst EndsLines (append_assoc front (field_line field) (flat_map field_line fields))
    (field_lines (front ++ field_line field) fields (All-tail (λ f. is_field f ≡ true) field fields all)
    (next_line front (field.0 ++ 58 ∷ 32 ∷ [] ++ field.1) text.0 text.1 h))

-- a line of three parts
start_line : (a b c : List ℕ) → is_value a ≡ true → is_value b ≡ true → is_value c ≡ true → EndsLines (request_line a b c)
start_line a b c value_a value_b value_c =
    let two = between a [] b 32 value_a refl value_b in
    let text = between (a ++ 32 ∷ [] ++ b) [] c 32 two.1 refl value_c in
    first_line (a ++ 32 ∷ [] ++ b ++ 32 ∷ [] ++ c) text.0 text.1

-- ---- heads

head_ends : (line : List ℕ) (fields : List (List ℕ × List ℕ)) → AllPass is_field fields → EndsLines line →
    HeadEnds (line ++ fields_text fields) (line ++ fields_text fields)
head_ends line fields all h rest =
    let lines = field_lines line fields all h in
    subst (λ (l : List ℕ). blank_end (l ++ rest) 0 ≡ Some (length l)) (append_assoc line (flat_map field_line fields) crlf)
    (block_ends 0 (line ++ flat_map field_line fields) crlf rest lines.no_blank lines.ended crlf_ends)

-- and with more behind it
pub whole_ends : (head body : List ℕ) → HeadEnds head head → HeadEnds head (head ++ body)
whole_ends head body h rest = ap (λ (l : List ℕ). blank_end l 0) (append_assoc head body rest) ∙ h (body ++ rest)

-- a status is a small number
pub status_small : (code : ℕ) → is_status code ≡ true → code < 2 ^ 64
status_small code valid = grind (arith, nat_tests)

pub interim-ends : (version : Version) (code : ℕ) (reason : List ℕ) (fields : List (List ℕ × List ℕ)) → code < 2 ^ 64 →
    is_value reason ≡ true → AllPass is_field fields →
    HeadEnds (interim_text version code reason fields) (interim_text version code reason fields)
interim-ends version code reason fields small value all =
    head_ends (request_line (version_text version) (decimal code) reason) fields all
    (start_line (version_text version) (decimal code) reason (version_value version) (decimal_is_value code small) value)

pub request_head-ends : (method host path : List ℕ) (port : ℕ) (version : Version) (form : Form) (fields : List (List ℕ × List ℕ)) →
    is_token method ≡ true → IsHost host → is_path path ≡ true → port < 2 ^ 64 → AllPass is_field fields →
    HeadEnds (request_line method (target_text form host port path) (version_text version) ++ fields_text fields)
    (request_line method (target_text form host port path) (version_text version) ++ fields_text fields)
request_head-ends method host path port version form fields token h p small all =
    head_ends (request_line method (target_text form host port path) (version_text version)) fields all
    (start_line method (target_text form host port path) (version_text version) (token_value method token)
    (target_value form host path port h p small) (version_value version))
