-- The names and the values of a whole message's trailers are apart in the block that they were read from.
use Rattle.std.proofs.Common.{ℕ, suc, ◌+◌, ◌*◌, ◌≤◌, ◌≡◌, Bool, true, false, List, [], ◌∷◌, ◌++◌, length, map, drop, reverse, refl, sym, ap, ◌∙◌, subst, arith, inl, inr, Result, Ok, Err, length-append, length-take, append-nil}
use Rattle.std.specs.List.{flat_map}
use Rattle.std.proofs.lemmas.Bool.Decides.{leb_tells}
use Rattle.std.proofs.lemmas.List.{length-reverse}
use Rattle.std.proofs.lemmas.List.Sums.{sum_by-cons}
use Rattle.httparse.specs.Grammar.{Field, LineEnd, crlf, lf, is_ows, print_end, print_field, print_section, skip_ows, trim_ows}
use Rattle.httparse.specs.Spans.{name_and_value}
use Rattle.httparse.proofs.PieceLemmas.{print_field-append}
use Rattle.px_head.specs.declared.raw.RawHead.{RawHead}
use Rattle.px_head.specs.declared.front.Front.{Front}
use Rattle.px_head.specs.declared.front.Front.TheVariants as front
use Rattle.px_head.specs.declared.front.Kind.TheVariants.{Trailers}
use Rattle.px_head.specs.Front.{request_front, response_front, trailer_front}
use Rattle.px_head.proofs.FrontLemmas.{used-within}
use Rattle.px_head.proofs.ReadLemmas.{trailers_read}
use Rattle.px_message.specs.Length.{response_length}
use Rattle.px_message.specs.declared.length.Length.{Length}
use Rattle.px_message.specs.declared.length.Length.TheVariants as lengths
use Rattle.px_message.specs.declared.fault.Fault.{Fault}
use Rattle.px_read.specs.Heads.{code_of, request_body_length}
use Rattle.px_read.specs.Kept.{field_keeps, fields_keep}
use Rattle.px_read.specs.Marks.{Mark}
use Rattle.px_read.specs.Chunks.{ChunkPlace, in_line, in_content, at_cr, at_lf, in_trailers, broken, Finish, goes_on, whole, fails, Reading, trailers_finish, place_finish, hear_all}
use Rattle.px_read.specs.Readings.{behind_bytes, body_reading, counted_reading, closing_reading, request_body, request_behind, response_finish, response_body, response_behind}
use Rattle.px_read.specs.Reader.{Message, request, response, reading_of, State, MessagePlace, behind_end, place_of_message_keeps, rest_keeps, keeps, Reads}
use Rattle.px_read.proofs.ReaderLemmas.{end-whole}
use Rattle.px_bounds.specs.Bounds.{most_trailers}

-- ---- fields in their text

skip_short : (text : List ℕ) → length (skip_ows text) ≤ length text
skip_short [] = omega arith
skip_short (b ∷ text) = by_test (is_ows b) refl (skip_short text)
  where
    by_test : (v : Bool) → is_ows b ≡ v → length (skip_ows text) ≤ length text → length (skip_ows (b ∷ text)) ≤ suc (length text)
    by_test true blank below = rw blank (omega arith)
    by_test false other below = rw other (omega arith)

trim_short : (text : List ℕ) → length (trim_ows text) ≤ length text
unfolding trim_ows
trim_short text =
    let front = skip_short text in
    let turned = length-reverse (skip_ows text) in
    let back = skip_short (reverse (skip_ows text)) in
    let again = length-reverse (skip_ows (reverse (skip_ows text))) in
    omega arith

end_some : (end : LineEnd) → 1 ≤ length (print_end end)
end_some crlf = omega arith
end_some lf = omega arith

-- the colon and the line end are not kept
field_short : (field : Field) → field_keeps (name_and_value field) + 2 ≤ length (print_field field)
field_short field =
    let name : length (name_and_value field).0 ≡ length field.name = refl in
    let value : length (name_and_value field).1 ≤ length field.raw = trim_short field.raw in
    let end = end_some field.end in
    let same = ap (λ (t : List ℕ). length t) (sym (append-nil (print_field field)) ∙ print_field-append field []) in
    let all = length-append field.name (58 ∷ (field.raw ++ (print_end field.end ++ []))) in
    let behind = length-append field.raw (print_end field.end ++ []) in
    let last = length-append (print_end field.end) [] in
    omega arith

fields_short : (fields : List Field) → fields_keep (map name_and_value fields) + 2 * length fields ≤ length (flat_map print_field fields)
fields_short [] = omega arith
fields_short (field ∷ fields) =
    let one = field_short field in
    let all = fields_short fields in
    let sum = sum_by-cons field_keeps (name_and_value field) (map name_and_value fields) in
    let text = length-append (print_field field) (flat_map print_field fields) in
    omega arith

section_short : (fields : List Field) (last : LineEnd) → length (print_section fields last) ≤ 65536 → fields_keep (map name_and_value fields) ≤ most_trailers
section_short [] last fits = omega arith
section_short (field ∷ fields) last fits =
    let all = fields_short (field ∷ fields) in
    let end = end_some last in
    let text = length-append (flat_map print_field (field ∷ fields)) (print_end last) in
    omega arith

found_short : (block : List ℕ) (raw : RawHead) (used : ℕ) → trailer_front block ≡ front.Stands raw used → fields_keep raw.pairs ≤ most_trailers
found_short block raw used is =
    let found = trailers_read block raw used is in
    let fits = (used-within Trailers block raw used is).2 in
    let text = ap (λ (t : List ℕ). length t) (found.1.0.1 ∙ append-nil (print_section found.0.0 found.0.1)) in
    let size = length-take used block in
    subst (λ (r : RawHead). fields_keep r.pairs ≤ most_trailers) (sym found.2)
    (section_short found.0.0 found.0.1 (omega arith))

-- ---- a message that is whole

abbrev IsShort : Finish → Type 0
IsShort f = (trailers : List (List ℕ × List ℕ)) (used : ℕ) → f ≡ whole trailers used → fields_keep trailers ≤ most_trailers

none_short : (n : ℕ) → IsShort (whole [] n)
none_short n trailers used e =
    let none : [] ≡ trailers = (let g = e in cc) in
    subst (λ (t : List (List ℕ × List ℕ)). fields_keep t ≤ most_trailers) none (omega arith)

goes_short : IsShort goes_on
goes_short trailers used e = absurd (let g = e in cc)

fails_short : (fault : Fault) → IsShort (fails fault)
fails_short fault trailers used e = absurd (let g = e in cc)

as_short : (f g : Finish) → f ≡ g → IsShort g → IsShort f
as_short f g is short = subst IsShort (sym is) short

trailers_short : (count : ℕ) (block : List ℕ) (f : Front) → trailer_front block ≡ f → IsShort (trailers_finish count (length block) f)
trailers_short count block front.Nothing at = goes_short
trailers_short count block front.TooLong at = fails_short _
trailers_short count block front.BadHead at = fails_short _
trailers_short count block (front.Stands raw taken) at = λ trailers used e.
    let same : raw.pairs ≡ trailers = (let g = e in cc) in
    subst (λ (t : List (List ℕ × List ℕ)). fields_keep t ≤ most_trailers) same (found_short block raw taken at)

place_short : (count : ℕ) (place : ChunkPlace) → IsShort (place_finish count place)
place_short count (in_trailers block) = trailers_short count block (trailer_front block) refl
place_short count broken = fails_short _
place_short count (in_line line) = goes_short
place_short count (in_content left) = goes_short
place_short count at_cr = goes_short
place_short count at_lf = goes_short

counted_short : (n : ℕ) (bytes : List ℕ) → IsShort (counted_reading n bytes).finish
counted_short n bytes = elim (leb_tells n (length bytes)) [
  | inl t ↦ as_short (counted_reading n bytes).finish (whole [] n) (rw t.0 refl) (none_short n)
  | inr f ↦ as_short (counted_reading n bytes).finish goes_on (rw f.0 refl) goes_short
]

closing_short : (closed : Bool) (bytes : List ℕ) → IsShort (closing_reading closed bytes).finish
closing_short true bytes = none_short (length bytes)
closing_short false bytes = goes_short

body_short : (framing : Length) (closed : Bool) (bytes : List ℕ) → IsShort (body_reading framing closed bytes).finish
body_short lengths.None closed bytes = none_short 0
body_short (lengths.Bytes n) closed bytes = counted_short n bytes
body_short lengths.Chunked closed bytes = place_short (length bytes) (hear_all (in_line []) bytes).place
body_short lengths.ToClose closed bytes = closing_short closed bytes

behind_short : (taken : ℕ) (f : Finish) → IsShort f → IsShort (behind_bytes taken f)
behind_short taken goes_on short = goes_short
behind_short taken (whole fields count) short = λ trailers used e. short trailers count (let g = e in cc)
behind_short taken (fails fault) short = fails_short fault

request_body_short : (framing : Result Length Fault) (bytes : List ℕ) → IsShort (request_body framing bytes).finish
request_body_short (Err fault) bytes = fails_short fault
request_body_short (Ok framing) bytes = body_short framing false bytes

request_short : (bytes : List ℕ) (f : Front) → IsShort (request_behind f bytes).finish
request_short bytes front.Nothing = goes_short
request_short bytes front.TooLong = fails_short _
request_short bytes front.BadHead = fails_short _
request_short bytes (front.Stands raw taken) = behind_short taken _ (request_body_short (request_body_length raw.first raw.pairs) (drop taken bytes))

finish_short : (closed : Bool) (f : Finish) → IsShort f → IsShort (response_finish closed f)
finish_short true goes_on short = fails_short _
finish_short false goes_on short = goes_short
finish_short closed (whole fields count) short = short
finish_short closed (fails fault) short = fails_short _

response_body_short : (raw : RawHead) (taken : ℕ) (framing : Result Length Fault) (closed : Bool) (bytes : List ℕ)
    → IsShort (response_body raw taken framing closed bytes).finish
response_body_short raw taken (Err fault) closed bytes = fails_short fault
response_body_short raw taken (Ok framing) closed bytes = behind_short taken _ (body_short framing closed bytes)

response_short : (f : Front) (asked_head closed : Bool) (bytes : List ℕ) → IsShort (response_behind f asked_head closed bytes).finish
response_short front.Nothing asked_head closed bytes = goes_short
response_short front.TooLong asked_head closed bytes = fails_short _
response_short front.BadHead asked_head closed bytes = fails_short _
response_short (front.Stands raw taken) asked_head closed bytes =
    response_body_short raw taken (response_length (code_of raw) asked_head raw.pairs) closed (drop taken bytes)

message_short : (message : Message) (closed : Bool) (bytes : List ℕ) → IsShort (reading_of message closed bytes).finish
message_short request closed bytes = request_short bytes (request_front bytes)
message_short (response asked_head) closed bytes =
    finish_short closed _ (response_short (response_front bytes) asked_head closed bytes)

pub whole_few : (message : Message) (told : List Mark) (fed : List ℕ) (closed : Bool) (state : State) (trailers : List (List ℕ × List ℕ))
    → Reads message told fed closed state → state.place ≡ behind_end trailers → keeps state ≤ most_trailers
whole_few message told fed closed state trailers reads at =
    let end = end-whole message told fed closed state trailers reads at in
    let few = message_short message closed fed trailers end.0 (ap (λ (r : Reading). r.finish) end.1) in
    subst (λ (p : MessagePlace). place_of_message_keeps p + rest_keeps p state.rest ≤ most_trailers) (sym at) (omega arith)
