-- A head of the grammar is a block, so it is found: its lines are not empty, and an empty line follows them.
use Rattle.std.proofs.Common.{ℕ, zero, suc, ◌-◌, ◌<◌, ◌≤◌, ◌≡◌, Bool, true, false, List, [], ◌∷◌, ◌++◌, length, take, drop, refl, sym, ap, ◌∙◌, subst, arith, inl, inr, Option, Some, None, append_assoc, append-nil, length-append}
use Rattle.std.specs.Prelude.{◌⊎◌, All, slice_range}
use Rattle.std.specs.List.{flat_map}
use Rattle.std.specs.Char.{is_ascii_digit}
use Rattle.std.proofs.lemmas.Bool.Decides.{eqb_tells, leb_tells}
use Rattle.std.proofs.Math.Seq.{drop-append_seam, take-append_seam}
use Rattle.std.proofs.lemmas.List.Elements.{All-head, All-tail, All-weaker, All-append, All-cons, All-nil}
use Rattle.std.proofs.lemmas.List.Sums.{AllPass-from_list_all}
use Rattle.httparse.specs.Grammar.{AllPass, is_token_byte, is_uri_byte, is_value_byte, Field, IsField, print_field, LineEnd, crlf, lf, print_end, print_blank, print_section, print_version, print_reason, reason_phrase, RequestHead, ResponseHead, print_request, print_response, IsRequestHead, IsResponseHead}
use Rattle.httparse.proofs.GrammarLemmas.{cons-append}
use Rattle.px_text.specs.Blank.{blank_end}
use Rattle.px_text.proofs.LinesLemmas.{HasNoBlank, HasNoBlank_start, IsInLine, IsLineEnd, line_pushed, EndsLine, line_ends, block_ends}
use Rattle.px_head.specs.declared.raw.RawHead.{RawHead}
use Rattle.px_head.specs.declared.front.Front.TheVariants.{Stands}
use Rattle.px_head.specs.declared.front.Kind.TheVariants.{Request, Response, Trailers}
use Rattle.px_head.specs.declared.place.BlockPlace.TheVariants.{Block}
use Rattle.px_head.specs.Front.{blank_lines, line_end, place_at, head_place, trailers_place, trailers_end_by, front}
use Rattle.px_head.specs.Heads.{IsRequest, IsResponse, IsTrailers, raw_request, raw_response, raw_trailers, request_in, response_in, trailers_in}
use Rattle.px_head.proofs.BlockLemmas.{request_in-Some, response_in-Some, trailers_in-Some}
use Rattle.px_head.proofs.FrontLemmas.{front-Block}
use Rattle.px_head.proofs.LineLemmas.{blank_lines-lf, blank_lines-crlf, blank_lines-append, blank_lines_none, line_end-lf, line_end-crlf}

-- ---- bytes inside a line

in_line : (test : ℕ → Bool) → test 10 ≡ false → test 13 ≡ false → (text : List ℕ) → AllPass test text → All IsInLine text
in_line test no_lf no_cr = All-weaker (λ b. test b ≡ true) IsInLine (λ b passes. (
  λ e. (let f : true ≡ false = sym passes ∙ ap test e ∙ no_lf in cc),
  λ e. (let f : true ≡ false = sym passes ∙ ap test e ∙ no_cr in cc),
))

no_token : (b : ℕ) → (b ≡ 10) ⊎ (b ≡ 13) → is_token_byte b ≡ false
unfolding is_token_byte
no_token b (inl e) = rw e refl
no_token b (inr e) = rw e refl

token_in_line : (text : List ℕ) → AllPass is_token_byte text → All IsInLine text
token_in_line = in_line is_token_byte (no_token 10 (inl refl)) (no_token 13 (inr refl))

value_in_line : (text : List ℕ) → AllPass is_value_byte text → All IsInLine text
value_in_line = in_line is_value_byte refl refl

other_in_line : (b : ℕ) → (b < 10) ⊎ (13 < b) → IsInLine b
other_in_line b (inl low) = (λ e. omega arith, λ e. omega arith)
other_in_line b (inr high) = (λ e. omega arith, λ e. omega arith)

version_in_line : (minor : ℕ) → minor ≤ 1 → All IsInLine (print_version minor)
version_in_line zero low = value_in_line (print_version 0) (AllPass-from_list_all is_value_byte (print_version 0) refl)
version_in_line (suc zero) low = value_in_line (print_version 1) (AllPass-from_list_all is_value_byte (print_version 1) refl)
version_in_line (suc (suc n)) low = absurd (omega arith)

print_end_is : (end : LineEnd) → IsLineEnd (print_end end)
print_end_is crlf = inr refl
print_end_is lf = inl refl

-- ---- the block ends behind its fields

section_ends : (start : ℕ) (front : List ℕ) (fields : List Field) (last : LineEnd) (more : List ℕ) → All IsField fields
    → HasNoBlank start front → EndsLine start front
    → blank_end ((front ++ print_section fields last) ++ more) start ≡ Some (length (front ++ print_section fields last))
section_ends start front [] last more all h ends = block_ends start front (print_end last) more h ends (print_end_is last)
section_ends start front (f ∷ fields) last more all h ends =
    let first = All-head IsField f fields all in
    let text : List ℕ = f.name ++ 58 ∷ f.raw in
    let some : 0 < length (f.name ++ 58 ∷ f.raw) = (let size = length-append f.name (58 ∷ f.raw) in omega arith) in
    let bytes : All IsInLine (f.name ++ 58 ∷ f.raw) = All-append IsInLine f.name (58 ∷ f.raw) (token_in_line f.name first.name.1)
    (All-cons IsInLine 58 f.raw (other_in_line 58 (inr (omega arith))) (value_in_line f.raw first.raw)) in
    let is : IsLineEnd (print_end f.end) = print_end_is f.end in
    let regroup : (front ++ print_field f) ++ print_section fields last ≡ front ++ print_section (f ∷ fields) last =
    lines front (print_field f) (flat_map print_field fields) (print_end last) in
    subst (λ (l : List ℕ). blank_end (l ++ more) start ≡ Some (length l)) regroup
    (section_ends start (front ++ print_field f) fields last more (All-tail IsField f fields all)
    (line_pushed start front (f.name ++ 58 ∷ f.raw) (print_end f.end) some bytes is h)
    (line_ends start front (f.name ++ 58 ∷ f.raw) (print_end f.end) h.within some is))
  where
    lines : (a b c d : List ℕ) → (a ++ b) ++ (c ++ d) ≡ a ++ ((b ++ c) ++ d)
    lines a b c d = simp append_assoc

-- ---- the empty lines in front

blank_lines-print : (ends : List LineEnd) → blank_lines (print_blank ends) ≡ length (print_blank ends)
blank_lines-print [] = refl
blank_lines-print (crlf ∷ ends) = blank_lines-crlf (print_blank ends) ∙ ap (λ (n : ℕ). suc (suc n)) (blank_lines-print ends)
blank_lines-print (lf ∷ ends) = blank_lines-lf (print_blank ends) ∙ ap suc (blank_lines-print ends)

no_line_end : (b : ℕ) (rest : List ℕ) → IsInLine b → line_end (b ∷ rest) ≡ 0
no_line_end b [] plain = elim (eqb_tells b 10) [
  | inl t ↦ absurd (plain.0 t.1)
  | inr f ↦ rw f.0 refl
]
no_line_end b (c ∷ rest) plain = elim (eqb_tells b 10) [
  | inl t ↦ absurd (plain.0 t.1)
  | inr f ↦ elim (eqb_tells b 13) [
    | inl t ↦ absurd (plain.1 t.1)
    | inr g ↦ rw (f.0, g.0) refl
  ]
]

line_begins : (text rest : List ℕ) → 0 < length text → All IsInLine text → line_end (text ++ rest) ≡ 0
line_begins [] rest some all = absurd (omega arith)
line_begins (b ∷ text) rest some all = no_line_end b (text ++ rest) (All-head IsInLine b text all)

-- ---- a head with a start line

place_of : (bytes : List ℕ) (start end : ℕ) → end ≤ 65536 → place_at bytes start (Some end) ≡ Block start end
place_of bytes start end fits = elim (leb_tells 65537 end) [
  | inl t ↦ (let a = t.1 in absurd (omega arith))
  | inr f ↦ rw f.0 refl
]

abbrev head_text : List LineEnd → List ℕ → LineEnd → List Field → LineEnd → List ℕ
head_text ends text line fields last = print_blank ends ++ ((text ++ print_end line) ++ print_section fields last)

head_place-text : (ends : List LineEnd) (text : List ℕ) (line : LineEnd) (fields : List Field) (last : LineEnd) (more : List ℕ)
    → 0 < length text → All IsInLine text → All IsField fields → length (head_text ends text line fields last) ≤ 65536
    → head_place (head_text ends text line fields last ++ more)
    ≡ Block (length (print_blank ends)) (length (head_text ends text line fields last))
head_place-text ends text line fields last more some all valid fits =
    let blank = print_blank ends in
    let core = (text ++ print_end line) ++ print_section fields last in
    let regroup : (print_blank ends ++ ((text ++ print_end line) ++ print_section fields last)) ++ more
    ≡ print_blank ends ++ (text ++ (print_end line ++ (print_section fields last ++ more))) =
    parts (print_blank ends) text (print_end line) (print_section fields last) more in
    let start : blank_lines (head_text ends text line fields last ++ more) ≡ length (print_blank ends) =
    ap (λ (l : List ℕ). blank_lines l) regroup
    ∙ blank_lines-append (print_blank ends) (blank_lines-print ends) (text ++ (print_end line ++ (print_section fields last ++ more)))
    ∙ (let none = blank_lines_none (text ++ (print_end line ++ (print_section fields last ++ more))) (line_begins text _ some all) in omega arith) in
    let h = line_pushed (length (print_blank ends)) (print_blank ends) text (print_end line) some all (print_end_is line)
    (HasNoBlank_start (print_blank ends)) in
    let e = line_ends (length (print_blank ends)) (print_blank ends) text (print_end line) (omega arith) some (print_end_is line) in
    let whole : (print_blank ends ++ (text ++ print_end line)) ++ print_section fields last ≡ head_text ends text line fields last =
    append_assoc (print_blank ends) (text ++ print_end line) (print_section fields last) in
    let end : blank_end (head_text ends text line fields last ++ more) (length (print_blank ends)) ≡ Some (length (head_text ends text line fields last)) =
    subst (λ (l : List ℕ). blank_end (l ++ more) (length (print_blank ends)) ≡ Some (length l)) whole
    (section_ends (length (print_blank ends)) (print_blank ends ++ (text ++ print_end line)) fields last more valid h e) in
    rw (start, end) (place_of (head_text ends text line fields last ++ more) (length (print_blank ends)) (length (head_text ends text line fields last)) fits)
  where
    parts : (a b c d e : List ℕ) → (a ++ ((b ++ c) ++ d)) ++ e ≡ a ++ (b ++ (c ++ (d ++ e)))
    parts a b c d e = simp append_assoc

slice_behind : (a b more : List ℕ) → slice_range ((a ++ b) ++ more) (length a) (length (a ++ b)) ≡ b
slice_behind a b more =
    let size = length-append a b in
    let count : length (a ++ b) - length a ≡ length b = omega arith in
    ap (λ (n : ℕ). take n (drop (length a) ((a ++ b) ++ more))) count
    ∙ ap (λ (l : List ℕ). take (length b) (drop (length a) l)) (append_assoc a b more)
    ∙ ap (λ (l : List ℕ). take (length b) l) (drop-append_seam a (b ++ more))
    ∙ take-append_seam b more

front_stands : (bytes : List ℕ) (start end : ℕ) (block : List ℕ) (raw : RawHead) → head_place bytes ≡ Block start end
    → slice_range bytes start end ≡ block → request_in block ≡ Some raw → front Request bytes ≡ Stands raw end
front_stands bytes start end block raw at slice reads =
    front-Block Request bytes start end (Some raw) at (ap (λ (l : List ℕ). request_in l) slice ∙ reads)

front_answers : (bytes : List ℕ) (start end : ℕ) (block : List ℕ) (raw : RawHead) → head_place bytes ≡ Block start end
    → slice_range bytes start end ≡ block → response_in block ≡ Some raw → front Response bytes ≡ Stands raw end
front_answers bytes start end block raw at slice reads =
    front-Block Response bytes start end (Some raw) at (ap (λ (l : List ℕ). response_in l) slice ∙ reads)

-- ---- requests

abbrev pub request_line : RequestHead → List ℕ
request_line h = h.method ++ 32 ∷ (h.target ++ 32 ∷ print_version h.minor)

pub print_request-lines : (h : RequestHead) → print_request h ≡ head_text h.blank (request_line h) h.line_end h.fields h.last
unfolding print_request
print_request-lines h = lines (print_blank h.blank) h.method h.target (print_version h.minor) (print_end h.line_end) (print_section h.fields h.last)
  where
    lines : (a b c d e f : List ℕ) → a ++ b ++ 32 ∷ c ++ 32 ∷ d ++ e ++ f ≡ a ++ (((b ++ 32 ∷ (c ++ 32 ∷ d)) ++ e) ++ f)
    lines a b c d e f = simp (append_assoc, cons-append)

request_line-in_line : (h : RequestHead) → IsRequestHead h → All IsInLine (request_line h)
request_line-in_line h x =
    let space : IsInLine 32 = other_in_line 32 (inr (omega arith)) in
    All-append IsInLine h.method (32 ∷ (h.target ++ 32 ∷ print_version h.minor)) (token_in_line h.method x.method.1)
    (All-cons IsInLine 32 (h.target ++ 32 ∷ print_version h.minor) space
    (All-append IsInLine h.target (32 ∷ print_version h.minor) (in_line is_uri_byte refl refl h.target x.target.1)
    (All-cons IsInLine 32 (print_version h.minor) space (version_in_line h.minor x.minor))))

-- the head without the empty lines before it
abbrev request_core : RequestHead → List ℕ
request_core h = (request_line h ++ print_end h.line_end) ++ print_section h.fields h.last

request_core-is : (block : List ℕ) (h : RequestHead) → IsRequest block h → IsRequest (request_core h) (record h { blank = [] })
request_core-is block h x = (
  (
    record {
      method = x.0.0.method;
      target = x.0.0.target;
      target_text = x.0.0.target_text;
      minor = x.0.0.minor;
      fields = x.0.0.fields;
    },
    sym (append-nil (print_request (record h { blank = [] })) ∙ print_request-lines (record h { blank = [] })),
  ),
  x.1,
)

pub request_found : (block rest : List ℕ) (h : RequestHead) → IsRequest block h → length block ≤ 65536
    → front Request (block ++ rest) ≡ Stands (raw_request h) (length block)
request_found block rest h x fits =
    let is : block ≡ head_text h.blank (request_line h) h.line_end h.fields h.last =
    x.0.1 ∙ append-nil (print_request h) ∙ print_request-lines h in
    let some : 0 < length (request_line h) =
    (let size = length-append h.method (32 ∷ (h.target ++ 32 ∷ print_version h.minor)) in omega arith) in
    let short : length (head_text h.blank (request_line h) h.line_end h.fields h.last) ≤ 65536 =
    subst (λ (l : List ℕ). length l ≤ 65536) is fits in
    subst (λ (l : List ℕ). front Request (l ++ rest) ≡ Stands (raw_request h) (length l)) (sym is)
    (front_stands (head_text h.blank (request_line h) h.line_end h.fields h.last ++ rest)
    (length (print_blank h.blank)) (length (head_text h.blank (request_line h) h.line_end h.fields h.last))
    (request_core h) (raw_request h)
    (head_place-text h.blank (request_line h) h.line_end h.fields h.last rest some (request_line-in_line h x.0.0) x.0.0.fields short)
    (slice_behind (print_blank h.blank) (request_core h) rest)
    (request_in-Some (request_core h) (record h { blank = [] }) (request_core-is block h x)))

-- ---- responses

abbrev pub status_line : ResponseHead → List ℕ
status_line h = print_version h.minor ++ 32 ∷ (h.digits ++ print_reason h.reason)

pub print_response-lines : (h : ResponseHead) → print_response h ≡ head_text h.blank (status_line h) h.line_end h.fields h.last
unfolding print_response
print_response-lines h = lines (print_blank h.blank) (print_version h.minor) h.digits (print_reason h.reason) (print_end h.line_end) (print_section h.fields h.last)
  where
    lines : (a b c d e f : List ℕ) → a ++ b ++ 32 ∷ c ++ d ++ e ++ f ≡ a ++ (((b ++ 32 ∷ (c ++ d)) ++ e) ++ f)
    lines a b c d e f = simp (append_assoc, cons-append)

reason_in_line : (reason : Option (List ℕ)) → AllPass is_value_byte (reason_phrase reason) → All IsInLine (print_reason reason)
reason_in_line None all = All-nil IsInLine
reason_in_line (Some phrase) all =
    All-cons IsInLine 32 phrase (other_in_line 32 (inr (omega arith))) (value_in_line phrase all)

status_line-in_line : (h : ResponseHead) → IsResponseHead h → All IsInLine (status_line h)
status_line-in_line h x =
    All-append IsInLine (print_version h.minor) (32 ∷ (h.digits ++ print_reason h.reason)) (version_in_line h.minor x.minor)
    (All-cons IsInLine 32 (h.digits ++ print_reason h.reason) (other_in_line 32 (inr (omega arith)))
    (All-append IsInLine h.digits (print_reason h.reason) (in_line is_ascii_digit refl refl h.digits x.digits.1)
    (reason_in_line h.reason x.reason)))

abbrev response_core : ResponseHead → List ℕ
response_core h = (status_line h ++ print_end h.line_end) ++ print_section h.fields h.last

response_core-is : (block : List ℕ) (h : ResponseHead) → IsResponse block h → IsResponse (response_core h) (record h { blank = [] })
response_core-is block h x = (
  (
    record {
      minor = x.0.0.minor;
      digits = x.0.0.digits;
      reason = x.0.0.reason;
      fields = x.0.0.fields;
    },
    sym (append-nil (print_response (record h { blank = [] })) ∙ print_response-lines (record h { blank = [] })),
  ),
  x.1,
  x.2,
)

pub response_found : (block rest : List ℕ) (h : ResponseHead) → IsResponse block h → length block ≤ 65536
    → front Response (block ++ rest) ≡ Stands (raw_response h) (length block)
response_found block rest h x fits =
    let is : block ≡ head_text h.blank (status_line h) h.line_end h.fields h.last =
    x.0.1 ∙ append-nil (print_response h) ∙ print_response-lines h in
    let some : 0 < length (status_line h) =
    (let size = length-append (print_version h.minor) (32 ∷ (h.digits ++ print_reason h.reason)) in omega arith) in
    let short : length (head_text h.blank (status_line h) h.line_end h.fields h.last) ≤ 65536 =
    subst (λ (l : List ℕ). length l ≤ 65536) is fits in
    subst (λ (l : List ℕ). front Response (l ++ rest) ≡ Stands (raw_response h) (length l)) (sym is)
    (front_answers (head_text h.blank (status_line h) h.line_end h.fields h.last ++ rest)
    (length (print_blank h.blank)) (length (head_text h.blank (status_line h) h.line_end h.fields h.last))
    (response_core h) (raw_response h)
    (head_place-text h.blank (status_line h) h.line_end h.fields h.last rest some (status_line-in_line h x.0.0) x.0.0.fields short)
    (slice_behind (print_blank h.blank) (response_core h) rest)
    (response_in-Some (response_core h) (record h { blank = [] }) (response_core-is block h x)))

-- ---- trailers

line_end-print : (end : LineEnd) (rest : List ℕ) → line_end (print_end end ++ rest) ≡ length (print_end end)
line_end-print crlf rest = line_end-crlf rest
line_end-print lf rest = line_end-lf rest

trailers_place_by : (bytes : List ℕ) (width end : ℕ) → line_end bytes ≡ width → trailers_end_by bytes width ≡ Some end → end ≤ 65536
    → trailers_place bytes ≡ Block 0 end
trailers_place_by bytes width end is ends fits =
    ap (λ (n : ℕ). place_at bytes 0 (trailers_end_by bytes n)) is
    ∙ ap (λ (o : Option ℕ). place_at bytes 0 o) ends
    ∙ place_of bytes 0 end fits

trailers_place-text : (fields : List Field) (last : LineEnd) (more : List ℕ) → All IsField fields
    → length (print_section fields last) ≤ 65536
    → trailers_place (print_section fields last ++ more) ≡ Block 0 (length (print_section fields last))
trailers_place-text [] crlf more valid fits = trailers_place_by (print_end crlf ++ more) 2 2 (line_end-print crlf more) refl (omega arith)
trailers_place-text [] lf more valid fits = trailers_place_by (print_end lf ++ more) 1 1 (line_end-print lf more) refl (omega arith)
trailers_place-text (f ∷ fields) last more valid fits =
    let first = All-head IsField f fields valid in
    let some : 0 < length (f.name ++ 58 ∷ f.raw) = (let size = length-append f.name (58 ∷ f.raw) in omega arith) in
    let bytes : All IsInLine (f.name ++ 58 ∷ f.raw) = All-append IsInLine f.name (58 ∷ f.raw) (token_in_line f.name first.name.1)
    (All-cons IsInLine 58 f.raw (other_in_line 58 (inr (omega arith))) (value_in_line f.raw first.raw)) in
    let h = line_pushed 0 [] (f.name ++ 58 ∷ f.raw) (print_end f.end) some bytes (print_end_is f.end) (HasNoBlank_start []) in
    let e = line_ends 0 [] (f.name ++ 58 ∷ f.raw) (print_end f.end) (omega arith) some (print_end_is f.end) in
    let whole : print_field f ++ print_section fields last ≡ print_section (f ∷ fields) last =
    sym (append_assoc (print_field f) (flat_map print_field fields) (print_end last)) in
    let end = section_ends 0 (print_field f) fields last more (All-tail IsField f fields valid) h e in
    let begins : line_end ((print_field f ++ print_section fields last) ++ more) ≡ 0 =
    ap (λ (l : List ℕ). line_end l) (parts (f.name ++ 58 ∷ f.raw) (print_end f.end) (print_section fields last) more)
    ∙ line_begins (f.name ++ 58 ∷ f.raw) (print_end f.end ++ (print_section fields last ++ more)) some bytes in
    let short : length (print_field f ++ print_section fields last) ≤ 65536 =
    subst (λ (l : List ℕ). length l ≤ 65536) (sym whole) fits in
    subst (λ (l : List ℕ). trailers_place (l ++ more) ≡ Block 0 (length l)) whole
    (trailers_place_by ((print_field f ++ print_section fields last) ++ more) 0 (length (print_field f ++ print_section fields last))
    begins end short)
  where
    parts : (a b c d : List ℕ) → (((a ++ b) ++ c) ++ d) ≡ a ++ (b ++ (c ++ d))
    parts a b c d = simp append_assoc

pub trailers_found : (block rest : List ℕ) (s : List Field × LineEnd) → IsTrailers block s → length block ≤ 65536
    → front Trailers (block ++ rest) ≡ Stands (raw_trailers s) (length block)
trailers_found block rest s x fits =
    let is : block ≡ print_section s.0 s.1 = x.0.1 ∙ append-nil (print_section s.0 s.1) in
    let short : length (print_section s.0 s.1) ≤ 65536 = subst (λ (l : List ℕ). length l ≤ 65536) is fits in
    let at : trailers_place (block ++ rest) ≡ Block 0 (length block) =
    subst (λ (l : List ℕ). trailers_place (l ++ rest) ≡ Block 0 (length l)) (sym is) (trailers_place-text s.0 s.1 rest x.0.0 short) in
    front-Block Trailers (block ++ rest) 0 (length block) (Some (raw_trailers s)) at
    (ap (λ (l : List ℕ). trailers_in l) (slice_behind [] block rest) ∙ trailers_in-Some block s x)
