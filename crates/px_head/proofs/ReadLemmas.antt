-- A head that was found is a head of the grammar: the bytes that it used are its empty lines and its block.
use Rattle.std.proofs.Common.{ℕ, ◌+◌, ◌-◌, ◌≤◌, ◌≡◌, List, [], ◌∷◌, ◌++◌, length, take, drop, refl, sym, ap, ◌∙◌, subst, arith, inl, inr, Option, Some, None, append_assoc, append-nil, length-take, take-append-drop}
use Rattle.std.proofs.Math.Seq.{take-append-add}
use Rattle.std.specs.Prelude.{slice_range}
use Rattle.std.proofs.lemmas.Bool.Decides.{leb_tells}
use Rattle.httparse.specs.Grammar.{Field, LineEnd, crlf, lf, print_end, print_blank, print_section, RequestHead, ResponseHead, IsRequestHead, IsResponseHead, print_request, print_response}
use Rattle.px_text.specs.Blank.{blank_end}
use Rattle.px_head.specs.declared.raw.RawHead.{RawHead}
use Rattle.px_head.specs.declared.front.Front.TheVariants.{Stands}
use Rattle.px_head.specs.declared.front.Kind.TheVariants.{Request, Response, Trailers}
use Rattle.px_head.specs.declared.place.BlockPlace.{BlockPlace}
use Rattle.px_head.specs.declared.place.BlockPlace.TheVariants.{Missing, Exceeded, Block}
use Rattle.px_head.specs.Front.{blank_lines, trailers_end, place_at, head_place, front}
use Rattle.px_head.specs.Heads.{IsRequest, IsResponse, IsTrailers, raw_request, raw_response, raw_trailers}
use Rattle.px_head.specs.Within.{IsPlaceWithin}
use Rattle.px_head.proofs.BlockLemmas.{request_in-source, response_in-source, trailers_in-source}
use Rattle.px_head.proofs.FoundLemmas.{request_line, print_request-lines, status_line, print_response-lines}
use Rattle.px_head.proofs.FrontLemmas.{standing}
use Rattle.px_head.proofs.LineLemmas.{by_lines, blank_lines-lf, blank_lines-crlf}
use Rattle.px_head.proofs.PlaceLemmas.{place_within}

-- ---- the skipped bytes are empty lines of the grammar

skipped_lines : (bytes : List ℕ) → (ends : List LineEnd) × (print_blank ends ≡ take (blank_lines bytes) bytes)
skipped_lines = by_lines (λ bytes. (ends : List LineEnd) × (print_blank ends ≡ take (blank_lines bytes) bytes))
    (λ bytes e z. ([], rw z refl))
    (λ text ih. (lf ∷ ih.0, rw (blank_lines-lf text) (ap (λ (l : List ℕ). 10 ∷ l) ih.1)))
    (λ text ih. (crlf ∷ ih.0, rw (blank_lines-crlf text) (ap (λ (l : List ℕ). 13 ∷ 10 ∷ l) ih.1)))

block_start : (bytes : List ℕ) (start : ℕ) (end : Option ℕ) (from used : ℕ) → place_at bytes start end ≡ Block from used
    → start ≡ from
block_start bytes start None from used is = elim (leb_tells 65536 (length bytes)) [
  | inl t ↦ absurd (let e : Exceeded ≡ Block from used = rw t.0 at is in cc)
  | inr f ↦ absurd (let e : Missing ≡ Block from used = rw f.0 at is in cc)
]
block_start bytes start (Some end) from used is = elim (leb_tells 65537 end) [
  | inl t ↦ absurd (let e : Exceeded ≡ Block from used = rw t.0 at is in cc)
  | inr f ↦ (let e : Block start end ≡ Block from used = rw f.0 at is in cc)
]

take_slice : (bytes : List ℕ) (start end : ℕ) → start ≤ end → end ≤ length bytes
    → take end bytes ≡ take start bytes ++ slice_range bytes start end
take_slice bytes start end ordered fits =
    let front : length (take start bytes) ≡ start = omega (arith, length-take start bytes) in
    let count : start + (end - start) ≡ end = omega arith in
    ap (λ (l : List ℕ). take end l) (sym (take-append-drop start bytes))
    ∙ ap (λ (n : ℕ). take n (take start bytes ++ drop start bytes)) (sym count ∙ ap (λ (n : ℕ). n + (end - start)) (sym front))
    ∙ take-append-add (take start bytes) (drop start bytes) (end - start)

-- the bytes that a block used, with those that were skipped
used_bytes : (bytes : List ℕ) (start used : ℕ) → head_place bytes ≡ Block start used → IsPlaceWithin (length bytes) (head_place bytes)
    → take used bytes ≡ print_blank (skipped_lines bytes).0 ++ slice_range bytes start used
used_bytes bytes start used at fits =
    let within = subst (λ (p : BlockPlace). IsPlaceWithin (length bytes) p) at fits in
    let ordered = within.0 in
    let same = block_start bytes (blank_lines bytes) (blank_end bytes (blank_lines bytes)) start used at in
    let blank : print_blank (skipped_lines bytes).0 ≡ take start bytes =
    (skipped_lines bytes).1 ∙ ap (λ (n : ℕ). take n bytes) same in
    take_slice bytes start used (omega arith) within.1
    ∙ ap (λ (l : List ℕ). l ++ slice_range bytes start used) (sym blank)

-- ---- empty lines before a head belong to it

blank-append : (front ends : List LineEnd) → print_blank (front ++ ends) ≡ print_blank front ++ print_blank ends
blank-append [] ends = refl
blank-append (end ∷ front) ends =
    ap (λ (l : List ℕ). print_end end ++ l) (blank-append front ends)
    ∙ sym (append_assoc (print_end end) (print_blank front) (print_blank ends))

request_behind : (ends : List LineEnd) (h : RequestHead)
    → print_request (record h { blank = ends ++ h.blank }) ≡ print_blank ends ++ print_request h
request_behind ends h =
    print_request-lines (record h { blank = ends ++ h.blank })
    ∙ ap (λ (l : List ℕ). l ++ ((request_line h ++ print_end h.line_end) ++ print_section h.fields h.last)) (blank-append ends h.blank)
    ∙ append_assoc (print_blank ends) (print_blank h.blank) ((request_line h ++ print_end h.line_end) ++ print_section h.fields h.last)
    ∙ ap (λ (l : List ℕ). print_blank ends ++ l) (sym (print_request-lines h))

request_parts : (h : RequestHead) (ends : List LineEnd) → IsRequestHead h → IsRequestHead (record h { blank = ends })
request_parts h ends x = record {
  method = x.method;
  target = x.target;
  target_text = x.target_text;
  minor = x.minor;
  fields = x.fields;
}

pub request_read : (bytes : List ℕ) (raw : RawHead) (used : ℕ) → front Request bytes ≡ Stands raw used
    → (h : RequestHead) × IsRequest (take used bytes) h × (raw ≡ raw_request h)
request_read bytes raw used is =
    let s = standing Request bytes raw used is in
    let w = request_in-source (slice_range bytes s.start used) raw s.reads in
    let h = w.0 in
    let ends = (skipped_lines bytes).0 in
    let text : take used bytes ≡ print_request (record h { blank = ends ++ h.blank }) ++ [] =
    used_bytes bytes s.start used s.at (place_within Request bytes)
    ∙ ap (λ (l : List ℕ). print_blank ends ++ l) (w.1.0.1 ∙ append-nil (print_request h))
    ∙ sym (request_behind ends h) ∙ sym (append-nil (print_request (record h { blank = ends ++ h.blank }))) in
    (record h { blank = ends ++ h.blank }, ((request_parts h (ends ++ h.blank) w.1.0.0, text), w.1.1), w.2)

response_behind : (ends : List LineEnd) (h : ResponseHead)
    → print_response (record h { blank = ends ++ h.blank }) ≡ print_blank ends ++ print_response h
response_behind ends h =
    print_response-lines (record h { blank = ends ++ h.blank })
    ∙ ap (λ (l : List ℕ). l ++ ((status_line h ++ print_end h.line_end) ++ print_section h.fields h.last)) (blank-append ends h.blank)
    ∙ append_assoc (print_blank ends) (print_blank h.blank) ((status_line h ++ print_end h.line_end) ++ print_section h.fields h.last)
    ∙ ap (λ (l : List ℕ). print_blank ends ++ l) (sym (print_response-lines h))

response_parts : (h : ResponseHead) (ends : List LineEnd) → IsResponseHead h → IsResponseHead (record h { blank = ends })
response_parts h ends x = record { minor = x.minor; digits = x.digits; reason = x.reason; fields = x.fields }

pub response_read : (bytes : List ℕ) (raw : RawHead) (used : ℕ) → front Response bytes ≡ Stands raw used
    → (h : ResponseHead) × IsResponse (take used bytes) h × (raw ≡ raw_response h)
response_read bytes raw used is =
    let s = standing Response bytes raw used is in
    let w = response_in-source (slice_range bytes s.start used) raw s.reads in
    let h = w.0 in
    let ends = (skipped_lines bytes).0 in
    let text : take used bytes ≡ print_response (record h { blank = ends ++ h.blank }) ++ [] =
    used_bytes bytes s.start used s.at (place_within Response bytes)
    ∙ ap (λ (l : List ℕ). print_blank ends ++ l) (w.1.0.1 ∙ append-nil (print_response h))
    ∙ sym (response_behind ends h) ∙ sym (append-nil (print_response (record h { blank = ends ++ h.blank }))) in
    (record h { blank = ends ++ h.blank }, ((response_parts h (ends ++ h.blank) w.1.0.0, text), w.1.1, w.1.2), w.2)

-- ---- trailers begin at once

pub trailers_read : (bytes : List ℕ) (raw : RawHead) (used : ℕ) → front Trailers bytes ≡ Stands raw used
    → (s : List Field × LineEnd) × IsTrailers (take used bytes) s × (raw ≡ raw_trailers s)
trailers_read bytes raw used is =
    let s = standing Trailers bytes raw used is in
    let same = block_start bytes 0 (trailers_end bytes) s.start used s.at in
    let fits = subst (λ (p : BlockPlace). IsPlaceWithin (length bytes) p) s.at (place_within Trailers bytes) in
    let text : slice_range bytes s.start used ≡ take used bytes =
    ap (λ (n : ℕ). slice_range bytes n used) (sym same) ∙ sym (take_slice bytes 0 used (omega arith) fits.1) in
    let w = trailers_in-source (slice_range bytes s.start used) raw s.reads in
    (w.0, subst (λ (l : List ℕ). IsTrailers l w.0) text w.1, w.2)
