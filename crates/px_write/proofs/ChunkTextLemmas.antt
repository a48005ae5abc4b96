-- A body that is written in chunks is a chunked body: its line is one of the grammar, and so are its last chunk and trailers.
use Rattle.std.proofs.Common.{ℕ, map, not, take, ◌-◌, zero, suc, ◌+◌, ◌/◌, ◌%◌, ◌<◌, ◌≤◌, ◌^◌, ◌≡◌, ◌==◌, Bool, true, false, cond, List, [], ◌∷◌, ◌++◌, length, refl, sym, ap, ◌∙◌, subst, arith, Option, Some, None, inl, inr, append_assoc, append-nil, length-append}
use Rattle.std.specs.Prelude.{slice_range, if◌then◌else◌}
use Rattle.std.specs.Char.{digit_value, is_ascii_hexdigit}
use Rattle.std.specs.Fmt.{digit_glyph, digits, digits_onto}
use Rattle.std.specs.Str.Parse.{AllDigits, digits_value}
use Rattle.std.proofs.lemmas.Bool.Decides.{eqb_tells, leb_tells, nat_tests}
use Rattle.std.proofs.Math.Nat.{pow-suc}
use Rattle.std.proofs.Math.Seq.{take-length}
use Rattle.std.proofs.lemmas.Fmt.{digits_is_IsNumeral}
use Rattle.std.proofs.lemmas.List.Elements.{All-cons, All-nil}
use Rattle.httparse.specs.Grammar.{AllPass, ChunkLine, print_chunk_line}
use Rattle.px_text.specs.Number.{hexadecimal}
use Rattle.px_head.specs.Front.{place_at, trailer_front, trailers_end}
use Rattle.px_head.specs.Heads.{trailers_in}
use Rattle.px_head.specs.declared.raw.RawHead.{RawHead}
use Rattle.px_head.specs.declared.front.Front.TheVariants.{Stands}
use Rattle.px_head.specs.declared.front.Kind.TheVariants.{Trailers}
use Rattle.px_head.specs.declared.place.BlockPlace.TheVariants.{Missing, Exceeded, Block}
use Rattle.px_head.proofs.BlockLemmas.{trailers_in-source}
use Rattle.px_head.proofs.FrontLemmas.{standing, used-within}
use Rattle.px_read.specs.ChunkLine.{IsLine}
use Rattle.px_read.specs.Chunked.{IsChunked, last, chunk, chunks_told}
use Rattle.px_read.specs.Chunks.{chunked_reading, whole}
use Rattle.px_read.specs.Items.{Body, body_of}
use Rattle.px_read.specs.Marks.{Mark, begins, byte, ends}
use Rattle.px_read.proofs.ChunkedLemmas.{chunked_read}
use Rattle.px_write.specs.ReadBack.{one_chunk, trailer_parts}
use Rattle.px_text.specs.Blank.{crlf}
use Rattle.px_write.specs.Text.{chunk_text, fields_text, last_chunk_text}

-- ---- hexadecimal digits

short_onto : (k m n : ℕ) (acc : List ℕ) → n < 16 ^ suc m → length (digits_onto k 16 false n acc) ≤ suc m + length acc
short_onto zero m n acc small = omega arith
short_onto (suc k) zero n acc small = by_test (n / 16 == 0) last_one
  where
    last_one : (n / 16 == 0) ≡ true
    last_one = elim (eqb_tells (n / 16) 0) [ inl t ↦ t.0 | inr f ↦ absurd (f.1 (omega arith)) ]

    by_test : (b : Bool) → b ≡ true
        → length (cond b (digit_glyph false (n % 16) ∷ acc) (digits_onto k 16 false (n / 16) (digit_glyph false (n % 16) ∷ acc)))
        ≤ 1 + length acc
    by_test true is = omega arith
    by_test false is = absurd (let e = is in cc)
short_onto (suc k) (suc m) n acc small =
    by_test (n / 16 == 0) (short_onto k m (n / 16) (digit_glyph false (n % 16) ∷ acc) fewer)
  where
    fewer : n / 16 < 16 ^ suc m
    fewer = let size = pow-suc 16 (suc m) in omega (arith, size)

    by_test : (b : Bool) → length (digits_onto k 16 false (n / 16) (digit_glyph false (n % 16) ∷ acc)) ≤ suc m + suc (length acc)
        → length (cond b (digit_glyph false (n % 16) ∷ acc) (digits_onto k 16 false (n / 16) (digit_glyph false (n % 16) ∷ acc)))
        ≤ suc (suc m) + length acc
    by_test true most = omega arith
    by_test false most = omega (arith, most)

short_digits : (n : ℕ) → n < 16 ^ 16 → length (hexadecimal n) ≤ 16
unfolding digits
short_digits n small = let most = short_onto 64 15 n [] small in omega (arith, most)

hex_digit : (c : ℕ) → digit_value c < 16 → is_ascii_hexdigit c ≡ true
hex_digit c low = grind (arith, nat_tests)

hex_digits : (text : List ℕ) → AllDigits 16 text → AllPass is_ascii_hexdigit text
hex_digits [] all = All-nil (λ b. is_ascii_hexdigit b ≡ true)
hex_digits (c ∷ text) all = All-cons (λ b. is_ascii_hexdigit b ≡ true) c text (hex_digit c all.0) (hex_digits text all.1)

-- ---- lines

-- the line of these digits and nothing else
abbrev line_of : List ℕ → ChunkLine
line_of text = record { digits = text; pad = []; extension = None }

printed : (text : List ℕ) → text ++ crlf ≡ print_chunk_line (line_of text) ++ []
unfolding print_chunk_line
printed text = sym (append-nil (text ++ [] ++ [] ++ crlf) ∙ ap (λ (t : List ℕ). t ++ crlf) (append-nil (text ++ []) ∙ append-nil text))

is_line : (text : List ℕ) → 0 < length text → length text ≤ 16 → AllDigits 16 text → IsLine (text ++ crlf) (line_of text)
is_line text some short all =
    let size = length-append text crlf in (
      (
        record {
          digits = (some, short, hex_digits text all);
          pad = All-nil _;
          extension = tt;
        },
        printed text,
      ),
      omega (arith, size),
    )

size_line : (n : ℕ) → n < 2 ^ 64 → IsLine (hexadecimal n ++ crlf) (line_of (hexadecimal n)) × (digits_value 16 (hexadecimal n) ≡ n)
size_line n small =
    let numeral = digits_is_IsNumeral 16 false (omega arith) (omega arith) n (omega arith) in
    (is_line (hexadecimal n) numeral.0.0 (short_digits n (omega arith)) numeral.0.1, numeral.1)

zero_line : IsLine (48 ∷ crlf) (line_of (48 ∷ []))
zero_line = is_line (48 ∷ []) (omega arith) (omega arith) (omega arith, tt)

-- ---- trailers

start_of : (bytes : List ℕ) (end : Option ℕ) (start used : ℕ) → place_at bytes 0 end ≡ Block start used → start ≡ 0
start_of bytes None start used is = elim (leb_tells 65536 (length bytes)) [
  | inl t ↦ absurd (let e : Exceeded ≡ Block start used = rw t.0 at is in cc)
  | inr f ↦ absurd (let e : Missing ≡ Block start used = rw f.0 at is in cc)
]
start_of bytes (Some end) start used is = elim (leb_tells 65537 end) [
  | inl t ↦ absurd (let e : Exceeded ≡ Block start used = rw t.0 at is in cc)
  | inr f ↦ (let e : Block 0 end ≡ Block start used = rw f.0 at is in cc)
]

last_is_chunked : (text : List ℕ) (trailers : List (List ℕ × List ℕ)) → trailer_front text ≡ Stands (trailer_parts trailers) (length text)
    → IsChunked (48 ∷ crlf ++ text) [] trailers
last_is_chunked text trailers is =
    let s = standing Trailers text (trailer_parts trailers) (length text) is in
    let whole_length : length text - 0 ≡ length text = omega arith in
    let first = start_of text (trailers_end text) s.start (length text) s.at in
    let block : slice_range text s.start (length text) ≡ text =
    ap (λ (n : ℕ). slice_range text n (length text)) first
    ∙ ap (λ (n : ℕ). take n text) whole_length ∙ take-length text in
    let w = trailers_in-source text (trailer_parts trailers)
    (subst (λ (b : List ℕ). trailers_in b ≡ Some (trailer_parts trailers)) block s.reads) in
    let fits = used-within Trailers text (trailer_parts trailers) (length text) is in
    subst (λ (t : List (List ℕ × List ℕ)). IsChunked (48 ∷ crlf ++ text) [] t) (sym (ap (λ (r : RawHead). r.pairs) w.2))
    (last (48 ∷ crlf) text (line_of (48 ∷ [])) w.0 zero_line refl w.1 fits.2)

-- ---- a body in one chunk, or in none

abbrev pub contents_of : List ℕ → List (List ℕ)
contents_of [] = []
contents_of (x ∷ xs) = (x ∷ xs) ∷ []

some_size : (n : ℕ) → (suc n == 0) ≡ false
some_size n = elim (eqb_tells (suc n) 0) [ inl t ↦ absurd (omega (arith, t.1)) | inr f ↦ f.0 ]

text_is_chunked : (content : List ℕ) (trailers : List (List ℕ × List ℕ)) → length content < 2 ^ 64
    → trailer_front (fields_text trailers) ≡ Stands (trailer_parts trailers) (length (fields_text trailers))
    → IsChunked (chunk_text content ++ last_chunk_text trailers) (contents_of content) trailers
text_is_chunked [] trailers small stands = last_is_chunked (fields_text trailers) trailers stands
text_is_chunked (x ∷ xs) trailers small stands =
    let content = x ∷ xs in
    let digits = hexadecimal (length content) in
    let line = size_line (length content) small in
    let behind = last_chunk_text trailers in
    let some : 0 < length content = omega arith in
    subst (λ (t : List ℕ). IsChunked t (content ∷ []) trailers)
    (sym (ap (λ (none : Bool). cond none [] (digits ++ crlf ++ content ++ crlf) ++ behind) (some_size (length xs))
    ∙ append_assoc (digits ++ crlf ++ content) crlf behind ∙ append_assoc (digits ++ crlf) content (crlf ++ behind)))
    (chunk (digits ++ crlf) content behind (line_of digits) [] trailers line.0 line.1 some
    (last_is_chunked (fields_text trailers) trailers stands))

-- ---- what it tells

-- what a body tells that is framed in chunks or is not
abbrev pub marks_for : Bool → List ℕ → List Mark
marks_for true content = chunks_told (contents_of content)
marks_for false content = map byte content

-- bytes in front of other marks
bytes_then : (xs : List ℕ) (more : List Mark)
    → body_of (map byte xs ++ more)
    ≡ record { sizes = (body_of more).sizes; ended = (body_of more).ended; content = xs ++ (body_of more).content }
bytes_then [] more = refl
bytes_then (x ∷ xs) more =
    ap (λ (b : Body). record { sizes = b.sizes; ended = b.ended; content = x ∷ b.content }) (bytes_then xs more)

pub told_body : (framed : Bool) (content : List ℕ) → body_of (marks_for framed content) ≡ one_chunk framed content
told_body true [] = refl
told_body true (x ∷ xs) =
    let content = x ∷ xs in
    ap (λ (marks : List Mark). body_of (begins (length content) ∷ marks)) (append-nil (map byte content ++ ends ∷ []))
    ∙ ap (λ (b : Body). record { sizes = length content ∷ b.sizes; ended = b.ended; content = b.content }) (bytes_then content (ends ∷ []))
    ∙ ap (λ (c : List ℕ). record { sizes = length content ∷ []; ended = 1; content = c }) (append-nil content)
    ∙ ap (λ (none : Bool). if not none then record { sizes = length content ∷ []; ended = 1; content = content }
    else record { sizes = []; ended = 0; content = content }) (sym (some_size (length xs)))
told_body false content =
    ap body_of (sym (append-nil (map byte content))) ∙ bytes_then content []
    ∙ ap (λ (c : List ℕ). record { sizes = []; ended = 0; content = c }) (append-nil content)

pub chunks_read : (content rest : List ℕ) (trailers : List (List ℕ × List ℕ)) → length content < 2 ^ 64
    → trailer_front (fields_text trailers) ≡ Stands (trailer_parts trailers) (length (fields_text trailers))
    → chunked_reading ((chunk_text content ++ last_chunk_text trailers) ++ rest)
    ≡ record { marks = marks_for true content; finish = whole trailers (length (chunk_text content ++ last_chunk_text trailers)) }
chunks_read content rest trailers small stands =
    chunked_read (chunk_text content ++ last_chunk_text trailers) rest (contents_of content) trailers
    (text_is_chunked content trailers small stands)
