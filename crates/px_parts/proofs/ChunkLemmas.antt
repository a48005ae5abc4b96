-- Chunks that are written as the sender cut them are a chunked body with the same contents.
use Rattle.std.proofs.Common.{ℕ, zero, suc, ◌+◌, ◌-◌, ◌/◌, ◌%◌, ◌<◌, ◌≤◌, ◌^◌, ◌≡◌, ◌==◌, Bool, true, false, cond, List, [], ◌∷◌, ◌++◌, length, map, take, refl, sym, ap, ◌∙◌, subst, arith, inl, inr, None, append_assoc, append-nil, length-append, take_all}
use Rattle.std.specs.Prelude.{All}
use Rattle.std.specs.Char.{digit_value, is_ascii_hexdigit}
use Rattle.std.specs.Fmt.{digit_glyph, digits, digits_onto}
use Rattle.std.specs.Str.Parse.{AllDigits, digits_value}
use Rattle.std.proofs.lemmas.Bool.Decides.{eqb_tells, nat_tests}
use Rattle.std.proofs.Math.Nat.{pow-suc}
use Rattle.std.proofs.lemmas.Fmt.{digits_is_IsNumeral}
use Rattle.std.proofs.lemmas.Int.Digits.{digits_value-lt}
use Rattle.std.proofs.lemmas.List.Elements.{All-cons, All-head, All-nil, All-tail}
use Rattle.httparse.specs.Grammar.{AllPass, ChunkLine, chunk_size, print_chunk_line}
use Rattle.px_text.specs.Blank.{crlf}
use Rattle.px_text.specs.Number.{hexadecimal}
use Rattle.px_head.specs.Front.{trailer_front}
use Rattle.px_head.specs.declared.front.Front.TheVariants.{Stands}
use Rattle.px_read.specs.ChunkLine.{IsLine}
use Rattle.px_read.specs.Chunked.{IsChunked, last, chunk, chunk_told, chunks_told}
use Rattle.px_read.specs.Chunks.{chunked_reading, whole}
use Rattle.px_read.specs.Marks.{Mark, byte, ends}
use Rattle.px_read.proofs.ChunkedLemmas.{chunked_read, read_chunked}
use Rattle.px_write.specs.ReadBack.{trailer_parts}
use Rattle.px_write.specs.Text.{fields_text, last_chunk_text}
use Rattle.px_write.proofs.ChunkTextLemmas.{chunks_read}
use Rattle.px_parts.specs.Texts.{marks_text, size_line}
use Rattle.px_parts.proofs.TextLemmas.{bytes-sent, marks_both}

-- ---- hexadecimal digits

short_onto : (k m n : ℕ) (acc : List ℕ) → n < 16 ^ suc m → length (digits_onto k 16 false n acc) ≤ suc m + length acc
short_onto zero m n acc small = omega arith
short_onto (suc k) zero n acc small = by_test (n / 16 == 0) last_one
  where
    last_one : (n / 16 == 0) ≡ true
    last_one = elim (eqb_tells (n / 16) 0) [ inl t ↦ t.0 | inr f ↦ absurd (f.1 (omega arith)) ]

    by_test : (b : Bool) → b ≡ true
        → length (cond b (digit_glyph false (n % 16) ∷ acc) (digits_onto k 16 false (n / 16) (digit_glyph false (n % 16) ∷ acc)))
        ≤ 1 + length acc
    by_test true is = omega arith
    by_test false is = absurd (let e = is in cc)
short_onto (suc k) (suc m) n acc small =
    by_test (n / 16 == 0) (short_onto k m (n / 16) (digit_glyph false (n % 16) ∷ acc) fewer)
  where
    fewer : n / 16 < 16 ^ suc m
    fewer = let size = pow-suc 16 (suc m) in omega (arith, size)

    by_test : (b : Bool) → length (digits_onto k 16 false (n / 16) (digit_glyph false (n % 16) ∷ acc)) ≤ suc m + suc (length acc)
        → length (cond b (digit_glyph false (n % 16) ∷ acc) (digits_onto k 16 false (n / 16) (digit_glyph false (n % 16) ∷ acc)))
        ≤ suc (suc m) + length acc
    by_test true most = omega arith
    by_test false most = omega (arith, most)

short_digits : (n : ℕ) → n < 16 ^ 16 → length (hexadecimal n) ≤ 16
unfolding digits
short_digits n small = let most = short_onto 64 15 n [] small in omega (arith, most)

hex_digit : (c : ℕ) → digit_value c < 16 → is_ascii_hexdigit c ≡ true
hex_digit c low = grind (arith, nat_tests)

hex_digits : (text : List ℕ) → AllDigits 16 text → AllPass is_ascii_hexdigit text
hex_digits [] all = All-nil (λ b. is_ascii_hexdigit b ≡ true)
hex_digits (c ∷ text) all = All-cons (λ b. is_ascii_hexdigit b ≡ true) c text (hex_digit c all.0) (hex_digits text all.1)

low_digit : (c : ℕ) → is_ascii_hexdigit c ≡ true → digit_value c < 16
low_digit c is = grind (arith, nat_tests)

low_digits : (text : List ℕ) → AllPass is_ascii_hexdigit text → AllDigits 16 text
low_digits [] all = tt
low_digits (c ∷ text) all =
    (low_digit c (All-head (λ b. is_ascii_hexdigit b ≡ true) c text all), low_digits text (All-tail (λ b. is_ascii_hexdigit b ≡ true) c text all))

-- ---- chunk lines

-- the line of these digits and nothing else
abbrev line_of : List ℕ → ChunkLine
line_of text = record { digits = text; pad = []; extension = None }

printed : (text : List ℕ) → text ++ crlf ≡ print_chunk_line (line_of text) ++ []
unfolding print_chunk_line
printed text = sym (append-nil (text ++ [] ++ [] ++ crlf) ∙ ap (λ (t : List ℕ). t ++ crlf) (append-nil (text ++ []) ∙ append-nil text))

is_line : (text : List ℕ) → 0 < length text → length text ≤ 16 → AllDigits 16 text → IsLine (text ++ crlf) (line_of text)
is_line text some short all =
    let size = length-append text crlf in (
      (
        record {
          digits = (some, short, hex_digits text all);
          pad = All-nil _;
          extension = tt;
        },
        printed text,
      ),
      omega (arith, size),
    )

-- a size is written as a line that states it
states_size : (n : ℕ) → n < 2 ^ 64 → IsLine (size_line n) (line_of (hexadecimal n)) × (digits_value 16 (hexadecimal n) ≡ n)
states_size n small =
    let numeral = digits_is_IsNumeral 16 false (omega arith) (omega arith) n (omega arith) in
    (is_line (hexadecimal n) numeral.0.0 (short_digits n (omega arith)) numeral.0.1, numeral.1)

-- and every line states a size of at most sixteen digits
low_power : (n : ℕ) → n ≤ 16 → 16 ^ n ≤ 2 ^ 64
low_power n short = within n (16 - n) (omega (arith, short))
  where
    within : (n more : ℕ) → more + n ≡ 16 → 16 ^ n ≤ 2 ^ 64
    within n zero is = let same : n ≡ 16 = omega (arith, is) in subst (λ (k : ℕ). 16 ^ k ≤ 2 ^ 64) (sym same) (omega arith)
    within n (suc more) is =
        let longer = within (suc n) more (omega (arith, is)) in
        let size = pow-suc 16 n in omega (arith, longer, size)

small_size : (bytes : List ℕ) (line : ChunkLine) → IsLine bytes line → chunk_size line < 2 ^ 64
small_size bytes line is =
    let low = digits_value-lt 16 line.digits (low_digits line.digits is.0.0.digits.2) in
    let short = low_power (length line.digits) is.0.0.digits.1 in omega (arith, low, short)

-- ---- the sender's chunks

-- a content of a chunk: some bytes, of which a line can state how many
abbrev pub CanBeChunk : List ℕ → Type 0
CanBeChunk content = (0 < length content) × (length content < 2 ^ 64)

can_be_chunks : (text : List ℕ) (contents : List (List ℕ)) (trailers : List (List ℕ × List ℕ)) → IsChunked text contents trailers
    → All CanBeChunk contents
can_be_chunks _ _ _ (last line trailers states section is size found short) = All-nil CanBeChunk
can_be_chunks _ _ _ (chunk line content text states contents trailers is size some body) =
    All-cons CanBeChunk content contents (some, subst (λ (n : ℕ). n < 2 ^ 64) size (small_size line states is))
    (can_be_chunks text contents trailers body)

-- nothing is told of no chunk alone
untold : (contents : List (List ℕ)) → chunks_told contents ≡ [] → contents ≡ []
untold [] none = refl
untold (content ∷ contents) none = absurd (let e = none in cc)

abbrev Trailing : List (List ℕ × List ℕ) → Type 0
Trailing trailers = trailer_front (fields_text trailers) ≡ Stands (trailer_parts trailers) (length (fields_text trailers))

-- the last chunk and the trailers are a chunked body without content
last_is_chunked : (trailers : List (List ℕ × List ℕ)) → Trailing trailers → IsChunked (last_chunk_text trailers) [] trailers
last_is_chunked trailers stands =
    let text = last_chunk_text trailers in
    let read : chunked_reading text ≡ record { marks = []; finish = whole trailers (length text) } =
    ap chunked_reading (sym (append-nil text)) ∙ chunks_read [] [] trailers (omega arith) stands in
    let w = read_chunked text [] trailers (length text) read in
    let all : take (length text) text ≡ text = take_all (length text) text (omega arith) in
    subst (λ (t : List ℕ). IsChunked t [] trailers) all
    (subst (λ (contents : List (List ℕ)). IsChunked (take (length text) text) contents trailers) (untold w.0 (sym w.2)) w.1)

-- what a chunk's marks say
chunk_said : (content : List ℕ) → marks_text (chunk_told content) ≡ size_line (length content) ++ (content ++ crlf)
chunk_said content =
    ap (λ (text : List ℕ). size_line (length content) ++ text)
    (marks_both (map byte content) (ends ∷ []) ∙ ap (λ (text : List ℕ). text ++ crlf) (bytes-sent content))

regroup : (line content end text : List ℕ) → (line ++ (content ++ end)) ++ text ≡ line ++ (content ++ (end ++ text))
regroup line content end text = simp append_assoc

chunks_said : (content : List ℕ) (contents : List (List ℕ)) (behind : List ℕ)
    → marks_text (chunks_told (content ∷ contents)) ++ behind
    ≡ size_line (length content) ++ (content ++ (crlf ++ (marks_text (chunks_told contents) ++ behind)))
chunks_said content contents behind =
    let rest = marks_text (chunks_told contents) in
    ap (λ (text : List ℕ). text ++ behind)
    (marks_both (chunk_told content) (chunks_told contents) ∙ ap (λ (text : List ℕ). text ++ rest) (chunk_said content))
    ∙ append_assoc (size_line (length content) ++ (content ++ crlf)) rest behind
    ∙ regroup (size_line (length content)) content crlf (rest ++ behind)

said_is_chunked : (contents : List (List ℕ)) (trailers : List (List ℕ × List ℕ)) → All CanBeChunk contents → Trailing trailers
    → IsChunked (marks_text (chunks_told contents) ++ last_chunk_text trailers) contents trailers
said_is_chunked [] trailers all stands = last_is_chunked trailers stands
said_is_chunked (content ∷ contents) trailers all stands =
    let own = All-head CanBeChunk content contents all in
    let line = states_size (length content) own.1 in
    subst (λ (t : List ℕ). IsChunked t (content ∷ contents) trailers) (sym (chunks_said content contents (last_chunk_text trailers)))
    (chunk (size_line (length content)) content (marks_text (chunks_told contents) ++ last_chunk_text trailers)
    (line_of (hexadecimal (length content))) contents trailers line.0 line.1 own.0
    (said_is_chunked contents trailers (All-tail CanBeChunk content contents all) stands))

-- what is read as whole is said so that it is read as it was
pub chunks-back : (bytes : List ℕ) (marks : List Mark) (trailers : List (List ℕ × List ℕ)) (used : ℕ) (rest : List ℕ)
    → chunked_reading bytes ≡ record { marks = marks; finish = whole trailers used } → Trailing trailers
    → chunked_reading ((marks_text marks ++ last_chunk_text trailers) ++ rest)
    ≡ record { marks = marks; finish = whole trailers (length (marks_text marks ++ last_chunk_text trailers)) }
chunks-back bytes marks trailers used rest is stands =
    let w = read_chunked bytes marks trailers used is in
    subst (λ (ms : List Mark). chunked_reading ((marks_text ms ++ last_chunk_text trailers) ++ rest)
    ≡ record { marks = ms; finish = whole trailers (length (marks_text ms ++ last_chunk_text trailers)) }) (sym w.2)
    (chunked_read (marks_text (chunks_told w.0) ++ last_chunk_text trailers) rest w.0 trailers
    (said_is_chunked w.0 trailers (can_be_chunks (take used bytes) w.0 trailers w.1) stands))
