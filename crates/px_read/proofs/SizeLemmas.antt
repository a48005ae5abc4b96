-- Chunk lines: the size that a line states, and how a line is heard.
use Rattle.std.proofs.Common.{ℕ, zero, suc, ◌-◌, ◌<◌, ◌≤◌, ◌≡◌, ◌≢◌, Bool, true, false, List, [], ◌∷◌, ◌++◌, length, map, refl, sym, ap, ◌∙◌, subst, arith, inl, inr, Option, Some, None, append_assoc, append-nil, length-append}
use Rattle.std.specs.Prelude.{All, ◌⊎◌}
use Rattle.std.specs.Char.{is_ascii_hexdigit}
use Rattle.std.proofs.lemmas.Bool.Decides.{eqb_tells, leb_tells}
use Rattle.std.proofs.lemmas.List.Elements.{All-append, All-cons, All-nil, All-weaker, All-head, All-tail}
use Rattle.httparse.specs.Grammar.{AllPass, ChunkLine, IsExtension, chunk_size, is_ows, is_extension_byte, print_extension}
use Rattle.httparse.proofs.ChunkLemmas.{chunk_line_unique, chunk_pieces}
use Rattle.px_read.specs.ChunkLine.{IsLine, size_in, size_told, tell_line}
use Rattle.px_read.specs.Marks.{Mark, begins, byte}
use Rattle.px_read.specs.Chunks.{ChunkPlace, in_line, broken, ChunkHearing, silent, behind_size, behind_line_byte, behind_content, hear, hear_all}
use Rattle.px_read.proofs.HearLemmas.{behind, hear_all-append, hear_all-broken}

-- ---- the size that a line states

told-Some : (bytes : List ℕ) (told : ((line : ChunkLine) × IsLine bytes line) ⊎ ((line : ChunkLine) → IsLine bytes line → ⊥))
    (line : ChunkLine) → IsLine bytes line → size_told told ≡ Some (chunk_size line)
told-Some bytes (inl w) line x = ap (λ (l : ChunkLine). Some (chunk_size l)) (chunk_line_unique bytes w.0 line [] [] w.1.0 x.0).0
told-Some bytes (inr none) line x = absurd (none line x)

told-None : (bytes : List ℕ) (told : ((line : ChunkLine) × IsLine bytes line) ⊎ ((line : ChunkLine) → IsLine bytes line → ⊥))
    → ((line : ChunkLine) → IsLine bytes line → ⊥) → size_told told ≡ None
told-None bytes (inl w) none = absurd (none w.0 w.1)
told-None bytes (inr nor) none = refl

told-source : (bytes : List ℕ) (told : ((line : ChunkLine) × IsLine bytes line) ⊎ ((line : ChunkLine) → IsLine bytes line → ⊥))
    (size : ℕ) → size_told told ≡ Some size → (line : ChunkLine) × IsLine bytes line × (chunk_size line ≡ size)
told-source bytes (inl w) size is = (w.0, w.1, (let e = is in cc))
told-source bytes (inr none) size is = absurd (let e = is in cc)

pub size_in-Some : (bytes : List ℕ) (line : ChunkLine) → IsLine bytes line → size_in bytes ≡ Some (chunk_size line)
size_in-Some bytes line x = told-Some bytes (tell_line bytes) line x

pub size_in-None : (bytes : List ℕ) → ((line : ChunkLine) → IsLine bytes line → ⊥) → size_in bytes ≡ None
size_in-None bytes none = told-None bytes (tell_line bytes) none

pub size_in-source : (bytes : List ℕ) (size : ℕ) → size_in bytes ≡ Some size
    → (line : ChunkLine) × IsLine bytes line × (chunk_size line ≡ size)
size_in-source bytes size is = told-source bytes (tell_line bytes) size is

-- ---- a line ends at its first LF

abbrev pub IsUnbroken : List ℕ → Type 0
IsUnbroken text = All (λ b. b ≢ 10) text

unbroken : (test : ℕ → Bool) → test 10 ≡ false → (text : List ℕ) → AllPass test text → IsUnbroken text
unbroken test fails text all = All-weaker (λ b. test b ≡ true) (λ b. b ≢ 10)
    (λ b passes e. let f : false ≡ true = sym fails ∙ subst (λ (v : ℕ). test v ≡ true) e passes in cc) text all

unbroken_extension : (e : Option (List ℕ)) → IsExtension e → IsUnbroken (print_extension e)
unbroken_extension None x = All-nil (λ b. b ≢ 10)
unbroken_extension (Some text) x = All-cons (λ b. b ≢ 10) 59 text (λ e. omega arith) (unbroken is_extension_byte refl text x)

regroup : (a b c d e : List ℕ) → a ++ (b ++ (c ++ (d ++ e))) ≡ (a ++ (b ++ (c ++ d))) ++ e
regroup a b c d e = simp append_assoc

pub line_shape : (bytes : List ℕ) (line : ChunkLine) → IsLine bytes line
    → (text : List ℕ) × (bytes ≡ text ++ 10 ∷ []) × IsUnbroken text
line_shape bytes line x =
    let p = chunk_pieces bytes line [] x.0 in
    let rest = print_extension line.extension in (
      line.digits ++ (line.pad ++ (rest ++ 13 ∷ [])),
      p.1.0.1 ∙ ap (λ (t : List ℕ). line.digits ++ t) (p.2.1.1 ∙ ap (λ (t : List ℕ). line.pad ++ t) p.2.2.1)
          ∙ regroup line.digits line.pad rest (13 ∷ []) (10 ∷ []),
      All-append (λ b. b ≢ 10) line.digits _ (unbroken is_ascii_hexdigit refl line.digits x.0.0.digits.2)
          (All-append (λ b. b ≢ 10) line.pad _ (unbroken is_ows refl line.pad x.0.0.pad)
          (All-append (λ b. b ≢ 10) rest (13 ∷ []) (unbroken_extension line.extension x.0.0.extension)
          (All-cons (λ b. b ≢ 10) 13 [] (λ e. omega arith) (All-nil (λ b. b ≢ 10))))),
    )

-- ---- how it is heard

byte_within : (line : List ℕ) (b : ℕ) → b ≢ 10 → length line < 1024 → behind_line_byte line b ≡ silent (in_line line)
byte_within line b other short = elim (eqb_tells b 10) [
  | inl t ↦ absurd (other t.1)
  | inr f ↦ elim (leb_tells 1024 (length line)) [
    | inl long ↦ (let l = long.1 in absurd (omega arith))
    | inr fits ↦ rw (f.0, fits.0) refl
  ]
]

byte_over : (line : List ℕ) (b : ℕ) → b ≢ 10 → 1024 ≤ length line → behind_line_byte line b ≡ silent broken
byte_over line b other long = elim (eqb_tells b 10) [
  | inl t ↦ absurd (other t.1)
  | inr f ↦ elim (leb_tells 1024 (length line)) [
    | inl l ↦ rw (f.0, l.0) refl
    | inr fits ↦ (let s = fits.1 in absurd (omega arith))
  ]
]

pushed : (line : List ℕ) (b : ℕ) (text : List ℕ) → (line ++ b ∷ []) ++ text ≡ line ++ b ∷ text
pushed line b text = append_assoc line (b ∷ []) text

-- one byte
pub hear_one : (place : ChunkPlace) (b : ℕ) → hear_all place (b ∷ []) ≡ hear place b
hear_one place b =
    let t = hear place b in ap (λ (ms : List Mark). turn ms t.place) (append-nil t.marks)
  where
    turn : List Mark → ChunkPlace → ChunkHearing
    turn marks place = record { marks = marks; place = place }

-- a silent byte before others
after_silent : (place : ChunkPlace) (b : ℕ) (next : ChunkPlace) (bytes : List ℕ) → hear place b ≡ silent next
    → hear_all place (b ∷ bytes) ≡ hear_all next bytes
after_silent place b next bytes is = ap (λ (t : ChunkHearing). behind t bytes) is

pub line_heard : (line text : List ℕ) → IsUnbroken text → length (line ++ text) < 1024
    → hear_all (in_line line) text ≡ silent (in_line (line ++ text))
line_heard line [] all short = ap (λ (l : List ℕ). silent (in_line l)) (sym (append-nil line))
line_heard line (b ∷ text) all short =
    let same = pushed line b text in
    let total = length-append (line ++ b ∷ []) text in
    let size = ap (λ (l : List ℕ). length l) same in
    let fits : length (line ++ b ∷ []) < 1024 = omega arith in
    let rest : length ((line ++ b ∷ []) ++ text) < 1024 = omega arith in
    after_silent (in_line line) b (in_line (line ++ b ∷ [])) text (byte_within (line ++ b ∷ []) b (All-head (λ v. v ≢ 10) b text all) fits)
    ∙ line_heard (line ++ b ∷ []) text (All-tail (λ v. v ≢ 10) b text all) rest
    ∙ ap (λ (l : List ℕ). silent (in_line l)) same

-- a line that is too long
pub line_over : (line text : List ℕ) → IsUnbroken text → length line < 1024 → 1024 ≤ length (line ++ text)
    → hear_all (in_line line) text ≡ silent broken
line_over line [] all short long = let e = append-nil line in let size = ap (λ (l : List ℕ). length l) e in absurd (omega arith)
line_over line (b ∷ text) all short long =
    let other = All-head (λ v. v ≢ 10) b text all in
    let same = pushed line b text in
    let size = ap (λ (l : List ℕ). length l) same in
    elim (leb_tells 1024 (length (line ++ b ∷ []))) [
      | inl t ↦ after_silent (in_line line) b broken text (byte_over (line ++ b ∷ []) b other t.1) ∙ hear_all-broken text
      | inr f ↦ after_silent (in_line line) b (in_line (line ++ b ∷ [])) text (byte_within (line ++ b ∷ []) b other f.1)
          ∙ line_over (line ++ b ∷ []) text (All-tail (λ v. v ≢ 10) b text all) f.1 (let z = size in omega arith)
    ]

-- a whole one
pub line_ended : (line text : List ℕ) → IsUnbroken text → length (line ++ text) < 1024
    → hear_all (in_line line) (text ++ 10 ∷ []) ≡ behind_size (size_in ((line ++ text) ++ 10 ∷ []))
line_ended line text all short =
    hear_all-append (in_line line) text (10 ∷ [])
    ∙ ap (λ (t : ChunkHearing). behind t (10 ∷ [])) (line_heard line text all short)
    ∙ hear_one (in_line (line ++ text)) 10

-- the whole line at once
pub line_read : (bytes : List ℕ) (line : ChunkLine) → IsLine bytes line
    → hear_all (in_line []) bytes ≡ behind_size (Some (chunk_size line))
line_read bytes line x =
    let s = line_shape bytes line x in
    let size = ap (λ (l : List ℕ). length l) s.1 in
    let more = length-append s.0 (10 ∷ []) in
    let fits = x.1 in
    let short : length s.0 < 1024 = omega arith in
    ap (λ (l : List ℕ). hear_all (in_line []) l) s.1
    ∙ line_ended [] s.0 s.2 short
    ∙ ap (λ (l : List ℕ). behind_size (size_in l)) (sym s.1)
    ∙ ap (λ (o : Option ℕ). behind_size o) (size_in-Some bytes line x)

-- ---- a content

pub behind_size-some : (size : ℕ) → 0 < size
    → behind_size (Some size) ≡ record { marks = begins size ∷ []; place = behind_content size }
behind_size-some zero some = absurd (omega arith)
behind_size-some (suc left) some = refl

abbrev content_turn : List Mark → ℕ → ChunkHearing
content_turn marks left = record { marks = marks; place = behind_content left }

pub content_heard : (left : ℕ) (bytes : List ℕ) → length bytes ≤ left
    → hear_all (behind_content left) bytes ≡ record { marks = map byte bytes; place = behind_content (left - length bytes) }
content_heard left [] fits = ap (λ (n : ℕ). content_turn [] n) (omega arith)
content_heard zero (b ∷ bytes) fits = absurd (omega arith)
content_heard (suc left) (b ∷ bytes) fits =
    ap (λ (t : ChunkHearing). to_byte t) (content_heard left bytes (omega arith))
    ∙ ap (λ (n : ℕ). content_turn (byte b ∷ map byte bytes) n) (omega arith)
  where
    to_byte : ChunkHearing → ChunkHearing
    to_byte t = record { marks = byte b ∷ t.marks; place = t.place }
