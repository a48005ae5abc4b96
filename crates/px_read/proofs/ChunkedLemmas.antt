-- The reading of bytes and the relation between a chunked body and its chunks.
use Rattle.std.proofs.Common.{ℕ, zero, suc, ◌+◌, ◌-◌, ◌<◌, ◌≤◌, ◌≡◌, ◌≢◌, Bool, true, false, List, [], ◌∷◌, ◌++◌, length, map, take, refl, sym, ap, ◌∙◌, subst, arith, inl, inr, Option, Some, None, append_assoc, length-append}
use Rattle.std.specs.Prelude.{nat_le, if◌then◌else◌, ◌==◌, slice_range, ⊤}
use Rattle.std.proofs.lemmas.Bool.Decides.{eqb_tells, leb_tells}
use Rattle.std.proofs.lemmas.List.{length-take-le}
use Rattle.std.proofs.Math.Seq.{take-append_seam}
use Rattle.httparse.specs.Grammar.{ChunkLine, Field, LineEnd, chunk_size}
use Rattle.px_message.specs.declared.fault.Fault.{Fault}
use Rattle.px_head.specs.declared.raw.RawHead.{RawHead}
use Rattle.px_head.specs.declared.front.Front.{Front}
use Rattle.px_head.specs.declared.front.Front.TheVariants.{Nothing, TooLong, BadHead, Stands}
use Rattle.px_head.specs.declared.front.Kind.TheVariants.{Trailers}
use Rattle.px_head.specs.declared.place.BlockPlace.TheVariants.{Missing, Exceeded, Block}
use Rattle.px_head.specs.Front.{place_at, trailer_front, trailers_end}
use Rattle.px_head.specs.Heads.{IsTrailers, raw_trailers, trailers_in}
use Rattle.px_head.proofs.BlockLemmas.{trailers_in-source}
use Rattle.px_head.proofs.FoundLemmas.{trailers_found}
use Rattle.px_head.proofs.FrontLemmas.{standing, used-within}
use Rattle.px_read.specs.ChunkLine.{IsLine, size_in}
use Rattle.px_read.specs.Marks.{Mark, begins, byte, ends}
use Rattle.px_text.specs.Blank.{crlf}
use Rattle.px_read.specs.Chunked.{IsChunked, last, chunk, chunk_told, chunks_told}
use Rattle.px_read.specs.Chunks.{ChunkPlace, in_line, in_content, at_cr, at_lf, in_trailers, broken, ChunkHearing, silent, behind_size, behind_content, hear, hear_all, Finish, goes_on, whole, fails, trailers_finish, place_finish, GoesOn, Reading, chunks_from, chunked_reading}
use Rattle.px_read.specs.Readings.{behind_bytes}
use Rattle.px_read.proofs.HearLemmas.{behind, hear_all-append, hear_all-broken, hear_all-trailers, reading_behind, resumes_as, shift_from, waits_on, finish_stays}
use Rattle.px_read.proofs.SizeLemmas.{line_read, behind_size-some, content_heard, size_in-source}

-- ---- a chunked body is read as it is

-- what one list of bytes tells, and the next from there
pub heard_both : (place : ChunkPlace) (xs ys : List ℕ) (marks further : List Mark) (next end : ChunkPlace)
    → hear_all place xs ≡ record { marks = marks; place = next } → hear_all next ys ≡ record { marks = further; place = end }
    → hear_all place (xs ++ ys) ≡ record { marks = marks ++ further; place = end }
heard_both place xs ys marks further next end first second =
    hear_all-append place xs ys
    ∙ ap (λ (t : ChunkHearing). behind t ys) first
    ∙ ap (λ (t : ChunkHearing). onto t) second
  where
    onto : ChunkHearing → ChunkHearing
    onto t = record { marks = marks ++ t.marks; place = t.place }

crlf_heard : hear_all at_cr crlf ≡ record { marks = ends ∷ []; place = in_line [] }
crlf_heard = refl

content_whole : (content : List ℕ) → hear_all (behind_content (length content)) content ≡ record { marks = map byte content; place = at_cr }
content_whole content =
    let none : length content - length content ≡ 0 = omega arith in
    content_heard (length content) content (omega arith) ∙ ap (λ (n : ℕ). at_place (behind_content n)) none
  where
    at_place : ChunkPlace → ChunkHearing
    at_place place = record { marks = map byte content; place = place }

chunk_heard : (line content : List ℕ) (states : ChunkLine) → IsLine line states → chunk_size states ≡ length content
    → 0 < length content
    → hear_all (in_line []) (line ++ (content ++ crlf)) ≡ record { marks = chunk_told content; place = in_line [] }
chunk_heard line content states is size some =
    let begun = line_read line states is ∙ ap (λ (n : ℕ). behind_size (Some n)) size ∙ behind_size-some (length content) some in
    let told = heard_both (behind_content (length content)) content crlf (map byte content) (ends ∷ []) at_cr (in_line []) (content_whole content) crlf_heard in
    heard_both (in_line []) line (content ++ crlf) (begins (length content) ∷ []) (map byte content ++ ends ∷ []) (behind_content (length content)) (in_line []) begun told

abbrev to_reading : List Mark → Finish → Reading
to_reading marks finish = record { marks = marks; finish = finish }

trailers_read : (trailers rest : List ℕ) (section : List Field × LineEnd) → IsTrailers trailers section → length trailers ≤ 65536
    → chunks_from (in_trailers []) (trailers ++ rest) ≡ record { marks = []; finish = whole (raw_trailers section).pairs (length trailers) }
trailers_read trailers rest section is short =
    let all = trailers ++ rest in
    ap (λ (t : ChunkHearing). to_reading t.marks (place_finish (length all) t.place)) (hear_all-trailers [] all)
    ∙ ap (λ (f : Front). to_reading [] (trailers_finish (length all) (length all) f)) (trailers_found trailers rest section is short)
    ∙ ap (λ (n : ℕ). to_reading [] (whole (raw_trailers section).pairs n)) (omega arith)

regroup_last : (line trailers rest : List ℕ) → (line ++ trailers) ++ rest ≡ line ++ (trailers ++ rest)
regroup_last line trailers rest = append_assoc line trailers rest

regroup_chunk : (line content end text rest : List ℕ)
    → (line ++ (content ++ (end ++ text))) ++ rest ≡ (line ++ (content ++ end)) ++ (text ++ rest)
regroup_chunk line content end text rest = simp append_assoc

regroup_text : (line content end text : List ℕ) → line ++ (content ++ (end ++ text)) ≡ (line ++ (content ++ end)) ++ text
regroup_text line content end text = simp append_assoc

pub chunked_read : (text rest : List ℕ) (contents : List (List ℕ)) (trailers : List (List ℕ × List ℕ)) → IsChunked text contents trailers
    → chunked_reading (text ++ rest) ≡ record { marks = chunks_told contents; finish = whole trailers (length text) }
chunked_read _ rest _ _ (last line trailers states section is size found short) =
    let begun = line_read line states is ∙ ap (λ (n : ℕ). behind_size (Some n)) size in
    ap (λ (l : List ℕ). chunked_reading l) (regroup_last line trailers rest)
    ∙ resumes_as (in_line []) line (trailers ++ rest) [] (in_trailers []) begun (waits_on [] refl)
    ∙ ap (λ (r : Reading). reading_behind [] (length line) r) (trailers_read trailers rest section found short)
    ∙ ap (λ (n : ℕ). to_reading [] (whole (raw_trailers section).pairs n)) (sym (length-append line trailers))
chunked_read _ rest _ _ (chunk line content text states contents trailers is size some body) =
    let front = line ++ (content ++ crlf) in
    ap (λ (l : List ℕ). chunked_reading l) (regroup_chunk line content crlf text rest)
    ∙ resumes_as (in_line []) front (text ++ rest) (chunk_told content) (in_line []) (chunk_heard line content states is size some) refl
    ∙ ap (λ (r : Reading). reading_behind (chunk_told content) (length front) r) (chunked_read text rest contents trailers body)
    ∙ ap (λ (n : ℕ). to_reading (chunk_told content ++ chunks_told contents) (whole trailers n))
    (sym (ap (λ (l : List ℕ). length l) (regroup_text line content crlf text) ∙ length-append front text))

-- ---- what is read as whole is a chunked body

-- the text is a chunked body with these trailers, which tells these marks
abbrev Tells : List ℕ → List Mark → List (List ℕ × List ℕ) → Type 0
Tells text marks trailers = (contents : List (List ℕ)) × IsChunked text contents trailers × (marks ≡ chunks_told contents)

-- the text is the rest of a chunked body from this place on
abbrev TellsFrom : ChunkPlace → List ℕ → List Mark → List (List ℕ × List ℕ) → Type 0
TellsFrom (in_line line) text marks trailers = Tells (line ++ text) marks trailers
TellsFrom (in_content left) text marks trailers =
    (content : List ℕ) × (rest : List ℕ) × (further : List Mark) × (text ≡ content ++ (crlf ++ rest)) × (length content ≡ suc left)
    × (marks ≡ map byte content ++ ends ∷ further) × Tells rest further trailers
TellsFrom at_cr text marks trailers =
    (rest : List ℕ) × (further : List Mark) × (text ≡ crlf ++ rest) × (marks ≡ ends ∷ further) × Tells rest further trailers
TellsFrom at_lf text marks trailers =
    (rest : List ℕ) × (further : List Mark) × (text ≡ 10 ∷ rest) × (marks ≡ ends ∷ further) × Tells rest further trailers
TellsFrom (in_trailers block) text marks trailers =
    (section : List Field × LineEnd) × IsTrailers text section × (length text ≤ 65536) × (trailers ≡ (raw_trailers section).pairs) × (marks ≡ [])
TellsFrom broken text marks trailers = ⊥

-- of the trailers nothing was heard
abbrev IsFresh : ChunkPlace → Type 0
IsFresh (in_trailers block) = block ≡ []
IsFresh _ = ⊤

-- ---- one byte before

tells_last : (line text : List ℕ) (marks : List Mark) (trailers : List (List ℕ × List ℕ)) → size_in line ≡ Some 0
    → TellsFrom (in_trailers []) text marks trailers → Tells (line ++ text) marks trailers
tells_last line text marks trailers size w =
    let states = size_in-source line 0 size in (
      [],
      subst (λ (t : List (List ℕ × List ℕ)). IsChunked (line ++ text) [] t) (sym w.3)
          (last line text states.0 w.0 states.1 states.2 w.1 w.2),
      w.4,
    )

regroup_marks : (first : Mark) (content further : List Mark) → first ∷ (content ++ ends ∷ further) ≡ (first ∷ content ++ ends ∷ []) ++ further
regroup_marks first content further = simp append_assoc

tells_chunk : (line text : List ℕ) (marks : List Mark) (trailers : List (List ℕ × List ℕ)) (left : ℕ) → size_in line ≡ Some (suc left)
    → TellsFrom (in_content left) text marks trailers → Tells (line ++ text) (begins (suc left) ∷ marks) trailers
tells_chunk line text marks trailers left size w =
    let states = size_in-source line (suc left) size in
    let content = w.0 in
    let count = w.4 in
    let body = chunk line content w.1 states.0 w.6.0 trailers states.1 (states.2 ∙ sym count) (omega arith) w.6.1 in (
      content ∷ w.6.0,
      subst (λ (t : List ℕ). IsChunked (line ++ t) (content ∷ w.6.0) trailers) (sym w.3) body,
      ap (λ (n : ℕ). begins n ∷ marks) (sym count)
          ∙ ap (λ (ms : List Mark). begins (length content) ∷ ms) (w.5 ∙ ap (λ (ms : List Mark). map byte content ++ ends ∷ ms) w.6.2)
          ∙ regroup_marks (begins (length content)) (map byte content) (chunks_told w.6.0),
    )

tells_size : (line text : List ℕ) (marks : List Mark) (trailers : List (List ℕ × List ℕ)) (size : Option ℕ) → size_in line ≡ size
    → TellsFrom (behind_size size).place text marks trailers → Tells (line ++ text) ((behind_size size).marks ++ marks) trailers
tells_size line text marks trailers None is w = absurd w
tells_size line text marks trailers (Some zero) is w = tells_last line text marks trailers is w
tells_size line text marks trailers (Some (suc left)) is w = tells_chunk line text marks trailers left is w

abbrev line_byte : List ℕ → Bool → Bool → ChunkHearing
line_byte line ended over = if ended then behind_size (size_in line) else (if over then silent broken else silent (in_line line))

tells_line : (line text : List ℕ) (marks : List Mark) (trailers : List (List ℕ × List ℕ)) (ended over : Bool)
    → TellsFrom (line_byte line ended over).place text marks trailers
    → Tells (line ++ text) ((line_byte line ended over).marks ++ marks) trailers
tells_line line text marks trailers true over w = tells_size line text marks trailers (size_in line) refl w
tells_line line text marks trailers false true w = absurd w
tells_line line text marks trailers false false w = w

is_byte : (b n : ℕ) → (b == n) ≡ true → b ≡ n
is_byte b n is = elim (eqb_tells b n) [ inl t ↦ t.1 | inr f ↦ absurd (let e = sym f.0 ∙ is in cc) ]

tells_cr : (b : ℕ) (text : List ℕ) (marks : List Mark) (trailers : List (List ℕ × List ℕ)) (v : Bool) → (b == 13) ≡ v
    → TellsFrom (if v then silent at_lf else silent broken).place text marks trailers
    → TellsFrom at_cr (b ∷ text) ((if v then silent at_lf else silent broken).marks ++ marks) trailers
tells_cr b text marks trailers false is w = absurd w
tells_cr b text marks trailers true is w =
    (w.0, w.1, ap (λ (n : ℕ). n ∷ text) (is_byte b 13 is) ∙ ap (λ (t : List ℕ). 13 ∷ t) w.2, w.3, w.4)

abbrev lf_turn : Bool → ChunkHearing
lf_turn v = if v then record { marks = ends ∷ []; place = in_line [] } else silent broken

tells_lf : (b : ℕ) (text : List ℕ) (marks : List Mark) (trailers : List (List ℕ × List ℕ)) (v : Bool) → (b == 10) ≡ v
    → TellsFrom (lf_turn v).place text marks trailers → TellsFrom at_lf (b ∷ text) ((lf_turn v).marks ++ marks) trailers
tells_lf b text marks trailers false is w = absurd w
tells_lf b text marks trailers true is w = (text, marks, ap (λ (n : ℕ). n ∷ text) (is_byte b 10 is), refl, w)

tells_more : (place : ChunkPlace) (b : ℕ) (text : List ℕ) (marks : List Mark) (trailers : List (List ℕ × List ℕ)) → (GoesOn place)
    → IsFresh place → (in_trailers [] ≡ place → ⊥)
    → TellsFrom (hear place b).place text marks trailers → TellsFrom place (b ∷ text) ((hear place b).marks ++ marks) trailers
tells_more (in_line line) b text marks trailers on fresh other w =
    subst (λ (t : List ℕ). Tells t ((hear (in_line line) b).marks ++ marks) trailers) (append_assoc line (b ∷ []) text)
    (tells_line (line ++ b ∷ []) text marks trailers (b == 10) (nat_le 1024 (length (line ++ b ∷ []))) w)
tells_more (in_content zero) b text marks trailers on fresh other w =
    (b ∷ [], w.0, w.1, ap (λ (t : List ℕ). b ∷ t) w.2, refl, ap (λ (ms : List Mark). byte b ∷ ms) w.3, w.4)
tells_more (in_content (suc left)) b text marks trailers on fresh other w = (
  b ∷ w.0,
  w.1,
  w.2,
  ap (λ (t : List ℕ). b ∷ t) w.3,
  ap (λ (n : ℕ). suc n) w.4,
  ap (λ (ms : List Mark). byte b ∷ ms) w.5,
  w.6,
)
tells_more at_cr b text marks trailers on fresh other w = tells_cr b text marks trailers (b == 13) refl w
tells_more at_lf b text marks trailers on fresh other w = tells_lf b text marks trailers (b == 10) refl w
tells_more (in_trailers block) b text marks trailers on fresh other w = absurd (other (ap (λ (l : List ℕ). in_trailers l) (sym fresh)))
tells_more broken b text marks trailers on fresh other w = absurd (let e = on in cc)

fresh_line : (line : List ℕ) (ended over : Bool) → IsFresh (line_byte line ended over).place
fresh_line line true over = by (size_in line)
  where
    by : (size : Option ℕ) → IsFresh (behind_size size).place
    by None = tt
    by (Some zero) = refl
    by (Some (suc left)) = tt
fresh_line line false true = tt
fresh_line line false false = tt

fresh_if : (v : Bool) (marks : List Mark) (place : ChunkPlace) → IsFresh place
    → IsFresh (if v then record { marks = marks; place = place } else silent broken).place
fresh_if true marks place fresh = fresh
fresh_if false marks place fresh = tt

fresh_hear : (place : ChunkPlace) (b : ℕ) → (in_trailers [] ≡ place → ⊥) → IsFresh place → IsFresh (hear place b).place
fresh_hear (in_line line) b other fresh = fresh_line (line ++ b ∷ []) (b == 10) (nat_le 1024 (length (line ++ b ∷ [])))
fresh_hear (in_content zero) b other fresh = tt
fresh_hear (in_content (suc left)) b other fresh = tt
fresh_hear at_cr b other fresh = fresh_if (b == 13) [] at_lf tt
fresh_hear at_lf b other fresh = fresh_if (b == 10) (ends ∷ []) (in_line []) tt
fresh_hear (in_trailers block) b other fresh = absurd (other (ap (λ (l : List ℕ). in_trailers l) (sym fresh)))
fresh_hear broken b other fresh = tt

-- ---- the trailers

place_at-start : (bytes : List ℕ) (end : Option ℕ) (start used : ℕ) → place_at bytes 0 end ≡ Block start used → start ≡ 0
place_at-start bytes None start used is = elim (leb_tells 65536 (length bytes)) [
  | inl t ↦ absurd (let e : Exceeded ≡ Block start used = rw t.0 at is in cc)
  | inr f ↦ absurd (let e : Missing ≡ Block start used = rw f.0 at is in cc)
]
place_at-start bytes (Some end) start used is = elim (leb_tells 65537 end) [
  | inl t ↦ absurd (let e : Exceeded ≡ Block start used = rw t.0 at is in cc)
  | inr f ↦ (let e : Block 0 end ≡ Block start used = rw f.0 at is in cc)
]

place_start : (bytes : List ℕ) (raw : RawHead) (used : ℕ) → trailer_front bytes ≡ Stands raw used
    → trailers_in (take used bytes) ≡ Some raw
place_start bytes raw used is =
    let s = standing Trailers bytes raw used is in
    let start : s.start ≡ 0 = place_at-start bytes (trailers_end bytes) s.start used s.at in
    let count : used - 0 ≡ used = omega arith in
    subst (λ (n : ℕ). trailers_in (take n bytes) ≡ Some raw) count
    (subst (λ (n : ℕ). trailers_in (slice_range bytes n used) ≡ Some raw) start s.reads)

trailers_told : (bytes : List ℕ) (front : Front) (trailers : List (List ℕ × List ℕ)) (used : ℕ) → trailer_front bytes ≡ front
    → trailers_finish (length bytes) (length bytes) front ≡ whole trailers used
    → TellsFrom (in_trailers []) (take used bytes) [] trailers
trailers_told bytes Nothing trailers used at is = absurd (let e = is in cc)
trailers_told bytes TooLong trailers used at is = absurd (let e = is in cc)
trailers_told bytes BadHead trailers used at is = absurd (let e = is in cc)
trailers_told bytes (Stands raw n) trailers used at is =
    let pairs : raw.pairs ≡ trailers = (let e = is in cc) in
    let count : (length bytes + n) - length bytes ≡ used = (let e = is in cc) in
    let same : n ≡ used = omega arith in
    let stands = subst (λ (m : ℕ). trailer_front bytes ≡ Stands raw m) same at in
    let within = used-within Trailers bytes raw used stands in
    let inside = within.1 in
    let limit = within.2 in
    let size = length-take-le used bytes inside in
    let w = trailers_in-source (take used bytes) raw (place_start bytes raw used stands) in
    (w.0, w.1, omega arith, sym pairs ∙ ap (λ (r : RawHead). r.pairs) w.2, refl)

-- ---- all bytes

-- the finish one byte before
finish_more : (finish : Finish) (trailers : List (List ℕ × List ℕ)) (used : ℕ) → behind_bytes 1 finish ≡ whole trailers used
    → (n : ℕ) × (finish ≡ whole trailers n) × (used ≡ suc n)
finish_more goes_on trailers used is = absurd (let e = is in cc)
finish_more (whole other n) trailers used is =
    let same : other ≡ trailers = (let e = is in cc) in
    let count : 1 + n ≡ used = (let e = is in cc) in
    (n, ap (λ (t : List (List ℕ × List ℕ)). whole t n) same, omega arith)
finish_more (fails fault) trailers used is = absurd (let e = is in cc)

shift_fresh : (place : ChunkPlace) (bytes : List ℕ) → IsFresh place
    → place_finish (1 + length bytes) (hear_all place bytes).place ≡ behind_bytes 1 (place_finish (length bytes) (hear_all place bytes).place)
shift_fresh (in_line line) bytes fresh = shift_from 1 (in_line line) bytes refl
shift_fresh (in_content left) bytes fresh = shift_from 1 (in_content left) bytes refl
shift_fresh at_cr bytes fresh = shift_from 1 at_cr bytes refl
shift_fresh at_lf bytes fresh = shift_from 1 at_lf bytes refl
shift_fresh (in_trailers block) bytes fresh =
    shift_from 1 (in_trailers block) bytes (subst (λ (l : List ℕ). GoesOn (in_trailers l)) (sym fresh) (waits_on [] refl))
shift_fresh broken bytes fresh =
    subst (λ (t : ChunkHearing). place_finish (1 + length bytes) t.place ≡ behind_bytes 1 (place_finish (length bytes) t.place)) (sym (hear_all-broken bytes)) refl

abbrev IsAllTold : ChunkPlace → List ℕ → Type 0
IsAllTold place bytes = (trailers : List (List ℕ × List ℕ)) (used : ℕ) → (chunks_from place bytes).finish ≡ whole trailers used
    → TellsFrom place (take used bytes) (chunks_from place bytes).marks trailers

all_trailers : (block bytes : List ℕ) → block ≡ [] → IsAllTold (in_trailers block) bytes
all_trailers block bytes fresh trailers used is = subst (λ (l : List ℕ). IsAllTold (in_trailers l) bytes) (sym fresh) told trailers used is
  where
    told : IsAllTold (in_trailers []) bytes
    told trailers used is =
        let heard = hear_all-trailers [] bytes in
        let finish = subst (λ (t : ChunkHearing). place_finish (length bytes) t.place ≡ whole trailers used) heard is in
        subst (λ (t : ChunkHearing). TellsFrom (in_trailers []) (take used bytes) t.marks trailers) (sym heard)
        (trailers_told bytes (trailer_front bytes) trailers used refl finish)

all_broken : (bytes : List ℕ) → IsAllTold broken bytes
all_broken bytes trailers used is =
    absurd (let e = subst (λ (t : ChunkHearing). place_finish (length bytes) t.place ≡ whole trailers used) (hear_all-broken bytes) is in cc)

all_more : (bytes : List ℕ) → ((place : ChunkPlace) → IsFresh place → IsAllTold place bytes) → (place : ChunkPlace) (b : ℕ) → GoesOn place
    → IsFresh place → (in_trailers [] ≡ place → ⊥) → IsAllTold place (b ∷ bytes)
all_more bytes rest place b on fresh other trailers used is =
    let next = (hear place b).place in
    let follows = fresh_hear place b other fresh in
    let count : length (b ∷ bytes) ≡ 1 + length bytes = omega arith in
    let finish = sym (shift_fresh next bytes follows) ∙ ap (λ (n : ℕ). place_finish n (hear_all next bytes).place) (sym count) ∙ is in
    let f = finish_more (place_finish (length bytes) (hear_all next bytes).place) trailers used finish in
    let w = rest next follows trailers f.0 f.1 in
    subst (λ (n : ℕ). TellsFrom place (take n (b ∷ bytes)) (chunks_from place (b ∷ bytes)).marks trailers) (sym f.2)
    (tells_more place b (take f.0 bytes) (hear_all next bytes).marks trailers on fresh other w)

all_none : (place : ChunkPlace) → GoesOn place → IsAllTold place []
all_none place on trailers used is = absurd (let e = sym on ∙ is in cc)

all_told : (bytes : List ℕ) (place : ChunkPlace) → IsFresh place → IsAllTold place bytes
all_told bytes (in_trailers block) fresh = all_trailers block bytes fresh
all_told bytes broken fresh = all_broken bytes
all_told [] (in_line line) fresh = all_none (in_line line) refl
all_told [] (in_content left) fresh = all_none (in_content left) refl
all_told [] at_cr fresh = all_none at_cr refl
all_told [] at_lf fresh = all_none at_lf refl
all_told (b ∷ bytes) (in_line line) fresh = all_more bytes (all_told bytes) (in_line line) b refl tt (λ e. cc)
all_told (b ∷ bytes) (in_content left) fresh = all_more bytes (all_told bytes) (in_content left) b refl tt (λ e. cc)
all_told (b ∷ bytes) at_cr fresh = all_more bytes (all_told bytes) at_cr b refl tt (λ e. cc)
all_told (b ∷ bytes) at_lf fresh = all_more bytes (all_told bytes) at_lf b refl tt (λ e. cc)

pub read_chunked : (bytes : List ℕ) (marks : List Mark) (trailers : List (List ℕ × List ℕ)) (used : ℕ)
    → chunked_reading bytes ≡ record { marks = marks; finish = whole trailers used }
    → (contents : List (List ℕ)) × IsChunked (take used bytes) contents trailers × (marks ≡ chunks_told contents)
read_chunked bytes marks trailers used is =
    let w = all_told bytes (in_line []) tt trailers used (ap (λ (r : Reading). r.finish) is) in
    (w.0, w.1, sym (ap (λ (r : Reading). r.marks) is) ∙ w.2)

-- ---- bytes begin with one chunked body at most

content_same : (a b : List ℕ) (x y : List Mark) → map byte a ++ ends ∷ x ≡ map byte b ++ ends ∷ y → (a ≡ b) × (x ≡ y)
content_same [] [] x y is = (refl, (let e = is in cc))
content_same [] (c ∷ b) x y is = absurd (let e = is in cc)
content_same (c ∷ a) [] x y is = absurd (let e = is in cc)
content_same (c ∷ a) (d ∷ b) x y is =
    let head : c ≡ d = (let e = is in cc) in
    let rest : map byte a ++ ends ∷ x ≡ map byte b ++ ends ∷ y = (let e = is in cc) in
    let s = content_same a b x y rest in
    let same = s.0 in
    (cc, s.1)

contents_same : (a b : List (List ℕ)) → chunks_told a ≡ chunks_told b → a ≡ b
contents_same [] [] is = refl
contents_same [] (c ∷ b) is = absurd (let e = is in cc)
contents_same (c ∷ a) [] is = absurd (let e = is in cc)
contents_same (c ∷ a) (d ∷ b) is =
    let first = regroup_marks (begins (length c)) (map byte c) (chunks_told a) in
    let second = regroup_marks (begins (length d)) (map byte d) (chunks_told b) in
    let e : begins (length c) ∷ (map byte c ++ ends ∷ chunks_told a) ≡ begins (length d) ∷ (map byte d ++ ends ∷ chunks_told b) = first ∙ is ∙ sym second in
    let rest : map byte c ++ ends ∷ chunks_told a ≡ map byte d ++ ends ∷ chunks_told b = (let z = e in cc) in
    let s = content_same c d (chunks_told a) (chunks_told b) rest in
    let same = s.0 in
    let others = contents_same a b s.1 in
    cc

pub chunked_unique : (text rest : List ℕ) (contents : List (List ℕ)) (trailers : List (List ℕ × List ℕ))
    (other behind : List ℕ) (others : List (List ℕ)) (further : List (List ℕ × List ℕ))
    → IsChunked text contents trailers → IsChunked other others further → text ++ rest ≡ other ++ behind
    → (text ≡ other) × (contents ≡ others) × (trailers ≡ further)
chunked_unique text rest contents trailers other behind others further x y is =
    let e : record { marks = chunks_told contents; finish = whole trailers (length text) } ≡ to_reading (chunks_told others) (whole further (length other)) =
    sym (chunked_read text rest contents trailers x) ∙ ap (λ (l : List ℕ). chunked_reading l) is ∙ chunked_read other behind others further y in
    let marks : chunks_told contents ≡ chunks_told others = ap (λ (r : Reading). r.marks) e in
    let finish : whole trailers (length text) ≡ whole further (length other) = ap (λ (r : Reading). r.finish) e in
    let same : trailers ≡ further = (let f = finish in cc) in
    let count : length text ≡ length other = (let f = finish in cc) in (
      sym (take-append_seam text rest) ∙ ap (λ (l : List ℕ). take (length text) l) is ∙ ap (λ (n : ℕ). take n (other ++ behind)) count ∙ take-append_seam other behind,
      contents_same contents others marks,
      same,
    )

pub refused_not_chunked : (bytes more text rest : List ℕ) (fault : Fault) (contents : List (List ℕ)) (trailers : List (List ℕ × List ℕ))
    → (chunked_reading bytes).finish ≡ fails fault → bytes ++ more ≡ text ++ rest → IsChunked text contents trailers → ⊥
refused_not_chunked bytes more text rest fault contents trailers refused is x =
    let decided : (chunked_reading bytes).finish ≢ goes_on = λ e. (let f : fails fault ≡ goes_on = sym refused ∙ e in cc) in
    let stays = finish_stays (in_line []) bytes more decided in
    let read = chunked_read text rest contents trailers x in
    let e : fails fault ≡ whole trailers (length text) =
    sym refused ∙ sym (ap (λ (r : Reading). r.finish) stays) ∙ ap (λ (l : List ℕ). (chunked_reading l).finish) is ∙ ap (λ (r : Reading). r.finish) read in
    cc
