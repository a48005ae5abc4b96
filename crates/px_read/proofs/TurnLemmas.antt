-- What one stage of a chunked body makes of its bytes.
use Rattle.std.proofs.Common.{ℕ, zero, suc, ◌-◌, ◌<◌, ◌≤◌, ◌≡◌, ◌≢◌, List, [], ◌∷◌, ◌++◌, length, map, take, drop, get_or, refl, sym, ap, ◌∙◌, subst, arith, inl, inr, Some, None, drop_of_length-le}
use Rattle.std.specs.Prelude.{◌⊎◌, min, Bool, true, false, if◌then◌else◌, ◌==◌, Result, Ok, Err, IsErrAnd}
use Rattle.std.proofs.lemmas.Bool.Decides.{eqb_tells, leb_tells}
use Rattle.std.proofs.lemmas.List.{take-append-drop, length-take-le}
use Rattle.px_message.specs.declared.fault.Fault.TheVariants as fault
use Rattle.px_read.specs.declared.chunk_reader.ChunkError.{ChunkError}
use Rattle.px_read.specs.declared.chunk_reader.ChunkError.TheVariants.{BadChunk, NoMemory}
use Rattle.px_read.specs.declared.chunk_reader.stage.ChunkStage.TheVariants as stage
use Rattle.px_read.specs.declared.chunk_reader.stage.ChunkTurn.{ChunkTurn}
use Rattle.px_read.specs.declared.part.ChunkPart.TheVariants as chunk_part
use Rattle.px_read.specs.Marks.{BeginsWithNoByte, Mark, byte, ends}
use Rattle.px_read.specs.Chunks.{ChunkPlace, in_line, at_cr, at_lf, broken, ChunkHearing, silent, behind_content, hear_all, Finish, goes_on, fails, place_finish, GoesOn, Reading, chunks_from}
use Rattle.px_read.specs.ChunkSteps.{IsRefusal}
use Rattle.px_read.specs.ChunkTurns.{IsTurn, Turns}
use Rattle.px_read.proofs.HearLemmas.{finish_stays}
use Rattle.px_read.proofs.SizeLemmas.{hear_one, content_heard}

-- ---- once out of memory

pub want_of_memory : (place : ChunkPlace) (bytes line : List ℕ) (result : Result ChunkTurn ChunkError)
    → IsErrAnd result (λ e. e ≡ NoMemory) → Turns place bytes line result
want_of_memory place bytes line (Ok turn) is = absurd is
want_of_memory place bytes line (Err BadChunk) is = absurd (let e = is in cc)
want_of_memory place bytes line (Err NoMemory) is = tt

-- ---- bytes that refuse the body

abbrev pub to_reading : List Mark → Finish → Reading
to_reading marks finish = record { marks = marks; finish = finish }

-- a front that leads behind a fault without telling anything
pub refused_by : (place : ChunkPlace) (front more : List ℕ) → hear_all place front ≡ silent broken → IsRefusal place (front ++ more)
refused_by place front more is =
    let read : chunks_from place front ≡ to_reading [] (fails fault.BadChunk) =
    ap (λ (t : ChunkHearing). to_reading t.marks (place_finish (length front) t.place)) is in
    let decided : (chunks_from place front).finish ≢ goes_on = λ e.
    (let f : fails fault.BadChunk ≡ goes_on = sym (ap (λ (r : Reading). r.finish) read) ∙ e in cc) in
    finish_stays place front more decided ∙ read

pub refused_at : (place : ChunkPlace) (count : ℕ) (bytes : List ℕ) → hear_all place (take count bytes) ≡ silent broken → IsRefusal place bytes
refused_at place count bytes is =
    subst (λ (l : List ℕ). IsRefusal place l) (take-append-drop count bytes) (refused_by place (take count bytes) (drop count bytes) is)

-- ---- the CRLF behind a content

if_byte : (b n : ℕ) (there other : ChunkHearing) → b ≡ n → (if b == n then there else other) ≡ there
if_byte b n there other is = elim (eqb_tells b n) [ inl t ↦ rw t.0 refl | inr f ↦ absurd (f.1 is) ]

if_not_byte : (b n : ℕ) (there other : ChunkHearing) → b ≢ n → (if b == n then there else other) ≡ other
if_not_byte b n there other differs = elim (eqb_tells b n) [ inl t ↦ absurd (differs t.1) | inr f ↦ rw f.0 refl ]

pub cr_refused : (bytes : List ℕ) → 0 < length bytes → get_or bytes 0 0 ≢ 13 → IsRefusal at_cr bytes
cr_refused [] some other = absurd (omega arith)
cr_refused (b ∷ bytes) some other =
    refused_by at_cr (b ∷ []) bytes (hear_one at_cr b ∙ if_not_byte b 13 (silent at_lf) (silent broken) other)

pub cr_taken : (bytes : List ℕ) → 0 < length bytes → get_or bytes 0 0 ≡ 13
    → IsTurn at_cr bytes [] (record { used = 1; part = None; stage = stage.LineFeed })
cr_taken [] some is = absurd (omega arith)
cr_taken (b ∷ bytes) some is = record {
  some = omega arith;
  within = omega arith;
  stage = refl;
  gives = (at_lf, hear_one at_cr b ∙ if_byte b 13 (silent at_lf) (silent broken) is, refl, refl);
}

abbrev ended : ChunkHearing
ended = record { marks = ends ∷ []; place = in_line [] }

pub lf_refused : (bytes : List ℕ) → 0 < length bytes → get_or bytes 0 0 ≢ 10 → IsRefusal at_lf bytes
lf_refused [] some other = absurd (omega arith)
lf_refused (b ∷ bytes) some other =
    refused_by at_lf (b ∷ []) bytes (hear_one at_lf b ∙ if_not_byte b 10 ended (silent broken) other)

pub lf_taken : (bytes : List ℕ) → 0 < length bytes → get_or bytes 0 0 ≡ 10
    → IsTurn at_lf bytes [] (record { used = 1; part = Some chunk_part.EndOfChunk; stage = stage.Line })
lf_taken [] some is = absurd (omega arith)
lf_taken (b ∷ bytes) some is = record {
  some = omega arith;
  within = omega arith;
  stage = omega arith;
  gives = ((in_line [], hear_one at_lf b ∙ if_byte b 10 ended (silent broken) is, refl, refl), tt);
}

-- ---- a content

pub content_goes : (left : ℕ) → GoesOn (behind_content left)
content_goes zero = refl
content_goes (suc left) = refl

-- a piece of as many bytes as are to come and are there has all of the one or of the other
pub piece_whole : (left there count : ℕ) → count ≡ min left there → (count ≡ left) ⊎ (count ≡ there)
piece_whole left there count is = elim (leb_tells left there) [
  | inl t ↦ (let fits = t.1 in inl (omega arith))
  | inr f ↦ (let fits = f.1 in inr (omega arith))
]

broken_no_byte : (bytes : List ℕ) → BeginsWithNoByte (hear_all broken bytes).marks
broken_no_byte [] = λ value rest e. cc
broken_no_byte (b ∷ bytes) = broken_no_byte bytes

lf_no_byte : (bytes : List ℕ) → BeginsWithNoByte (hear_all at_lf bytes).marks
lf_no_byte [] = λ value rest e. cc
lf_no_byte (b ∷ bytes) = by_test (b == 10)
  where
    ended : ChunkHearing
    ended = record { marks = ends ∷ []; place = in_line [] }

    by_test : (t : Bool) → BeginsWithNoByte ((if t then ended else silent broken).marks ++ (hear_all (if t then ended else silent broken).place bytes).marks)
    by_test true = λ value rest e. cc
    by_test false = broken_no_byte bytes

cr_no_byte : (bytes : List ℕ) → BeginsWithNoByte (hear_all at_cr bytes).marks
cr_no_byte [] = λ value rest e. cc
cr_no_byte (b ∷ bytes) = by_test (b == 13)
  where
    by_test : (t : Bool)
        → BeginsWithNoByte ((if t then silent at_lf else silent broken).marks ++ (hear_all (if t then silent at_lf else silent broken).place bytes).marks)
    by_test true = lf_no_byte bytes
    by_test false = broken_no_byte bytes

content_longest : (left count : ℕ) (bytes : List ℕ) → (count ≡ left) ⊎ (count ≡ length bytes)
    → BeginsWithNoByte (hear_all (behind_content (left - count)) (drop count bytes)).marks
content_longest left count bytes (inl same) =
    let none : left - count ≡ 0 = omega arith in
    subst (λ (n : ℕ). BeginsWithNoByte (hear_all (behind_content n) (drop count bytes)).marks) (sym none) (cr_no_byte (drop count bytes))
content_longest left count bytes (inr all) =
    let none : drop count bytes ≡ [] = drop_of_length-le bytes (omega arith) in
    subst (λ (l : List ℕ). BeginsWithNoByte (hear_all (behind_content (left - count)) l).marks) (sym none) (λ value rest e. cc)

pub piece_taken : (left count : ℕ) (bytes piece : List ℕ) → 0 < count → count ≤ left → count ≤ length bytes → piece ≡ take count bytes
    → (count ≡ left) ⊎ (count ≡ length bytes)
    → IsTurn (behind_content left) bytes [] (record { used = count; part = Some (chunk_part.Piece piece); stage = stage.Content (left - count) })
piece_taken left count bytes piece some low within is all =
    let size = length-take-le count bytes within in
    let same = ap (λ (l : List ℕ). length l) is in
    let heard : hear_all (behind_content left) (take count bytes) ≡ record { marks = map byte piece; place = behind_content (left - count) } =
    content_heard left (take count bytes) (omega arith)
    ∙ ap (λ (n : ℕ). to_turn (map byte (take count bytes)) (behind_content (left - n))) size
    ∙ ap (λ (l : List ℕ). to_turn (map byte l) (behind_content (left - count))) (sym is) in
    record {
      some = some;
      within = within;
      stage = refl;
      gives = ((behind_content (left - count), heard, refl, content_goes (left - count)), omega arith, content_longest left count bytes all);
    }
  where
    to_turn : List Mark → ChunkPlace → ChunkHearing
    to_turn marks place = record { marks = marks; place = place }
