-- What the stage of the trailers makes of its bytes.
use Rattle.std.proofs.Common.{ℕ, ◌+◌, ◌-◌, ◌<◌, ◌≤◌, ◌≡◌, ◌≢◌, List, [], ◌++◌, length, take, drop, refl, sym, ap, ◌∙◌, arith, Option, Some, None, length-append}
use Rattle.std.proofs.lemmas.List.{take-append-drop, length-take-le, length-drop}
use Rattle.px_message.specs.declared.fault.Fault.TheVariants as fault
use Rattle.px_head.specs.declared.raw.RawHead.{RawHead}
use Rattle.px_head.specs.declared.front.Front.{Front}
use Rattle.px_head.specs.declared.front.Front.TheVariants as front
use Rattle.px_head.specs.declared.front.Found.TheVariants as found
use Rattle.px_head.specs.declared.front.Kind.TheVariants.{Trailers}
use Rattle.px_head.specs.declared.front.Refusal.{Refusal}
use Rattle.px_head.specs.Front.{trailer_front}
use Rattle.px_head.specs.Laws.{IsTrailerParts}
use Rattle.px_head.specs.Reader.{Reader, after, answer, seen, seen_by}
use Rattle.px_head.proofs.FrontLemmas.{trailer_parts_valid, used-within}
use Rattle.px_read.specs.declared.chunk_reader.stage.ChunkStage.TheVariants as stage
use Rattle.px_read.specs.declared.part.ChunkPart.TheVariants as chunk_part
use Rattle.px_read.specs.Chunks.{ChunkPlace, in_trailers, ChunkHearing, silent, Finish, goes_on, whole, fails, trailers_finish, place_finish, Reading, chunks_from}
use Rattle.px_read.specs.Chunking.{ended}
use Rattle.px_read.specs.ChunkSteps.{IsRefusal}
use Rattle.px_read.specs.ChunkTurns.{IsTurn}
use Rattle.px_read.proofs.HearLemmas.{finish_stays, hear_all-trailers, waits_on}
use Rattle.px_read.proofs.TrailerLemmas.{trailers_late}
use Rattle.px_read.proofs.TurnLemmas.{to_reading}

-- the reader of trailers was fed these bytes
abbrev pub IsFed : Reader → List ℕ → Reader → Type 0
IsFed reader bytes fed = fed ≡ record reader { rest = reader.rest ++ bytes }

pub seen_fed : (reader fed : Reader) (bytes : List ℕ) → reader.failed ≡ None → IsFed reader bytes fed
    → seen Trailers fed ≡ trailer_front (reader.rest ++ bytes)
seen_fed reader fed bytes none is =
    ap (λ (r : Reader). seen Trailers r) is
    ∙ ap (λ (o : Option Refusal). seen_by (trailer_front (reader.rest ++ bytes)) o) none

-- ---- what was answered

answered_Partial : (f : Front) → found.Partial ≡ answer f → f ≡ front.Nothing
answered_Partial front.Nothing is = refl
answered_Partial front.TooLong is = absurd (let e = is in cc)
answered_Partial front.BadHead is = absurd (let e = is in cc)
answered_Partial (front.Stands raw used) is = absurd (let e = is in cc)

answered_TooLong : (f : Front) → found.TooLong ≡ answer f → f ≡ front.TooLong
answered_TooLong front.Nothing is = absurd (let e = is in cc)
answered_TooLong front.TooLong is = refl
answered_TooLong front.BadHead is = absurd (let e = is in cc)
answered_TooLong (front.Stands raw used) is = absurd (let e = is in cc)

answered_BadHead : (f : Front) → found.BadHead ≡ answer f → f ≡ front.BadHead
answered_BadHead front.Nothing is = absurd (let e = is in cc)
answered_BadHead front.TooLong is = absurd (let e = is in cc)
answered_BadHead front.BadHead is = refl
answered_BadHead (front.Stands raw used) is = absurd (let e = is in cc)

answered_Head : (f : Front) (raw : RawHead) → found.Head raw ≡ answer f → (used : ℕ) × (f ≡ front.Stands raw used)
answered_Head front.Nothing raw is = absurd (let e = is in cc)
answered_Head front.TooLong raw is = absurd (let e = is in cc)
answered_Head front.BadHead raw is = absurd (let e = is in cc)
answered_Head (front.Stands other used) raw is = (used, (let e = is in cc))

-- ---- what the bytes tell

read_trailers : (block bytes : List ℕ) (f : Front) → trailer_front (block ++ bytes) ≡ f
    → chunks_from (in_trailers block) bytes ≡ to_reading [] (trailers_finish (length bytes) (length block + length bytes) f)
read_trailers block bytes f is =
    ap (λ (t : ChunkHearing). to_reading t.marks (place_finish (length bytes) t.place)) (hear_all-trailers block bytes)
    ∙ ap (λ (n : ℕ). to_reading [] (trailers_finish (length bytes) n (trailer_front (block ++ bytes)))) (length-append block bytes)
    ∙ ap (λ (g : Front). to_reading [] (trailers_finish (length bytes) (length block + length bytes) g)) is

-- a decided front of the bytes decides the bytes
decided_by : (place : ChunkPlace) (count : ℕ) (bytes : List ℕ) (finish : Finish) → finish ≢ goes_on
    → chunks_from place (take count bytes) ≡ to_reading [] finish → chunks_from place bytes ≡ to_reading [] finish
decided_by place count bytes finish decided is =
    let stays = finish_stays place (take count bytes) (drop count bytes) (λ e. decided (sym (ap (λ (r : Reading). r.finish) is) ∙ e)) in
    ap (λ (l : List ℕ). chunks_from place l) (sym (take-append-drop count bytes)) ∙ stays ∙ is

refused_by_front : (block : List ℕ) (count : ℕ) (bytes : List ℕ) (f : Front) → trailer_front (block ++ take count bytes) ≡ f
    → trailers_finish (length (take count bytes)) (length block + length (take count bytes)) f ≡ fails fault.BadChunk
    → IsRefusal (in_trailers block) bytes
refused_by_front block count bytes f is bad =
    decided_by (in_trailers block) count bytes (fails fault.BadChunk) (λ e. cc)
    (read_trailers block (take count bytes) f is ∙ ap (λ (g : Finish). to_reading [] g) bad)

-- ---- the turns

pub trailers_go : (reader fed new : Reader) (count : ℕ) (bytes : List ℕ) → reader.failed ≡ None → 0 < count → count ≤ length bytes
    → IsFed reader (take count bytes) fed → found.Partial ≡ answer (seen Trailers fed) → new ≡ after (seen Trailers fed) fed
    → IsTurn (in_trailers reader.rest) bytes [] (record { used = count; part = None; stage = stage.Trailers new })
trailers_go reader fed new count bytes none some within is told becomes =
    let block = reader.rest in
    let near = take count bytes in
    let look = seen_fed reader fed near none is in
    let nothing = answered_Partial (seen Trailers fed) told in
    let searched = becomes ∙ ap (λ (f : Front). after f fed) nothing in
    let rest : new.rest ≡ block ++ near = ap (λ (r : Reader). r.rest) searched ∙ ap (λ (r : Reader). r.rest) is in
    let fresh = ap (λ (r : Reader). r.failed) searched ∙ ap (λ (r : Reader). r.failed) is in
    let waits : trailer_front new.rest ≡ front.Nothing = ap (λ (l : List ℕ). trailer_front l) rest ∙ sym look ∙ nothing in
    record {
      some = some;
      within = within;
      stage = (refl, fresh ∙ none, waits);
      gives = (in_trailers new.rest, hear_all-trailers block near ∙ ap (λ (l : List ℕ). silent (in_trailers l)) (sym rest), refl, waits_on new.rest waits);
    }

pub trailers_too_long : (reader fed : Reader) (count : ℕ) (bytes : List ℕ) → reader.failed ≡ None
    → IsFed reader (take count bytes) fed → found.TooLong ≡ answer (seen Trailers fed) → IsRefusal (in_trailers reader.rest) bytes
trailers_too_long reader fed count bytes none is told =
    refused_by_front reader.rest count bytes front.TooLong
    (sym (seen_fed reader fed (take count bytes) none is) ∙ answered_TooLong (seen Trailers fed) told) refl

pub trailers_bad : (reader fed : Reader) (count : ℕ) (bytes : List ℕ) → reader.failed ≡ None
    → IsFed reader (take count bytes) fed → found.BadHead ≡ answer (seen Trailers fed) → IsRefusal (in_trailers reader.rest) bytes
trailers_bad reader fed count bytes none is told =
    refused_by_front reader.rest count bytes front.BadHead
    (sym (seen_fed reader fed (take count bytes) none is) ∙ answered_BadHead (seen Trailers fed) told) refl

pub trailers_parts : (reader fed : Reader) (bytes : List ℕ) (raw : RawHead) → reader.failed ≡ None
    → IsFed reader bytes fed → found.Head raw ≡ answer (seen Trailers fed) → IsTrailerParts raw
trailers_parts reader fed bytes raw none is told =
    let w = answered_Head (seen Trailers fed) raw told in
    trailer_parts_valid (reader.rest ++ bytes) raw w.0 (sym (seen_fed reader fed bytes none is) ∙ w.1)

-- how many of the bytes stand behind the trailers
pub record IsEnd (reader : Reader) (bytes : List ℕ) (raw : RawHead) (behind : ℕ) : Type 0 where
  pub used : ℕ
  pub stands : trailer_front (reader.rest ++ bytes) ≡ front.Stands raw used
  pub late : length reader.rest < used
  pub within : used ≤ length reader.rest + length bytes
  pub rest : behind + used ≡ length reader.rest + length bytes

pub trailers_end : (reader fed new : Reader) (bytes : List ℕ) (raw : RawHead) (behind : ℕ) → reader.failed ≡ None
    → trailer_front reader.rest ≡ front.Nothing → IsFed reader bytes fed → found.Head raw ≡ answer (seen Trailers fed)
    → new ≡ after (seen Trailers fed) fed → behind ≡ length new.rest → IsEnd reader bytes raw behind
trailers_end reader fed new bytes raw behind none waits is told becomes count =
    let w = answered_Head (seen Trailers fed) raw told in
    let stands = sym (seen_fed reader fed bytes none is) ∙ w.1 in
    let within = used-within Trailers (reader.rest ++ bytes) raw w.0 stands in
    let inside = within.1 in
    let size = length-append reader.rest bytes in
    let same = becomes ∙ ap (λ (f : Front). after f fed) w.1 in
    let rest = ap (λ (r : Reader). length r.rest) same in
    let left = length-drop w.0 fed.rest in
    let whole = ap (λ (r : Reader). length r.rest) is in
    record {
      used = w.0;
      stands = stands;
      late = trailers_late reader.rest bytes raw w.0 waits stands;
      within = omega arith;
      rest = omega arith;
    }

pub trailers_done : (reader : Reader) (count behind : ℕ) (bytes : List ℕ) (raw : RawHead) (trailers kept : List (List ℕ × List ℕ))
    → count ≤ length bytes → IsEnd reader (take count bytes) raw behind → trailers ≡ raw.pairs → kept ≡ trailers
    → IsTurn (in_trailers reader.rest) bytes [] (record { used = count - behind; part = Some (chunk_part.Trailers trailers); stage = stage.Ended kept })
trailers_done reader count behind bytes raw trailers kept within end pairs same =
    let near = take count bytes in
    let size = length-take-le count bytes within in
    let late = end.late in
    let inside = end.within in
    let rest = end.rest in
    let used : (length near + end.used) - (length reader.rest + length near) ≡ count - behind = omega arith in
    let read : chunks_from (in_trailers reader.rest) near ≡ to_reading [] (whole trailers (count - behind)) =
    read_trailers reader.rest near (front.Stands raw end.used) end.stands
    ∙ ap (λ (n : ℕ). to_reading [] (whole raw.pairs n)) used
    ∙ ap (λ (t : List (List ℕ × List ℕ)). to_reading [] (whole t (count - behind))) (sym pairs) in
    record {
      some = omega arith;
      within = omega arith;
      stage = refl;
      gives = (
        decided_by (in_trailers reader.rest) count bytes (whole trailers (count - behind)) (λ e. cc) read,
        ap (λ (t : List (List ℕ × List ℕ)). ended t) same,
      );
    }
