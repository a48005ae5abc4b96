-- One part behind the other, up to the end of the bytes.
use Rattle.std.proofs.Common.{ℕ, ◌+◌, ◌<◌, ◌≤◌, ◌≡◌, List, [], ◌∷◌, ◌++◌, length, take, drop, refl, sym, ap, ◌∙◌, subst, arith, Option, Some, None, append-nil}
use Rattle.std.specs.Prelude.{All, Result, Ok, Err}
use Rattle.std.proofs.Math.Seq.{take-add, drop-append_seam}
use Rattle.std.proofs.lemmas.Grind.{flat_map-append}
use Rattle.std.proofs.lemmas.List.{take-append-drop, length-take-le, length-drop, take_all}
use Rattle.std.proofs.lemmas.List.Elements.{All-push, All-nil}
use Rattle.px_message.specs.declared.fault.Fault.TheVariants as fault
use Rattle.px_head.specs.declared.front.Front.{Front}
use Rattle.px_read.specs.declared.chunk_reader.ChunkError.{ChunkError}
use Rattle.px_read.specs.declared.chunk_reader.ChunkError.TheVariants.{BadChunk, NoMemory}
use Rattle.px_read.specs.declared.chunk_reader.ChunkStep.{ChunkStep}
use Rattle.px_read.specs.declared.part.ChunkPart.{ChunkPart}
use Rattle.px_read.specs.declared.part.ChunkPart.TheVariants as chunk_part
use Rattle.px_read.specs.Marks.{Mark, chunk_marks_of, all_chunk_marks}
use Rattle.px_read.specs.Chunks.{ChunkPlace, in_line, in_content, at_cr, at_lf, in_trailers, broken, ChunkHearing, hear_all, Finish, goes_on, whole, fails, trailers_finish, place_finish, GoesOn, Reading, chunks_from}
use Rattle.px_read.specs.Chunking.{Chunking, reads, ended, refused}
use Rattle.px_read.specs.ChunkSteps.{Gives, Hears, IsBodyPart, IsOpen, UsesFor, Steps, Added, AreTold, UnlessNoMemory, after_of, after_feed, answer_of, feed_answer, last_part}
use Rattle.px_read.specs.ChunkLoops.{Feeds, FeedsFrom}
use Rattle.px_read.proofs.HearLemmas.{reading_behind, resumes_as, waited}
use Rattle.px_read.proofs.ChunkedLemmas.{heard_both}
use Rattle.px_read.proofs.TurnLemmas.{to_reading}

-- ---- what a call answers

pub record Fed (before : Chunking) (bytes : List ℕ) (parts : List ChunkPart) (result : Result ℕ ChunkError) (after : Chunking) : Type 0 where
  pub added : UnlessNoMemory result (Added before bytes parts)
  pub answer : UnlessNoMemory result (result ≡ feed_answer before bytes)
  pub state : UnlessNoMemory result (after ≡ after_feed before bytes)

-- a body whose reading is known
fed_by : (place : ChunkPlace) (bytes : List ℕ) (parts : List ChunkPart) (body : List ChunkPart) (finish : Finish)
    → chunks_from place bytes ≡ to_reading (all_chunk_marks body) finish → parts ≡ body ++ last_part finish → All IsBodyPart body
    → AreTold (chunks_from place bytes) parts
fed_by place bytes parts body finish read is all =
    subst (λ (r : Reading). AreTold r parts) (sym read) (body, is, refl, all)

answers_by : (place : ChunkPlace) (bytes : List ℕ) (marks : List Mark) (finish : Finish) → chunks_from place bytes ≡ to_reading marks finish
    → answer_of (length bytes) finish ≡ feed_answer (reads place) bytes
answers_by place bytes marks finish read = ap (λ (r : Reading). answer_of (length bytes) r.finish) (sym read)

after_by : (place : ChunkPlace) (bytes : List ℕ) (marks : List Mark) (finish : Finish) → chunks_from place bytes ≡ to_reading marks finish
    → after_of (hear_all place bytes).place finish ≡ after_feed (reads place) bytes
after_by place bytes marks finish read = ap (λ (r : Reading). after_of (hear_all place bytes).place r.finish) (sym read)

-- ---- bytes behind those that gave parts

read_behind : (place next : ChunkPlace) (bytes : List ℕ) (at : ℕ) (marks : List Mark) (finish : Finish) → at ≤ length bytes
    → hear_all place (take at bytes) ≡ record { marks = marks; place = next } → GoesOn next
    → chunks_from next (drop at bytes) ≡ to_reading [] finish
    → chunks_from place bytes ≡ reading_behind marks at (to_reading [] finish)
read_behind place next bytes at marks finish fits first on read =
    ap (λ (l : List ℕ). chunks_from place l) (sym (take-append-drop at bytes))
    ∙ resumes_as place (take at bytes) (drop at bytes) marks next first on
    ∙ ap (λ (n : ℕ). reading_behind marks n (chunks_from next (drop at bytes))) (length-take-le at bytes fits)
    ∙ ap (λ (r : Reading). reading_behind marks at r) read

heard_more : (place next : ChunkPlace) (bytes : List ℕ) (at used : ℕ) (marks further : List Mark) (end : ChunkPlace)
    → hear_all place (take at bytes) ≡ record { marks = marks; place = next }
    → hear_all next (take used (drop at bytes)) ≡ record { marks = further; place = end }
    → hear_all place (take (at + used) bytes) ≡ record { marks = marks ++ further; place = end }
heard_more place next bytes at used marks further end first second =
    ap (λ (l : List ℕ). hear_all place l) (take-add at used bytes)
    ∙ heard_both place (take at bytes) (take used (drop at bytes)) marks further next end first second

marks_push : (parts : List ChunkPart) (part : ChunkPart) → all_chunk_marks parts ++ chunk_marks_of part ≡ all_chunk_marks (parts ++ part ∷ [])
marks_push parts part =
    ap (λ (ms : List Mark). all_chunk_marks parts ++ ms) (sym (append-nil (chunk_marks_of part)))
    ∙ sym (flat_map-append chunk_marks_of parts (part ∷ []))

-- a part before the end
body_more : (place next : ChunkPlace) (bytes : List ℕ) (at used : ℕ) (parts : List ChunkPart) (part : ChunkPart) (after : Chunking)
    → FeedsFrom place bytes at parts (reads next) → Hears next (take used (drop at bytes)) (chunk_marks_of part) after → IsBodyPart part
    → FeedsFrom place bytes (at + used) (parts ++ part ∷ []) after
body_more place next bytes at used parts part after w h is =
    let heard = heard_more place next bytes at used (all_chunk_marks parts) (chunk_marks_of part) h.0 w.0 h.1 in
    subst (λ (c : Chunking). FeedsFrom place bytes (at + used) (parts ++ part ∷ []) c) (sym h.2) (
      heard ∙ ap (λ (ms : List Mark). to_turn ms h.0) (marks_push parts part),
      All-push IsBodyPart parts part w.1 is,
    )
  where
    to_turn : List Mark → ChunkPlace → ChunkHearing
    to_turn marks place = record { marks = marks; place = place }

part_more : (place next : ChunkPlace) (bytes : List ℕ) (at used : ℕ) (parts : List ChunkPart) (part : ChunkPart) (after : Chunking)
    → at ≤ length bytes → GoesOn next → FeedsFrom place bytes at parts (reads next) → Gives next (drop at bytes) used (Some part) after
    → FeedsFrom place bytes (at + used) (parts ++ part ∷ []) after
part_more place next bytes at used parts (chunk_part.Size n) after fits on w g = body_more place next bytes at used parts (chunk_part.Size n) after w g.0 g.1
part_more place next bytes at used parts (chunk_part.Piece piece) after fits on w g = body_more place next bytes at used parts (chunk_part.Piece piece) after w g.0 g.1
part_more place next bytes at used parts chunk_part.EndOfChunk after fits on w g = body_more place next bytes at used parts chunk_part.EndOfChunk after w g.0 g.1
part_more place next bytes at used parts (chunk_part.Trailers trailers) after fits on w g =
    let read = read_behind place next bytes at (all_chunk_marks parts) (whole trailers used) fits w.0 on g.0 in
    subst (λ (c : Chunking). FeedsFrom place bytes (at + used) (parts ++ chunk_part.Trailers trailers ∷ []) c) (sym g.1) (
      parts,
      refl,
      w.1,
      read ∙ ap (λ (ms : List Mark). to_reading ms (whole trailers (at + used))) (append-nil (all_chunk_marks parts)),
    )

-- ---- the loop

pub record FeedsMore (before : Chunking) (bytes : List ℕ) (at used : ℕ) (parts : List ChunkPart) (after : Chunking) : Type 0 where
  pub some : 0 < used
  pub within : at + used ≤ length bytes
  pub feeds : Feeds before bytes (at + used) parts after

abbrev to_result : ChunkStep → Result ChunkStep ChunkError
to_result step = Ok step

none_then_some : (step : ChunkStep) (part : ChunkPart) → to_result step ≡ Ok (record { used = 0; part = None }) → step.part ≡ Some part → ⊥
none_then_some step part is some = let f : step.part ≡ None = (let g = is in cc) in let h = sym some ∙ f in cc

more_from : (place : ChunkPlace) (bytes : List ℕ) (at : ℕ) (parts : List ChunkPart) (now after : Chunking) (step : ChunkStep) (part : ChunkPart)
    → at ≤ length bytes → IsOpen now → FeedsFrom place bytes at parts now → Steps now (drop at bytes) (Ok step) after → step.part ≡ Some part
    → FeedsMore (reads place) bytes at step.used (parts ++ part ∷ []) after
more_from place bytes at parts (reads next) after step part fits on w s is =
    let size = length-drop at bytes in
    let within = s.within in
    let gives = subst (λ (p : Option ChunkPart). Gives next (drop at bytes) step.used p after) is s.gives in
    record {
      some = subst (λ (p : Option ChunkPart). UsesFor p (length (drop at bytes)) step.used) is s.uses;
      within = omega arith;
      feeds = part_more place next bytes at step.used parts part after fits on w gives;
    }
more_from place bytes at parts (ended trailers) after step part fits on w s is =
    absurd (none_then_some step part s.0 is)
more_from place bytes at parts refused after step part fits on w s is = absurd w

pub feed_more : (before : Chunking) (bytes : List ℕ) (at : ℕ) (parts : List ChunkPart) (now after : Chunking) (step : ChunkStep) (part : ChunkPart)
    → at ≤ length bytes → IsOpen now → Feeds before bytes at parts now → Steps now (drop at bytes) (Ok step) after → step.part ≡ Some part
    → FeedsMore before bytes at step.used (parts ++ part ∷ []) after
feed_more (reads place) bytes at parts now after step part fits on w s is = more_from place bytes at parts now after step part fits on w s is
feed_more (ended trailers) bytes at parts now after step part fits on w s is =
    absurd (none_then_some step part (subst (λ (c : Chunking). Steps c (drop at bytes) (Ok step) after) w.2 s).0 is)
feed_more refused bytes at parts now after step part fits on w s is =
    absurd (let e = (subst (λ (c : Chunking). Steps c (drop at bytes) (Ok step) after) w.2 s).0 in cc)

-- ---- the end of the bytes

goes_on_any : (count : ℕ) (place : ChunkPlace) → GoesOn place → place_finish count place ≡ goes_on
goes_on_any count (in_line line) on = refl
goes_on_any count (in_content left) on = refl
goes_on_any count at_cr on = refl
goes_on_any count at_lf on = refl
goes_on_any count (in_trailers block) on = ap (λ (f : Front). trailers_finish count (length block) f) (waited block on)
goes_on_any count broken on = absurd (let e = on in cc)

none_from : (place : ChunkPlace) (bytes : List ℕ) (at : ℕ) (parts : List ChunkPart) (now after : Chunking) (step : ChunkStep)
    → at ≤ length bytes → IsOpen now → FeedsFrom place bytes at parts now → Steps now (drop at bytes) (Ok step) after → step.part ≡ None
    → Fed (reads place) bytes parts (Ok (at + step.used)) after
none_from place bytes at parts (reads next) after step fits on w s is =
    let size = length-drop at bytes in
    let all = subst (λ (p : Option ChunkPart). UsesFor p (length (drop at bytes)) step.used) is s.uses in
    let count : at + step.used ≡ length bytes = omega arith in
    let h = subst (λ (p : Option ChunkPart). Gives next (drop at bytes) step.used p after) is s.gives in
    let heard : hear_all place bytes ≡ to_turn (all_chunk_marks parts) h.0 =
    ap (λ (l : List ℕ). hear_all place l) (sym (take_all (at + step.used) bytes (omega arith)))
    ∙ heard_more place next bytes at step.used (all_chunk_marks parts) [] h.0 w.0 h.1
    ∙ ap (λ (ms : List Mark). to_turn ms h.0) (append-nil (all_chunk_marks parts)) in
    let read : chunks_from place bytes ≡ to_reading (all_chunk_marks parts) goes_on =
    ap (λ (t : ChunkHearing). to_reading t.marks (place_finish (length bytes) t.place)) heard
    ∙ ap (λ (f : Finish). to_reading (all_chunk_marks parts) f) (goes_on_any (length bytes) h.0 h.3) in
    record {
      added = fed_by place bytes parts parts goes_on read (sym (append-nil parts)) w.1;
      answer = ap (λ (n : ℕ). Ok n) count ∙ answers_by place bytes (all_chunk_marks parts) goes_on read;
      state = h.2 ∙ ap (λ (t : ChunkHearing). reads t.place) (sym heard) ∙ after_by place bytes (all_chunk_marks parts) goes_on read;
    }
  where
    to_turn : List Mark → ChunkPlace → ChunkHearing
    to_turn marks place = record { marks = marks; place = place }
none_from place bytes at parts (ended trailers) after step fits on w s is =
    let none : step.used ≡ 0 = (let g = s.0 in cc) in
    let count : at + step.used ≡ at = omega arith in
    record {
      added = fed_by place bytes parts w.0 (whole trailers at) w.3 w.1 w.2;
      answer = ap (λ (n : ℕ). Ok n) count ∙ answers_by place bytes (all_chunk_marks w.0) (whole trailers at) w.3;
      state = s.1 ∙ after_by place bytes (all_chunk_marks w.0) (whole trailers at) w.3;
    }
none_from place bytes at parts refused after step fits on w s is = absurd w

pub feed_none : (before : Chunking) (bytes : List ℕ) (at : ℕ) (parts : List ChunkPart) (now after : Chunking) (step : ChunkStep)
    → at ≤ length bytes → IsOpen now → Feeds before bytes at parts now → Steps now (drop at bytes) (Ok step) after → step.part ≡ None
    → Fed before bytes parts (Ok (at + step.used)) after
feed_none (reads place) bytes at parts now after step fits on w s is = none_from place bytes at parts now after step fits on w s is
feed_none (ended trailers) bytes at parts now after step fits on w s is =
    let t = subst (λ (c : Chunking). Steps c (drop at bytes) (Ok step) after) w.2 s in
    let none : step.used ≡ 0 = (let g = t.0 in cc) in
    let start = w.0 in
    let count : at + step.used ≡ 0 = omega arith in
    record { added = w.1; answer = ap (λ (n : ℕ). Ok n) count; state = t.1 }
feed_none refused bytes at parts now after step fits on w s is =
    absurd (let e = (subst (λ (c : Chunking). Steps c (drop at bytes) (Ok step) after) w.2 s).0 in cc)

-- ---- a refusal

no_memory : (before : Chunking) (bytes : List ℕ) (parts : List ChunkPart) (after : Chunking) → Fed before bytes parts (Err NoMemory) after
no_memory before bytes parts after = record { added = tt; answer = tt; state = tt }

fails_from : (place : ChunkPlace) (bytes : List ℕ) (at : ℕ) (parts : List ChunkPart) (now after : Chunking) → at ≤ length bytes
    → IsOpen now → FeedsFrom place bytes at parts now → Steps now (drop at bytes) (Err BadChunk) after → Fed (reads place) bytes parts (Err BadChunk) after
fails_from place bytes at parts (reads next) after fits on w s =
    let bad = fails fault.BadChunk in
    let read = read_behind place next bytes at (all_chunk_marks parts) bad fits w.0 on s.0
    ∙ ap (λ (ms : List Mark). to_reading ms bad) (append-nil (all_chunk_marks parts)) in
    record {
      added = fed_by place bytes parts parts bad read (sym (append-nil parts)) w.1;
      answer = answers_by place bytes (all_chunk_marks parts) bad read;
      state = s.1 ∙ after_by place bytes (all_chunk_marks parts) bad read;
    }
fails_from place bytes at parts (ended trailers) after fits on w s = absurd (let e = s.0 in cc)
fails_from place bytes at parts refused after fits on w s = absurd w

pub feed_fails : (before : Chunking) (bytes : List ℕ) (at : ℕ) (parts : List ChunkPart) (now after : Chunking) (error : ChunkError)
    → at ≤ length bytes → IsOpen now → Feeds before bytes at parts now → Steps now (drop at bytes) (Err error) after
    → Fed before bytes parts (Err error) after
feed_fails before bytes at parts now after NoMemory fits on w s = no_memory before bytes parts after
feed_fails (reads place) bytes at parts now after BadChunk fits on w s = fails_from place bytes at parts now after fits on w s
feed_fails (ended trailers) bytes at parts now after BadChunk fits on w s =
    absurd (let e = (subst (λ (c : Chunking). Steps c (drop at bytes) (Err BadChunk) after) w.2 s).0 in cc)
feed_fails refused bytes at parts now after BadChunk fits on w s =
    let t = subst (λ (c : Chunking). Steps c (drop at bytes) (Err BadChunk) after) w.2 s in
    record { added = w.1; answer = refl; state = t.1 }

-- the same, where nothing is promised once out of memory
pub feed_stops : (before : Chunking) (bytes : List ℕ) (at : ℕ) (parts : List ChunkPart) (now after : Chunking) (error : ChunkError)
    → at ≤ length bytes → UnlessNoMemory {A = ChunkStep} (Err error) (IsOpen now) → Feeds before bytes at parts now
    → UnlessNoMemory {A = ChunkStep} (Err error) (Steps now (drop at bytes) (Err error) after) → Fed before bytes parts (Err error) after
feed_stops before bytes at parts now after NoMemory fits on w s = no_memory before bytes parts after
feed_stops before bytes at parts now after BadChunk fits on w s = feed_fails before bytes at parts now after BadChunk fits on w s

-- ---- the first parts, and all

pub feeds_none : (before : Chunking) (bytes : List ℕ) → Feeds before bytes 0 [] before
feeds_none (reads place) bytes = (refl, All-nil IsBodyPart)
feeds_none (ended trailers) bytes = (refl, refl, refl)
feeds_none refused bytes = (refl, refl, refl)

pub added_are : (old new parts : List ChunkPart) → new ≡ old ++ parts → parts ≡ drop (length old) new
added_are old new parts is = sym (ap (λ (l : List ChunkPart). drop (length old) l) is ∙ drop-append_seam old parts)

-- the same, of what was answered
pub fed_as : (before : Chunking) (bytes : List ℕ) (parts other : List ChunkPart) (result answer : Result ℕ ChunkError) (after : Chunking)
    → parts ≡ other → answer ≡ result → Fed before bytes parts result after → Fed before bytes other answer after
fed_as before bytes parts other result answer after same is fed =
    subst (λ (l : List ChunkPart). Fed before bytes l answer after) same
    (subst (λ (r : Result ℕ ChunkError). Fed before bytes parts r after) (sym is) fed)
