-- One stage behind the other, up to a part.
use Rattle.std.proofs.Common.{ℕ, ◌+◌, ◌<◌, ◌≤◌, ◌≡◌, ◌≢◌, List, [], ◌++◌, length, take, drop, refl, sym, ap, ◌∙◌, subst, arith, Option, Some, None, drop-drop}
use Rattle.std.specs.Prelude.{true, false, is_some, IfOk, IsErrAnd, Result, Ok, Err}
use Rattle.std.proofs.Math.Seq.{take-add}
use Rattle.std.proofs.lemmas.List.{take-append-drop, length-take-le, length-drop}
use Rattle.px_message.specs.declared.fault.Fault.TheVariants as fault
use Rattle.px_read.specs.declared.chunk_reader.ChunkError.{ChunkError}
use Rattle.px_read.specs.declared.chunk_reader.ChunkError.TheVariants.{BadChunk, NoMemory}
use Rattle.px_read.specs.declared.chunk_reader.ChunkStep.{ChunkStep}
use Rattle.px_read.specs.declared.chunk_reader.stage.ChunkStage.{ChunkStage}
use Rattle.px_read.specs.declared.chunk_reader.stage.ChunkStage.TheVariants as stage
use Rattle.px_read.specs.declared.part.ChunkPart.{ChunkPart}
use Rattle.px_read.specs.declared.part.ChunkPart.TheVariants as chunk_part
use Rattle.px_read.specs.Marks.{BeginsWithNoByte, Mark}
use Rattle.px_read.specs.Chunks.{ChunkPlace, silent, hear_all, Finish, whole, fails, GoesOn, Reading, chunks_from, in_line, at_lf, in_trailers, behind_content}
use Rattle.px_read.specs.Chunking.{Chunking, reads, ended, refused}
use Rattle.px_read.specs.ChunkStages.{IsStage, seen_as}
use Rattle.px_read.specs.ChunkSteps.{feed_marks, Gives, Hears, IsOpen, IsRefusal, UsesFor, Steps}
use Rattle.px_read.specs.ChunkTurns.{IsGoing, IsMove, Moves}
use Rattle.px_read.specs.ChunkLoops.{Waits}
use Rattle.px_read.proofs.HearLemmas.{reading_behind, resumes_as, waits_on}
use Rattle.px_read.proofs.ChunkedLemmas.{heard_both}
use Rattle.px_read.proofs.TurnLemmas.{to_reading, content_goes}

-- ---- bytes behind silent ones

hears_behind : (place next : ChunkPlace) (xs ys : List ℕ) (marks : List Mark) (after : Chunking) → hear_all place xs ≡ silent next
    → Hears next ys marks after → Hears place (xs ++ ys) marks after
hears_behind place next xs ys marks after first w = (w.0, heard_both place xs ys [] marks next w.0 first w.1, w.2, w.3)

take_both : (at used : ℕ) (bytes : List ℕ) → take (at + used) bytes ≡ take at bytes ++ take used (drop at bytes)
take_both at used bytes = take-add at used bytes

drop_both : (at used : ℕ) (bytes : List ℕ) → drop used (drop at bytes) ≡ drop (at + used) bytes
drop_both at used bytes = drop-drop used at bytes ∙ ap (λ (n : ℕ). drop n bytes) (omega arith)

hears_more : (place next : ChunkPlace) (bytes : List ℕ) (at used : ℕ) (marks : List Mark) (after : Chunking)
    → hear_all place (take at bytes) ≡ silent next → Hears next (take used (drop at bytes)) marks after
    → Hears place (take (at + used) bytes) marks after
hears_more place next bytes at used marks after first w =
    subst (λ (l : List ℕ). Hears place l marks after) (sym (take_both at used bytes))
    (hears_behind place next (take at bytes) (take used (drop at bytes)) marks after first w)

pub reads_more : (place next : ChunkPlace) (bytes : List ℕ) (at : ℕ) (finish : Finish) → at ≤ length bytes
    → hear_all place (take at bytes) ≡ silent next → GoesOn next → chunks_from next (drop at bytes) ≡ to_reading [] finish
    → chunks_from place bytes ≡ reading_behind [] at (to_reading [] finish)
reads_more place next bytes at finish fits first on read =
    ap (λ (l : List ℕ). chunks_from place l) (sym (take-append-drop at bytes))
    ∙ resumes_as place (take at bytes) (drop at bytes) [] next first on
    ∙ ap (λ (n : ℕ). reading_behind [] n (chunks_from next (drop at bytes))) (length-take-le at bytes fits)
    ∙ ap (λ (r : Reading). reading_behind [] at r) read

pub gives_more : (place next : ChunkPlace) (bytes : List ℕ) (at used : ℕ) (part : Option ChunkPart) (after : Chunking) → at ≤ length bytes
    → hear_all place (take at bytes) ≡ silent next → GoesOn next → Gives next (drop at bytes) used part after
    → Gives place bytes (at + used) part after
gives_more place next bytes at used None after fits first on w = hears_more place next bytes at used [] after first w
gives_more place next bytes at used (Some (chunk_part.Size n)) after fits first on w = (hears_more place next bytes at used _ after first w.0, w.1)
gives_more place next bytes at used (Some (chunk_part.Piece piece)) after fits first on w = (
  hears_more place next bytes at used _ after first w.0,
  w.1,
  subst (λ (l : List ℕ). BeginsWithNoByte (feed_marks after l)) (drop_both at used bytes) w.2,
)
gives_more place next bytes at used (Some chunk_part.EndOfChunk) after fits first on w = (hears_more place next bytes at used _ after first w.0, w.1)
gives_more place next bytes at used (Some (chunk_part.Trailers trailers)) after fits first on w =
    (reads_more place next bytes at (whole trailers used) fits first on w.0, w.1)

-- ---- a loop of stages

pub waits_at_first : (line : List ℕ) (now : ChunkStage) (bytes : List ℕ) → IsStage line now → IsGoing (seen_as line now)
    → Waits (seen_as line now) bytes 0 (seen_as line now)
waits_at_first line stage.Line bytes is going = (in_line line, refl, refl, refl)
waits_at_first line (stage.Content left) bytes is going = (behind_content left, refl, refl, content_goes left)
waits_at_first line stage.LineFeed bytes is going = (at_lf, refl, refl, refl)
waits_at_first line (stage.Trailers reader) bytes is going = (in_trailers reader.rest, refl, refl, waits_on reader.rest is.2)
waits_at_first line (stage.Ended trailers) bytes is going = absurd going
waits_at_first line stage.Refused bytes is going = absurd going

pub waits_is_going : (before : Chunking) (bytes : List ℕ) (at : ℕ) (now : Chunking) → Waits before bytes at now → IsGoing now
waits_is_going (reads place) bytes at now w = subst IsGoing (sym w.2) tt
waits_is_going (ended trailers) bytes at now w = absurd w
waits_is_going refused bytes at now w = absurd w

moved : (now after : Chunking) (next : ChunkPlace) (bytes : List ℕ) (turn : ChunkStep) → now ≡ reads next → Moves now bytes (Ok turn) after
    → IsMove next bytes turn after
moved now after next bytes turn is m = subst (λ (c : Chunking). Moves c bytes (Ok turn) after) is m

pub waits_more : (before : Chunking) (bytes : List ℕ) (at : ℕ) (now after : Chunking) (turn : ChunkStep) → at ≤ length bytes
    → Waits before bytes at now → Moves now (drop at bytes) (Ok turn) after → turn.part ≡ None → Waits before bytes (at + turn.used) after
waits_more (reads place) bytes at now after turn fits w m none =
    let move = moved now after w.0 (drop at bytes) turn w.2 m in
    subst (λ (p : Option ChunkPart). Gives place bytes (at + turn.used) p after) none
    (gives_more place w.0 bytes at turn.used turn.part after fits w.1 w.3 move.gives)
waits_more (ended trailers) bytes at now after turn fits w m none = absurd w
waits_more refused bytes at now after turn fits w m none = absurd w

pub move_some : (before : Chunking) (bytes : List ℕ) (at : ℕ) (now after : Chunking) (turn : ChunkStep) → at ≤ length bytes
    → Waits before bytes at now → Moves now (drop at bytes) (Ok turn) after → (0 < turn.used) × (at + turn.used ≤ length bytes)
move_some (reads place) bytes at now after turn fits w m =
    let move = moved now after w.0 (drop at bytes) turn w.2 m in
    let within = move.within in
    let size = length-drop at bytes in
    (move.some, omega arith)
move_some (ended trailers) bytes at now after turn fits w m = absurd w
move_some refused bytes at now after turn fits w m = absurd w

uses_some : (part : Option ChunkPart) (count used : ℕ) → part ≢ None → 0 < used → UsesFor part count used
uses_some None count used some positive = absurd (some refl)
uses_some (Some p) count used some positive = positive

pub step_part : (before : Chunking) (bytes : List ℕ) (at : ℕ) (now after : Chunking) (turn : ChunkStep) → at ≤ length bytes
    → Waits before bytes at now → Moves now (drop at bytes) (Ok turn) after → turn.part ≢ None
    → Steps before bytes (Ok (record { used = at + turn.used; part = turn.part })) after
step_part (reads place) bytes at now after turn fits w m some =
    let move = moved now after w.0 (drop at bytes) turn w.2 m in
    let bounds = move_some (reads place) bytes at now after turn fits w m in
    let positive = bounds.0 in
    record {
      within = bounds.1;
      uses = uses_some turn.part (length bytes) (at + turn.used) some (omega arith);
      gives = gives_more place w.0 bytes at turn.used turn.part after fits w.1 w.3 move.gives;
    }
step_part (ended trailers) bytes at now after turn fits w m some = absurd w
step_part refused bytes at now after turn fits w m some = absurd w

pub step_none : (before : Chunking) (bytes : List ℕ) (at : ℕ) (now : Chunking) → at ≡ length bytes → Waits before bytes at now
    → Steps before bytes (Ok (record { used = at; part = None })) now
step_none (reads place) bytes at now all w = record { within = omega arith; uses = all; gives = w }
step_none (ended trailers) bytes at now all w = absurd w
step_none refused bytes at now all w = absurd w

fails_more : (place next : ChunkPlace) (bytes : List ℕ) (at : ℕ) → at ≤ length bytes → hear_all place (take at bytes) ≡ silent next → GoesOn next
    → IsRefusal next (drop at bytes) → IsRefusal place bytes
fails_more place next bytes at fits first on read = reads_more place next bytes at (fails fault.BadChunk) fits first on read

pub step_fails : (before : Chunking) (bytes : List ℕ) (at : ℕ) (now after : Chunking) (error : ChunkError) → at ≤ length bytes
    → Waits before bytes at now → Moves now (drop at bytes) (Err error) after → Steps before bytes (Err error) after
step_fails (reads place) bytes at now after NoMemory fits w m = tt
step_fails (reads place) bytes at now after BadChunk fits w m =
    let move = subst (λ (c : Chunking). Moves c (drop at bytes) (Err BadChunk) after) w.2 m in
    (fails_more place w.0 bytes at fits w.1 w.3 move.0, move.1)
step_fails (ended trailers) bytes at now after error fits w m = absurd w
step_fails refused bytes at now after error fits w m = absurd w

-- ---- answers

pub same_error : {A : Type 0} (result : Result A ChunkError) (error : ChunkError) → IsErrAnd result (λ e. e ≡ error) → result ≡ Err error
same_error (Ok value) error is = absurd is
same_error (Err other) error is = ap Err is

pub is_there : (part : Option ChunkPart) → true ≡ is_some part → part ≢ None
is_there None is none = absurd (let e = is in cc)
is_there (Some p) is none = absurd (let e = none in cc)

pub is_not_there : (part : Option ChunkPart) → false ≡ is_some part → part ≡ None
is_not_there None is = refl
is_not_there (Some p) is = absurd (let e = is in cc)

-- a failed step, as it is answered
pub record Failed (before : Chunking) (bytes : List ℕ) (result : Result ChunkStep ChunkError) (after : Chunking) : Type 0 where
  pub within : IfOk result (λ step. step.used ≤ length bytes)
  pub step : Steps before bytes result after

pub failed : (before : Chunking) (bytes : List ℕ) (error : ChunkError) (result : Result ChunkStep ChunkError) (after : Chunking)
    → result ≡ Err error → Steps before bytes (Err error) after → Failed before bytes result after
failed before bytes error result after is s = record {
  within = subst (λ (r : Result ChunkStep ChunkError). IfOk r (λ step. step.used ≤ length bytes)) (sym is) tt;
  step = subst (λ (r : Result ChunkStep ChunkError). Steps before bytes r after) (sym is) s;
}

pub open_from : (line : List ℕ) (now : ChunkStage) → IsStage line now → IsOpen (seen_as line now)
open_from line stage.Line is = refl
open_from line (stage.Content left) is = content_goes left
open_from line stage.LineFeed is = refl
open_from line (stage.Trailers reader) is = waits_on reader.rest is.2
open_from line (stage.Ended trailers) is = tt
open_from line stage.Refused is = tt
