-- What a reader of chunks is left as does not depend on how the bytes were cut.
use Rattle.std.proofs.Common.{ℕ, ◌≡◌, ◌≢◌, List, [], ◌++◌, length, refl, sym, ap, ◌∙◌, append-nil}
use Rattle.px_head.specs.declared.front.Front.{Front}
use Rattle.px_head.specs.declared.front.Front.TheVariants.{Nothing, TooLong, BadHead, Stands}
use Rattle.px_head.specs.Front.{trailer_front}
use Rattle.px_read.specs.Chunks.{ChunkPlace, in_line, in_content, at_cr, at_lf, in_trailers, broken, ChunkHearing, hear_all, Finish, goes_on, whole, fails, trailers_finish, place_finish, GoesOn, Reading, chunks_from}
use Rattle.px_read.specs.Chunking.{Chunking, reads, ended, refused}
use Rattle.px_read.specs.ChunkSteps.{after_of, after_feed, feed_marks}
use Rattle.px_read.specs.Readings.{behind_bytes}
use Rattle.px_read.proofs.HearLemmas.{finish_stays, hear_all-append, reading_resumes, waits_on}

-- ---- a body that goes on

on_by : (count kept : ℕ) (block : List ℕ) (f : Front) → trailer_front block ≡ f → trailers_finish count kept f ≡ goes_on
    → trailer_front block ≡ Nothing
on_by count kept block Nothing is on = is
on_by count kept block TooLong is on = absurd (let e = on in cc)
on_by count kept block BadHead is on = absurd (let e = on in cc)
on_by count kept block (Stands raw used) is on = absurd (let e = on in cc)

pub goes_from : (count : ℕ) (place : ChunkPlace) → place_finish count place ≡ goes_on → GoesOn place
goes_from count (in_line line) on = refl
goes_from count (in_content left) on = refl
goes_from count at_cr on = refl
goes_from count at_lf on = refl
goes_from count (in_trailers block) on =
    waits_on block (on_by count (length block) block (trailer_front block) refl on)
goes_from count broken on = absurd (let e = on in cc)

after_behind : (place : ChunkPlace) (count : ℕ) (finish : Finish) → after_of place finish ≡ after_of place (behind_bytes count finish)
after_behind place count goes_on = refl
after_behind place count (whole trailers used) = refl
after_behind place count (fails fault) = refl

-- ---- the reader behind the first piece

after_at : (place : ChunkPlace) (bytes : List ℕ) (finish : Finish) → (chunks_from place bytes).finish ≡ finish
    → after_feed (reads place) bytes ≡ after_of (hear_all place bytes).place finish
after_at place bytes finish is = ap (λ (f : Finish). after_of (hear_all place bytes).place f) is

abbrev Uncut : Chunking → List ℕ → List ℕ → Chunking → Type 0
Uncut before bytes more next =
    (after_feed next more ≡ after_feed before (bytes ++ more))
    × (feed_marks before (bytes ++ more) ≡ feed_marks before bytes ++ feed_marks next more)

uncut_on : (place : ChunkPlace) (bytes more : List ℕ) → (chunks_from place bytes).finish ≡ goes_on
    → Uncut (reads place) bytes more (reads (hear_all place bytes).place)
uncut_on place bytes more is =
    let next = (hear_all place bytes).place in
    let read = reading_resumes place bytes more (goes_from (length bytes) next is) in
    let heard = ap (λ (t : ChunkHearing). t.place) (hear_all-append place bytes more) in (
      after_behind (hear_all next more).place (length bytes) (chunks_from next more).finish
          ∙ ap (λ (f : Finish). after_of (hear_all next more).place f) (sym (ap (λ (r : Reading). r.finish) read))
          ∙ ap (λ (p : ChunkPlace). after_of p (chunks_from place (bytes ++ more)).finish) (sym heard),
      ap (λ (r : Reading). r.marks) read,
    )

stays_told : (place : ChunkPlace) (bytes more : List ℕ) → (chunks_from place bytes).finish ≢ goes_on
    → (chunks_from place (bytes ++ more)).marks ≡ (chunks_from place bytes).marks ++ []
stays_told place bytes more decided =
    ap (λ (r : Reading). r.marks) (finish_stays place bytes more decided) ∙ sym (append-nil (chunks_from place bytes).marks)

stays_after : (place : ChunkPlace) (bytes more : List ℕ) (finish : Finish) → (chunks_from place bytes).finish ≡ finish → finish ≢ goes_on
    → after_of (hear_all place (bytes ++ more)).place finish ≡ after_feed (reads place) (bytes ++ more)
stays_after place bytes more finish is decided =
    let stays = finish_stays place bytes more (λ e. decided (sym is ∙ e)) in
    sym (after_at place (bytes ++ more) finish (ap (λ (r : Reading). r.finish) stays ∙ is))

uncut_by : (place : ChunkPlace) (bytes more : List ℕ) (finish : Finish) → (chunks_from place bytes).finish ≡ finish
    → Uncut (reads place) bytes more (after_of (hear_all place bytes).place finish)
uncut_by place bytes more goes_on is = uncut_on place bytes more is
uncut_by place bytes more (whole trailers used) is = (
  stays_after place bytes more (whole trailers used) is (λ e. cc),
  stays_told place bytes more (λ e. (let f : whole trailers used ≡ goes_on = sym is ∙ e in cc)),
)
uncut_by place bytes more (fails fault) is = (
  stays_after place bytes more (fails fault) is (λ e. cc),
  stays_told place bytes more (λ e. (let f : fails fault ≡ goes_on = sym is ∙ e in cc)),
)

pub cuts_hidden : (before : Chunking) (bytes more : List ℕ) → Uncut before bytes more (after_feed before bytes)
cuts_hidden (reads place) bytes more = uncut_by place bytes more (chunks_from place bytes).finish refl
cuts_hidden (ended trailers) bytes more = (refl, refl)
cuts_hidden refused bytes more = (refl, refl)
