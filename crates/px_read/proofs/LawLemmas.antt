-- The laws of chunks, as the laws of readings use them.
use Rattle.std.proofs.Common.{◌≡◌, ◌≢◌, true, false, [], refl, ap, ◌∙◌, sym}
use Rattle.px_read.specs.Chunks.{Finish, goes_on, in_line}
use Rattle.px_read.proofs.HearLemmas.{marks_grow, finish_stays, chunks_used}
use Rattle.px_read.proofs.GrowthLemmas.{ChunkLaws, has_ended}

ended_differs : (f : Finish) → has_ended f ≡ true → f ≢ goes_on
ended_differs f ended is = let e : false ≡ true = sym (ap has_ended is) ∙ ended in cc

pub chunk_laws : ChunkLaws
chunk_laws = record {
  grows = λ bytes more. record {
    marks = marks_grow (in_line []) bytes more;
    stays = λ ended. finish_stays (in_line []) bytes more (ended_differs _ ended);
  };
  within = λ bytes trailers used is. chunks_used (in_line []) bytes trailers used refl is;
}
