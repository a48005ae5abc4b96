-- A reader that begins, and a server's side of which all is to be read.
use Rattle.std.proofs.Common.{◌≡◌, ℕ, ◌+◌, Bool, List, [], ◌++◌, refl, ap, arith}
use Rattle.px_read.specs.Chunks.{Finish, goes_on, whole, fails, Reading}
use Rattle.px_read.specs.Items.{answer_list}
use Rattle.px_read.specs.Readings.{behind_bytes}
use Rattle.px_read.specs.Reader.{Message, response, reading_from, behind_marks, before_all, Reads}
use Rattle.px_stream.specs.Stands.{ReadsLink, unread_link}

no_bytes_by : (f : Finish) → f ≡ behind_bytes 0 f
no_bytes_by goes_on = refl
no_bytes_by (whole trailers used) = let e : used ≡ 0 + used = omega arith in ap (λ n. whole trailers n) e
no_bytes_by (fails fault) = refl

pub same_reading : (r : Reading) → r ≡ behind_marks [] 0 r
same_reading r = ap (λ f. let s : Reading = record { marks = r.marks; finish = f } in s) (no_bytes_by r.finish)

-- a reader that begins, with these bytes
pub reads_first : (message : Message) (bytes : List ℕ) (shut : Bool) → Reads message [] bytes shut (before_all message bytes shut)
reads_first message bytes shut = record {
  closed = refl;
  used = [];
  bytes = refl;
  reading = λ more later follows. same_reading (reading_from (before_all message bytes shut).place later (bytes ++ more));
}

none_before : (n : ℕ) → n ≡ 0 + n
none_before n = omega arith

pub unread_reads : (asked_head : Bool) (number : ℕ) (bytes : List ℕ) (shut : Bool) → ReadsLink asked_head number bytes shut [] [] (unread_link number asked_head bytes shut)
unread_reads asked_head number bytes shut = record {
  server = refl;
  is_asked = refl;
  closed = refl;
  fed = bytes;
  passes = record {
    used = 0;
    within = omega arith;
    behind = refl;
    counts = λ closed more. none_before (answer_list asked_head closed (bytes ++ more)).used;
    interim = λ closed more. refl;
    final = λ closed more. refl;
  };
  reads = reads_first (response asked_head) bytes shut;
}
