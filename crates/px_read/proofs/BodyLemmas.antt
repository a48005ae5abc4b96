-- Turns of a reader in a body.
use Rattle.std.proofs.Common.{ℕ, zero, suc, ◌+◌, ◌-◌, ◌<◌, ◌≤◌, ◌≡◌, ◌≢◌, Bool, true, false, nat_le, List, [], ◌∷◌, ◌++◌, length, map, take, drop, refl, sym, ap, ap₂, ◌∙◌, subst, arith, inl, inr, append-nil, append_assoc, length-append, add-zero, take-append-drop, length-take-le, le-leb, drop_of_length-le}
use Rattle.std.specs.Prelude.{◌⊎◌, if◌then◌else◌, Option, Some, None, Ok, Err}
use Rattle.std.proofs.lemmas.Bool.Decides.{leb_tells}
use Rattle.std.proofs.lemmas.List.{map-append, length-map}
use Rattle.std.proofs.Math.Seq.{take-append-add}
use Rattle.px_message.specs.declared.fault.Fault.{Fault}
use Rattle.px_message.specs.declared.fault.Fault.TheVariants.{BadChunk, ServerClosed}
use Rattle.px_read.specs.Marks.{BeginsWithNoByte, Mark, byte, marks_of}
use Rattle.px_read.specs.Chunking.{Chunking}
use Rattle.px_read.specs.Chunking as chunking
use Rattle.px_read.specs.ChunkSteps.{feed_marks, Gives, Hears, UsesFor, Steps}
use Rattle.px_read.specs.Chunks.{ChunkPlace, ChunkHearing, GoesOn, hear_all, chunks_from, Finish, goes_on, whole, fails, Reading}
use Rattle.px_read.specs.Readings.{only, behind_bytes, counted_reading, closing_reading}
use Rattle.px_read.specs.Reader.{MessagePlace, in_counted, in_chunks, up_to_close, behind_end, refused, State, as_sent, has_shut, reading_from, MayFollow, behind_marks, Tells, has_stopped, IsLongest, IsTurn}
use Rattle.px_read.specs.Stages.{IsStage, StandOnce, chunk_place, state_at, seen_as, cut_off, fault_of}
use Rattle.px_read.specs.Waits.{waited, given}
use Rattle.px_read.specs.declared.message_reader.stage.Sender.{Sender}
use Rattle.px_read.specs.declared.message_reader.stage.Sender.TheVariants.{Client, Server}
use Rattle.px_read.specs.declared.message_reader.stage.MessageStage.{MessageStage}
use Rattle.px_read.specs.declared.message_reader.stage.MessageStage.TheVariants as stage
use Rattle.px_read.specs.declared.part.Part.{Part}
use Rattle.px_read.specs.declared.part.Part.TheVariants as part
use Rattle.px_read.specs.declared.chunk_reader.ChunkError.TheVariants as chunk_error
use Rattle.px_read.specs.declared.chunk_reader.ChunkStep.{ChunkStep}
use Rattle.px_read.specs.declared.part.ChunkPart.{ChunkPart}
use Rattle.px_read.specs.declared.part.ChunkPart.TheVariants as chunk_part
use Rattle.px_read.proofs.HearLemmas.{reading_resumes, finish_stays}
use Rattle.px_read.proofs.ReaderLemmas.{IsGiven, make, reading_eq, moved, sent_behind, sent_waits, tells-nothing, turn-gives, turn-waits, turn-ends, turn-fails}

-- ---- readings of bodies behind some of their bytes

counted_finish : (n m count all : ℕ) → all ≡ n + count
    → (if nat_le (n + m) all then whole [] (n + m) else goes_on) ≡ behind_bytes n (if nat_le m count then whole [] m else goes_on)
counted_finish n m count all is = elim (leb_tells m count) [
  | inl t ↦
      let fits = t.1 in
      let more : nat_le (n + m) all ≡ true = le-leb (n + m) all (omega arith) in rw (more, t.0) refl
  | inr f ↦ elim (leb_tells (n + m) all) [
    | inl u ↦ let a = f.1 in let b = u.1 in absurd (omega arith)
    | inr g ↦ rw (g.0, f.0) refl
  ]
]

counted_behind : (xs ys : List ℕ) (m : ℕ)
    → counted_reading (length xs + m) (xs ++ ys) ≡ behind_marks (map byte xs) (length xs) (counted_reading m ys)
counted_behind xs ys m =
    reading_eq (ap (λ (bytes : List ℕ). map byte bytes) (take-append-add xs ys m) ∙ map-append byte xs (take m ys))
    (counted_finish (length xs) m (length ys) (length (xs ++ ys)) (length-append xs ys))

closing_behind : (closed : Bool) (xs ys : List ℕ)
    → closing_reading closed (xs ++ ys) ≡ behind_marks (map byte xs) (length xs) (closing_reading closed ys)
closing_behind true xs ys = reading_eq (map-append byte xs ys) (ap (λ (n : ℕ). whole [] n) (length-append xs ys))
closing_behind false xs ys = reading_eq (map-append byte xs ys) refl

-- ---- pieces

pub piece_size : (n : ℕ) (rest : List ℕ) → n ≤ length rest → length (take n rest) ≡ n
piece_size n rest fits = length-take-le n rest fits

-- bytes used of a place, cut off at n
pub taken : (marks : List Mark) (old new : MessagePlace) (n : ℕ) (rest : List ℕ) (closed : Bool)
    → ((more : List ℕ) (later : Bool) → MayFollow closed more later
    → reading_from old later (take n rest ++ (drop n rest ++ more)) ≡ behind_marks marks (length (take n rest)) (reading_from new later (drop n rest ++ more)))
    → Tells marks (state_at old rest closed) (state_at new (drop n rest) closed)
taken marks old new n rest closed reads =
    subst (λ (bytes : List ℕ). Tells marks (state_at old bytes closed) (state_at new (drop n rest) closed)) (take-append-drop n rest)
    (moved marks old new (take n rest) (drop n rest) closed reads)

some_piece : (n : ℕ) (rest : List ℕ) → 0 < n → n ≤ length rest → 0 < length (map byte (take n rest))
some_piece n rest some fits = let size = piece_size n rest fits in let same = length-map (take n rest) (λ (b : ℕ). byte b) in omega arith

take_none : {A : Type 0} (n : ℕ) → take {A = A} n [] ≡ []
take_none zero = refl
take_none (suc n) = refl

sent_marks : (from : Sender) (closed : Bool) (r : Reading) → (as_sent from closed r).marks ≡ r.marks
sent_marks Client closed r = refl
sent_marks Server closed r = refl

sent_longest : (from : Sender) (closed : Bool) (r : Reading) → BeginsWithNoByte r.marks → BeginsWithNoByte (as_sent from closed r).marks
sent_longest from closed r longest = subst BeginsWithNoByte (sym (sent_marks from closed r)) longest

none_longest : (marks : List Mark) → marks ≡ [] → BeginsWithNoByte marks
none_longest marks none = subst BeginsWithNoByte (sym none) (λ value rest e. cc)

counted_longest : (left n : ℕ) (rest : List ℕ) → (n ≡ left) ⊎ (n ≡ length rest) → map byte (take (left - n) (drop n rest)) ≡ []
counted_longest left n rest (inl same) = let none : left - n ≡ 0 = omega arith in ap (λ (k : ℕ). map byte (take k (drop n rest))) none
counted_longest left n rest (inr all) =
    let none : drop n rest ≡ [] = drop_of_length-le rest (omega arith) in
    ap (λ (l : List ℕ). map byte (take (left - n) l)) none ∙ ap (λ (l : List ℕ). map byte l) (take_none (left - n))

pub counted-gives : (from : Sender) (left n : ℕ) (rest : List ℕ) (closed : Bool) → n ≤ left → n ≤ length rest → 0 < n
    → (n ≡ left) ⊎ (n ≡ length rest)
    → IsTurn (state_at (in_counted from left) rest closed) (part.Piece (take n rest)) (state_at (in_counted from (left - n)) (drop n rest) closed)
counted-gives from left n rest closed fits there some all =
    let size = piece_size n rest there in
    let split : length (take n rest) + (left - n) ≡ left = omega arith in
    turn-gives _ _ (part.Piece (take n rest))
    (taken (map byte (take n rest)) (in_counted from left) (in_counted from (left - n)) n rest closed (λ more later follows.
    ap (λ (k : ℕ). as_sent from later (counted_reading k (take n rest ++ (drop n rest ++ more)))) (sym split)
    ∙ ap (λ (r : Reading). as_sent from later r) (counted_behind (take n rest) (drop n rest ++ more) (left - n))
    ∙ sent_behind from later (map byte (take n rest)) (length (take n rest)) (counted_reading (left - n) (drop n rest ++ more))))
    (some_piece n rest some there) refl
    (sent_longest from closed (counted_reading (left - n) (drop n rest)) (none_longest _ (counted_longest left n rest all)))

pub closing-gives : (from : Sender) (n : ℕ) (rest : List ℕ) (closed : Bool) → n ≤ length rest → 0 < n
    → n ≡ length rest
    → IsTurn (state_at (up_to_close from) rest closed) (part.Piece (take n rest)) (state_at (up_to_close from) (drop n rest) closed)
closing-gives from n rest closed there some all =
    turn-gives _ _ (part.Piece (take n rest))
    (taken (map byte (take n rest)) (up_to_close from) (up_to_close from) n rest closed (λ more later follows.
    ap (λ (r : Reading). as_sent from later r) (closing_behind (has_shut from later) (take n rest) (drop n rest ++ more))
    ∙ sent_behind from later (map byte (take n rest)) (length (take n rest)) (closing_reading (has_shut from later) (drop n rest ++ more))))
    (some_piece n rest some there) refl
    (sent_longest from closed (closing_reading (has_shut from closed) (drop n rest))
    (none_longest _ (ap (λ (l : List ℕ). map byte l) (drop_of_length-le rest (omega arith)))))

-- ---- ends

-- all is told, whatever follows
pub told : (old new : MessagePlace) (rest : List ℕ) (closed : Bool)
    → ((more : List ℕ) (later : Bool) → MayFollow closed more later
    → reading_from old later (rest ++ more) ≡ behind_marks [] 0 (reading_from new later (rest ++ more)))
    → Tells [] (state_at old rest closed) (state_at new rest closed)
told old new rest closed reads = moved [] old new [] rest closed reads

sent_whole : (from : Sender) (closed : Bool) (trailers : List (List ℕ × List ℕ)) (used : ℕ)
    → as_sent from closed (only (whole trailers used)) ≡ only (whole trailers used)
sent_whole Client closed trailers used = refl
sent_whole Server closed trailers used = refl

sent_fails : (from : Sender) (closed : Bool) (fault : Fault) → as_sent from closed (only (fails fault)) ≡ only (fails (fault_of from fault))
sent_fails Client closed fault = refl
sent_fails Server closed fault = refl

counted_none : (bytes : List ℕ) → counted_reading 0 bytes ≡ only (whole [] 0)
counted_none bytes = let all : nat_le 0 (length bytes) ≡ true = le-leb 0 (length bytes) (omega arith) in rw all refl

counted_end : (from : Sender) (rest : List ℕ) (closed : Bool)
    → IsTurn (state_at (in_counted from 0) rest closed) (part.End []) (state_at (behind_end []) rest closed)
counted_end from rest closed =
    turn-ends _ _ [] (told (in_counted from 0) (behind_end []) rest closed (λ more later follows.
    ap (λ (r : Reading). as_sent from later r) (counted_none (rest ++ more)) ∙ sent_whole from later [] 0)) refl refl

pub counted-ends : (from : Sender) (left : ℕ) (trailers : List (List ℕ × List ℕ)) (rest : List ℕ) (closed : Bool) → left ≡ 0 → trailers ≡ []
    → IsTurn (state_at (in_counted from left) rest closed) (part.End trailers) (state_at (behind_end trailers) rest closed)
counted-ends from left trailers rest closed none bare =
    subst (λ (n : ℕ). IsTurn (state_at (in_counted from n) rest closed) (part.End trailers) (state_at (behind_end trailers) rest closed)) (sym none)
    (subst (λ (ts : List (List ℕ × List ℕ)). IsTurn (state_at (in_counted from 0) rest closed) (part.End ts) (state_at (behind_end ts) rest closed)) (sym bare)
    (counted_end from rest closed))

shut_closed : (from : Sender) (closed : Bool) → has_shut from closed ≡ true → closed ≡ true
shut_closed Client closed is = absurd (let e : false ≡ true = is in cc)
shut_closed Server closed is = is

empty : (rest : List ℕ) → length rest ≡ 0 → rest ≡ []
empty [] none = refl
empty (b ∷ rest) none = absurd (omega arith)

closing_shut : (from : Sender) (later : Bool) → has_shut from true ≡ true → later ≡ true
    → as_sent from later (closing_reading (has_shut from later) []) ≡ only (whole [] 0)
closing_shut from later shut is =
    ap (λ (closed : Bool). as_sent from closed (closing_reading (has_shut from closed) [])) is
    ∙ ap (λ (closed : Bool). as_sent from true (closing_reading closed [])) shut ∙ sent_whole from true [] 0

ends_by : (from : Sender) (closed : Bool) → closed ≡ true → has_shut from closed ≡ true
    → Tells [] (state_at (up_to_close from) [] closed) (state_at (behind_end []) [] closed)
ends_by from true is shut = told (up_to_close from) (behind_end []) [] true (λ more later follows.
    ap (λ (bytes : List ℕ). as_sent from later (closing_reading (has_shut from later) bytes)) follows.0
    ∙ closing_shut from later shut follows.1)
ends_by from false is shut = absurd (let e : false ≡ true = is in cc)

closing_end : (from : Sender) (rest : List ℕ) (closed : Bool) → length rest ≡ 0 → has_shut from closed ≡ true
    → IsTurn (state_at (up_to_close from) rest closed) (part.End []) (state_at (behind_end []) rest closed)
closing_end from rest closed none shut =
    turn-ends _ _ []
    (subst (λ (bytes : List ℕ). Tells [] (state_at (up_to_close from) bytes closed) (state_at (behind_end []) bytes closed))
    (sym (empty rest none)) (ends_by from closed (shut_closed from closed shut) shut)) refl refl

pub closing-ends : (from : Sender) (trailers : List (List ℕ × List ℕ)) (rest : List ℕ) (closed : Bool) → trailers ≡ []
    → length rest ≡ 0 → has_shut from closed ≡ true
    → IsTurn (state_at (up_to_close from) rest closed) (part.End trailers) (state_at (behind_end trailers) rest closed)
closing-ends from trailers rest closed bare none shut =
    subst (λ (ts : List (List ℕ × List ℕ)). IsTurn (state_at (up_to_close from) rest closed) (part.End ts) (state_at (behind_end ts) rest closed)) (sym bare)
    (closing_end from rest closed none shut)

pub closing-waits : (from : Sender) (rest : List ℕ) (closed : Bool) → length rest ≡ 0 → has_shut from closed ≡ false
    → IsTurn (state_at (up_to_close from) rest closed) part.More (state_at (up_to_close from) rest closed)
closing-waits from rest closed none going =
    turn-waits _ _ (tells-nothing _)
    (ap (λ (bytes : List ℕ). as_sent from closed (closing_reading (has_shut from closed) bytes)) (empty rest none)
    ∙ ap (λ (shut : Bool). as_sent from closed (closing_reading shut [])) going
    ∙ sent_waits from closed ∙ ap cut_off going) refl

-- ---- waiting

pub cut_tells : (old mid : MessagePlace) (bytes rest : List ℕ) (closed : Bool) (fault : Fault) → closed ≡ true
    → Tells [] (state_at old bytes closed) (state_at mid rest closed) → reading_from mid closed rest ≡ only (fails fault)
    → Tells [] (state_at old bytes closed) (state_at (refused fault) rest closed)
cut_tells old mid bytes rest true fault is t reads = record {
  closed = refl;
  used = t.used;
  bytes = t.bytes;
  reading = λ more later follows.
      t.reading more later follows
      ∙ ap₂ (λ (more : List ℕ) (later : Bool). behind_marks [] (length t.used) (reading_from mid later (rest ++ more))) follows.0 follows.1
      ∙ ap (λ (bytes : List ℕ). behind_marks [] (length t.used) (reading_from mid true bytes)) (append-nil rest)
      ∙ ap (λ (r : Reading). behind_marks [] (length t.used) r) reads;
}
cut_tells old mid bytes rest false fault is t reads = absurd (let e : false ≡ true = is in cc)

wait_by : (old mid : MessagePlace) (bytes rest : List ℕ) (closed cut : Bool) (kept : MessageStage) → (cut ≡ true → closed ≡ true)
    → Tells [] (state_at old bytes closed) (state_at mid rest closed) → seen_as kept rest closed ≡ state_at mid rest closed
    → reading_from mid closed rest ≡ cut_off cut → has_stopped old ≡ false
    → IsTurn (state_at old bytes closed) (waited cut kept rest).part (seen_as (waited cut kept rest).stage (waited cut kept rest).rest closed)
wait_by old mid bytes rest closed false kept shuts t seen reads going =
    subst (λ (s : State). IsTurn (state_at old bytes closed) part.More s) (sym seen) (turn-waits _ _ t reads going)
wait_by old mid bytes rest closed true kept shuts t seen reads going =
    turn-fails _ _ ServerClosed (cut_tells old mid bytes rest closed ServerClosed (shuts refl) t reads) refl going

pub wait-turn : (from : Sender) (old mid : MessagePlace) (bytes rest : List ℕ) (closed : Bool) (kept : MessageStage)
    → Tells [] (state_at old bytes closed) (state_at mid rest closed) → seen_as kept rest closed ≡ state_at mid rest closed
    → reading_from mid closed rest ≡ cut_off (has_shut from closed) → has_stopped old ≡ false
    → IsTurn (state_at old bytes closed) (waited (has_shut from closed) kept rest).part
    (seen_as (waited (has_shut from closed) kept rest).stage (waited (has_shut from closed) kept rest).rest closed)
wait-turn from old mid bytes rest closed kept t seen reads going =
    wait_by old mid bytes rest closed (has_shut from closed) kept (shut_closed from closed) t seen reads going

pub wait-stage : (cut : Bool) (kept : MessageStage) (rest : List ℕ) → IsStage kept → IsStage (waited cut kept rest).stage
wait-stage false kept rest is = is
wait-stage true kept rest is = tt

counted_goes : (left : ℕ) → 0 < left → counted_reading left [] ≡ only goes_on
counted_goes left some = elim (leb_tells left 0) [
  | inl t ↦ let none = t.1 in absurd (omega arith)
  | inr f ↦ rw f.0 (reading_eq (ap (λ (bytes : List ℕ). map byte bytes) (take_none left)) refl)
]

pub counted-waits : (from : Sender) (left : ℕ) (rest : List ℕ) (closed : Bool) → 0 < left → length rest ≡ 0
    → IsTurn (state_at (in_counted from left) rest closed) (waited (has_shut from closed) (stage.Counted from left) rest).part
    (seen_as (waited (has_shut from closed) (stage.Counted from left) rest).stage (waited (has_shut from closed) (stage.Counted from left) rest).rest closed)
counted-waits from left rest closed some none =
    wait-turn from (in_counted from left) (in_counted from left) rest rest closed (stage.Counted from left) (tells-nothing _) refl
    (ap (λ (bytes : List ℕ). as_sent from closed (counted_reading left bytes)) (empty rest none)
    ∙ ap (λ (r : Reading). as_sent from closed r) (counted_goes left some) ∙ sent_waits from closed) refl

-- ---- chunks

chunk_tells : (from : Sender) (place next : ChunkPlace) (n : ℕ) (rest : List ℕ) (marks : List Mark) (closed : Bool)
    → hear_all place (take n rest) ≡ record { marks = marks; place = next } → GoesOn next
    → Tells marks (state_at (in_chunks from place) rest closed) (state_at (in_chunks from next) (drop n rest) closed)
chunk_tells from place next n rest marks closed hears going =
    taken marks (in_chunks from place) (in_chunks from next) n rest closed (λ more later follows.
    ap (λ (r : Reading). as_sent from later r) (resumed (drop n rest ++ more))
    ∙ sent_behind from later marks (length (take n rest)) (chunks_from next (drop n rest ++ more)))
  where
    resumed : (more : List ℕ) → chunks_from place (take n rest ++ more) ≡ behind_marks marks (length (take n rest)) (chunks_from next more)
    resumed more =
        subst (λ (first : ChunkHearing). GoesOn first.place → chunks_from place (take n rest ++ more) ≡ behind_marks first.marks (length (take n rest)) (chunks_from first.place more))
        hears (reading_resumes place (take n rest) more) going

chunk_ends : (from : Sender) (place : ChunkPlace) (n : ℕ) (rest : List ℕ) (trailers : List (List ℕ × List ℕ)) (closed : Bool)
    → n ≤ length rest → chunks_from place rest ≡ record { marks = []; finish = whole trailers n }
    → IsTurn (state_at (in_chunks from place) rest closed) (part.End trailers) (state_at (behind_end trailers) (drop n rest) closed)
chunk_ends from place n rest trailers closed fits is =
    let size = piece_size n rest fits in
    let ended : (chunks_from place rest).finish ≢ goes_on = λ e. (let f : whole trailers n ≡ goes_on = sym (ap (λ (r : Reading). r.finish) is) ∙ e in cc) in
    turn-ends _ _ trailers
    (taken [] (in_chunks from place) (behind_end trailers) n rest closed (λ more later follows.
    ap (λ (bytes : List ℕ). as_sent from later (chunks_from place bytes)) (regroup more)
    ∙ ap (λ (r : Reading). as_sent from later r) (finish_stays place rest more ended ∙ is)
    ∙ sent_whole from later trailers n ∙ ap (λ (k : ℕ). only (whole trailers k)) (sym (add-zero (length (take n rest)) ∙ size)))) refl refl
  where
    regroup : (more : List ℕ) → take n rest ++ (drop n rest ++ more) ≡ rest ++ more
    regroup more = sym (append_assoc (take n rest) (drop n rest) more) ∙ ap (λ (bytes : List ℕ). bytes ++ more) (take-append-drop n rest)

chunk_fails : (from : Sender) (place : ChunkPlace) (rest : List ℕ) (closed : Bool)
    → chunks_from place rest ≡ record { marks = []; finish = fails BadChunk }
    → IsTurn (state_at (in_chunks from place) rest closed) (part.Bad (fault_of from BadChunk)) (state_at (refused (fault_of from BadChunk)) rest closed)
chunk_fails from place rest closed is =
    let ended : (chunks_from place rest).finish ≢ goes_on = λ e. (let f : fails BadChunk ≡ goes_on = sym (ap (λ (r : Reading). r.finish) is) ∙ e in cc) in
    turn-fails _ _ (fault_of from BadChunk)
    (told (in_chunks from place) (refused (fault_of from BadChunk)) rest closed (λ more later follows.
    ap (λ (r : Reading). as_sent from later r) (finish_stays place rest more ended ∙ is) ∙ sent_fails from later BadChunk)) refl refl

-- a part that these bytes gave
chunk_gives : (from : Sender) (place : ChunkPlace) (n : ℕ) (rest : List ℕ) (closed : Bool) (given : Part) (after : Chunking)
    → (hears : Hears place (take n rest) (marks_of given) after) → IsGiven given
    → IsLongest given (as_sent from closed (chunks_from hears.0 (drop n rest)))
    → IsTurn (state_at (in_chunks from place) rest closed) given (state_at (chunk_place from after) (drop n rest) closed)
chunk_gives from place n rest closed given after hears some longest =
    subst (λ (c : Chunking). IsTurn (state_at (in_chunks from place) rest closed) given (state_at (chunk_place from c) (drop n rest) closed)) (sym hears.2)
    (turn-gives _ _ given (chunk_tells from place hears.0 n rest (marks_of given) closed hears.1 hears.3) some refl longest)

chunk_waits : (from : Sender) (place : ChunkPlace) (n : ℕ) (rest : List ℕ) (closed : Bool) (after : Chunking) → n ≡ length rest
    → Hears place (take n rest) [] after
    → IsTurn (state_at (in_chunks from place) rest closed) (waited (has_shut from closed) (stage.Chunked from after) (drop n rest)).part
    (seen_as (waited (has_shut from closed) (stage.Chunked from after) (drop n rest)).stage (waited (has_shut from closed) (stage.Chunked from after) (drop n rest)).rest closed)
chunk_waits from place n rest closed after all hears =
    let none : drop n rest ≡ [] = drop_of_length-le rest (omega arith) in
    wait-turn from (in_chunks from place) (in_chunks from hears.0) rest (drop n rest) closed (stage.Chunked from after)
    (chunk_tells from place hears.0 n rest [] closed hears.1 hears.3)
    (ap (λ (c : Chunking). state_at (chunk_place from c) (drop n rest) closed) hears.2)
    (ap (λ (bytes : List ℕ). as_sent from closed (chunks_from hears.0 bytes)) none
    ∙ ap (λ (f : Finish). as_sent from closed (make [] f)) hears.3 ∙ sent_waits from closed) refl

chunk_by : (from : Sender) (place : ChunkPlace) (rest : List ℕ) (closed : Bool) (used : ℕ) (told : Option ChunkPart) (after : Chunking)
    → used ≤ length rest → UsesFor told (length rest) used → Gives place rest used told after
    → IsTurn (state_at (in_chunks from place) rest closed) (given told (stage.Chunked from after) (drop used rest) (has_shut from closed)).part
    (seen_as (given told (stage.Chunked from after) (drop used rest) (has_shut from closed)).stage
    (given told (stage.Chunked from after) (drop used rest) (has_shut from closed)).rest closed)
chunk_by from place rest closed used None after within uses gives = chunk_waits from place used rest closed after uses gives
chunk_by from place rest closed used (Some (chunk_part.Size size)) after within uses gives =
    chunk_gives from place used rest closed (part.ChunkStart size) after gives.0 (omega arith) tt
chunk_by from place rest closed used (Some (chunk_part.Piece bytes)) after within uses gives =
    let some = gives.1 in
    let same = length-map bytes (λ (b : ℕ). byte b) in
    chunk_gives from place used rest closed (part.Piece bytes) after gives.0 (omega arith)
    (sent_longest from closed (chunks_from gives.0.0 (drop used rest))
    (subst (λ (c : Chunking). BeginsWithNoByte (feed_marks c (drop used rest))) gives.0.2 gives.2))
chunk_by from place rest closed used (Some chunk_part.EndOfChunk) after within uses gives =
    chunk_gives from place used rest closed part.ChunkEnd after gives.0 (omega arith) tt
chunk_by from place rest closed used (Some (chunk_part.Trailers trailers)) after within uses gives =
    chunk_ends from place used rest trailers closed within gives.0

chunk_stage : (from : Sender) (place : ChunkPlace) (rest left : List ℕ) (cut : Bool) (used : ℕ) (told : Option ChunkPart) (after : Chunking)
    → Gives place rest used told after → IsStage (given told (stage.Chunked from after) left cut).stage
chunk_stage from place rest left cut used None after gives = wait-stage cut (stage.Chunked from after) left (gives.0, gives.2)
chunk_stage from place rest left cut used (Some (chunk_part.Size size)) after gives = (gives.0.0, gives.0.2)
chunk_stage from place rest left cut used (Some (chunk_part.Piece bytes)) after gives = (gives.0.0, gives.0.2)
chunk_stage from place rest left cut used (Some chunk_part.EndOfChunk) after gives = (gives.0.0, gives.0.2)
chunk_stage from place rest left cut used (Some (chunk_part.Trailers trailers)) after gives = tt

-- a step of the reader of chunks, which has not stopped
pub chunk-turn : (from : Sender) (reader : Chunking) (rest : List ℕ) (closed : Bool) (step : ChunkStep) (after : Chunking)
    → (place : ChunkPlace) × (reader ≡ chunking.reads place) → Steps reader rest (Ok step) after
    → IsTurn (state_at (chunk_place from reader) rest closed) (given step.part (stage.Chunked from after) (drop step.used rest) (has_shut from closed)).part
    (seen_as (given step.part (stage.Chunked from after) (drop step.used rest) (has_shut from closed)).stage
    (given step.part (stage.Chunked from after) (drop step.used rest) (has_shut from closed)).rest closed)
chunk-turn from (chunking.reads place) rest closed step after going steps =
    chunk_by from place rest closed step.used step.part after steps.within steps.uses steps.gives
chunk-turn from (chunking.ended trailers) rest closed step after going steps = absurd (let e = going.1 in cc)
chunk-turn from chunking.refused rest closed step after going steps = absurd (let e = going.1 in cc)

pub chunk-stage : (from : Sender) (reader : Chunking) (rest left : List ℕ) (cut : Bool) (step : ChunkStep) (after : Chunking)
    → (place : ChunkPlace) × (reader ≡ chunking.reads place) → Steps reader rest (Ok step) after
    → IsStage (given step.part (stage.Chunked from after) left cut).stage
chunk-stage from (chunking.reads place) rest left cut step after going steps =
    chunk_stage from place rest left cut step.used step.part after steps.gives
chunk-stage from (chunking.ended trailers) rest left cut step after going steps = absurd (let e = going.1 in cc)
chunk-stage from chunking.refused rest left cut step after going steps = absurd (let e = going.1 in cc)

pub chunk-refused : (from : Sender) (reader : Chunking) (rest : List ℕ) (closed : Bool) (after : Chunking) (fault : Fault)
    → (place : ChunkPlace) × (reader ≡ chunking.reads place) → Steps reader rest (Err chunk_error.BadChunk) after → fault ≡ fault_of from BadChunk
    → IsTurn (state_at (chunk_place from reader) rest closed) (part.Bad fault) (state_at (refused fault) rest closed)
chunk-refused from (chunking.reads place) rest closed after fault going steps is =
    subst (λ (f : Fault). IsTurn (state_at (in_chunks from place) rest closed) (part.Bad f) (state_at (refused f) rest closed)) (sym is)
    (chunk_fails from place rest closed steps.0)
chunk-refused from (chunking.ended trailers) rest closed after fault going steps is = absurd (let e = going.1 in cc)
chunk-refused from chunking.refused rest closed after fault going steps is = absurd (let e = going.1 in cc)

-- behind a step no reader of heads stands
pub chunk-once : (told : Option ChunkPart) (from : Sender) (after : Chunking) (left : List ℕ) (cut : Bool)
    → StandOnce (given told (stage.Chunked from after) left cut).stage (given told (stage.Chunked from after) left cut).rest
chunk-once None from after left false = tt
chunk-once None from after left true = tt
chunk-once (Some (chunk_part.Size size)) from after left cut = tt
chunk-once (Some (chunk_part.Piece bytes)) from after left cut = tt
chunk-once (Some chunk_part.EndOfChunk) from after left cut = tt
chunk-once (Some (chunk_part.Trailers trailers)) from after left cut = tt
