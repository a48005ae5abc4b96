-- What a reader gave and what it has to come, and the item that stands where it reads.
use Rattle.std.proofs.Common.{◌≡◌, ℕ, Bool, true, false, List, [], ◌∷◌, ◌++◌, length, Some, refl, ap, sym, ◌∙◌, subst, arith, append_assoc}
use Rattle.std.specs.Prelude.{⊤}
use Rattle.px_head.specs.Front.{request_front}
use Rattle.px_head.specs.declared.front.Front.{Front}
use Rattle.px_head.specs.declared.front.Front.TheVariants as front
use Rattle.px_read.specs.Chunks.{Finish, goes_on, whole, fails, Reading}
use Rattle.px_read.specs.Items.{Body, Item, missing, bad_head, item_behind, body_of, request_told, request_item}
use Rattle.px_read.specs.Laws.{head_in}
use Rattle.px_read.specs.Marks.{Mark, asks}
use Rattle.px_read.specs.Readings.{behind_bytes, request_behind, request_reading}
use Rattle.px_read.specs.Reader.{Message, request, reading_of, State, reading_from, to_come, MayFollow, behind_marks, Reads, IsNext}
use Rattle.px_read.specs.declared.head.RequestHead.{RequestHead}
use Rattle.px_read.specs.declared.part.Part.{Part}
use Rattle.px_read.specs.declared.part.Part.TheVariants as given
use Rattle.px_exchange.proofs.BodyLemmas.{come}
use Rattle.px_stream.specs.Heard.{feeds}

-- ---- one step of a reader's sender

-- it is fed more
pub fed_on : (message : Message) (told : List Mark) (fed bytes : List ℕ) (state : State) → Reads message told fed false state →
    Reads message told (fed ++ bytes) false (feeds bytes state)
fed_on message told fed bytes state reads = record {
  closed = reads.closed;
  used = reads.used;
  bytes = ap (λ l. l ++ bytes) reads.bytes ∙ append_assoc reads.used state.rest bytes;
  reading = λ more later follows.
      ap (λ l. reading_of message later l) (append_assoc fed bytes more)
      ∙ (reads.reading (bytes ++ more) later tt
      ∙ ap (λ l. behind_marks told (length reads.used) (reading_from state.place later l)) (sym (append_assoc state.rest bytes more)));
}

follows_too : (closed : Bool) (more : List ℕ) (later : Bool) → MayFollow true more later → MayFollow closed more later
follows_too false more later both = tt
follows_too true more later both = both

-- its sender closes
abbrev pub shuts : State → State
shuts state = record state { closed = true }

pub shut_on : (message : Message) (told : List Mark) (fed : List ℕ) (closed : Bool) (state : State) → Reads message told fed closed state →
    Reads message told fed true (shuts state)
shut_on message told fed closed state reads = record {
  closed = refl;
  used = reads.used;
  bytes = reads.bytes;
  reading = λ more later follows. reads.reading more later (follows_too closed more later follows);
}

-- ---- a request's head

-- marks of a request: none, or its head first
abbrev pub OfRequest : List Mark → Type 0
OfRequest [] = ⊤
OfRequest (asks head ∷ marks) = ⊤
OfRequest _ = ⊥

of_request_by : (f : Front) (bytes : List ℕ) → OfRequest (request_behind f bytes).marks
of_request_by front.Nothing bytes = tt
of_request_by front.TooLong bytes = tt
of_request_by front.BadHead bytes = tt
of_request_by (front.Stands raw used) bytes = tt

pub of_request : (bytes : List ℕ) → OfRequest (request_reading bytes).marks
of_request bytes = of_request_by (request_front bytes) bytes

head_behind : {H : Type 0} (head : H) (body : Body) (f : Finish) → head_in (item_behind head body f) ≡ Some head
head_behind head body goes_on = refl
head_behind head body (whole trailers used) = refl
head_behind head body (fails fault) = refl

-- what a part says of the item at the front, where nothing was given before it
abbrev pub HeadShown : Part → Item RequestHead → Type 0
HeadShown (given.Request head) item = head_in item ≡ Some head
HeadShown (given.Bad fault) item = item ≡ bad_head fault
HeadShown given.More item = item ≡ missing
HeadShown (given.End trailers) item = item ≡ missing
HeadShown _ item = ⊥

-- the item of a reading of which nothing was given
told_by : (n : ℕ) (come : Reading) → Reading
told_by n come = behind_marks [] n come

shown_by : (got : Part) (n : ℕ) (come : Reading) → OfRequest come.marks → IsNext got come → HeadShown got (request_told come.marks (behind_bytes n come.finish))
shown_by given.More n come shape next = rw next refl
shown_by (given.End trailers) n come shape (used, next) = rw next refl
shown_by (given.Bad fault) n come shape next = rw next refl
shown_by (given.Request head) n come shape (some, (rest, is)) =
    let P : List Mark → Type 0 = λ marks. head_in (request_told marks (behind_bytes n come.finish)) ≡ Some head in
    subst P (sym is) (head_behind head (body_of rest) (behind_bytes n come.finish))
shown_by (given.Response head) n come shape (some, (rest, is)) = absurd (subst OfRequest is shape)
shown_by (given.ChunkStart size) n come shape (some, (rest, is)) = absurd (subst OfRequest is shape)
shown_by given.ChunkEnd n come shape (some, (rest, is)) = absurd (subst OfRequest is shape)
shown_by (given.Piece []) n come shape (some, (rest, is)) = absurd (omega arith)
shown_by (given.Piece (b ∷ bytes)) n come shape (some, (rest, is)) = absurd (subst OfRequest is shape)

pub head_shown : (got : Part) (fed : List ℕ) (state : State) → Reads request [] fed false state → IsNext got (to_come state) → HeadShown got (request_item fed)
head_shown got fed state reads next =
    let whole_is = come request [] fed false state reads in
    let P : Reading → Type 0 = λ r. HeadShown got (request_told r.marks r.finish) in
    let Q : Reading → Type 0 = λ r. OfRequest r.marks in
    subst P (sym whole_is) (shown_by got (length reads.used) (to_come state) (subst Q whole_is (of_request fed)) next)
