-- Turns of a reader of one message, over plain variables.
use Rattle.std.proofs.Common.{ℕ, ◌+◌, ◌-◌, ◌<◌, ◌≡◌, Bool, true, false, List, [], ◌++◌, length, drop, refl, sym, ap, ap₂, ◌∙◌, subst, arith, append-nil, append_assoc, length-append, zero-add, add-zero, add_assoc}
use Rattle.std.specs.Prelude.{Result, IfOk}
use Rattle.std.proofs.lemmas.Result.{IfOk-weaker}
use Rattle.px_read.specs.declared.message_reader.stage.MessageTurn.{MessageTurn}
use Rattle.std.proofs.Math.Seq.{drop-append_seam}
use Rattle.px_text.specs.Prefix.{IsPrefixOf}
use Rattle.px_message.specs.declared.fault.Fault.{Fault}
use Rattle.px_read.specs.Marks.{Mark, marks_of}
use Rattle.px_read.specs.Chunks.{Finish, goes_on, whole, fails, Reading}
use Rattle.px_read.specs.Readings.{only, behind_bytes, response_finish}
use Rattle.px_read.specs.Reader.{Message, MessagePlace, behind_end, refused, State, as_sent, has_shut, reading_of, reading_from, to_come, MayFollow, behind_marks, Tells, IsLongest, before_all, Reads, IsNext, HasStopped, has_stopped, IsTurn}
use Rattle.px_read.specs.Stages.{state_at, seen_as, cut_off}
use Rattle.px_read.specs.declared.message_reader.stage.MessageStage.{MessageStage}
use Rattle.px_read.specs.declared.message_reader.stage.MessageStage.TheVariants as stage
use Rattle.px_read.specs.declared.message_reader.stage.Sender.{Sender}
use Rattle.px_read.specs.declared.message_reader.stage.Sender.TheVariants.{Client, Server}
use Rattle.px_read.specs.declared.part.Part.{Part}
use Rattle.px_read.specs.declared.part.Part.TheVariants as part

-- ---- readings behind marks

pub behind_bytes-zero : (f : Finish) → behind_bytes 0 f ≡ f
behind_bytes-zero goes_on = refl
behind_bytes-zero (whole trailers used) = ap (λ (n : ℕ). whole trailers n) (zero-add used)
behind_bytes-zero (fails fault) = refl

pub behind_bytes-add : (m n : ℕ) (f : Finish) → behind_bytes m (behind_bytes n f) ≡ behind_bytes (m + n) f
behind_bytes-add m n goes_on = refl
behind_bytes-add m n (whole trailers used) = ap (λ (k : ℕ). whole trailers k) (sym (add_assoc m n used))
behind_bytes-add m n (fails fault) = refl

abbrev pub make : List Mark → Finish → Reading
make m f = record { marks = m; finish = f }

pub reading_eq : {m n : List Mark} {f g : Finish} → m ≡ n → f ≡ g → make m f ≡ make n g
reading_eq marks finish = ap₂ make marks finish

pub behind-nothing : (r : Reading) → behind_marks [] 0 r ≡ r
behind-nothing r = reading_eq refl (behind_bytes-zero r.finish)

pub behind-behind : (first second : List Mark) (m n : ℕ) (r : Reading)
    → behind_marks first m (behind_marks second n r) ≡ behind_marks (first ++ second) (m + n) r
behind-behind first second m n r = reading_eq (sym (append_assoc first second r.marks)) (behind_bytes-add m n r.finish)

-- ---- what may follow

pub nothing_follows : (closed : Bool) → MayFollow closed [] closed
nothing_follows false = tt
nothing_follows true = (refl, refl)

-- ---- steps that follow one another

pub tells-nothing : (s : State) → Tells [] s s
tells-nothing s = record {
  closed = refl;
  used = [];
  bytes = refl;
  reading = λ more later follows. sym (behind-nothing (reading_from s.place later (s.rest ++ more)));
}

pub tells-both : (first second : List Mark) (a b c : State) → Tells first a b → Tells second b c → Tells (first ++ second) a c
tells-both first second a b c t u = record {
  closed = u.closed ∙ t.closed;
  used = t.used ++ u.used;
  bytes = t.bytes ∙ ap (λ (rest : List ℕ). t.used ++ rest) u.bytes ∙ sym (append_assoc t.used u.used c.rest);
  reading = λ more later follows.
      (let here = t.reading more later follows in
      let there = u.reading more later (subst (λ (closed : Bool). MayFollow closed more later) (sym t.closed) follows) in
      here ∙ ap (λ (r : Reading). behind_marks first (length t.used) r) there
      ∙ behind-behind first second (length t.used) (length u.used) (reading_from c.place later (c.rest ++ more))
      ∙ ap (λ (n : ℕ). behind_marks (first ++ second) n (reading_from c.place later (c.rest ++ more))) (sym (length-append t.used u.used)));
}

-- ---- turns

-- a part before the end, of at least one mark
abbrev pub IsGiven : Part → Type 0
IsGiven part.More = ⊥
IsGiven (part.End trailers) = ⊥
IsGiven (part.Bad fault) = ⊥
IsGiven given = 0 < length (marks_of given)

given_next : (given : Part) (r : Reading) (rest : List Mark) → IsGiven given → r.marks ≡ marks_of given ++ rest → IsNext given r
given_next part.More r rest given is = absurd given
given_next (part.End trailers) r rest given is = absurd given
given_next (part.Bad fault) r rest given is = absurd given
given_next (part.Request head) r rest given is = (given, (rest, is))
given_next (part.Response head) r rest given is = (given, (rest, is))
given_next (part.Piece bytes) r rest given is = (given, (rest, is))
given_next (part.ChunkStart size) r rest given is = (given, (rest, is))
given_next part.ChunkEnd r rest given is = (given, (rest, is))

given_stopped : (given : Part) (s : State) → IsGiven given → HasStopped given s
given_stopped part.More s given = tt
given_stopped (part.End trailers) s given = absurd given
given_stopped (part.Bad fault) s given = absurd given
given_stopped (part.Request head) s given = tt
given_stopped (part.Response head) s given = tt
given_stopped (part.Piece bytes) s given = tt
given_stopped (part.ChunkStart size) s given = tt
given_stopped part.ChunkEnd s given = tt

goes : (s : MessagePlace) (B : Type 0) → has_stopped s ≡ false → has_stopped s ≡ true → B
goes s B going stopped = absurd (let e : false ≡ true = sym going ∙ stopped in cc)

-- the reading of a state at its own moment
pub now : (marks : List Mark) (old new : State) → (t : Tells marks old new)
    → to_come old ≡ behind_marks marks (length t.used) (reading_from new.place old.closed new.rest)
now marks old new t =
    ap (λ (rest : List ℕ). reading_from old.place old.closed rest) (sym (append-nil old.rest))
    ∙ t.reading [] old.closed (nothing_follows old.closed)
    ∙ ap (λ (rest : List ℕ). behind_marks marks (length t.used) (reading_from new.place old.closed rest)) (append-nil new.rest)

pub turn-gives : (old new : State) (given : Part) → Tells (marks_of given) old new → IsGiven given → has_stopped old.place ≡ false
    → IsLongest given (to_come new) → IsTurn old given new
turn-gives old new given t some going longest = record {
  tells = t;
  longest = longest;
  next = given_next given (to_come old) _ some (ap (λ (r : Reading). r.marks) (now (marks_of given) old new t));
  stopped = given_stopped given new some;
  again = λ e. goes old.place _ going e;
}

pub turn-waits : (old new : State) → Tells [] old new → reading_from new.place old.closed new.rest ≡ only goes_on
    → has_stopped old.place ≡ false → IsTurn old part.More new
turn-waits old new t waits going = record {
  tells = t;
  longest = tt;
  next = now [] old new t ∙ ap (λ (r : Reading). behind_marks [] (length t.used) r) waits;
  stopped = tt;
  again = λ e. goes old.place _ going e;
}

pub turn-ends : (old new : State) (trailers : List (List ℕ × List ℕ)) → Tells [] old new → new.place ≡ behind_end trailers
    → has_stopped old.place ≡ false → IsTurn old (part.End trailers) new
turn-ends old new trailers t at going = record {
  tells = t;
  longest = tt;
  next = (
    length t.used + 0,
    now [] old new t
        ∙ ap (λ (place : MessagePlace). behind_marks [] (length t.used) (reading_from place old.closed new.rest)) at,
  );
  stopped = at;
  again = λ e. goes old.place _ going e;
}

pub turn-fails : (old new : State) (fault : Fault) → Tells [] old new → new.place ≡ refused fault
    → has_stopped old.place ≡ false → IsTurn old (part.Bad fault) new
turn-fails old new fault t at going = record {
  tells = t;
  longest = tt;
  next = now [] old new t
      ∙ ap (λ (place : MessagePlace). behind_marks [] (length t.used) (reading_from place old.closed new.rest)) at;
  stopped = at;
  again = λ e. goes old.place _ going e;
}

-- behind the end, and behind a fault, for ever
pub turn-ended : (trailers : List (List ℕ × List ℕ)) (rest : List ℕ) (closed : Bool)
    → IsTurn (state_at (behind_end trailers) rest closed) (part.End trailers) (state_at (behind_end trailers) rest closed)
turn-ended trailers rest closed = record {
  tells = tells-nothing _;
  longest = tt;
  next = (0, refl);
  stopped = refl;
  again = λ e. refl;
}

pub turn-refused : (fault : Fault) (rest : List ℕ) (closed : Bool)
    → IsTurn (state_at (refused fault) rest closed) (part.Bad fault) (state_at (refused fault) rest closed)
turn-refused fault rest closed = record {
  tells = tells-nothing _;
  longest = tt;
  next = refl;
  stopped = refl;
  again = λ e. refl;
}

-- ---- places

-- a place behind some of the bytes, over all that may follow
pub moved : (marks : List Mark) (old new : MessagePlace) (used rest : List ℕ) (closed : Bool)
    → ((more : List ℕ) (later : Bool) → MayFollow closed more later
    → reading_from old later (used ++ (rest ++ more)) ≡ behind_marks marks (length used) (reading_from new later (rest ++ more)))
    → Tells marks (state_at old (used ++ rest) closed) (state_at new rest closed)
moved marks old new used rest closed reads = record {
  closed = refl;
  used = used;
  bytes = refl;
  reading = λ more later follows.
      ap (λ (bytes : List ℕ). reading_from old later bytes) (append_assoc used rest more) ∙ reads more later follows;
}

-- ---- the sender's close

finish_behind : (closed : Bool) (n : ℕ) (f : Finish) → response_finish closed (behind_bytes n f) ≡ behind_bytes n (response_finish closed f)
finish_behind true n goes_on = refl
finish_behind false n goes_on = refl
finish_behind closed n (whole trailers used) = refl
finish_behind closed n (fails fault) = refl

pub sent_behind : (from : Sender) (closed : Bool) (marks : List Mark) (n : ℕ) (r : Reading)
    → as_sent from closed (behind_marks marks n r) ≡ behind_marks marks n (as_sent from closed r)
sent_behind Client closed marks n r = refl
sent_behind Server closed marks n r = reading_eq refl (finish_behind closed n r.finish)

pub sent_waits : (from : Sender) (closed : Bool) → as_sent from closed (only goes_on) ≡ cut_off (has_shut from closed)
sent_waits Client closed = refl
sent_waits Server true = refl
sent_waits Server false = refl

-- ---- what a reader gave

pub reads-begin : (message : Message) → Reads message [] [] false (before_all message [] false)
reads-begin message = tells-nothing (before_all message [] false)

pub reads-begun : (message : Message) (s : State) → s ≡ before_all message [] false → Reads message [] [] false s
reads-begun message s is = subst (λ (state : State). Reads message [] [] false state) (sym is) (reads-begin message)

-- more bytes are more of what is to come
pub reads-fed : (message : Message) (told : List Mark) (fed bytes : List ℕ) (s new : State) → s.closed ≡ false
    → new ≡ record s { rest = s.rest ++ bytes } → Reads message told fed false s → Reads message told (fed ++ bytes) false new
reads-fed message told fed bytes s new going is r =
    subst (λ (n : State). Reads message told (fed ++ bytes) false n) (sym is) (record {
      closed = r.closed;
      used = r.used;
      bytes = ap (λ (all : List ℕ). all ++ bytes) r.bytes ∙ append_assoc r.used s.rest bytes;
      reading = λ more later follows.
          (ap (λ (all : List ℕ). reading_of message later all) (append_assoc fed bytes more)
          ∙ r.reading (bytes ++ more) later tt
          ∙ ap (λ (rest : List ℕ). behind_marks told (length r.used) (reading_from s.place later rest)) (sym (append_assoc s.rest bytes more)));
    })

closing : (closed : Bool) (more : List ℕ) (later : Bool) → MayFollow true more later → MayFollow closed more later
closing true more later follows = follows
closing false more later follows = tt

pub reads-closed : (message : Message) (told : List Mark) (fed : List ℕ) (closed : Bool) (s new : State)
    → new ≡ record s { closed = true } → Reads message told fed closed s → Reads message told fed true new
reads-closed message told fed closed s new is r =
    subst (λ (n : State). Reads message told fed true n) (sym is) (record {
      closed = refl;
      used = r.used;
      bytes = r.bytes;
      reading = λ more later follows. r.reading more later (closing closed more later follows);
    })

pub reads-told : (message : Message) (told marks : List Mark) (fed : List ℕ) (closed : Bool) (s new : State)
    → Tells marks s new → Reads message told fed closed s → Reads message (told ++ marks) fed closed new
reads-told message told marks fed closed s new t r = tells-both told marks _ s new r t

-- the close is no more than itself
pub seen-closed : (kept : MessageStage) (rest : List ℕ) (closed : Bool) → seen_as kept rest true ≡ record (seen_as kept rest closed) { closed = true }
seen-closed (stage.Request reader) rest closed = refl
seen-closed (stage.Response asked_head reader) rest closed = refl
seen-closed (stage.Counted from left) rest closed = refl
seen-closed (stage.Chunked from reader) rest closed = refl
seen-closed (stage.ToClose from) rest closed = refl
seen-closed (stage.Ended trailers) rest closed = refl
seen-closed (stage.Refused fault) rest closed = refl

-- what a call answers is this turn
pub turn-made : {E : Type 0} (answer : Result MessageTurn E) (made : MessageTurn) (old : State) (closed : Bool)
    → IsTurn old made.part (seen_as made.stage made.rest closed) → IfOk answer (λ turn. turn ≡ made)
    → IfOk answer (λ turn. IsTurn old turn.part (seen_as turn.stage turn.rest closed))
turn-made answer made old closed is =
    IfOk-weaker answer (λ (turn : MessageTurn). turn ≡ made) (λ (turn : MessageTurn). IsTurn old turn.part (seen_as turn.stage turn.rest closed))
    (λ turn same. subst (λ (t : MessageTurn). IsTurn old t.part (seen_as t.stage t.rest closed)) (sym same) is)

-- ---- what was told is read

shorter_by : (used rest all : List ℕ) → all ≡ used ++ rest → length used ≡ length all - length rest
shorter_by used rest all is =
    let sizes = ap (λ (bytes : List ℕ). length bytes) is ∙ length-append used rest in omega arith

now_told : (message : Message) (told : List Mark) (fed : List ℕ) (closed : Bool) (s : State) → (r : Reads message told fed closed s)
    → reading_of message closed fed ≡ behind_marks told (length r.used) (to_come s)
now_told message told fed closed s r =
    now told (before_all message fed closed) s r
    ∙ ap (λ (shut : Bool). behind_marks told (length r.used) (reading_from s.place shut s.rest)) (sym r.closed)

pub told-read : (message : Message) (told : List Mark) (fed : List ℕ) (closed : Bool) (s : State) → Reads message told fed closed s
    → reading_of message closed fed ≡ behind_marks told (length fed - length s.rest) (to_come s)
told-read message told fed closed s r =
    now_told message told fed closed s r
    ∙ ap (λ (n : ℕ). behind_marks told n (to_come s)) (shorter_by r.used s.rest fed r.bytes)

pub end-whole : (message : Message) (told : List Mark) (fed : List ℕ) (closed : Bool) (s : State) (trailers : List (List ℕ × List ℕ))
    → Reads message told fed closed s → s.place ≡ behind_end trailers
    → (used : ℕ) × (reading_of message closed fed ≡ record { marks = told; finish = whole trailers used }) × (s.rest ≡ drop used fed)
end-whole message told fed closed s trailers r at = (
  length r.used,
  now_told message told fed closed s r
      ∙ ap (λ (place : MessagePlace). behind_marks told (length r.used) (reading_from place s.closed s.rest)) at
      ∙ reading_eq (append-nil told) (ap (λ (n : ℕ). whole trailers n) (add-zero (length r.used))),
  sym (ap (λ (bytes : List ℕ). drop (length r.used) bytes) r.bytes ∙ drop-append_seam r.used s.rest),
)

pub bad-refused : (message : Message) (told : List Mark) (fed : List ℕ) (closed : Bool) (s : State) (fault : Fault)
    → Reads message told fed closed s → s.place ≡ refused fault
    → reading_of message closed fed ≡ record { marks = told; finish = fails fault }
bad-refused message told fed closed s fault r at =
    now_told message told fed closed s r
    ∙ ap (λ (place : MessagePlace). behind_marks told (length r.used) (reading_from place s.closed s.rest)) at
    ∙ reading_eq (append-nil told) refl

-- ---- which part comes

-- nothing is told where a part has marks
no_marks : (given : Part) (r : Reading) (f : Finish) (B : Type 0) → (0 < length (marks_of given)) × IsPrefixOf (marks_of given) r.marks
    → r ≡ only f → B
no_marks given r f B next is =
    let sizes = ap (λ (marks : List Mark). length marks) (sym (ap (λ (q : Reading). q.marks) is) ∙ next.1.1) in
    let both = length-append (marks_of given) next.1.0 in
    let some = next.0 in
    absurd (omega arith)

pub next-more : (given : Part) (r : Reading) → IsNext given r → r ≡ only goes_on → given ≡ part.More
next-more part.More r next is = refl
next-more (part.End trailers) r next is = absurd (let e = ap (λ (q : Reading). q.finish) (sym is ∙ next.1) in cc)
next-more (part.Bad fault) r next is = absurd (let e = ap (λ (q : Reading). q.finish) (sym is ∙ next) in cc)
next-more (part.Request head) r next is = no_marks (part.Request head) r goes_on _ next is
next-more (part.Response head) r next is = no_marks (part.Response head) r goes_on _ next is
next-more (part.Piece bytes) r next is = no_marks (part.Piece bytes) r goes_on _ next is
next-more (part.ChunkStart size) r next is = no_marks (part.ChunkStart size) r goes_on _ next is
next-more part.ChunkEnd r next is = no_marks part.ChunkEnd r goes_on _ next is

pub next-end : (given : Part) (r : Reading) (trailers : List (List ℕ × List ℕ)) (used : ℕ) → IsNext given r → r ≡ only (whole trailers used)
    → given ≡ part.End trailers
next-end part.More r trailers used next is = absurd (let e = ap (λ (q : Reading). q.finish) (sym is ∙ next) in cc)
next-end (part.End own) r trailers used next is =
    let e : whole own next.0 ≡ whole trailers used = ap (λ (q : Reading). q.finish) (sym next.1 ∙ is) in
    let same : own ≡ trailers = cc in ap (λ (ts : List (List ℕ × List ℕ)). part.End ts) same
next-end (part.Bad fault) r trailers used next is = absurd (let e = ap (λ (q : Reading). q.finish) (sym is ∙ next) in cc)
next-end (part.Request head) r trailers used next is = no_marks (part.Request head) r (whole trailers used) _ next is
next-end (part.Response head) r trailers used next is = no_marks (part.Response head) r (whole trailers used) _ next is
next-end (part.Piece bytes) r trailers used next is = no_marks (part.Piece bytes) r (whole trailers used) _ next is
next-end (part.ChunkStart size) r trailers used next is = no_marks (part.ChunkStart size) r (whole trailers used) _ next is
next-end part.ChunkEnd r trailers used next is = no_marks part.ChunkEnd r (whole trailers used) _ next is

pub next-bad : (given : Part) (r : Reading) (fault : Fault) → IsNext given r → r ≡ only (fails fault) → given ≡ part.Bad fault
next-bad part.More r fault next is = absurd (let e = ap (λ (q : Reading). q.finish) (sym is ∙ next) in cc)
next-bad (part.End own) r fault next is = absurd (let e = ap (λ (q : Reading). q.finish) (sym is ∙ next.1) in cc)
next-bad (part.Bad own) r fault next is =
    let e : fails own ≡ fails fault = ap (λ (q : Reading). q.finish) (sym next ∙ is) in
    let same : own ≡ fault = cc in ap (λ (f : Fault). part.Bad f) same
next-bad (part.Request head) r fault next is = no_marks (part.Request head) r (fails fault) _ next is
next-bad (part.Response head) r fault next is = no_marks (part.Response head) r (fails fault) _ next is
next-bad (part.Piece bytes) r fault next is = no_marks (part.Piece bytes) r (fails fault) _ next is
next-bad (part.ChunkStart size) r fault next is = no_marks (part.ChunkStart size) r (fails fault) _ next is
next-bad part.ChunkEnd r fault next is = no_marks part.ChunkEnd r (fails fault) _ next is
