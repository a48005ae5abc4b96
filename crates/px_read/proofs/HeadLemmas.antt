-- Turns of a reader before a head.
use Rattle.std.proofs.Common.{ℕ, ◌≡◌, ◌≢◌, Bool, true, false, List, [], ◌∷◌, ◌++◌, take, drop, Option, None, Result, Ok, Err, refl, sym, ap, ◌∙◌, subst, arith, append_assoc, take-append-drop}
use Rattle.std.proofs.lemmas.List.{drop-append-le}
use Rattle.px_head.specs.Front.{front, request_front, response_front}
use Rattle.px_head.specs.Laws.{IsRequestParts, IsResponseParts}
use Rattle.px_head.specs.Reader.{Reader, answer, after, seen, seen_by}
use Rattle.px_head.specs.declared.raw.RawHead.{RawHead}
use Rattle.px_head.specs.declared.front.Front.{Front}
use Rattle.px_head.specs.declared.front.Front.TheVariants as fronts
use Rattle.px_head.specs.declared.front.Found.TheVariants as found
use Rattle.px_head.specs.declared.front.Kind.{Kind}
use Rattle.px_head.specs.declared.front.Kind.TheVariants as kind
use Rattle.px_head.specs.declared.front.Refusal.{Refusal}
use Rattle.px_head.proofs.FrontLemmas.{front-stays, used-within, request_parts_valid, response_parts_valid}
use Rattle.px_message.specs.Length.{response_length}
use Rattle.px_message.specs.declared.length.Length.{Length}
use Rattle.px_message.specs.declared.length.Length.TheVariants as lengths
use Rattle.px_message.specs.declared.fault.Fault.{Fault}
use Rattle.px_message.specs.declared.fault.Fault.TheVariants.{BadHead, TooLong, BadResponse, ServerClosed}
use Rattle.px_read.specs.Heads.{code_of, request_body_length, request_head, response_head}
use Rattle.px_read.specs.Marks.{asks, answers}
use Rattle.px_read.specs.Chunks.{goes_on, fails, Reading}
use Rattle.px_read.specs.Readings.{only, body_reading, request_body, request_behind, request_reading, as_response, response_body, response_behind, response_reading}
use Rattle.px_read.specs.Reader.{request, response, at_head, refused, reading_from, behind_marks, Tells, IsTurn}
use Rattle.px_read.specs.Stages.{state_at, body_place, request_place, answered}
use Rattle.px_read.specs.declared.message_reader.stage.Sender.TheVariants.{Server}
use Rattle.px_read.specs.declared.part.Part.TheVariants as part
use Rattle.px_read.proofs.ReaderLemmas.{tells-nothing, sent_behind, turn-gives, turn-waits, turn-fails}
use Rattle.px_read.proofs.BodyLemmas.{piece_size, taken, told, cut_tells}

-- ---- what a reader of heads answers

waiting : (f : Front) → found.Partial ≡ answer f → f ≡ fronts.Nothing
waiting fronts.Nothing is = refl
waiting fronts.TooLong is = absurd (let e = is in cc)
waiting fronts.BadHead is = absurd (let e = is in cc)
waiting (fronts.Stands raw used) is = absurd (let e = is in cc)

too_long : (f : Front) → found.TooLong ≡ answer f → f ≡ fronts.TooLong
too_long fronts.Nothing is = absurd (let e = is in cc)
too_long fronts.TooLong is = refl
too_long fronts.BadHead is = absurd (let e = is in cc)
too_long (fronts.Stands raw used) is = absurd (let e = is in cc)

bad : (f : Front) → found.BadHead ≡ answer f → f ≡ fronts.BadHead
bad fronts.Nothing is = absurd (let e = is in cc)
bad fronts.TooLong is = absurd (let e = is in cc)
bad fronts.BadHead is = refl
bad (fronts.Stands raw used) is = absurd (let e = is in cc)

standing : (f : Front) (raw : RawHead) → found.Head raw ≡ answer f → (used : ℕ) × (f ≡ fronts.Stands raw used)
standing fronts.Nothing raw is = absurd (let e = is in cc)
standing fronts.TooLong raw is = absurd (let e = is in cc)
standing fronts.BadHead raw is = absurd (let e = is in cc)
standing (fronts.Stands other used) raw is = (used, let e = is in cc)

fresh : (k : Kind) (reader : Reader) → reader.failed ≡ None → seen k reader ≡ front k reader.rest
fresh k reader none = ap (λ (refusal : Option Refusal). seen_by (front k reader.rest) refusal) none

-- a reader that has not failed, before and behind a head that stands: what it found, and what is left
pub record Finds (k : Kind) (old new : Reader) (raw : RawHead) : Type 0 where
  pub used : ℕ
  pub at : front k old.rest ≡ fronts.Stands raw used
  pub left : new.rest ≡ drop used old.rest

pub finds : (k : Kind) (old new : Reader) (raw : RawHead) → old.failed ≡ None → found.Head raw ≡ answer (seen k old)
    → new ≡ after (seen k old) old → Finds k old new raw
finds k old new raw none is goes =
    let same = fresh k old none in
    let w = standing (front k old.rest) raw (is ∙ ap answer same) in
    record {
      used = w.0;
      at = w.1;
      left = ap (λ (r : Reader). r.rest) (goes ∙ ap (λ (f : Front). after f old) (same ∙ w.1));
    }

pub request-parts : (old new : Reader) (raw : RawHead) → Finds kind.Request old new raw → IsRequestParts raw
request-parts old new raw f = request_parts_valid old.rest raw f.used f.at

pub response-parts : (old new : Reader) (raw : RawHead) → Finds kind.Response old new raw → IsResponseParts raw
response-parts old new raw f = response_parts_valid old.rest raw f.used f.at

-- nothing stands there, and the reader has the bytes that it had
pub record Waits (k : Kind) (old new : Reader) : Type 0 where
  pub at : front k old.rest ≡ fronts.Nothing
  pub left : new.rest ≡ old.rest
  pub fresh : new.failed ≡ old.failed

pub waits : (k : Kind) (old new : Reader) → old.failed ≡ None → found.Partial ≡ answer (seen k old)
    → new ≡ after (seen k old) old → Waits k old new
waits k old new none is goes =
    let same = fresh k old none in
    let w = waiting (front k old.rest) (is ∙ ap answer same) in
    let searched = goes ∙ ap (λ (f : Front). after f old) (same ∙ w) in
    record { at = w; left = ap (λ (r : Reader). r.rest) searched; fresh = ap (λ (r : Reader). r.failed) searched }

pub is_too_long : (k : Kind) (old new : Reader) → old.failed ≡ None → found.TooLong ≡ answer (seen k old)
    → new ≡ after (seen k old) old → (front k old.rest ≡ fronts.TooLong) × (new.rest ≡ old.rest)
is_too_long k old new none is goes =
    let same = fresh k old none in
    let w = too_long (front k old.rest) (is ∙ ap answer same) in
    (w, ap (λ (r : Reader). r.rest) (goes ∙ ap (λ (f : Front). after f old) (same ∙ w)))

pub is_bad : (k : Kind) (old new : Reader) → old.failed ≡ None → found.BadHead ≡ answer (seen k old)
    → new ≡ after (seen k old) old → (front k old.rest ≡ fronts.BadHead) × (new.rest ≡ old.rest)
is_bad k old new none is goes =
    let same = fresh k old none in
    let w = bad (front k old.rest) (is ∙ ap answer same) in
    (w, ap (λ (r : Reader). r.rest) (goes ∙ ap (λ (f : Front). after f old) (same ∙ w)))

-- ---- requests

pub request-waits : (old new : Reader) (closed : Bool) → Waits kind.Request old new
    → IsTurn (state_at (at_head request) old.rest closed) part.More (state_at (at_head request) new.rest closed)
request-waits old new closed w =
    subst (λ (l : List ℕ). IsTurn (state_at (at_head request) old.rest closed) part.More (state_at (at_head request) l closed)) (sym w.left)
    (turn-waits _ _ (tells-nothing _) (ap (λ (f : Front). request_behind f old.rest) w.at) refl)

-- a front that is decided is the same over all that follows
stays : (k : Kind) (bytes more : List ℕ) (f : Front) → f ≢ fronts.Nothing → front k bytes ≡ f → front k (bytes ++ more) ≡ f
stays k bytes more f decided at = front-stays k bytes more (λ e. decided (sym at ∙ e)) ∙ at

request_refused : (bytes rest : List ℕ) (closed : Bool) (f : Front) (fault : Fault) → f ≢ fronts.Nothing → request_front bytes ≡ f
    → ((all : List ℕ) → request_behind f all ≡ only (fails fault)) → rest ≡ bytes
    → IsTurn (state_at (at_head request) bytes closed) (part.Bad fault) (state_at (refused fault) rest closed)
request_refused bytes rest closed f fault decided at is same =
    subst (λ (left : List ℕ). IsTurn (state_at (at_head request) bytes closed) (part.Bad fault) (state_at (refused fault) left closed)) (sym same)
    (turn-fails _ _ fault
    (told (at_head request) (refused fault) bytes closed (λ more later follows.
    ap (λ (g : Front). request_behind g (bytes ++ more)) (stays kind.Request bytes more f decided at) ∙ is (bytes ++ more))) refl refl)

pub request-too_long : (old new : Reader) (rest : List ℕ) (closed : Bool) → (request_front old.rest ≡ fronts.TooLong) × (new.rest ≡ old.rest) → rest ≡ new.rest
    → IsTurn (state_at (at_head request) old.rest closed) (part.Bad TooLong) (state_at (refused TooLong) rest closed)
request-too_long old new rest closed w left = request_refused old.rest rest closed fronts.TooLong TooLong (λ e. cc) w.0 (λ all. refl) (left ∙ w.1)

pub request-bad : (old new : Reader) (rest : List ℕ) (closed : Bool) → (request_front old.rest ≡ fronts.BadHead) × (new.rest ≡ old.rest) → rest ≡ new.rest
    → IsTurn (state_at (at_head request) old.rest closed) (part.Bad BadHead) (state_at (refused BadHead) rest closed)
request-bad old new rest closed w left = request_refused old.rest rest closed fronts.BadHead BadHead (λ e. cc) w.0 (λ all. refl) (left ∙ w.1)

request_body_from : (framing : Result Length Fault) (later : Bool) (bytes : List ℕ)
    → request_body framing bytes ≡ reading_from (request_place framing) later bytes
request_body_from (Err fault) later bytes = refl
request_body_from (Ok lengths.None) later bytes = refl
request_body_from (Ok (lengths.Bytes n)) later bytes = refl
request_body_from (Ok lengths.Chunked) later bytes = refl
request_body_from (Ok lengths.ToClose) later bytes = refl

-- the bytes behind those that were used, whatever follows
regroup : (n : ℕ) (rest more : List ℕ) → take n rest ++ (drop n rest ++ more) ≡ rest ++ more
regroup n rest more = sym (append_assoc (take n rest) (drop n rest) more) ∙ ap (λ (bytes : List ℕ). bytes ++ more) (take-append-drop n rest)

request_tells : (bytes : List ℕ) (raw : RawHead) (used : ℕ) (closed : Bool) → request_front bytes ≡ fronts.Stands raw used
    → Tells (asks (request_head raw) ∷ []) (state_at (at_head request) bytes closed)
    (state_at (request_place (request_body_length raw.first raw.pairs)) (drop used bytes) closed)
request_tells bytes raw used closed at =
    let within = used-within kind.Request bytes raw used at in
    let head = asks (request_head raw) ∷ [] in
    let framing = request_body_length raw.first raw.pairs in
    taken head (at_head request) (request_place framing) used bytes closed (λ more later follows.
    ap request_reading (regroup used bytes more)
    ∙ ap (λ (f : Front). request_behind f (bytes ++ more)) (stays kind.Request bytes more (fronts.Stands raw used) (λ e. cc) at)
    ∙ ap (λ (rest : List ℕ). behind_marks head used (request_body framing rest)) (drop-append-le used bytes more within.1)
    ∙ ap (λ (r : Reading). behind_marks head used r) (request_body_from framing later (drop used bytes ++ more))
    ∙ ap (λ (n : ℕ). behind_marks head n (reading_from (request_place framing) later (drop used bytes ++ more))) (sym (piece_size used bytes within.1)))

pub request-gives : (old new : Reader) (raw : RawHead) (rest : List ℕ) (closed : Bool) → Finds kind.Request old new raw → rest ≡ new.rest
    → IsTurn (state_at (at_head request) old.rest closed) (part.Request (request_head raw))
    (state_at (request_place (request_body_length raw.first raw.pairs)) rest closed)
request-gives old new raw rest closed f left =
    subst (λ (rest : List ℕ). IsTurn (state_at (at_head request) old.rest closed) (part.Request (request_head raw)) (state_at (request_place (request_body_length raw.first raw.pairs)) rest closed))
    (sym (left ∙ f.left)) (turn-gives _ _ (part.Request (request_head raw)) (request_tells old.rest raw f.used closed f.at) (omega arith) refl tt)

-- ---- responses

pub response-waits : (old new : Reader) (asked_head closed : Bool) → Waits kind.Response old new → closed ≡ false
    → IsTurn (state_at (at_head (response asked_head)) old.rest closed) part.More (state_at (at_head (response asked_head)) new.rest closed)
response-waits old new asked_head closed w going =
    subst (λ (l : List ℕ). IsTurn (state_at (at_head (response asked_head)) old.rest closed) part.More (state_at (at_head (response asked_head)) l closed)) (sym w.left)
    (turn-waits _ _ (tells-nothing _)
    (ap (λ (f : Front). as_response closed (response_behind f asked_head closed old.rest)) w.at
    ∙ ap (λ (shut : Bool). as_response shut (only goes_on)) going) refl)

pub response-cut : (old new : Reader) (rest : List ℕ) (asked_head closed : Bool) → Waits kind.Response old new → closed ≡ true → rest ≡ new.rest
    → IsTurn (state_at (at_head (response asked_head)) old.rest closed) (part.Bad ServerClosed) (state_at (refused ServerClosed) rest closed)
response-cut old new rest asked_head closed w shut left =
    subst (λ (bytes : List ℕ). IsTurn (state_at (at_head (response asked_head)) old.rest closed) (part.Bad ServerClosed) (state_at (refused ServerClosed) bytes closed))
    (sym (left ∙ w.left))
    (turn-fails _ _ ServerClosed
    (cut_tells (at_head (response asked_head)) (at_head (response asked_head)) old.rest old.rest closed ServerClosed shut (tells-nothing _)
    (ap (λ (f : Front). as_response closed (response_behind f asked_head closed old.rest)) w.at
    ∙ ap (λ (shut : Bool). as_response shut (only goes_on)) shut)) refl refl)

response_refused : (bytes rest : List ℕ) (asked_head closed : Bool) (f : Front) → f ≢ fronts.Nothing → response_front bytes ≡ f
    → ((later : Bool) (all : List ℕ) → as_response later (response_behind f asked_head later all) ≡ only (fails BadResponse)) → rest ≡ bytes
    → IsTurn (state_at (at_head (response asked_head)) bytes closed) (part.Bad BadResponse) (state_at (refused BadResponse) rest closed)
response_refused bytes rest asked_head closed f decided at is same =
    subst (λ (left : List ℕ). IsTurn (state_at (at_head (response asked_head)) bytes closed) (part.Bad BadResponse) (state_at (refused BadResponse) left closed)) (sym same)
    (turn-fails _ _ BadResponse
    (told (at_head (response asked_head)) (refused BadResponse) bytes closed (λ more later follows.
    ap (λ (g : Front). as_response later (response_behind g asked_head later (bytes ++ more))) (stays kind.Response bytes more f decided at)
    ∙ is later (bytes ++ more))) refl refl)

pub response-too_long : (old new : Reader) (rest : List ℕ) (asked_head closed : Bool) → (response_front old.rest ≡ fronts.TooLong) × (new.rest ≡ old.rest) → rest ≡ new.rest
    → IsTurn (state_at (at_head (response asked_head)) old.rest closed) (part.Bad BadResponse) (state_at (refused BadResponse) rest closed)
response-too_long old new rest asked_head closed w left =
    response_refused old.rest rest asked_head closed fronts.TooLong (λ e. cc) w.0 (λ later all. refl) (left ∙ w.1)

pub response-bad : (old new : Reader) (rest : List ℕ) (asked_head closed : Bool) → (response_front old.rest ≡ fronts.BadHead) × (new.rest ≡ old.rest) → rest ≡ new.rest
    → IsTurn (state_at (at_head (response asked_head)) old.rest closed) (part.Bad BadResponse) (state_at (refused BadResponse) rest closed)
response-bad old new rest asked_head closed w left =
    response_refused old.rest rest asked_head closed fronts.BadHead (λ e. cc) w.0 (λ later all. refl) (left ∙ w.1)

response_body_from : (framing : Length) (later : Bool) (bytes : List ℕ)
    → as_response later (body_reading framing later bytes) ≡ reading_from (body_place Server framing) later bytes
response_body_from lengths.None later bytes = refl
response_body_from (lengths.Bytes n) later bytes = refl
response_body_from lengths.Chunked later bytes = refl
response_body_from lengths.ToClose later bytes = refl

-- what follows a head, all bytes and a close behind it
response_over : (bytes more : List ℕ) (raw : RawHead) (used : ℕ) (asked_head later : Bool) → response_front bytes ≡ fronts.Stands raw used
    → response_reading asked_head later (take used bytes ++ (drop used bytes ++ more))
    ≡ as_response later (response_body raw used (response_length (code_of raw) asked_head raw.pairs) later (drop used bytes ++ more))
response_over bytes more raw used asked_head later at =
    let within = used-within kind.Response bytes raw used at in
    let framing = response_length (code_of raw) asked_head raw.pairs in
    ap (λ (all : List ℕ). response_reading asked_head later all) (regroup used bytes more)
    ∙ ap (λ (f : Front). as_response later (response_behind f asked_head later (bytes ++ more))) (stays kind.Response bytes more (fronts.Stands raw used) (λ e. cc) at)
    ∙ ap (λ (rest : List ℕ). as_response later (response_body raw used framing later rest)) (drop-append-le used bytes more within.1)

response_gives : (bytes : List ℕ) (raw : RawHead) (used : ℕ) (asked_head closed : Bool) (framing : Result Length Fault)
    → response_front bytes ≡ fronts.Stands raw used → response_length (code_of raw) asked_head raw.pairs ≡ framing
    → IsTurn (state_at (at_head (response asked_head)) bytes closed) (answered framing (response_head raw) (drop used bytes) closed).0
    (answered framing (response_head raw) (drop used bytes) closed).1
response_gives bytes raw used asked_head closed (Err fault) at is =
    turn-fails _ _ BadResponse
    (taken [] (at_head (response asked_head)) (refused BadResponse) used bytes closed (λ more later follows.
    response_over bytes more raw used asked_head later at
    ∙ ap (λ (framing : Result Length Fault). as_response later (response_body raw used framing later (drop used bytes ++ more))) is)) refl refl
response_gives bytes raw used asked_head closed (Ok framing) at is =
    let within = used-within kind.Response bytes raw used at in
    let head = answers (response_head raw) ∷ [] in
    turn-gives _ _ (part.Response (response_head raw))
    (taken head (at_head (response asked_head)) (body_place Server framing) used bytes closed (λ more later follows.
    response_over bytes more raw used asked_head later at
    ∙ ap (λ (framing : Result Length Fault). as_response later (response_body raw used framing later (drop used bytes ++ more))) is
    ∙ sent_behind Server later head used (body_reading framing later (drop used bytes ++ more))
    ∙ ap (λ (r : Reading). behind_marks head used r) (response_body_from framing later (drop used bytes ++ more))
    ∙ ap (λ (n : ℕ). behind_marks head n (reading_from (body_place Server framing) later (drop used bytes ++ more))) (sym (piece_size used bytes within.1))))
    (omega arith) refl tt

pub response-gives : (old new : Reader) (raw : RawHead) (rest : List ℕ) (asked_head closed : Bool) → Finds kind.Response old new raw → rest ≡ new.rest
    → IsTurn (state_at (at_head (response asked_head)) old.rest closed)
    (answered (response_length (code_of raw) asked_head raw.pairs) (response_head raw) rest closed).0
    (answered (response_length (code_of raw) asked_head raw.pairs) (response_head raw) rest closed).1
response-gives old new raw rest asked_head closed f left =
    subst (λ (rest : List ℕ). IsTurn (state_at (at_head (response asked_head)) old.rest closed) (answered (response_length (code_of raw) asked_head raw.pairs) (response_head raw) rest closed).0
    (answered (response_length (code_of raw) asked_head raw.pairs) (response_head raw) rest closed).1)
    (sym (left ∙ f.left)) (response_gives old.rest raw f.used asked_head closed (response_length (code_of raw) asked_head raw.pairs) f.at refl)
