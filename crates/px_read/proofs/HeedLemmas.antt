-- A client's close changes nothing: what a reader of a request makes of its bytes is the same with it.
use Rattle.std.proofs.Common.{ℕ, ◌≡◌, Bool, true, false, List, ◌++◌, refl, sym, ap, ◌∙◌, subst, Result, Ok, Err}
use Rattle.std.specs.Prelude.{IfOk}
use Rattle.px_read.specs.Marks.{Mark, marks_of}
use Rattle.px_read.specs.Chunking as chunking
use Rattle.px_read.specs.Reader.{request, response, MessagePlace, at_head, in_counted, in_chunks, up_to_close, behind_end, refused, State, reading_from, is_clients, opened, IsNext, IsLongest, IsTurn, HasStopped, Reads}
use Rattle.px_read.proofs.ReaderLemmas.{reads-fed, reads-told}
use Rattle.px_read.specs.Stages.{IsStage, chunk_place, heeded, state_at, seen_as}
use Rattle.px_read.specs.declared.message_reader.stage.Sender.TheVariants.{Client, Server}
use Rattle.px_read.specs.declared.message_reader.stage.MessageStage.{MessageStage}
use Rattle.px_read.specs.declared.message_reader.stage.MessageStage.TheVariants as stage
use Rattle.px_read.specs.declared.message_reader.stage.MessageTurn.{MessageTurn}
use Rattle.px_read.specs.declared.part.Part.{Part}
use Rattle.px_read.specs.declared.part.Part.TheVariants as part

-- the place and the bytes of a stage, whether its sender has closed or not
pub seen_at : (kept : MessageStage) (bytes : List ℕ) (closed : Bool)
    → seen_as kept bytes closed ≡ state_at (seen_as kept bytes false).place (seen_as kept bytes false).rest closed
seen_at (stage.Request reader) bytes closed = refl
seen_at (stage.Response asked_head reader) bytes closed = refl
seen_at (stage.Counted side left) bytes closed = refl
seen_at (stage.Chunked side reader) bytes closed = refl
seen_at (stage.ToClose side) bytes closed = refl
seen_at (stage.Ended trailers) bytes closed = refl
seen_at (stage.Refused fault) bytes closed = refl

clients_heed : (kept : MessageStage) (bytes : List ℕ) (closed : Bool) → IsStage kept → is_clients (seen_as kept bytes false).place ≡ true
    → heeded kept closed ≡ false
clients_heed (stage.Request reader) bytes closed stands is = refl
clients_heed (stage.Response asked_head reader) bytes closed stands is = absurd (let e = is in cc)
clients_heed (stage.Counted Client left) bytes closed stands is = refl
clients_heed (stage.Counted Server left) bytes closed stands is = absurd (let e = is in cc)
clients_heed (stage.Chunked Client reader) bytes closed stands is = refl
clients_heed (stage.Chunked Server reader) bytes closed stands is =
    absurd (let e : false ≡ true = subst (λ c. is_clients (chunk_place Server c) ≡ true) stands.1 is in cc)
clients_heed (stage.ToClose Client) bytes closed stands is = refl
clients_heed (stage.ToClose Server) bytes closed stands is = absurd (let e = is in cc)
clients_heed (stage.Ended trailers) bytes closed stands is = refl
clients_heed (stage.Refused fault) bytes closed stands is = refl

others_heed : (kept : MessageStage) (bytes : List ℕ) (closed : Bool) → is_clients (seen_as kept bytes false).place ≡ false
    → heeded kept closed ≡ closed
others_heed (stage.Request reader) bytes closed is = absurd (let e = is in cc)
others_heed (stage.Response asked_head reader) bytes closed is = refl
others_heed (stage.Counted Client left) bytes closed is = absurd (let e = is in cc)
others_heed (stage.Counted Server left) bytes closed is = refl
others_heed (stage.Chunked Client (chunking.reads place)) bytes closed is = absurd (let e = is in cc)
others_heed (stage.Chunked Client (chunking.ended trailers)) bytes closed is = absurd (let e = is in cc)
others_heed (stage.Chunked Client chunking.refused) bytes closed is = absurd (let e = is in cc)
others_heed (stage.Chunked Server reader) bytes closed is = refl
others_heed (stage.ToClose Client) bytes closed is = absurd (let e = is in cc)
others_heed (stage.ToClose Server) bytes closed is = refl
others_heed (stage.Ended trailers) bytes closed is = absurd (let e = is in cc)
others_heed (stage.Refused fault) bytes closed is = absurd (let e = is in cc)

-- what is to come of a client's message is the same with its close
client_same : (place : MessagePlace) (bytes : List ℕ) → is_clients place ≡ true → reading_from place true bytes ≡ reading_from place false bytes
client_same (at_head request) bytes is = refl
client_same (at_head (response asked_head)) bytes is = absurd (let e = is in cc)
client_same (in_counted Client left) bytes is = refl
client_same (in_counted Server left) bytes is = absurd (let e = is in cc)
client_same (in_chunks Client place) bytes is = refl
client_same (in_chunks Server place) bytes is = absurd (let e = is in cc)
client_same (up_to_close Client) bytes is = refl
client_same (up_to_close Server) bytes is = absurd (let e = is in cc)
client_same (behind_end trailers) bytes is = refl
client_same (refused fault) bytes is = refl

abbrev TurnAt : MessagePlace → List ℕ → Part → MessagePlace → List ℕ → Bool → Type 0
TurnAt place rest given new left closed = IsTurn (state_at place rest closed) given (state_at new left closed)

stopped_too : (given : Part) (new : MessagePlace) (left : List ℕ) → HasStopped given (state_at new left false) → HasStopped given (state_at new left true)
stopped_too part.More new left is = tt
stopped_too (part.Request head) new left is = tt
stopped_too (part.Response head) new left is = tt
stopped_too (part.Piece bytes) new left is = tt
stopped_too (part.ChunkStart size) new left is = tt
stopped_too part.ChunkEnd new left is = tt
stopped_too (part.End trailers) new left is = is
stopped_too (part.Bad fault) new left is = is

closes : (place : MessagePlace) (rest : List ℕ) (given : Part) (new : MessagePlace) (left : List ℕ) → is_clients place ≡ true
    → is_clients new ≡ true → TurnAt place rest given new left false → TurnAt place rest given new left true
closes place rest given new left old_is new_is t = record {
  tells = record {
    closed = refl;
    used = t.tells.used;
    bytes = t.tells.bytes;
    reading = λ more later follows. t.tells.reading more later tt;
  };
  next = subst (IsNext given) (sym (client_same place rest old_is)) t.next;
  longest = subst (IsLongest given) (sym (client_same new left new_is)) t.longest;
  stopped = stopped_too given new left t.stopped;
  again = λ e. ap (λ (s : State). record s { closed = true }) (t.again e);
}

-- ---- a turn where the close counts is one at the close

turn_by : (place : MessagePlace) (rest : List ℕ) (given : Part) (new : MessagePlace) (left : List ℕ) (closed shut clients : Bool)
    → is_clients place ≡ clients → (is_clients place ≡ true → shut ≡ false) → (is_clients place ≡ false → shut ≡ closed)
    → (is_clients place ≡ true → is_clients new ≡ true) → TurnAt place rest given new left shut → TurnAt place rest given new left closed
turn_by place rest given new left true shut true is free counts stays t =
    closes place rest given new left is (stays is) (subst (TurnAt place rest given new left) (free is) t)
turn_by place rest given new left false shut true is free counts stays t = subst (TurnAt place rest given new left) (free is) t
turn_by place rest given new left closed shut false is free counts stays t = subst (TurnAt place rest given new left) (counts is) t

at_place : (kept : MessageStage) (bytes : List ℕ) (closed : Bool)
    → is_clients (seen_as kept bytes closed).place ≡ is_clients (seen_as kept bytes false).place
at_place kept bytes closed = ap (λ (s : State). is_clients s.place) (seen_at kept bytes closed)

to_places : (kept new : MessageStage) (bytes left : List ℕ) (given : Part) (closed : Bool) → IsTurn (seen_as kept bytes closed) given (seen_as new left closed)
    → TurnAt (seen_as kept bytes false).place (seen_as kept bytes false).rest given (seen_as new left false).place (seen_as new left false).rest closed
to_places kept new bytes left given closed t =
    subst (λ (s : State). IsTurn s given (state_at (seen_as new left false).place (seen_as new left false).rest closed)) (seen_at kept bytes closed)
    (subst (λ (s : State). IsTurn (seen_as kept bytes closed) given s) (seen_at new left closed) t)

from_places : (kept new : MessageStage) (bytes left : List ℕ) (given : Part) (closed : Bool)
    → TurnAt (seen_as kept bytes false).place (seen_as kept bytes false).rest given (seen_as new left false).place (seen_as new left false).rest closed
    → IsTurn (seen_as kept bytes closed) given (seen_as new left closed)
from_places kept new bytes left given closed t =
    subst (λ (s : State). IsTurn s given (seen_as new left closed)) (sym (seen_at kept bytes closed))
    (subst (λ (s : State). IsTurn (state_at (seen_as kept bytes false).place (seen_as kept bytes false).rest closed) given s) (sym (seen_at new left closed)) t)

both : {E : Type 0} (r : Result MessageTurn E) (P Q R : MessageTurn → Type 0) → IfOk r P → IfOk r Q → ((t : MessageTurn) → P t → Q t → R t) → IfOk r R
both (Ok t) P Q R p q makes = makes t p q
both (Err e) P Q R p q makes = tt

weaker : {E : Type 0} (r : Result MessageTurn E) (P R : MessageTurn → Type 0) → IfOk r P → ((t : MessageTurn) → P t → R t) → IfOk r R
weaker (Ok t) P R p makes = makes t p
weaker (Err e) P R p makes = tt

-- what a turn with the close as it counts says of the answer
pub record Heeds {E : Type 0} (kept : MessageStage) (bytes : List ℕ) (closed : Bool) (result : Result MessageTurn E) : Type 0 where
  pub turn : IfOk result (λ turn. IsTurn (seen_as kept bytes closed) turn.part (seen_as turn.stage turn.rest closed))
  pub unclosed : is_clients (seen_as kept bytes closed).place ≡ true
      → IfOk result (λ turn. IsTurn (seen_as kept bytes false) turn.part (seen_as turn.stage turn.rest false))
  pub client : is_clients (seen_as kept bytes closed).place ≡ true
      → IfOk result (λ turn. is_clients (seen_as turn.stage turn.rest closed).place ≡ true)

heeds_by : {E : Type 0} (kept : MessageStage) (bytes : List ℕ) (closed shut : Bool) (result : Result MessageTurn E) (clients : Bool)
    → is_clients (seen_as kept bytes false).place ≡ clients → IsStage kept → shut ≡ heeded kept closed
    → IfOk result (λ turn. IsTurn (seen_as kept bytes shut) turn.part (seen_as turn.stage turn.rest shut))
    → (is_clients (seen_as kept bytes shut).place ≡ true → IfOk result (λ turn. is_clients (seen_as turn.stage turn.rest shut).place ≡ true))
    → Heeds kept bytes closed result
heeds_by kept bytes closed shut result true is stands counts turns stays =
    let free : shut ≡ false = counts ∙ clients_heed kept bytes closed stands is in
    let here = stays (at_place kept bytes shut ∙ is) in
    record {
      turn = both result _ _ (λ turn. IsTurn (seen_as kept bytes closed) turn.part (seen_as turn.stage turn.rest closed)) turns here
          (λ t made client. from_places kept t.stage bytes t.rest t.part closed
          (turn_by _ _ t.part _ _ closed shut true is (λ e. free) (λ e. absurd (let f : false ≡ true = sym e ∙ is in cc))
          (λ e. sym (at_place t.stage t.rest shut) ∙ client) (to_places kept t.stage bytes t.rest t.part shut made)));
      unclosed = λ e. subst (λ (c : Bool). IfOk result (λ turn. IsTurn (seen_as kept bytes c) turn.part (seen_as turn.stage turn.rest c))) free turns;
      client = λ e. weaker result _ (λ turn. is_clients (seen_as turn.stage turn.rest closed).place ≡ true) here
          (λ t client. at_place t.stage t.rest closed ∙ sym (at_place t.stage t.rest shut) ∙ client);
    }
heeds_by kept bytes closed shut result false is stands counts turns stays =
    let same : shut ≡ closed = counts ∙ others_heed kept bytes closed is in
    record {
      turn = subst (λ (c : Bool). IfOk result (λ turn. IsTurn (seen_as kept bytes c) turn.part (seen_as turn.stage turn.rest c))) same turns;
      unclosed = λ e. absurd (let f : false ≡ true = sym is ∙ sym (at_place kept bytes closed) ∙ e in cc);
      client = λ e. absurd (let f : false ≡ true = sym is ∙ sym (at_place kept bytes closed) ∙ e in cc);
    }

pub heeds_turn : {E : Type 0} (kept : MessageStage) (bytes : List ℕ) (closed shut : Bool) (result : Result MessageTurn E) → IsStage kept → shut ≡ heeded kept closed
    → IfOk result (λ turn. IsTurn (seen_as kept bytes shut) turn.part (seen_as turn.stage turn.rest shut))
    → (is_clients (seen_as kept bytes shut).place ≡ true → IfOk result (λ turn. is_clients (seen_as turn.stage turn.rest shut).place ≡ true))
    → Heeds kept bytes closed result
heeds_turn kept bytes closed shut result = heeds_by kept bytes closed shut result (is_clients (seen_as kept bytes false).place) refl

-- bytes behind a client's close are more of the same
pub unclosed-fed : (told : List Mark) (fed bytes : List ℕ) (state : State) → Reads request told fed false (opened state)
    → Reads request told (fed ++ bytes) false (opened (record state { rest = state.rest ++ bytes }))
unclosed-fed told fed bytes state r =
    reads-fed request told fed bytes (opened state) (opened (record state { rest = state.rest ++ bytes })) refl refl r

-- a part of them is told
pub unclosed-told : (told : List Mark) (fed : List ℕ) (kept new : MessageStage) (bytes left : List ℕ) (closed : Bool) (given : Part)
    → IsTurn (seen_as kept bytes false) given (seen_as new left false)
    → Reads request told fed false (opened (seen_as kept bytes closed))
    → Reads request (told ++ marks_of given) fed false (opened (seen_as new left closed))
unclosed-told told fed kept new bytes left closed given t r =
    subst (Reads request (told ++ marks_of given) fed false) (sym (to_opened new left closed))
    (reads-told request told (marks_of given) fed false (seen_as kept bytes false) (seen_as new left false) t.tells
    (subst (Reads request told fed false) (to_opened kept bytes closed) r))
  where
    to_opened : (s : MessageStage) (bytes : List ℕ) (closed : Bool) → opened (seen_as s bytes closed) ≡ seen_as s bytes false
    to_opened s bytes closed = ap opened (seen_at s bytes closed) ∙ sym (seen_at s bytes false)
