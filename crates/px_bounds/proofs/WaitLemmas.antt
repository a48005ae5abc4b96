-- A reader that waits keeps little, wherever it stands.
use Rattle.std.proofs.Common.{ℕ, ◌+◌, ◌-◌, ◌<◌, ◌≡◌, Bool, List, [], ◌∷◌, ◌++◌, length, map, take, min, refl, sym, ap, ◌∙◌, arith, Result, Ok, Err, length-append, length-take}
use Rattle.px_head.specs.declared.raw.RawHead.{RawHead}
use Rattle.px_head.specs.declared.front.Front.{Front}
use Rattle.px_head.specs.declared.front.Front.TheVariants as front
use Rattle.px_head.specs.declared.front.Kind.TheVariants.{Request, Response}
use Rattle.px_head.specs.Front.{request_front, response_front}
use Rattle.px_head.proofs.SizeLemmas.{waiting-exact}
use Rattle.px_message.specs.Length.{response_length}
use Rattle.px_message.specs.declared.length.Length.{Length}
use Rattle.px_message.specs.declared.fault.Fault.{Fault}
use Rattle.px_read.specs.Heads.{code_of}
use Rattle.px_read.specs.Marks.{Mark, byte}
use Rattle.px_read.specs.Chunks.{Finish, goes_on, whole, fails, Reading}
use Rattle.px_read.specs.Readings.{only, behind_bytes, as_response, response_finish, response_body, response_behind, request_behind}
use Rattle.px_read.specs.Reader.{HasRoom, State, MessagePlace, at_head, in_counted, in_chunks, up_to_close, behind_end, refused, Message, request, response, as_sent, reading_from, behind_marks, place_of_message_keeps, rest_keeps, to_come, keeps, Reads}
use Rattle.px_read.specs.declared.message_reader.stage.Sender.{Sender}
use Rattle.px_read.specs.declared.message_reader.stage.Sender.TheVariants.{Client, Server}
use Rattle.px_read.proofs.ReaderLemmas.{told-read}
use Rattle.px_bounds.specs.Bounds.{kept_below}
use Rattle.px_bounds.proofs.ChunkLemmas.{quiet_few}

-- nothing is told, and the message goes on
record Waits (reading : Reading) : Type 0 where
  marks : reading.marks ≡ []
  on : reading.finish ≡ goes_on

waits : (reading : Reading) → reading ≡ only goes_on → Waits reading
waits reading is = record { marks = ap (λ (r : Reading). r.marks) is; on = ap (λ (r : Reading). r.finish) is }

finish_on : (closed : Bool) (f : Finish) → response_finish closed f ≡ goes_on → f ≡ goes_on
finish_on closed goes_on on = refl
finish_on closed (whole trailers used) on = absurd (let e = on in cc)
finish_on closed (fails fault) on = absurd (let e = on in cc)

response_waits : (closed : Bool) (reading : Reading) → Waits (as_response closed reading) → Waits reading
response_waits closed reading w = record { marks = w.marks; on = finish_on closed reading.finish w.on }

sent_waits : (side : Sender) (closed : Bool) (reading : Reading) → Waits (as_sent side closed reading) → Waits reading
sent_waits Client closed reading w = w
sent_waits Server closed reading w = response_waits closed reading w

-- ---- heads

request_waits : (bytes : List ℕ) (f : Front) → request_front bytes ≡ f → Waits (request_behind f bytes) → length bytes < 65536
request_waits bytes front.Nothing at w = ((waiting-exact Request bytes).0 at).0
request_waits bytes front.TooLong at w = absurd (let e = w.on in cc)
request_waits bytes front.BadHead at w = absurd (let e = w.on in cc)
request_waits bytes (front.Stands raw used) at w = absurd (let e = w.marks in cc)

never_waits : (raw : RawHead) (used : ℕ) (framing : Result Length Fault) (closed : Bool) (bytes : List ℕ)
    → Waits (response_body raw used framing closed bytes) → ⊥
never_waits raw used (Err fault) closed bytes w = let e = w.on in cc
never_waits raw used (Ok framing) closed bytes w = let e = w.marks in cc

answer_waits : (asked_head closed : Bool) (bytes : List ℕ) (f : Front) → response_front bytes ≡ f
    → Waits (response_behind f asked_head closed bytes) → length bytes < 65536
answer_waits asked_head closed bytes front.Nothing at w = ((waiting-exact Response bytes).0 at).0
answer_waits asked_head closed bytes front.TooLong at w = absurd (let e = w.on in cc)
answer_waits asked_head closed bytes front.BadHead at w = absurd (let e = w.on in cc)
answer_waits asked_head closed bytes (front.Stands raw used) at w =
    absurd (never_waits raw used (response_length (code_of raw) asked_head raw.pairs) closed _ w)

-- ---- bodies

no_bytes : (bytes : List ℕ) → map byte bytes ≡ [] → length bytes ≡ 0
no_bytes [] is = refl
no_bytes (b ∷ bytes) is = absurd (let e = is in cc)

counted_waits : (left : ℕ) (bytes : List ℕ) → map byte (take left bytes) ≡ [] → min left (length bytes) < kept_below
counted_waits left bytes is =
    let none = no_bytes (take left bytes) is in
    let size = length-take left bytes in
    omega arith

-- ---- all places

place_waits : (place : MessagePlace) (closed : Bool) (rest : List ℕ) → HasRoom place → Waits (reading_from place closed rest)
    → place_of_message_keeps place + rest_keeps place rest < kept_below
place_waits (at_head request) closed rest room w = let few = request_waits rest (request_front rest) refl w in omega arith
place_waits (at_head (response asked_head)) closed rest room w =
    let few = answer_waits asked_head closed rest (response_front rest) refl (response_waits closed _ w) in omega arith
place_waits (in_counted side left) closed rest room w =
    let body = sent_waits side closed _ w in
    let few = counted_waits left rest body.marks in omega arith
place_waits (in_chunks side place) closed rest room w =
    let body = sent_waits side closed _ w in
    quiet_few (length rest) place rest room (record { marks = body.marks; on = body.on })
place_waits (up_to_close side) closed rest room w =
    let body = sent_waits side closed _ w in
    let none = no_bytes rest body.marks in omega arith
place_waits (behind_end trailers) closed rest room w = absurd (let e = w.on in cc)
place_waits (refused fault) closed rest room w = absurd (let e = w.on in cc)

pub waits_few : (state : State) → HasRoom state.place → to_come state ≡ only goes_on → keeps state < kept_below
waits_few state room is = place_waits state.place state.closed state.rest room (waits (to_come state) is)

-- ---- behind `More`

finish_behind : (count : ℕ) (f : Finish) → behind_bytes count f ≡ goes_on → f ≡ goes_on
finish_behind count goes_on on = refl
finish_behind count (whole trailers used) on = absurd (let e = on in cc)
finish_behind count (fails fault) on = absurd (let e = on in cc)

no_marks : (marks : List Mark) → length marks ≡ 0 → marks ≡ []
no_marks [] none = refl
no_marks (mark ∷ marks) none = absurd (omega arith)

-- two states that told the same of the same bytes have the same to come
still_waits : (told : List Mark) (m n : ℕ) (old new : Reading) → Waits old → behind_marks told m old ≡ behind_marks (told ++ []) n new → Waits new
still_waits told m n old new w same =
    let marks = ap (λ (r : Reading). length r.marks) same in
    let before = ap (λ (l : List Mark). length l) w.marks in
    let a = length-append told old.marks in
    let b = length-append (told ++ []) new.marks in
    let c = length-append told [] in
    let finish : behind_bytes m goes_on ≡ behind_bytes n new.finish =
    ap (λ (f : Finish). behind_bytes m f) (sym w.on) ∙ ap (λ (r : Reading). r.finish) same in
    record { marks = no_marks new.marks (omega arith); on = finish_behind n new.finish (sym finish) }

pub waits_behind : (message : Message) (told : List Mark) (fed : List ℕ) (closed : Bool) (old new : State)
    → Reads message told fed closed old → to_come old ≡ only goes_on → Reads message (told ++ []) fed closed new → HasRoom new.place
    → keeps new < kept_below
waits_behind message told fed closed old new first is next room =
    let before = told-read message told fed closed old first in
    let after = told-read message (told ++ []) fed closed new next in
    place_waits new.place new.closed new.rest room
    (still_waits told (length fed - length old.rest) (length fed - length new.rest) (to_come old) (to_come new) (waits (to_come old) is) (sym before ∙ after))
