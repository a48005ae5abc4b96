-- A piece that waits beside a request that goes up: where something is found, what is told of the request with the piece is what is told of it
-- without, and so is whether it is streamed.
use Rattle.std.proofs.Common.{◌≡◌, ℕ, ◌==◌, Bool, true, false, List, [], ◌∷◌, ◌++◌, length, Option, Some, None, refl, ap, sym, ◌∙◌, subst}
use Rattle.std.specs.Prelude.{◌&&◌, if◌then◌else◌}
use Rattle.std.proofs.lemmas.List.{append-nil}
use Rattle.px_message.specs.declared.fault.Fault.{Fault}
use Rattle.px_message.specs.declared.flow.Flow.{Flow}
use Rattle.px_event.specs.declared.command.Command.{Command}
use Rattle.px_event.specs.declared.event.Event.TheVariants as events
use Rattle.px_event.specs.declared.side.Side.{Side}
use Rattle.px_event.specs.declared.side.Side.TheVariants.{Client, Server}
use Rattle.px_event.specs.Chain.{Look}
use Rattle.px_event.specs.Laws.{IsFound}
use Rattle.px_event.specs.Sides.{piece_of}
use Rattle.px_read.specs.Items.{Item, missing, part, complete, bad_head, bad_body, request_item, answer_list}
use Rattle.px_read.specs.Laws.{head_in, is_begun, is_decided}
use Rattle.px_read.specs.Readings.{request_reading}
use Rattle.px_read.specs.declared.head.RequestHead.{RequestHead as ReadRequest}
use Rattle.px_read.proofs.ItemLemmas.{request_carries}
use Rattle.px_read.proofs.LawLemmas.{chunk_laws}
use Rattle.px_exchange.specs.declared.place.Place.{Place}
use Rattle.px_exchange.specs.Places.{form_at}
use Rattle.px_parts.specs.Streamed.{content_so_far, heard_in, request_says, request_streams, streams_behind}
use Rattle.px_parts.proofs.StreamedLemmas.{request-heard}
use Rattle.px_chain.specs.Chain.{bad_or}
use Rattle.px_chain.specs.Keeping.{is_silent}
use Rattle.px_chain.specs.Going.{going_by, whole_by}
use Rattle.px_chain.specs.Sights.{Sight, answers_in}
use Rattle.px_message.specs.declared.request.Request.{Request}
use Rattle.px_exchange.specs.Requests.{is_head}
use Rattle.px_chain.proofs.GoingLaws.{going_text_stays}
use Rattle.px_message.specs.declared.response.Response.{Response}
use Rattle.px_cuts.specs.Alike.{IsBeside, ends_here, has_ended, is_bad}
use Rattle.px_cuts.specs.Cuts.{is_of}
use Rattle.px_cuts.proofs.FollowLaws.{and_false}
use Rattle.px_cuts.proofs.PlaceLaws.{make}

pub not_both : (b : Bool) → b ≡ false → b ≡ true → ⊥
not_both b fails holds = let e : true ≡ false = sym holds ∙ fails in cc

-- ---- what is told of a request, with more bytes behind it: the same

pub record RequestSame (place : Place) (flow : Flow) (bytes more : List ℕ) : Type 0 where
  pub item : request_item (bytes ++ more) ≡ request_item bytes
  pub text : going_by (head_in (request_item (bytes ++ more))) flow.request (form_at place) (bytes ++ more) ≡ going_by (head_in (request_item bytes)) flow.request (form_at place) bytes

-- where there are none
pub same_request : (place : Place) (flow : Flow) (bytes : List ℕ) → RequestSame place flow bytes []
same_request place flow bytes = record {
  item = ap request_item (append-nil bytes);
  text = ap (λ l. going_by (head_in (request_item l)) flow.request (form_at place) l) (append-nil bytes);
}

-- where it is whole or refused
pub decided_request : (place : Place) (flow : Flow) (bytes more : List ℕ) → is_decided (request_item bytes) ≡ true → RequestSame place flow bytes more
decided_request place flow bytes more decided = record {
  item = (request_carries chunk_laws bytes more).stays decided;
  text = going_text_stays place flow (make bytes false [] false 0 0) (make (bytes ++ more) false [] false 0 0) (more, refl) decided;
}

-- ---- a refusal

pub bad_decided : {H : Type 0} (item : Item H) → is_bad item ≡ true → is_decided item ≡ true
bad_decided missing is = absurd (let e : false ≡ true = is in cc)
bad_decided (part head body) is = absurd (let e : false ≡ true = is in cc)
bad_decided (complete head body trailers size) is = absurd (let e : false ≡ true = is in cc)
bad_decided (bad_head fault) is = absurd (let e : false ≡ true = is in cc)
bad_decided (bad_body fault head body) is = refl

pub ended_decided : {H : Type 0} (item : Item H) → has_ended item ≡ true → is_decided item ≡ true
ended_decided missing is = absurd (let e : false ≡ true = is in cc)
ended_decided (part head body) is = absurd (let e : false ≡ true = is in cc)
ended_decided (complete head body trailers size) is = refl
ended_decided (bad_head fault) is = absurd (let e : false ≡ true = is in cc)
ended_decided (bad_body fault head body) is = refl

bad_ended : {H : Type 0} (item : Item H) → is_bad item ≡ true → has_ended item ≡ true
bad_ended missing is = absurd (let e : false ≡ true = is in cc)
bad_ended (part head body) is = absurd (let e : false ≡ true = is in cc)
bad_ended (complete head body trailers size) is = refl
bad_ended (bad_head fault) is = absurd (let e : false ≡ true = is in cc)
bad_ended (bad_body fault head body) is = refl

-- one that ends so has ended
pub ends_ended : {H : Type 0} (given : Option Response) (item : Item H) → ends_here given item ≡ true → has_ended item ≡ true
ends_ended None item is = bad_ended item is
ends_ended (Some response) item is = is

not_bad : {H : Type 0} (item : Item H) (bad : Bool) → is_bad item ≡ bad → has_ended item ≡ false → bad ≡ false
not_bad item true is open_item = absurd (not_both (has_ended item) open_item (bad_ended item is))
not_bad item false is open_item = refl

pub not_ended : {H : Type 0} (given : Option Response) (item : Item H) → has_ended item ≡ false → ends_here given item ≡ false
not_ended None item is = not_bad item (is_bad item) refl is
not_ended (Some response) item is = is

pub whole_decided : {H : Type 0} (item : Item H) (size : ℕ) → whole_by item ≡ Some size → is_decided item ≡ true
whole_decided missing size is = absurd (let e : None ≡ Some size = is in cc)
whole_decided (part head body) size is = absurd (let e : None ≡ Some size = is in cc)
whole_decided (complete head body trailers used) size is = refl
whole_decided (bad_head fault) size is = absurd (let e : None ≡ Some size = is in cc)
whole_decided (bad_body fault head body) size is = absurd (let e : None ≡ Some size = is in cc)

-- what is found beside a request that goes up: that it is refused, or what is found else
pub bad_found : (item : Item ReadRequest) (ends : Fault → List Command) (inner : Look Command) → (IsFound inner → ⊥) → IsFound (bad_or item ends inner) → is_bad item ≡ true
bad_found missing ends inner none found = absurd (none found)
bad_found (part head body) ends inner none found = absurd (none found)
bad_found (complete head body trailers size) ends inner none found = absurd (none found)
bad_found (bad_head fault) ends inner none found = absurd (none found)
bad_found (bad_body fault head body) ends inner none found = refl

pub inner_found : (item : Item ReadRequest) (ends : Fault → List Command) (inner : Look Command) → is_bad item ≡ false → IsFound (bad_or item ends inner) → IsFound inner
inner_found missing ends inner good found = found
inner_found (part head body) ends inner good found = found
inner_found (complete head body trailers size) ends inner good found = found
inner_found (bad_head fault) ends inner good found = found
inner_found (bad_body fault head body) ends inner good found = absurd (let e : true ≡ false = good in cc)

-- something is told of the response, or the request is refused
pub data FoundUp (answered : Bool) (item : Item ReadRequest) : Type 0 where
  is_answered : answered ≡ true → FoundUp answered item
  is_refused : is_bad item ≡ true → FoundUp answered item

found_by : (bad : Bool) (item : Item ReadRequest) (ends : Fault → List Command) (inner : Look Command) (answered : Bool) → is_bad item ≡ bad → (IsFound inner → answered ≡ true) →
    IsFound (bad_or item ends inner) → FoundUp answered item
found_by true item ends inner answered is tells found = is_refused is
found_by false item ends inner answered is tells found = is_answered (tells (inner_found item ends inner is found))

pub found_up : (item : Item ReadRequest) (ends : Fault → List Command) (inner : Look Command) (answered : Bool) → (IsFound inner → answered ≡ true) → IsFound (bad_or item ends inner) → FoundUp answered item
found_up item ends inner answered tells found = found_by (is_bad item) item ends inner answered refl tells found

refused_only : (answered : Bool) (item : Item ReadRequest) → answered ≡ false → FoundUp answered item → is_decided item ≡ true
refused_only answered item none (is_answered holds) = absurd (not_both answered none holds)
refused_only answered item none (is_refused bad) = bad_decided item bad

-- ---- a piece that waits beside it

pub waits_request : (place : Place) (flow : Flow) (side : Side) (bytes client : List ℕ) (own : ℕ) (answered : Bool) → IsBeside side own (request_item client) answered →
    FoundUp answered (request_item client) → RequestSame place flow client (piece_of Client (events.Piece side bytes))
waits_request place flow Client bytes client own answered beside found = decided_request place flow client bytes (refused_only answered (request_item client) beside found)
waits_request place flow (Server number) bytes client own answered beside found = same_request place flow client

-- where the request is refused it is none of its server
pub waits_more : (side : Side) (bytes : List ℕ) (own : ℕ) (item : Item ReadRequest) (answered : Bool) → IsBeside side own item answered → is_bad item ≡ true →
    piece_of (Server own) (events.Piece side bytes) ≡ []
waits_more Client bytes own item answered beside bad = refl
waits_more (Server number) bytes own item answered beside bad =
    let other : (number == own) ≡ false = subst (λ b. (b && (number == own)) ≡ false) bad beside in
    ap (λ b. if b then bytes else []) other

-- a side of which nothing was seen has begun no response
silent_begun : (asked_head shut : Bool) (server : List ℕ) → is_silent server shut ≡ true → is_begun (answer_list asked_head shut server).final ≡ false
silent_begun asked_head true [] is = absurd (let e : false ≡ true = is in cc)
silent_begun asked_head false [] is = refl
silent_begun asked_head shut (byte ∷ more) is = absurd (let e : false ≡ true = is in cc)

-- so a piece that is none of it waits beside a request that begins to go up to it
pub silent_beside : (side : Side) (own : ℕ) (request : Request) (seen : Sight) → is_of (Some own) side ≡ false → is_silent seen.server seen.shut ≡ true →
    IsBeside side own (request_item seen.client) (is_begun (answers_in request seen).final)
silent_beside Client own request seen is silent = silent_begun (is_head request.method) seen.shut seen.server silent
silent_beside (Server number) own request seen is silent = and_false (is_bad (request_item seen.client)) (number == own) is

-- ---- whether it is streamed

judged_by : (allowed : Option ℕ) (bytes later : List ℕ) (head : Option ReadRequest) → head_in (request_item bytes) ≡ head → head_in (request_item later) ≡ head →
    request_item later ≡ request_item bytes → request_streams allowed later ≡ request_streams allowed bytes
judged_by allowed bytes later None is there same = rw (is, there) refl
judged_by allowed bytes later (Some head) is there same =
    let heard : ℕ = heard_in (request_reading bytes).marks in
    let heard_later : ℕ = heard_in (request_reading later).marks in
    let count : heard_later ≡ heard =
    request-heard later head there
    ∙ (ap (λ i. length (content_so_far i)) same ∙ sym (request-heard bytes head is)) in
    ap (λ h. streams_behind request_says h allowed heard_later) there
    ∙ (ap (λ n. streams_behind request_says (Some head) allowed n) count
    ∙ sym (ap (λ h. streams_behind request_says h allowed heard) is))

-- of the same item it is the same
pub streams_same : (allowed : Option ℕ) (bytes later : List ℕ) → request_item later ≡ request_item bytes → request_streams allowed later ≡ request_streams allowed bytes
streams_same allowed bytes later same = judged_by allowed bytes later (head_in (request_item bytes)) refl (ap (λ i. head_in i) same) same
