-- What is found of a message stays found with more of its bytes, by the laws of the readers, and no turn reads other bytes than the message's.
use Rattle.std.proofs.Common.{◌≡◌, ℕ, Bool, true, false, List, ◌++◌, Option, Some, None, refl, ap, sym, ◌∙◌}
use Rattle.px_message.specs.declared.flow.Flow.{Flow}
use Rattle.px_message.specs.declared.request.Request.{Request}
use Rattle.px_message.specs.declared.response.Response.{Response}
use Rattle.px_event.specs.declared.command.Command.{Command}
use Rattle.px_event.specs.declared.reply.Reply.{Reply}
use Rattle.px_event.specs.Chain.{Timed, Look, NotYet, Asks, Ends}
use Rattle.px_event.specs.Laws.{IsFound}
use Rattle.px_read.specs.Items.{answer_list, Item, missing, part, complete, bad_head, bad_body, request_item}
use Rattle.px_read.specs.Laws.{FinalHeadStays, FinalStays, head_in, InterimStay, is_begun, is_decided, RequestHeadStays, RequestStays}
use Rattle.px_read.specs.declared.head.RequestHead.{RequestHead as ReadRequest}
use Rattle.px_read.specs.declared.head.ResponseHead.{ResponseHead as ReadResponse}
use Rattle.px_exchange.specs.declared.asked.Judged.{Judged}
use Rattle.px_exchange.specs.declared.asked.Judged.TheVariants.{Refused, Accepted, Connects}
use Rattle.px_exchange.specs.declared.ending.Used.{Used}
use Rattle.px_exchange.specs.declared.ending.Used.TheVariants.{ByServer}
use Rattle.px_exchange.specs.declared.place.Place.{Place}
use Rattle.px_exchange.specs.declared.taken.Taken.{Taken}
use Rattle.px_exchange.specs.declared.taken.Taken.TheVariants.{GoesOn, Responds, Kills}
use Rattle.px_exchange.specs.declared.terms.Terms.{Terms}
use Rattle.px_exchange.specs.Finds.{look_answer, look_answer_head, look_body, look_head, look_judged, look_returned, or_leaves}
use Rattle.px_cuts.specs.Alike.{ends_here, has_ended}
use Rattle.px_cuts.specs.Cuts.{keeps_by}
use Rattle.px_cuts.proofs.PlaceLaws.{make}
use Rattle.px_exchange.specs.Requests.{expects, flow_of, judged}
use Rattle.px_chain.specs.Going.{allowed_up_by}
use Rattle.px_chain.specs.Chain.{killed, look_coming, turn_answer, turn_answer_head, turn_body, turn_head, turn_judged, turn_read_whole, turn_returned, turn_taken_body, turn_taken_head}
use Rattle.px_chain.specs.Sights.{Sight, server_parked}
use Rattle.px_chain.specs.Stages.{At, Sent}
use Rattle.px_exchange.specs.Flows.{with_body, with_returned}
use Rattle.px_exchange.specs.Replies.{taken_at_request_body, taken_at_request_head}
use Rattle.px_chain.specs.Coming.{Came, came_by}

-- the laws of the readers: what stands stays, whatever follows
pub record ReadersStay : Type 0 where
  pub request_head : RequestHeadStays
  pub request : RequestStays
  pub interim : InterimStay
  pub final_head : FinalHeadStays
  pub final : FinalStays

-- ---- an item with more behind it

pub record Stays {H : Type 0} (item later : Item H) : Type 0 where
  pub head : (head : H) → head_in item ≡ Some head → head_in later ≡ Some head
  pub decided : is_decided item ≡ true → later ≡ item

same_stays : {H : Type 0} (item : Item H) → Stays item item
same_stays item = record { head = λ head is. is; decided = λ is. refl }

-- the same item, or one of the same head
pub data SameHead {H : Type 0} (item later : Item H) : Type 0 where
  same : later ≡ item → SameHead item later
  heads : (head : H) → head_in item ≡ Some head → head_in later ≡ Some head → SameHead item later

pub request_stays : ReadersStay → (bytes more : List ℕ) → Stays (request_item bytes) (request_item (bytes ++ more))
request_stays readers bytes more = record {
  head = λ head at. readers.request_head bytes more head at;
  decided = λ at. readers.request bytes more at;
}

pub final_stays : ReadersStay → (asked_head : Bool) (bytes more : List ℕ) → Stays (answer_list asked_head false bytes).final (answer_list asked_head false (bytes ++ more)).final
final_stays readers asked_head bytes more = record {
  head = λ head at. readers.final_head asked_head false bytes more head at;
  decided = λ at. readers.final asked_head false bytes more at;
}

pub interim_stays : ReadersStay → (asked_head : Bool) (bytes more : List ℕ) → is_begun (answer_list asked_head false bytes).final ≡ true →
    (answer_list asked_head false (bytes ++ more)).interim ≡ (answer_list asked_head false bytes).interim
interim_stays readers asked_head bytes more begun = (readers.interim asked_head false bytes more begun).0

pub used_stays : ReadersStay → (asked_head : Bool) (bytes more : List ℕ) → is_begun (answer_list asked_head false bytes).final ≡ true →
    (answer_list asked_head false (bytes ++ more)).used ≡ (answer_list asked_head false bytes).used
used_stays readers asked_head bytes more begun = (readers.interim asked_head false bytes more begun).1

none_is : {H : Type 0} {P : Type 0} (head : H) → None ≡ Some head → P
none_is head is = absurd (let e : None ≡ Some head = is in cc)

some_is : {H : Type 0} (h head : H) → Some h ≡ Some head → h ≡ head
some_is h head is = cc

-- ---- heads

module _ (terms : Terms) where
  head_looked : (index : ℕ) (item : Item ReadRequest) (head : ReadRequest) (now : ℕ) (used : Used) (closed : Bool) → head_in item ≡ Some head →
      look_head terms index item now used closed ≡ look_judged terms index head (judged terms.place head) now used closed
  head_looked index missing head now used closed is = none_is head is
  head_looked index (part h body) head now used closed is = ap (λ k. look_judged terms index k (judged terms.place k) now used closed) (some_is h head is)
  head_looked index (complete h body trailers size) head now used closed is = ap (λ k. look_judged terms index k (judged terms.place k) now used closed) (some_is h head is)
  head_looked index (bad_head fault) head now used closed is = none_is head is
  head_looked index (bad_body fault h body) head now used closed is = ap (λ k. look_judged terms index k (judged terms.place k) now used closed) (some_is h head is)

  pub look_head_same : (index : ℕ) (item later : Item ReadRequest) (now : ℕ) (used : Used) (closed : Bool) → SameHead item later →
      look_head terms index later now used closed ≡ look_head terms index item now used closed
  look_head_same index item later now used closed (same is) = ap (λ i. look_head terms index i now used closed) is
  look_head_same index item later now used closed (heads head is at) = head_looked index later head now used closed at ∙ sym (head_looked index item head now used closed is)

  head_led : (at : At) (item : Item ReadRequest) (head : ReadRequest) (seen : Sight) (answer : Timed Reply) → head_in item ≡ Some head →
      turn_head terms at item seen answer ≡ turn_judged terms at head (judged terms.place head) seen answer
  head_led at missing head seen answer is = none_is head is
  head_led at (part h body) head seen answer is = ap (λ k. turn_judged terms at k (judged terms.place k) seen answer) (some_is h head is)
  head_led at (complete h body trailers used) head seen answer is = ap (λ k. turn_judged terms at k (judged terms.place k) seen answer) (some_is h head is)
  head_led at (bad_head fault) head seen answer is = none_is head is
  head_led at (bad_body fault h body) head seen answer is = ap (λ k. turn_judged terms at k (judged terms.place k) seen answer) (some_is h head is)

  pub head_turn_same : (at : At) (item later : Item ReadRequest) (seen : Sight) (answer : Timed Reply) → SameHead item later →
      turn_head terms at later seen answer ≡ turn_head terms at item seen answer
  head_turn_same at item later seen answer (same is) = ap (λ i. turn_head terms at i seen answer) is
  head_turn_same at item later seen answer (heads head is there) = head_led at later head seen answer there ∙ sym (head_led at item head seen answer is)

  -- where a head is found, it is found with more behind it
  pub head_found : (index : ℕ) (item later : Item ReadRequest) (now : ℕ) (used : Used) (closed : Bool) → Stays item later → IsFound (look_head terms index item now used closed) → SameHead item later
  head_found index missing later now used closed stays found = absurd found
  head_found index (part head body) later now used closed stays found = heads head refl (stays.head head refl)
  head_found index (complete head body trailers size) later now used closed stays found = same (stays.decided refl)
  head_found index (bad_head fault) later now used closed stays found = same (stays.decided refl)
  head_found index (bad_body fault head body) later now used closed stays found = same (stays.decided refl)

answer_looked : (flow : Flow) (item : Item ReadResponse) (head : ReadResponse) (now : ℕ) (used : Used) (closed : Bool) → head_in item ≡ Some head →
    look_answer flow item now used closed ≡ look_answer_head flow head now used closed
answer_looked flow missing head now used closed is = none_is head is
answer_looked flow (part h body) head now used closed is = ap (λ k. look_answer_head flow k now used closed) (some_is h head is)
answer_looked flow (complete h body trailers size) head now used closed is = ap (λ k. look_answer_head flow k now used closed) (some_is h head is)
answer_looked flow (bad_head fault) head now used closed is = none_is head is
answer_looked flow (bad_body fault h body) head now used closed is = ap (λ k. look_answer_head flow k now used closed) (some_is h head is)

pub look_answer_same : (flow : Flow) (item later : Item ReadResponse) (now : ℕ) (used : Used) (closed : Bool) → SameHead item later →
    look_answer flow later now used closed ≡ look_answer flow item now used closed
look_answer_same flow item later now used closed (same is) = ap (λ i. look_answer flow i now used closed) is
look_answer_same flow item later now used closed (heads head is at) = answer_looked flow later head now used closed at ∙ sym (answer_looked flow item head now used closed is)

answer_led : (terms : Terms) (at : At) (flow : Flow) (side : ℕ) (how : Sent) (item : Item ReadResponse) (head : ReadResponse) (seen : Sight) (answer : Timed Reply) → head_in item ≡ Some head →
    turn_answer terms at flow side how item seen answer ≡ turn_answer_head terms at flow side how head seen answer
answer_led terms at flow side how missing head seen answer is = none_is head is
answer_led terms at flow side how (part h body) head seen answer is = ap (λ k. turn_answer_head terms at flow side how k seen answer) (some_is h head is)
answer_led terms at flow side how (complete h body trailers size) head seen answer is = ap (λ k. turn_answer_head terms at flow side how k seen answer) (some_is h head is)
answer_led terms at flow side how (bad_head fault) head seen answer is = none_is head is
answer_led terms at flow side how (bad_body fault h body) head seen answer is = ap (λ k. turn_answer_head terms at flow side how k seen answer) (some_is h head is)

pub answer_turn_same : (terms : Terms) (at : At) (flow : Flow) (side : ℕ) (how : Sent) (item later : Item ReadResponse) (seen : Sight) (answer : Timed Reply) → SameHead item later →
    turn_answer terms at flow side how later seen answer ≡ turn_answer terms at flow side how item seen answer
answer_turn_same terms at flow side how item later seen answer (same is) = ap (λ i. turn_answer terms at flow side how i seen answer) is
answer_turn_same terms at flow side how item later seen answer (heads head is there) =
    answer_led terms at flow side how later head seen answer there ∙ sym (answer_led terms at flow side how item head seen answer is)

pub answer_found : (flow : Flow) (item later : Item ReadResponse) (now : ℕ) (used : Used) (closed : Bool) → Stays item later → IsFound (look_answer flow item now used closed) → SameHead item later
answer_found flow missing later now used closed stays found = absurd found
answer_found flow (part head body) later now used closed stays found = heads head refl (stays.head head refl)
answer_found flow (complete head body trailers size) later now used closed stays found = same (stays.decided refl)
answer_found flow (bad_head fault) later now used closed stays found = same (stays.decided refl)
answer_found flow (bad_body fault head body) later now used closed stays found = same (stays.decided refl)

-- something of the final response has begun
pub answer_begun : (flow : Flow) (item : Item ReadResponse) (now : ℕ) (used : Used) (closed : Bool) → IsFound (look_answer flow item now used closed) → is_begun item ≡ true
answer_begun flow missing now used closed found = absurd found
answer_begun flow (part head body) now used closed found = refl
answer_begun flow (complete head body trailers size) now used closed found = refl
answer_begun flow (bad_head fault) now used closed found = refl
answer_begun flow (bad_body fault head body) now used closed found = refl

-- ---- bodies

pub body_found : (flow : Flow) (item later : Item ReadRequest) (now : ℕ) (used : Used) (closed : Bool) → Stays item later → IsFound (look_body flow item now used closed) → later ≡ item
body_found flow missing later now used closed stays found = absurd found
body_found flow (part head body) later now used closed stays found = absurd found
body_found flow (complete head body trailers size) later now used closed stays found = stays.decided refl
body_found flow (bad_head fault) later now used closed stays found = absurd found
body_found flow (bad_body fault head body) later now used closed stays found = stays.decided refl

pub returned_found : (flow : Flow) (item later : Item ReadResponse) (now : ℕ) (used : Used) (closed : Bool) → Stays item later → IsFound (look_returned flow item now used closed) → later ≡ item
returned_found flow missing later now used closed stays found = absurd found
returned_found flow (part head body) later now used closed stays found = absurd found
returned_found flow (complete head body trailers size) later now used closed stays found = stays.decided refl
returned_found flow (bad_head fault) later now used closed stays found = absurd found
returned_found flow (bad_body fault head body) later now used closed stays found = stays.decided refl

pub returned_begun : (flow : Flow) (item : Item ReadResponse) (now : ℕ) (used : Used) (closed : Bool) → IsFound (look_returned flow item now used closed) → is_begun item ≡ true
returned_begun flow missing now used closed found = absurd found
returned_begun flow (part head body) now used closed found = absurd found
returned_begun flow (complete head body trailers size) now used closed found = refl
returned_begun flow (bad_head fault) now used closed found = absurd found
returned_begun flow (bad_body fault head body) now used closed found = refl

-- of one that is streamed a fault alone is found
pub coming_decided : (flow : Flow) (item : Item ReadResponse) (now : ℕ) (used : Used) (closed : Bool) → IsFound (look_coming flow item now used closed) → is_decided item ≡ true
coming_decided flow missing now used closed found = absurd found
coming_decided flow (part head body) now used closed found = absurd found
coming_decided flow (complete head body trailers size) now used closed found = refl
coming_decided flow (bad_head fault) now used closed found = refl
coming_decided flow (bad_body fault head body) now used closed found = refl

pub returned_decided : (flow : Flow) (item : Item ReadResponse) (now : ℕ) (used : Used) (closed : Bool) → IsFound (look_returned flow item now used closed) → is_decided item ≡ true
returned_decided flow missing now used closed found = absurd found
returned_decided flow (part head body) now used closed found = absurd found
returned_decided flow (complete head body trailers size) now used closed found = refl
returned_decided flow (bad_head fault) now used closed found = refl
returned_decided flow (bad_body fault head body) now used closed found = refl

-- and one that came is whole
came_decided : (given : Option Response) (item : Item ReadResponse) (came : Came) → came_by given item ≡ Some came → is_decided item ≡ true
came_decided None item came is = none_is came is
came_decided (Some response) missing came is = none_is came is
came_decided (Some response) (part head body) came is = none_is came is
came_decided (Some response) (complete head body trailers size) came is = refl
came_decided (Some response) (bad_head fault) came is = none_is came is
came_decided (Some response) (bad_body fault head body) came is = none_is came is

-- ---- a place where something is found, and one that heard a piece more

pub or_found : (leaves : List Command) (l : Look Command) → IsFound (or_leaves false leaves l) → IsFound l
or_found leaves NotYet found = absurd found
or_found leaves (Asks ask) found = tt
or_found leaves (Ends owed) found = tt

-- the body of a response is whole or refused where something is found of it
pub returned_ended : (flow : Flow) (item : Item ReadResponse) (now : ℕ) (used : Used) (closed : Bool) → IsFound (look_returned flow item now used closed) → has_ended item ≡ true
returned_ended flow missing now used closed found = absurd found
returned_ended flow (part head body) now used closed found = absurd found
returned_ended flow (complete head body trailers size) now used closed found = refl
returned_ended flow (bad_head fault) now used closed found = absurd found
returned_ended flow (bad_body fault head body) now used closed found = refl

coming_ended : (flow : Flow) (item : Item ReadResponse) (now : ℕ) (used : Used) (closed : Bool) → IsFound (look_coming flow item now used closed) → has_ended item ≡ true
coming_ended flow missing now used closed found = absurd found
coming_ended flow (part head body) now used closed found = absurd found
coming_ended flow (complete head body trailers size) now used closed found = refl
coming_ended flow (bad_head fault) now used closed found = absurd found
coming_ended flow (bad_body fault head body) now used closed found = refl

-- and one that is streamed ends so
pub coming_ends : (flow : Flow) (item : Item ReadResponse) (now : ℕ) (used : Used) (closed : Bool) (given : Option Response) → IsFound (look_coming flow item now used closed) → ends_here given item ≡ true
coming_ends flow missing now used closed given found = absurd found
coming_ends flow (part head body) now used closed given found = absurd found
coming_ends flow (complete head body trailers size) now used closed given found = absurd found
coming_ends flow (bad_head fault) now used closed given found = absurd found
coming_ends flow (bad_body fault head body) now used closed None found = refl
coming_ends flow (bad_body fault head body) now used closed (Some response) found = refl

-- ---- a turn reads no bytes of its sight but those of the item

-- nor does it of the parked side: it has the number of its server, and whether that closed
module _ (client client' : List ℕ) (closed : Bool) (server server' : List ℕ) (shut shut' : Bool) (told now : ℕ) (at : At) where
  abbrev one : Sight
  one = make client closed server shut told now

  abbrev other : Sight
  other = make client' closed server' shut' told now

  module _ (parked : server_parked at.parked one ≡ server_parked at.parked other) where
    head_taken_reads : (flow : Flow) (expected : Bool) (most : Option ℕ) (taken : Taken Request) (moment : ℕ) →
        turn_taken_head at flow expected most taken moment one ≡ turn_taken_head at flow expected most taken moment other
    head_taken_reads flow expected most (GoesOn request) moment = refl
    head_taken_reads flow expected most (Responds response) moment = refl
    head_taken_reads flow expected most Kills moment = ap (λ u. killed flow moment u closed) parked

    module _ (answer : Timed Reply) where
      judged_reads : (terms : Terms) (head : ReadRequest) (j : Judged) → turn_judged terms at head j one answer ≡ turn_judged terms at head j other answer
      judged_reads terms head (Refused fault) = refl
      judged_reads terms head (Connects address) = refl
      judged_reads terms head (Accepted request) =
          head_taken_reads (flow_of terms at.flow request now) (expects head) (allowed_up_by terms.streams answer.value) (taken_at_request_head request answer.value) answer.moment

      pub head_reads : (terms : Terms) (item : Item ReadRequest) → turn_head terms at item one answer ≡ turn_head terms at item other answer
      head_reads terms missing = refl
      head_reads terms (part head body) = judged_reads terms head (judged terms.place head)
      head_reads terms (complete head body trailers used) = judged_reads terms head (judged terms.place head)
      head_reads terms (bad_head fault) = refl
      head_reads terms (bad_body fault head body) = judged_reads terms head (judged terms.place head)

    body_taken_reads : (to : Place) (flow : Flow) (taken : Taken Request) (moment : ℕ) →
        turn_taken_body to at flow taken moment one ≡ turn_taken_body to at flow taken moment other
    body_taken_reads to flow (GoesOn request) moment = refl
    body_taken_reads to flow (Responds response) moment = refl
    body_taken_reads to flow Kills moment = ap (λ u. killed flow moment u closed) parked

    pub body_reads : (answer : Timed Reply) (to : Place) (flow : Flow) (item : Item ReadRequest) → turn_body to at flow item one answer ≡ turn_body to at flow item other answer
    body_reads answer to flow missing = refl
    body_reads answer to flow (part head body) = refl
    body_reads answer to flow (complete head body trailers used) =
        let whole : Flow = with_body flow body.content trailers now in
        body_taken_reads to whole (taken_at_request_body whole.request answer.value) answer.moment
    body_reads answer to flow (bad_head fault) = refl
    body_reads answer to flow (bad_body fault head body) = refl

module _ (client client' : List ℕ) (closed : Bool) (server server' : List ℕ) (shut : Bool) (told now : ℕ) (answer : Timed Reply) (at : At) (flow : Flow) (side : ℕ) (how : Sent) where
  abbrev longer : Sight
  longer = make client closed server shut told now

  abbrev before : Sight
  before = make client' closed server' shut told now

  pub answer_reads : (terms : Terms) (item : Item ReadResponse) → turn_answer terms at flow side how item longer answer ≡ turn_answer terms at flow side how item before answer
  answer_reads terms missing = refl
  answer_reads terms (part head body) = refl
  answer_reads terms (complete head body trailers size) = refl
  answer_reads terms (bad_head fault) = refl
  answer_reads terms (bad_body fault head body) = refl

  -- behind a whole response its side is kept in both
  pub returned_reads : (place : Place) (item : Item ReadResponse) → keeps_by flow.request longer item ≡ keeps_by flow.request before item →
      turn_returned place at flow side how item longer answer ≡ turn_returned place at flow side how item before answer
  returned_reads place missing keeps = refl
  returned_reads place (part head body) keeps = refl
  returned_reads place (complete head body trailers size) keeps =
      ap (λ k. turn_read_whole place at (with_returned flow body.content trailers now) side how k answer (ByServer side shut) closed) keeps
  returned_reads place (bad_head fault) keeps = refl
  returned_reads place (bad_body fault head body) keeps = refl
