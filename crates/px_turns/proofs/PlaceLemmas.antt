-- Addresses; and at which stages a server's side waits for a request, a request goes up to it, or its answer is awaited.
use Rattle.std.proofs.Common.{◌≡◌, ℕ, Bool, true, false, List, Option, Some, None, refl, ap, ◌∙◌}
use Rattle.std.specs.Prelude.{⊤, ◌==◌, ◌&&◌, bytes_eq}
use Rattle.std.proofs.lemmas.Bool.{eq-eqb, eqb-true}
use Rattle.std.proofs.lemmas.Slice.Eq.{bytes_eq-Decides}
use Rattle.px_message.specs.declared.address.Address.{Address}
use Rattle.px_message.specs.declared.flow.Flow.{Flow}
use Rattle.px_message.specs.declared.request.Request.{Request}
use Rattle.px_read.specs.declared.head.RequestHead.{RequestHead as ReadRequest}
use Rattle.px_exchange.specs.declared.place.Place.{Place}
use Rattle.px_exchange.specs.declared.place.Place.TheVariants as places
use Rattle.px_exchange.specs.Places.{is_same_address, server_for}
use Rattle.px_exchange.specs.Requests.{is_head}
use Rattle.px_chain.specs.Chain.{going_at, gone}
use Rattle.px_chain.specs.Going.{framed_up, sending_on}
use Rattle.px_chain.specs.Stages.{At, Doing, Parked, Sent, Stage, all_sent, busy, coming_down, connection, given_body, given_head, going_up, idle, next, over, request_body, response_body, response_head, side_in, side_of, side_parked, upgraded}
use Rattle.px_chain.proofs.NotUp.{IsNotUp, IsNotUpBy}
use Rattle.px_turns.specs.Turns.{GoesTo, IsWholeText}

-- ---- addresses

both_hold : (a b : Bool) → a ≡ true → b ≡ true → (a && b) ≡ true
both_hold a b one two = rw one two

first_of : (a b : Bool) → (a && b) ≡ true → a ≡ true
first_of true b is = refl
first_of false b is = is

second_of : (a b : Bool) → (a && b) ≡ true → b ≡ true
second_of true b is = is
second_of false b is = absurd (let e : false ≡ true = is in cc)

pub same_self : (a : Address) → is_same_address a a ≡ true
same_self a = both_hold (bytes_eq a.host a.host) (a.port == a.port) ((bytes_eq-Decides a.host a.host).1 refl) (eq-eqb a.port a.port refl)

pub same_on : (a b c : Address) → is_same_address a b ≡ true → is_same_address b c ≡ true → is_same_address a c ≡ true
same_on a b c one two =
    let hosts = (bytes_eq-Decides a.host b.host).0 (first_of (bytes_eq a.host b.host) (a.port == b.port) one) in
    let further = (bytes_eq-Decides b.host c.host).0 (first_of (bytes_eq b.host c.host) (b.port == c.port) two) in
    let ports = eqb-true a.port b.port (second_of (bytes_eq a.host b.host) (a.port == b.port) one) in
    let behind = eqb-true b.port c.port (second_of (bytes_eq b.host c.host) (b.port == c.port) two) in
    both_hold (bytes_eq a.host c.host) (a.port == c.port) ((bytes_eq-Decides a.host c.host).1 (hosts ∙ further)) (eq-eqb a.port c.port (ports ∙ behind))

-- how a request is framed, and that it is streamed, says nothing of where it goes
pub framed_goes : (place : Place) (head : ReadRequest) (request : Request) → server_for place (framed_up head request) ≡ server_for place request
framed_goes places.Regular head request = refl
framed_goes (places.Upstream proxy) head request = refl
framed_goes (places.Fixed address inside) head request = refl

pub streamed_goes : (place : Place) (flow : Flow) → server_for place (sending_on flow).request ≡ server_for place flow.request
streamed_goes places.Regular flow = refl
streamed_goes (places.Upstream proxy) flow = refl
streamed_goes (places.Fixed address inside) flow = refl

-- ---- what a flow does there

-- no flow uses a side
abbrev pub IsFree : Doing → Type 0
IsFree (request_body given most) = ⊤
IsFree (connection how) = ⊤
IsFree (response_head side how) = ⊥
IsFree (response_body side how most) = ⊥
IsFree (coming_down side how) = ⊥
IsFree (upgraded side) = ⊥
IsFree given_head = ⊤
IsFree given_body = ⊤

pub free_none : (doing : Doing) → IsFree doing → going_at doing ≡ None
free_none (request_body given most) free = refl
free_none (connection how) free = refl
free_none (response_head side how) free = absurd free
free_none (response_body side how most) free = absurd free
free_none (coming_down side how) free = absurd free
free_none (upgraded side) free = absurd free
free_none given_head free = refl
free_none given_body free = refl

pub free_side : (at : At) (doing : Doing) → IsFree doing → side_in at doing ≡ side_parked at.parked
free_side at (request_body given most) free = refl
free_side at (connection how) free = refl
free_side at (response_head side how) free = absurd free
free_side at (response_body side how most) free = absurd free
free_side at (coming_down side how) free = absurd free
free_side at (upgraded side) free = absurd free
free_side at given_head free = refl
free_side at given_body free = refl

-- one that goes up goes to the side that is used
pub not_up_off : (server : ℕ) (at : At) (doing : Doing) → IsNotUpBy server (side_in at doing) → IsNotUpBy server (going_at doing)
not_up_off server at (request_body given most) off = tt
not_up_off server at (connection how) off = tt
not_up_off server at (response_head side all_sent) off = tt
not_up_off server at (response_head side going_up) off = off
not_up_off server at (response_body side all_sent most) off = tt
not_up_off server at (response_body side going_up most) off = off
not_up_off server at (coming_down side all_sent) off = tt
not_up_off server at (coming_down side going_up) off = off
not_up_off server at (upgraded side) off = tt
not_up_off server at given_head off = tt
not_up_off server at given_body off = tt

pub off_not_up : (server : ℕ) (stage : Stage) → IsNotUpBy server (side_of stage) → IsNotUp server stage
off_not_up server (idle at) off = tt
off_not_up server (busy at flow doing) off = not_up_off server at doing off
off_not_up server (next at) off = tt
off_not_up server over off = tt

pub gone_in : (at : At) (doing : Doing) → side_in at (gone doing) ≡ side_in at doing
gone_in at (request_body given most) = refl
gone_in at (connection how) = refl
gone_in at (response_head side how) = refl
gone_in at (response_body side how most) = refl
gone_in at (coming_down side how) = refl
gone_in at (upgraded side) = refl
gone_in at given_head = refl
gone_in at given_body = refl

-- ---- a server's side at a stage, whose requests go to one address

module _ (server : ℕ) (place : Place) (address : Address) where
  -- it is parked, at that address
  pub record IsKept (parked : Option Parked) : Type 0 where
    pub side : Parked
    pub there : parked ≡ Some side
    pub number : side.server ≡ server
    pub same : is_same_address address side.address ≡ true

  abbrev pub RestsAt : Stage → Type 0
  RestsAt (idle at) = IsKept at.parked
  RestsAt (busy at flow doing) = IsFree doing × IsKept at.parked
  RestsAt (next at) = IsKept at.parked
  RestsAt over = ⊥

  -- The text of a whole request was sent to it, whose answer the flow awaits.
  pub record Awaits (flow : Flow) (text : List ℕ) : Type 0 where
    pub request : Request
    pub method : is_head request.method ≡ is_head flow.request.method
    pub goes : GoesTo place address request
    pub own : GoesTo place address flow.request
    pub is_text : IsWholeText place request text

  abbrev pub AwaitsBy : ℕ → Sent → Flow → List ℕ → Type 0
  AwaitsBy side all_sent flow text = ((side == server) ≡ true) × Awaits flow text
  AwaitsBy side going_up flow text = ⊥

  abbrev pub AwaitsIn : Doing → Flow → List ℕ → Type 0
  AwaitsIn (request_body given most) flow text = ⊥
  AwaitsIn (connection how) flow text = ⊥
  AwaitsIn (response_head side how) flow text = AwaitsBy side how flow text
  AwaitsIn (response_body side how most) flow text = AwaitsBy side how flow text
  AwaitsIn (coming_down side how) flow text = AwaitsBy side how flow text
  AwaitsIn (upgraded side) flow text = ⊥
  AwaitsIn given_head flow text = ⊥
  AwaitsIn given_body flow text = ⊥

  abbrev pub AwaitsAt : Stage → List ℕ → Type 0
  AwaitsAt (idle at) text = ⊥
  AwaitsAt (busy at flow doing) text = AwaitsIn doing flow text
  AwaitsAt (next at) text = ⊥
  AwaitsAt over text = ⊥

  -- or goes up to it
  abbrev pub GoesAt : Stage → Type 0
  GoesAt (busy at flow doing) = GoesTo place address flow.request
  GoesAt _ = ⊤

  -- code 101 was sent of its response
  abbrev pub IsUpgraded : Stage → Type 0
  IsUpgraded (busy at flow (upgraded side)) = ⊤
  IsUpgraded _ = ⊥

  pub kept_side : (parked : Option Parked) → IsKept parked → side_parked parked ≡ Some server
  kept_side parked kept = ap side_parked kept.there ∙ ap (λ n. Some n) kept.number

  pub rests_side : (stage : Stage) → RestsAt stage → side_of stage ≡ Some server
  rests_side (idle at) rests = kept_side at.parked rests
  rests_side (busy at flow doing) rests = free_side at doing rests.0 ∙ kept_side at.parked rests.1
  rests_side (next at) rests = kept_side at.parked rests
  rests_side over rests = absurd rests

  side_by : (side : ℕ) (how : Sent) (flow : Flow) (text : List ℕ) → AwaitsBy side how flow text → Some side ≡ Some server
  side_by side all_sent flow text awaits = ap (λ n. Some n) (eqb-true side server awaits.0)
  side_by side going_up flow text awaits = absurd awaits

  awaits_in : (at : At) (doing : Doing) (flow : Flow) (text : List ℕ) → AwaitsIn doing flow text → side_in at doing ≡ Some server
  awaits_in at (request_body given most) flow text awaits = absurd awaits
  awaits_in at (connection how) flow text awaits = absurd awaits
  awaits_in at (response_head side how) flow text awaits = side_by side how flow text awaits
  awaits_in at (response_body side how most) flow text awaits = side_by side how flow text awaits
  awaits_in at (coming_down side how) flow text awaits = side_by side how flow text awaits
  awaits_in at (upgraded side) flow text awaits = absurd awaits
  awaits_in at given_head flow text awaits = absurd awaits
  awaits_in at given_body flow text awaits = absurd awaits

  pub awaits_side : (stage : Stage) (text : List ℕ) → AwaitsAt stage text → side_of stage ≡ Some server
  awaits_side (idle at) text awaits = absurd awaits
  awaits_side (busy at flow doing) text awaits = awaits_in at doing flow text awaits
  awaits_side (next at) text awaits = absurd awaits
  awaits_side over text awaits = absurd awaits

  -- none goes up there
  pub awaits_none : (doing : Doing) (flow : Flow) (text : List ℕ) → AwaitsIn doing flow text → going_at doing ≡ None
  awaits_none (request_body given most) flow text awaits = absurd awaits
  awaits_none (connection how) flow text awaits = absurd awaits
  awaits_none (response_head side all_sent) flow text awaits = refl
  awaits_none (response_head side going_up) flow text awaits = absurd awaits
  awaits_none (response_body side all_sent most) flow text awaits = refl
  awaits_none (response_body side going_up most) flow text awaits = absurd awaits
  awaits_none (coming_down side all_sent) flow text awaits = refl
  awaits_none (coming_down side going_up) flow text awaits = absurd awaits
  awaits_none (upgraded side) flow text awaits = absurd awaits
  awaits_none given_head flow text awaits = absurd awaits
  awaits_none given_body flow text awaits = absurd awaits

  pub switched_none : (at : At) (flow : Flow) (doing : Doing) → IsUpgraded (busy at flow doing) → going_at doing ≡ None
  switched_none at flow (request_body given most) is = absurd is
  switched_none at flow (connection how) is = absurd is
  switched_none at flow (response_head side how) is = absurd is
  switched_none at flow (response_body side how most) is = absurd is
  switched_none at flow (coming_down side how) is = absurd is
  switched_none at flow (upgraded side) is = refl
  switched_none at flow given_head is = absurd is
  switched_none at flow given_body is = absurd is
