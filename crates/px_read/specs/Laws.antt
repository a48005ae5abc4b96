-- Laws of what stands at the front of a stream: what is told stays told, whatever bytes follow.
use Rattle.std.specs.Prelude.{◌≡◌, ℕ, ◌+◌, ◌≤◌, Bool, true, false, ◌||◌, List, [], ◌++◌, length, is_some, Option, Some, None}
use Rattle.px_head.specs.Front.{request_front}
use Rattle.px_head.specs.declared.front.Front.TheVariants.{Stands}
use Rattle.px_head.specs.declared.raw.RawHead.{RawHead}
use Rattle.px_text.specs.Prefix.{IsPrefixOf}
use Rattle.px_read.specs.Heads.{asks_tunnel, request_head}
use Rattle.px_read.specs.Items.{Item, missing, part, complete, bad_head, bad_body, request_item, response_item, Body, no_body, answers_within, answer_list}
use Rattle.px_read.specs.Readings.{request_reading, response_reading}
use Rattle.px_read.specs.declared.head.RequestHead.{RequestHead}
use Rattle.px_read.specs.declared.head.ResponseHead.{ResponseHead}

-- the head that stands, also where its body is at fault
abbrev pub head_in : {H : Type 0} → Item H → Option H
head_in missing = None
head_in (part head body) = Some head
head_in (complete head body trailers used) = Some head
head_in (bad_head fault) = None
head_in (bad_body fault head body) = Some head

-- it is whole or refused
abbrev pub is_decided : {H : Type 0} → Item H → Bool
is_decided missing = false
is_decided (part head body) = false
is_decided (complete head body trailers used) = true
is_decided (bad_head fault) = true
is_decided (bad_body fault head body) = true

-- it has a head, or is refused without one
abbrev pub is_begun : {H : Type 0} → Item H → Bool
is_begun item = is_some (head_in item) || is_decided item

-- ---- no bytes

abbrev pub NoBytesAreNoRequest : Type 0
NoBytesAreNoRequest = request_item [] ≡ missing

abbrev pub NoBytesAreNoAnswers : Type 0
NoBytesAreNoAnswers = (asked_head : Bool)
    → answer_list asked_head false [] ≡ record { interim = []; used = 0; final = missing }

-- ---- requests

-- a head that stands is the same whatever follows
abbrev pub RequestHeadStays : Type 0
RequestHeadStays = (bytes more : List ℕ) (head : RequestHead) → head_in (request_item bytes) ≡ Some head
    → head_in (request_item (bytes ++ more)) ≡ Some head

-- what is whole or refused is the same whatever follows
abbrev pub RequestStays : Type 0
RequestStays = (bytes more : List ℕ) → is_decided (request_item bytes) ≡ true
    → request_item (bytes ++ more) ≡ request_item bytes

-- what is told only grows
abbrev pub RequestGrows : Type 0
RequestGrows = (bytes more : List ℕ) → IsPrefixOf (request_reading bytes).marks (request_reading (bytes ++ more)).marks

-- a whole request uses at least one byte, and none that is not there
abbrev pub RequestUsedIsWithin : Type 0
RequestUsedIsWithin = (bytes : List ℕ) (head : RequestHead) (body : Body) (trailers : List (List ℕ × List ℕ)) (used : ℕ)
    → request_item bytes ≡ complete head body trailers used → (1 ≤ used) × (used ≤ length bytes)

-- a CONNECT is whole as soon as its head is there, and has no content, whatever its fields say (RFC 9110 section 9.3.6)
abbrev pub ConnectIsWhole : Type 0
ConnectIsWhole = (bytes : List ℕ) (head : RequestHead) → head_in (request_item bytes) ≡ Some head → asks_tunnel head ≡ true
    → (used : ℕ) × (request_item bytes ≡ complete head no_body [] used)

-- so it uses the bytes of its head alone
abbrev pub ConnectEndsWithItsHead : Type 0
ConnectEndsWithItsHead = (bytes : List ℕ) (raw : RawHead) (used : ℕ) → request_front bytes ≡ Stands raw used
    → asks_tunnel (request_head raw) ≡ true → request_item bytes ≡ complete (request_head raw) no_body [] used

-- ---- one response, with the server's close behind it or not

abbrev pub ResponseHeadStays : Type 0
ResponseHeadStays = (asked_head closed : Bool) (bytes more : List ℕ) (head : ResponseHead)
    → head_in (response_item asked_head false bytes) ≡ Some head
    → head_in (response_item asked_head closed (bytes ++ more)) ≡ Some head

abbrev pub ResponseStays : Type 0
ResponseStays = (asked_head closed : Bool) (bytes more : List ℕ) → is_decided (response_item asked_head false bytes) ≡ true
    → response_item asked_head closed (bytes ++ more) ≡ response_item asked_head false bytes

abbrev pub ResponseGrows : Type 0
ResponseGrows = (asked_head closed : Bool) (bytes more : List ℕ)
    → IsPrefixOf (response_reading asked_head false bytes).marks (response_reading asked_head closed (bytes ++ more)).marks

abbrev pub ResponseUsedIsWithin : Type 0
ResponseUsedIsWithin = (asked_head closed : Bool) (bytes : List ℕ) (head : ResponseHead) (body : Body)
    (trailers : List (List ℕ × List ℕ)) (used : ℕ) → response_item asked_head closed bytes ≡ complete head body trailers used
    → (1 ≤ used) × (used ≤ length bytes)

-- ---- a response with the interim ones in front of it

-- each number of interim responses that is no less than that of the bytes is as good
abbrev pub MostIsEnough : Type 0
MostIsEnough = (most : ℕ) (asked_head closed : Bool) (bytes : List ℕ) → length bytes ≤ most
    → answers_within most asked_head closed bytes ≡ answer_list asked_head closed bytes

-- interim responses are only added
abbrev pub InterimGrow : Type 0
InterimGrow = (asked_head closed : Bool) (bytes more : List ℕ)
    → IsPrefixOf (answer_list asked_head false bytes).interim (answer_list asked_head closed (bytes ++ more)).interim

-- and none once the final one has begun
abbrev pub InterimStay : Type 0
InterimStay = (asked_head closed : Bool) (bytes more : List ℕ) → is_begun (answer_list asked_head false bytes).final ≡ true
    → ((answer_list asked_head closed (bytes ++ more)).interim ≡ (answer_list asked_head false bytes).interim)
    × ((answer_list asked_head closed (bytes ++ more)).used ≡ (answer_list asked_head false bytes).used)

abbrev pub FinalHeadStays : Type 0
FinalHeadStays = (asked_head closed : Bool) (bytes more : List ℕ) (head : ResponseHead)
    → head_in (answer_list asked_head false bytes).final ≡ Some head
    → head_in (answer_list asked_head closed (bytes ++ more)).final ≡ Some head

abbrev pub FinalStays : Type 0
FinalStays = (asked_head closed : Bool) (bytes more : List ℕ)
    → is_decided (answer_list asked_head false bytes).final ≡ true
    → (answer_list asked_head closed (bytes ++ more)).final ≡ (answer_list asked_head false bytes).final

-- the interim responses use no byte that is not there, and a whole final one at least one of those behind them
abbrev pub InterimUsedIsWithin : Type 0
InterimUsedIsWithin = (asked_head closed : Bool) (bytes : List ℕ) → (answer_list asked_head closed bytes).used ≤ length bytes

abbrev pub FinalUsedIsWithin : Type 0
FinalUsedIsWithin = (asked_head closed : Bool) (bytes : List ℕ) (head : ResponseHead) (body : Body)
    (trailers : List (List ℕ × List ℕ)) (used : ℕ)
    → (answer_list asked_head closed bytes).final ≡ complete head body trailers used
    → (1 ≤ used) × ((answer_list asked_head closed bytes).used + used ≤ length bytes)
