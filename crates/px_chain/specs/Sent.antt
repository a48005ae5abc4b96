-- What a server of a conversation is sent: the texts of requests, one behind the other; and before it has answered nothing, or the text of one, which where that is streamed is that of what came of it. A server that was connected before the conversation began
-- is that of its parked side, and the request goes to its address.
use Rattle.std.specs.Prelude.{◌≡◌, ◌<◌, ◌++◌, ℕ, true, List, [], Option, Some}
use Rattle.px_message.specs.declared.request.Request.{Request}
use Rattle.px_read.specs.Items.{request_item}
use Rattle.px_exchange.specs.declared.place.Place.{Place}
use Rattle.px_exchange.specs.Places.{form_at, is_same_address, server_for}
use Rattle.px_exchange.specs.Texts.{onward_text}
use Rattle.px_parts.specs.Texts.{request_so_far}
use Rattle.px_chain.specs.Going.{whole_by}
use Rattle.px_chain.specs.Stages.{Parked}

-- the server is that of the parked side, and the request goes to its address
pub record GoesToParked (place : Place) (parked : Option Parked) (server : ℕ) (request : Request) : Type 0 where
  pub side : Parked
  pub there : parked ≡ Some side
  pub number : side.server ≡ server
  pub address : is_same_address side.address (server_for place request) ≡ true

-- The bytes are the text of a request, in a conversation that begins with this parked side and so many servers.
pub record IsRequestText (place : Place) (parked : Option Parked) (dials server : ℕ) (bytes : List ℕ) : Type 0 where
  pub request : Request
  pub text : bytes ≡ onward_text (form_at place) request
  pub goes_there : server < dials → GoesToParked place parked server request

-- They are the text of a request that is streamed, sent as this one, of which these bytes have come.
pub record IsTextSoFar (place : Place) (parked : Option Parked) (dials server : ℕ) (bytes : List ℕ) : Type 0 where
  pub request : Request
  pub heard : List ℕ
  pub text : bytes ≡ request_so_far request (form_at place) heard
  pub goes_there : server < dials → GoesToParked place parked server request

pub data IsSentOnce (place : Place) (parked : Option Parked) (dials server : ℕ) (bytes : List ℕ) : Type 0 where
  nothing : bytes ≡ [] → IsSentOnce place parked dials server bytes
  one_request : IsRequestText place parked dials server bytes → IsSentOnce place parked dials server bytes
  going_on : IsTextSoFar place parked dials server bytes → IsSentOnce place parked dials server bytes

-- ---- of a server that is kept

-- the text of a whole request: as it was settled, or where it is streamed that of its bytes
pub data IsRequest (place : Place) (text : List ℕ) : Type 0 where
  is_settled : (request : Request) → text ≡ onward_text (form_at place) request → IsRequest place text
  is_streamed : (request : Request) (heard : List ℕ) (size : ℕ) → whole_by (request_item heard) ≡ Some size → text ≡ request_so_far request (form_at place) heard → IsRequest place text

-- such texts, one behind the other
pub data AreRequests (place : Place) : List ℕ → Type 0 where
  none_yet : (bytes : List ℕ) → bytes ≡ [] → AreRequests place bytes
  one_more : (before text bytes : List ℕ) → AreRequests place before → IsRequest place text → bytes ≡ before ++ text → AreRequests place bytes

-- and at the end one that is streamed, of which not all came
pub data IsSentInTurn (place : Place) (bytes : List ℕ) : Type 0 where
  in_full : AreRequests place bytes → IsSentInTurn place bytes
  in_part : (before : List ℕ) (request : Request) (heard : List ℕ) → AreRequests place before → bytes ≡ before ++ request_so_far request (form_at place) heard → IsSentInTurn place bytes
