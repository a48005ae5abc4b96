-- The stages of a conversation of HTTP: where its present flow stands. A stage counts no events and no bytes, and keeps no
-- moment.
use Rattle.std.specs.Prelude.{ℕ, Option, Some, None}
use Rattle.px_message.specs.declared.address.Address.{Address}
use Rattle.px_message.specs.declared.flow.Flow.{Flow}
use Rattle.px_message.specs.declared.response.Response.{Response}

-- a server's side that is connected, to this address, and that no flow uses: its number
pub record Parked : Type 0 where
  pub server : ℕ
  pub address : Address

-- where in its conversation a flow stands
pub record At : Type 0 where
  -- the flow's number
  pub flow : ℕ
  -- how many servers were dialled before
  pub dials : ℕ
  -- the side that waits for a flow, while none uses one
  pub parked : Option Parked

-- how the request stands while its server or its response is awaited
pub data Sent : Type 0 where
  -- all of it was sent on
  all_sent : Sent
  -- it is streamed: it is sent on as it comes, and is not whole yet
  going_up : Sent

-- what is awaited for a flow
pub data Doing : Type 0 where
  -- the hook of its head was answered, and its request's body is awaited, of which no more is kept than that reply allowed, if it told a
  -- size; a response may be given already
  request_body : (given : Option Response) (most : Option ℕ) → Doing
  -- the request is whole and its hook was answered, or it is streamed: the connection to its server
  connection : (sent : Sent) → Doing
  -- the server is connected: the head of its final response, and behind that head's hook the response's body, of which no more is
  -- kept than the reply to that hook allowed, if it told a size
  response_head : (server : ℕ) (sent : Sent) → Doing
  response_body : (server : ℕ) (sent : Sent) (most : Option ℕ) → Doing
  -- the response is streamed: it is sent on as it comes, and no hook is asked about it any more
  coming_down : (server : ℕ) (sent : Sent) → Doing
  -- the response has code 101 and was sent: HTTP ends here, and the flow does not
  upgraded : (server : ℕ) → Doing
  -- a response was given in place of the server's, and goes through both hooks
  given_head : Doing
  given_body : Doing

pub data Stage : Type 0 where
  -- the head of a request is awaited
  idle : (at : At) → Stage
  -- a flow has begun
  busy : (at : At) (flow : Flow) (doing : Doing) → Stage
  -- the flow is finished, and the client's connection goes on
  next : (at : At) → Stage
  -- the conversation has ended
  over : Stage

-- where its flow stands; at the end that counts for nothing
abbrev pub ended_at : At
ended_at = record { flow = 0; dials = 0; parked = None }

abbrev pub place_of : Stage → At
place_of (idle at) = at
place_of (busy at flow doing) = at
place_of (next at) = at
place_of over = ended_at

-- ---- the one server's side that is open, if one is, by its number: the flow's own, or one that is parked

abbrev pub side_parked : Option Parked → Option ℕ
side_parked None = None
side_parked (Some parked) = Some parked.server

abbrev pub side_in : At → Doing → Option ℕ
side_in at (response_head server sent) = Some server
side_in at (response_body server sent most) = Some server
side_in at (coming_down server sent) = Some server
side_in at (upgraded server) = Some server
side_in at _ = side_parked at.parked

abbrev pub side_of : Stage → Option ℕ
side_of (idle at) = side_parked at.parked
side_of (busy at flow doing) = side_in at doing
side_of (next at) = side_parked at.parked
side_of over = None

-- a flow uses a side, or closes the one that was parked: none is left to wait
abbrev pub unparked : At → At
unparked at = record at { parked = None }
