-- Where a conversation stands: a client of SOCKS that says where it goes, HTTP at some place, a CONNECT that waits for its server, another proxy that is asked for a tunnel, a tunnel of
-- which nothing is decided yet, one whose bytes go both ways unread, or a WebSocket.
use Rattle.std.specs.Prelude.{ℕ, List, Option}
use Rattle.px_message.specs.declared.address.Address.{Address}
use Rattle.px_message.specs.declared.flow.Flow.{Flow}
use Rattle.px_exchange.specs.declared.place.Place.{Place}
use Rattle.px_chain.specs.Sights.{Standing}
use Rattle.px_chain.specs.Stages.{At, Sent}
use Rattle.px_chain.specs.Streams.{Since}
use Rattle.px_relay.specs.Stages.{Stage as Frames}
use Rattle.px_socks.specs.Stages.{Stage as Front}

-- Who is at the other end of a conversation: where the client is, if it is known, and the eight words of the key by which frames of a
-- WebSocket to its servers are masked.
pub record Visitor : Type 0 where
  pub address : Option Address
  pub key : List ℕ

-- A CONNECT, or a client of SOCKS whose request was read: where in its conversation it stands, how many of the client's bytes were used up to the end of its head or request, where it asks for a
-- tunnel to, and the proxy through which that is reached, if there is one.
pub record Tunnel : Type 0 where
  pub at : At
  pub used : ℕ
  pub address : Address
  pub proxy : Option Address

-- A server's side that is connected: its number and how many of its bytes were used, and how many events had come when it was connected.
-- It is heard in the events behind those.
pub record Link : Type 0 where
  pub server : ℕ
  pub used : ℕ
  pub opened : ℕ

-- A tunnel's two ends: how many of the client's bytes were used before it, and the server's side. It may have been a flow.
pub record Ends : Type 0 where
  pub used : ℕ
  pub link : Link
  pub flow : Option Flow

-- A flow that stands where its server is dialled: where in its conversation, how many of the client's bytes were used up to its end, or before it where
-- its request is streamed, and how that is sent.
pub record Dialling : Type 0 where
  pub at : At
  pub used : ℕ
  pub flow : Flow
  pub sent : Sent

-- What a proxy is asked to let through: a tunnel of the client, or a flow whose requests go to this place.
pub data Goal : Type 0 where
  a_tunnel : (tunnel : Tunnel) → Goal
  a_flow : (place : Place) (dialling : Dialling) → Goal

pub data Stage : Type 0 where
  -- a client of SOCKS, before its own bytes come
  asking : (front : Front) → Stage
  -- HTTP, whose requests go to this place
  http : (place : Place) (standing : Standing) → Stage
  -- a CONNECT was read, and its server is dialled
  connecting : (tunnel : Tunnel) → Stage
  -- a proxy is connected and was asked for a tunnel, since then, and its answer is awaited
  reaching : (goal : Goal) (link : Link) (since : Since) → Stage
  -- its server is connected, since then, and the first bytes decide what follows
  undecided : (tunnel : Tunnel) (link : Link) (since : Since) → Stage
  -- each side's bytes go to the other
  raw : (ends : Ends) → Stage
  -- a WebSocket: the tunnel whose sides it has, the flow that became it, and where its frames stand
  socket : (ends : Ends) (flow : Flow) (frames : Frames) → Stage
  -- the conversation has ended
  over : Stage
