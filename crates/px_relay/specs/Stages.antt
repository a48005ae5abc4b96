-- Where a WebSocket stands.
use Rattle.std.specs.Prelude.{ℕ, ◌-◌, Bool, List, drop, Option, None, unwrap_or}
use Rattle.px_message.specs.declared.messages.WsRecord.{WsRecord}
use Rattle.px_frame.specs.declared.frame.Standing.{Standing}
use Rattle.px_frame.specs.Frames.{Front, front}
use Rattle.px_relay.specs.declared.peer.Peer.{Peer}
use Rattle.px_relay.specs.declared.peer.Peer.TheVariants.{Client, Server}
use Rattle.px_relay.specs.Messages.{Message, payload_so_far}
use Rattle.px_relay.specs.Peers.{is_client}
use Rattle.px_relay.specs.Sights.{Sight, bytes_of}

-- how far the frames of a side were worked off
pub record Half : Type 0 where
  -- so many of its bytes
  pub used : ℕ
  -- whether the length of the frame behind them was heard when the side was last looked at: it was judged then
  pub judged : Bool
  -- its message that has begun
  pub begun : Option Message

pub record At : Type 0 where
  pub client : Half
  pub server : Half
  -- how many messages were asked about and answered, of both sides together
  pub messages : ℕ
  -- what is kept of these, in their order; of one that was killed nothing is
  pub records : List WsRecord
  -- how many frames were sent to the server
  pub sent : ℕ
  -- behind a reply, and where it begins: the moment, until what stands there is worked off
  pub since : Option ℕ

-- the moment at which a place is worked off: since when it stands, or that of the last event
abbrev pub moment_at : At → Sight → ℕ
moment_at at seen = unwrap_or at.since seen.now

-- all that stands there was worked off
abbrev pub rested : At → At
rested at = record at { since = None }

abbrev pub half_of : Peer → At → Half
half_of Client at = at.client
half_of Server at = at.server

abbrev pub with_half : Peer → Half → At → At
with_half Client half at = record at { client = half }
with_half Server half at = record at { server = half }

-- no message behind so many is relayed
abbrev pub most_messages : ℕ
most_messages = 1000000000

-- where the next frame of a side stands, behind so many messages of both
abbrev pub standing : Half → ℕ → Standing
standing half messages =
    record { begun = payload_so_far half.begun; left = most_messages - messages; judged = half.judged }

-- what stands at the front of a side's bytes that were not worked off
abbrev pub next_of : Peer → Half → ℕ → List ℕ → Front
next_of peer half messages bytes = front (is_client peer) (standing half messages) (drop half.used bytes)

abbrev pub next_in : Peer → At → Sight → Front
next_in peer at seen = next_of peer (half_of peer at) at.messages (bytes_of peer seen)

pub data Stage : Type 0 where
  -- nothing waits for an answer
  relaying : (at : At) → Stage
  -- this message of a side is asked about
  holding : (from : Peer) (message : Message) (at : At) → Stage
  -- it has ended
  over : Stage
