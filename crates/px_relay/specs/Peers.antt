-- The two peers of a WebSocket.
use Rattle.std.specs.Prelude.{ℕ, Bool, true, false}
use Rattle.px_event.specs.declared.side.Side.{Side}
use Rattle.px_event.specs.declared.side.Side.TheVariants as sides
use Rattle.px_relay.specs.declared.peer.Peer.{Peer}
use Rattle.px_relay.specs.declared.peer.Peer.TheVariants.{Client, Server}

abbrev pub other : Peer → Peer
other Client = Server
other Server = Client

-- a client masks its frames, a server does not (RFC 6455 section 5.1)
abbrev pub is_client : Peer → Bool
is_client Client = true
is_client Server = false

-- its side of the conversation, where the server has this number
abbrev pub side_of : ℕ → Peer → Side
side_of server Client = sides.Client
side_of server Server = sides.Server server
