-- What a WebSocket keeps, and how many answers it may still ask for.
use Rattle.std.specs.Prelude.{ℕ, ◌+◌, length, Option, Some, None}
use Rattle.px_relay.specs.declared.half.Half.{Half}
use Rattle.px_relay.specs.declared.layer.WsLayer.{WsLayer}
use Rattle.px_relay.specs.declared.peer.Peer.{Peer}
use Rattle.px_relay.specs.declared.peer.Peer.TheVariants.{Client, Server}
use Rattle.px_relay.specs.declared.phase.Phase.{Phase}
use Rattle.px_relay.specs.declared.phase.Phase.TheVariants as phases
use Rattle.px_relay.specs.Messages.{Message}

-- ---- answers: each message that is asked about has a frame at least, and each frame a byte

abbrev pub half_size : Half → ℕ
half_size half = length half.queue.items + length half.reader.rest

abbrev pub size : WsLayer → ℕ
size state =
    half_size state.client + half_size state.server
    + (length state.pending + (length state.rests.client + length state.rests.server))

abbrev pub left_in : Phase → ℕ → ℕ
left_in phases.Over count = 0
left_in (phases.Holding held) count = count + 1
left_in phases.Relaying count = count

abbrev pub ws_left : WsLayer → ℕ
ws_left state = left_in state.phase (size state)

-- ---- bytes: those of a message and of a frame that have begun, the message that is asked about, and what was left until it begins. Behind a message
-- that is asked about the bytes of its side wait, and so do those of the server that no reader was handed yet.

abbrev pub begun_keeps : Option Message → ℕ
begun_keeps None = 0
begun_keeps (Some message) = length message.payload

abbrev pub half_keeps : Half → ℕ
half_keeps half = begun_keeps half.begun + length half.reader.rest

-- of the other side than this one
abbrev pub beside_keeps : Peer → Half → Half → ℕ
beside_keeps Client client server = half_keeps server
beside_keeps Server client server = half_keeps client

abbrev pub sides_keep : Phase → Half → Half → ℕ
sides_keep (phases.Holding held) client server = length held.message.payload + beside_keeps held.from client server
sides_keep _ client server = half_keeps client + half_keeps server

abbrev pub ws_keeps : WsLayer → ℕ
ws_keeps state =
    sides_keep state.phase state.client state.server + (length state.rests.client + length state.rests.server)
