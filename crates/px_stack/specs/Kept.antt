-- What a conversation keeps, by where it stands.
use Rattle.std.specs.Prelude.{ℕ, ◌+◌, ◌-◌, Bool, true, false, length, Option, Some, None}
use Rattle.px_event.specs.declared.ask.Ask.{Ask}
use Rattle.px_event.specs.declared.ask.Ask.TheVariants as asks
use Rattle.px_exchange.specs.declared.place.Place.{Place}
use Rattle.px_exchange.specs.declared.place.Place.TheVariants as places
use Rattle.px_http.specs.Stands.{awaits}
use Rattle.px_relay.specs.declared.layer.WsLayer.{WsLayer}
use Rattle.px_relay.specs.Chain.{most_whole}
use Rattle.px_relay.specs.Kept.{left_in, ws_keeps}
use Rattle.px_relay.specs.Stands as frames
use Rattle.px_stream.specs.Tells.{keeps_no_body, sequence_left, stream_keeps}
use Rattle.px_socks.specs.Stands.{awaits as front_awaits, socks_keeps}
use Rattle.px_tunnel.specs.Reaching.{rest_of}
use Rattle.px_stack.specs.declared.child.Child.{Child}
use Rattle.px_stack.specs.declared.child.Child.TheVariants as children
use Rattle.px_stack.specs.declared.child.Goal.{Goal}
use Rattle.px_stack.specs.declared.child.Goal.TheVariants as goals

-- what is awaited
abbrev pub awaited_by : Child → Option Ask
awaited_by (children.Asking layer) = front_awaits layer
awaited_by (children.Http flows) = awaits flows.value
awaited_by (children.Connecting opening closed) = Some (asks.Dial opening.dials)
awaited_by (children.Socket layer) = frames.awaits layer.value
awaited_by child = None

-- nothing more comes of it
abbrev pub is_over : Child → Bool
is_over children.Over = true
is_over child = false

-- How many replies can still be asked for: HTTP's own; where a tunnel may follow it, or a client of SOCKS asks for one, the dial of a CONNECT and those of HTTP in the tunnel; and
-- at last those to the messages of a WebSocket, of which px_relay relays no more than so many, whatever comes.
abbrev pub most_asked : ℕ
most_asked = most_whole

abbrev pub socket_left : WsLayer → ℕ
socket_left layer = left_in layer.phase (most_asked - layer.messages)

abbrev pub opened_left : ℕ
opened_left = 5000005 + most_asked

abbrev pub connecting_left : ℕ
connecting_left = 5000006 + most_asked

abbrev pub tunnel_left : Place → ℕ
tunnel_left (places.Fixed address inside) = most_asked
tunnel_left place = connecting_left

-- the dial of a flow is answered where another proxy is asked for its way
abbrev pub goal_left : Goal → ℕ
goal_left (goals.Tunnel opening closed) = opened_left
goal_left (goals.Flow flows) = sequence_left flows.value.stream - 1 + tunnel_left flows.value.stream.terms.place

abbrev pub left_by : Child → ℕ
left_by (children.Asking layer) = connecting_left
left_by (children.Http flows) = sequence_left flows.value.stream + tunnel_left flows.value.stream.terms.place
left_by (children.Connecting opening closed) = connecting_left
left_by (children.Reaching kept) = goal_left kept.goal
left_by (children.Undecided opening server) = opened_left
left_by (children.Socket layer) = socket_left layer.value
left_by child = 0

-- How many bytes it keeps: what HTTP or a WebSocket does, those of a proxy's head, and those of a SOCKS greeting or request that is not whole.
-- The bytes behind a CONNECT or a SOCKS request wait for what follows.
abbrev pub goal_keeps : Goal → ℕ
goal_keeps (goals.Tunnel opening closed) = 0
goal_keeps (goals.Flow flows) = stream_keeps flows.value.stream

abbrev pub kept_by : Child → ℕ
kept_by (children.Asking layer) = socks_keeps layer
kept_by (children.Http flows) = stream_keeps flows.value.stream
kept_by (children.Reaching kept) = goal_keeps kept.goal + length (rest_of kept.asked)
kept_by (children.Socket layer) = ws_keeps layer.value
kept_by child = 0

-- In HTTP nothing is awaited, and neither direction keeps a body.
abbrev pub http_keeps_no_body : Child → Bool
http_keeps_no_body (children.Http flows) = keeps_no_body flows.value.stream.phase
http_keeps_no_body child = false
