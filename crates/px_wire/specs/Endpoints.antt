-- The slots that lines use, as code keeps them.
use Rattle.std.specs.Prelude.{◌&&◌, ℕ, Bool, true, false, ◌==◌, nat_lt, not, List, [], length, drop, Option, Some, None}
use Rattle.std.specs.List.{list_any}
use Rattle.px_event.specs.declared.side.Side.{Side}
use Rattle.px_event.specs.declared.side.Side.TheVariants.{Client, Server}
use Rattle.px_event.specs.declared.side.Door.{Door}
use Rattle.px_event.specs.declared.side.Door.TheVariants.{Proxy, Control}
use Rattle.px_event.specs.Trace.{is_same_side}
use Rattle.px_wire.specs.declared.endpoint.Endpoint.{Endpoint}
use Rattle.px_wire.specs.declared.wire.Put.{Put}
use Rattle.px_wire.specs.declared.wire.Put.TheVariants as puts
use Rattle.px_wire.specs.declared.wire.Got.{Got}
use Rattle.px_wire.specs.declared.wire.Got.TheVariants as gots

-- a slot that was just given
abbrev pub new_endpoint : ℕ → ℕ → Side → Option Door → Endpoint
new_endpoint slot conv side door =
    record { slot = slot; conv = conv; side = side; door = door; queue = []; is_closing = false; is_over = false; is_readable = false; turn = 0 }

-- it is this slot
abbrev pub has_slot : ℕ → Endpoint → Bool
has_slot slot endpoint = endpoint.slot == slot

-- it is the slot of this side
abbrev pub is_endpoint_of : ℕ → Side → Endpoint → Bool
is_endpoint_of conv side endpoint = (endpoint.conv == conv) && is_same_side endpoint.side side

-- one of them is the client, and the other a server
abbrev pub are_opposite : Side → Side → Bool
are_opposite Client (Server b) = true
are_opposite (Server a) Client = true
are_opposite _ _ = false

-- The first side faces the second, which was accepted at this door, or dialled. A connection at the control door faces itself; a
-- client at the proxy's door faces the servers of its conversation, and they face it.
abbrev pub faces : Side → Side → Option Door → Bool
faces other side None = are_opposite other side
faces other side (Some Proxy) = are_opposite other side
faces other side (Some Control) = is_same_side other side

-- a side is not read while more bytes than this wait for one that faces it
abbrev pub read_mark : ℕ
read_mark = 262144

-- the bytes that wait for this side hold that one back
abbrev pub holds : Endpoint → Endpoint → Bool
holds other endpoint = (other.conv == endpoint.conv) && (faces other.side endpoint.side endpoint.door && nat_lt read_mark (length other.queue))

-- some side holds it back
abbrev pub is_held : List Endpoint → Endpoint → Bool
is_held endpoints endpoint = list_any (λ other. holds other endpoint) endpoints

-- it may be read now
abbrev pub is_open_to_read : List Endpoint → Endpoint → Bool
is_open_to_read endpoints endpoint = endpoint.is_readable && not (is_held endpoints endpoint)

-- a Close was said to the side, all was taken, and its own close is not to be heard
abbrev pub is_done : Endpoint → Bool
is_done endpoint = endpoint.is_closing && ((length endpoint.queue == 0) && not endpoint.is_over)

-- its close is to be heard
abbrev pub is_over : Endpoint → Bool
is_over endpoint = endpoint.is_over

-- a slot once bytes that wait for it were put
abbrev pub after_put : Endpoint → Put → Endpoint
after_put endpoint (puts.Took count) = record endpoint { queue = drop count endpoint.queue }
after_put endpoint puts.Blocked = endpoint
after_put endpoint puts.Broken = record endpoint { queue = []; is_over = true }

-- and once it was read
abbrev pub after_get : Endpoint → Got → Endpoint
after_get endpoint (gots.Gave count) = endpoint
after_get endpoint gots.Blocked = record endpoint { is_readable = false }
after_get endpoint gots.Ended = record endpoint { queue = []; is_over = true }
after_get endpoint gots.Broken = record endpoint { queue = []; is_over = true }
