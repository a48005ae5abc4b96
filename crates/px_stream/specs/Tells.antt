-- What a stream tells of itself: what became of it, how many answers it can still ask for, how many bytes it keeps, and where a flow's server is that is
-- reached through another proxy.
use Rattle.std.specs.Prelude.{◌<◌, ◌≤◌, ◌&&◌, ℕ, ◌+◌, ◌*◌, Bool, true, false, if◌then◌else◌, List, [], length, Option, Some, None, ⊤}
use Rattle.px_message.specs.declared.address.Address.{Address}
use Rattle.px_message.specs.declared.flow.Flow.{Flow}
use Rattle.px_event.specs.declared.command.Command.{Command}
use Rattle.px_event.specs.Chain.{Look, Ends}
use Rattle.px_read.specs.Reader.{HasRoom, keeps}
use Rattle.px_bounds.specs.Bounds.{kept_below}
use Rattle.px_exchange.specs.declared.ending.Used.{Used}
use Rattle.px_exchange.specs.declared.ending.Used.TheVariants.{ByServer}
use Rattle.px_exchange.specs.declared.outcome.Outcome.{Outcome}
use Rattle.px_exchange.specs.declared.outcome.Outcome.TheVariants as outcomes
use Rattle.px_exchange.specs.declared.place.Place.{Place}
use Rattle.px_exchange.specs.declared.place.Place.TheVariants as places
use Rattle.px_exchange.specs.Places.{address_of}
use Rattle.px_chain.specs.Chain.{Connect, connect_in}
use Rattle.px_chain.specs.Left.{behind_left, stages_left}
use Rattle.px_chain.specs.Sights.{Sight, request_in}
use Rattle.px_chain.specs.Stages.{At, Parked, Stage, busy, idle, upgraded}
use Rattle.px_stream.specs.declared.link.Link.{Link}
use Rattle.px_stream.specs.declared.phase.Asked.{Asked}
use Rattle.px_stream.specs.declared.phase.Asked.TheVariants as asked
use Rattle.px_stream.specs.declared.phase.Phase.{Phase}
use Rattle.px_stream.specs.declared.phase.Phase.TheVariants as phase
use Rattle.px_stream.specs.declared.phase.Wanted.{Wanted}
use Rattle.px_stream.specs.declared.phase.Wanted.TheVariants as ready
use Rattle.px_stream.specs.declared.stream.Stream.{Stream}
use Rattle.px_stream.specs.declared.coming.Held.{Held}
use Rattle.px_stream.specs.declared.going.Going.{Going}
use Rattle.px_stream.specs.declared.going.HeldRequest.{HeldRequest}
use Rattle.px_stream.specs.Stands.{content_in, stage_of}

-- ---- what became of it: where the walk stopped, and so in its phase

abbrev pub connected_by : Option Connect → Outcome
connected_by None = outcomes.Over
connected_by (Some connects) = outcomes.Connects

abbrev pub ended_at : Place → Stage → Sight → Outcome
ended_at place (idle at) seen = connected_by (connect_in place (request_in seen))
ended_at place (busy at flow (upgraded server)) seen = outcomes.Upgraded
ended_at place stage seen = outcomes.Over

abbrev pub outcome_at : Place → Look Command → Stage → Sight → Outcome
outcome_at place (Ends owed) stage seen = ended_at place stage seen
outcome_at place found stage seen = outcomes.Going

abbrev pub outcome_in : Phase → Outcome
outcome_in (phase.Ready (ready.Connects address)) = outcomes.Connects
outcome_in (phase.Ready (ready.Upgraded flow server)) = outcomes.Upgraded
outcome_in (phase.Ready ready.Over) = outcomes.Over
outcome_in found = outcomes.Going

-- nothing more comes
abbrev pub is_end : Outcome → Bool
is_end outcomes.Going = false
is_end outcome = true

-- the head of a request is awaited
abbrev pub is_idle : Phase → Bool
is_idle (phase.Ready ready.Idle) = true
is_idle found = false

-- where a CONNECT asks for a tunnel to
abbrev pub asked_tunnel : Phase → Option Address
asked_tunnel (phase.Ready (ready.Connects address)) = Some address
asked_tunnel found = None

-- the parked side, while it is kept
abbrev pub unless_closed : Parked → Option Link → Option ℕ
unless_closed parked None = None
unless_closed parked (Some link) = if link.closed then None else Some parked.server

abbrev pub open_parked : Option Parked → Option Link → Option ℕ
open_parked None side = None
open_parked (Some parked) side = unless_closed parked side

-- whether the open side has closed, if one is open
abbrev pub closed_in : Option Link → Bool
closed_in None = false
closed_in (Some link) = link.closed

-- the server's side on which another protocol follows, and whether it closed; and the flow that it follows
abbrev pub upgraded_side : Phase → Option Link → Option Used
upgraded_side (phase.Ready (ready.Upgraded flow server)) side = Some (ByServer server (closed_in side))
upgraded_side found side = None

abbrev pub phase_flow : Phase → Option Flow
phase_flow (phase.Ready (ready.Upgraded flow server)) = Some flow
phase_flow found = None

-- a side that is connected before a flow begins has a number below the next one's
abbrev pub IsSideBelow : Option Parked → ℕ → Type 0
IsSideBelow (Some parked) following = parked.server < following
IsSideBelow None following = ⊤

-- ---- how many answers can still be asked for, if nothing more is taken: a flow asks four hooks and a dial at most

abbrev pub asked_left : Asked → ℕ
asked_left (asked.Idle flow expects) = 5
asked_left (asked.RequestBody flow) = 4
asked_left (asked.Connection flow server up) = 3
asked_left (asked.ResponseHead flow server up) = 2
asked_left (asked.ResponseBody flow server up) = 1
asked_left (asked.GivenHead flow) = 2
asked_left (asked.GivenBody flow) = 1

-- a conversation that has ended asks nothing more
abbrev pub left_by : At → Phase → ℕ
left_by at (phase.Asked found) = behind_left at.flow + asked_left found
left_by at (phase.Ready (ready.Upgraded flow server)) = 0
left_by at (phase.Ready looked) = stages_left (stage_of at looked)

abbrev pub sequence_left : Stream → ℕ
sequence_left state = left_by state.at state.phase

-- ---- how many bytes it keeps: what the client's reader keeps, and the reader of the side that a flow uses, the content that has come of a body, and what is held beside it of a message that may yet be streamed, or that
-- waits for the connection to its server
-- What does not count is the flow itself with its messages (a response that was given in place of the server's among them),
-- addresses, and the bytes that wait behind a message, of which a reader says that it does not keep them. Of a side that is parked nothing is kept.

abbrev pub uses_side : Phase → Bool
uses_side (phase.Ready (ready.ResponseHead flow server up)) = true
uses_side (phase.Ready (ready.ResponseBody flow server up most body held)) = true
uses_side (phase.Ready (ready.ComingDown flow server up sent)) = true
uses_side (phase.Ready (ready.Upgraded flow server)) = true
uses_side (phase.Asked (asked.ResponseHead flow server up)) = true
uses_side (phase.Asked (asked.ResponseBody flow server up)) = true
uses_side found = false

abbrev pub content_at : Phase → List ℕ
content_at (phase.Ready looked) = content_in looked
content_at (phase.Asked found) = []

abbrev pub held_text : Option Held → List ℕ
held_text None = []
held_text (Some held) = held.said.items

abbrev pub held_up_text : Option HeldRequest → List ℕ
held_up_text None = []
held_up_text (Some held) = held.said.items

abbrev pub going_text : Option Going → List ℕ
going_text None = []
going_text (Some going) = going.text.items

-- of a message that may yet be streamed, or of a request that goes up and whose server is not connected
abbrev pub held_for : Wanted → List ℕ
held_for (ready.RequestBody flow given most body held) = held_up_text held
held_for (ready.Connection flow up) = going_text up
held_for (ready.ResponseBody flow server up most body held) = held_text held
held_for looked = []

abbrev pub held_at : Phase → List ℕ
held_at (phase.Ready looked) = held_for looked
held_at (phase.Asked (asked.Connection flow server up)) = going_text up
held_at (phase.Asked found) = []

abbrev pub side_keeps : Bool → Option Link → ℕ
side_keeps true (Some link) = keeps link.responses
side_keeps uses side = 0

abbrev pub stream_keeps : Stream → ℕ
stream_keeps state = keeps state.requests + ((length (content_at state.phase) + length (held_at state.phase)) + side_keeps (uses_side state.phase) state.side)

-- Nothing is awaited, and of the request no body is kept: its head is looked for, or all of it was sent, or it goes up.
abbrev pub keeps_no_request : Phase → Bool
keeps_no_request (phase.Ready ready.Idle) = true
keeps_no_request (phase.Ready (ready.ResponseHead flow server up)) = true
keeps_no_request (phase.Ready (ready.ResponseBody flow server up most body held)) = true
keeps_no_request (phase.Ready (ready.ComingDown flow server up sent)) = true
keeps_no_request found = false

-- and of the response: none is looked for, or its head is, or it comes down
abbrev pub keeps_no_response : Phase → Bool
keeps_no_response (phase.Ready ready.Idle) = true
keeps_no_response (phase.Ready (ready.RequestBody flow given most body held)) = true
keeps_no_response (phase.Ready (ready.ResponseHead flow server up)) = true
keeps_no_response (phase.Ready (ready.ComingDown flow server up sent)) = true
keeps_no_response found = false

abbrev pub keeps_no_body : Phase → Bool
keeps_no_body found = keeps_no_request found && keeps_no_response found

-- Then what comes of the client and of the server is kept little, and so is all.
pub record KeepsLittle (state : Stream) : Type 0 where
  pub client : keeps state.requests < kept_below
  pub server : side_keeps (uses_side state.phase) state.side < kept_below
  pub all : stream_keeps state ≤ 2 * kept_below

-- a chunk line that has begun in the reader of the side that a flow uses has room for one byte more
abbrev pub SideHasRoom : Bool → Option Link → Type 0
SideHasRoom true (Some link) = HasRoom link.responses.place
SideHasRoom uses side = ⊤

-- what waits of the side that a flow uses
abbrev pub side_rest : Bool → Option Link → List ℕ
side_rest true (Some link) = link.responses.rest
side_rest uses side = []

-- ---- a flow whose server is dialled

abbrev pub dialled_flow : Phase → Option Flow
dialled_flow (phase.Asked (asked.Connection flow server up)) = Some flow
dialled_flow found = None

-- the answer to a dial is awaited
abbrev pub IsDialling : Phase → Type 0
IsDialling (phase.Asked (asked.Connection flow server up)) = ⊤
IsDialling found = ⊥

-- where its server is
abbrev pub server_dialled : Phase → Option Address
server_dialled (phase.Asked (asked.Connection flow server up)) = Some (address_of flow.request)
server_dialled found = None

-- and it is reached through another proxy: that is dialled for it, and asked for a tunnel to the server
abbrev pub led_by : Option Address → Phase → Option Address
led_by None found = None
led_by (Some proxy) found = server_dialled found

abbrev pub led_to : Place → Phase → Option Address
led_to (places.Fixed address inside) found = led_by inside found
led_to place found = None
