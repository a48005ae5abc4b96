-- What the readers have heard of an event.
use Rattle.std.specs.Prelude.{◌≡◌, ℕ, Bool, true, false, ◌==◌, if◌then◌else◌, List, [], ◌∷◌, ◌++◌, Option, Some, None, ⊤}
use Rattle.px_event.specs.declared.command.Command.{Command}
use Rattle.px_event.specs.declared.command.Command.TheVariants as commands
use Rattle.px_event.specs.declared.event.Event.{Event}
use Rattle.px_event.specs.declared.event.Event.TheVariants as events
use Rattle.px_event.specs.declared.side.Side.TheVariants.{Client, Server}
use Rattle.px_read.specs.Reader.{State}
use Rattle.px_chain.specs.Stages.{Parked}
use Rattle.px_stream.specs.declared.link.Link.{Link}

-- a reader that was fed these bytes more
abbrev pub feeds : List ℕ → State → State
feeds bytes state = record state { rest = state.rest ++ bytes }

-- bytes of the server of this number, on this side: none is heard behind its close
abbrev pub link_hears : ℕ → List ℕ → Link → Link
link_hears server bytes link =
    if server == link.server then (if link.closed then link else record link { responses = feeds bytes link.responses }) else link

-- and its close
abbrev pub link_closes : ℕ → Link → Link
link_closes server link =
    if server == link.server then record link { responses = record link.responses { closed = true }; closed = true } else link

-- where a side is open
abbrev pub side_with : (Link → Link) → Option Link → Option Link
side_with hears None = None
side_with hears (Some link) = Some (hears link)

-- ---- a side that is parked: nothing is heard of it, and at its first byte, or at its close, it is kept no more

-- the open side is the one of this server
abbrev pub is_of : ℕ → Option Link → Bool
is_of server None = false
is_of server (Some link) = server == link.server

abbrev pub unless_of : Bool → Option Link → Option Link
unless_of true side = None
unless_of false side = side

abbrev pub unless_heard : ℕ → List ℕ → Option Link → Option Link
unless_heard server [] side = side
unless_heard server (byte ∷ more) side = unless_of (is_of server side) side

abbrev pub unless_closed_by : ℕ → Option Link → Option Link
unless_closed_by server side = unless_of (is_of server side) side

-- the number of one of which a byte came: it is to be closed
abbrev pub stray_of : Bool → ℕ → Option ℕ
stray_of true server = Some server
stray_of false server = None

abbrev pub stray_by : ℕ → List ℕ → Option Link → Option ℕ
stray_by server [] side = None
stray_by server (byte ∷ more) side = stray_of (is_of server side) server

abbrev pub shut_if : Option ℕ → List Command
shut_if None = []
shut_if (Some server) = commands.Close (Server server) ∷ []

-- of the parked side these bytes wait
abbrev pub parked_behind : List ℕ → Option Parked → Option Link → Option Link
parked_behind waiting None side = side
parked_behind waiting (Some parked) side = unless_heard parked.server waiting side

abbrev pub shut_waiting : List ℕ → Option Parked → Option Link → List Command
shut_waiting waiting None side = []
shut_waiting waiting (Some parked) side = shut_if (stray_by parked.server waiting side)

-- ---- an event

abbrev pub requests_take : Event → State → State
requests_take (events.Piece Client bytes) state = feeds bytes state
requests_take _ state = state

abbrev pub closes_client : Event → Bool → Bool
closes_client (events.Closed Client) closed = true
closes_client _ closed = closed

-- of a side that a flow uses, and of one that is parked
abbrev pub used_takes : Event → Option Link → Option Link
used_takes (events.Piece (Server server) bytes) side = side_with (link_hears server bytes) side
used_takes (events.Closed (Server server)) side = side_with (link_closes server) side
used_takes _ side = side

abbrev pub parked_takes : Event → Option Link → Option Link
parked_takes (events.Piece (Server server) bytes) side = unless_heard server bytes side
parked_takes (events.Closed (Server server)) side = unless_closed_by server side
parked_takes _ side = side

abbrev pub side_takes : (uses : Bool) → Event → Option Link → Option Link
side_takes true event side = used_takes event side
side_takes false event side = parked_takes event side

abbrev pub parked_stray : Event → Option Link → Option ℕ
parked_stray (events.Piece (Server server) bytes) side = stray_by server bytes side
parked_stray _ side = None

abbrev pub stray_in : (uses : Bool) → Event → Option Link → Option ℕ
stray_in true event side = None
stray_in false event side = parked_stray event side

-- the fields of a side agree on whether its server closed
abbrev pub SideAgrees : Option Link → Type 0
SideAgrees None = ⊤
SideAgrees (Some link) = link.responses.closed ≡ link.closed

-- its reader was told of no close
abbrev pub IsUnshut : Option Link → Type 0
IsUnshut None = ⊤
IsUnshut (Some link) = link.responses.closed ≡ false
