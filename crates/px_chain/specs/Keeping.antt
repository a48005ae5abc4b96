-- When a server's side is kept behind a flow, and what ends the keeping (RFC 9112 section 9.3). At most one is kept: the parked side.
use Rattle.std.specs.Prelude.{ℕ, Bool, true, false, ◌&&◌, not, List, [], ◌∷◌, Option, Some, None}
use Rattle.px_message.specs.declared.request.Request.{Request}
use Rattle.px_event.specs.declared.command.Command.{Command}
use Rattle.px_event.specs.declared.command.Command.TheVariants as commands
use Rattle.px_event.specs.declared.side.Side.TheVariants.{Server}
use Rattle.px_read.specs.declared.head.ResponseHead.{ResponseHead as ReadResponse}
use Rattle.px_exchange.specs.declared.place.Place.{Place}
use Rattle.px_exchange.specs.Endings.{read_persists, sent_persists}
use Rattle.px_exchange.specs.Places.{server_for}
use Rattle.px_chain.specs.Sights.{Sight, answers_in, left_by_answers}
use Rattle.px_chain.specs.Stages.{At, Doing, Parked, Stage, busy, connection, given_body, given_head, idle, next, request_body}

-- no byte came of a side, and it has not closed
abbrev pub is_silent : List ℕ → Bool → Bool
is_silent [] shut = not shut
is_silent (byte ∷ more) shut = false

-- ---- what ends it: a byte, or the close, while no flow uses the side

abbrev pub unspoilt_by : Bool → Option Parked → Option Parked
unspoilt_by true parked = parked
unspoilt_by false parked = None

-- the parked side, unless its keeping has ended
abbrev pub unspoilt_at : At → Sight → At
unspoilt_at at seen = record at { parked = unspoilt_by (is_silent seen.server seen.shut) at.parked }

-- so at a stage at which no flow uses a side; elsewhere none is parked
abbrev pub unspoilt : Stage → Sight → Stage
unspoilt (idle at) seen = idle (unspoilt_at at seen)
unspoilt (busy at flow doing) seen = busy (unspoilt_at at seen) flow doing
unspoilt (next at) seen = next (unspoilt_at at seen)
unspoilt stage seen = stage

-- at its first byte it is closed, and what follows counts for nothing
abbrev pub shut_by_byte : ℕ → List ℕ → List Command
shut_by_byte server [] = []
shut_by_byte server (byte ∷ more) = commands.Close (Server server) ∷ []

abbrev pub shut_stray : Option Parked → Sight → List Command
shut_stray None seen = []
shut_stray (Some parked) seen = shut_by_byte parked.server seen.server

-- where no flow uses a side
abbrev pub strays_in : At → Doing → Sight → List Command
strays_in at (request_body given most) seen = shut_stray at.parked seen
strays_in at (connection sent) seen = shut_stray at.parked seen
strays_in at given_head seen = shut_stray at.parked seen
strays_in at given_body seen = shut_stray at.parked seen
strays_in at _ seen = []

abbrev pub strays : Stage → Sight → List Command
strays (idle at) seen = shut_stray at.parked seen
strays (busy at flow doing) seen = strays_in at doing seen
strays (next at) seen = shut_stray at.parked seen
strays stage seen = []

-- ---- what begins it: the end of a flow that used a side

-- The side is kept behind this whole response to a request that was whole: nothing stands behind it, the side is not closed, and both persist.
abbrev pub keeps_side : Request → Sight → ReadResponse → Bool
keeps_side request seen head =
    is_silent (left_by_answers (answers_in request seen) seen.server) seen.shut
    && (sent_persists request && read_persists request head)

-- the place behind a flow whose side is kept, or closed
abbrev pub parks : Bool → Place → At → Request → ℕ → At
parks true place at request server = record at { parked = Some (record { server = server; address = server_for place request }) }
parks false place at request server = record at { parked = None }
