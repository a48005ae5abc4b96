-- What counts where there is no client: what comes of servers, and what is said to them.
use Rattle.std.specs.Prelude.{Bool, true, false, if◌then◌else◌, List, [], ◌∷◌, map}
use Rattle.px_event.specs.declared.command.Command.{Command}
use Rattle.px_event.specs.declared.command.Command.TheVariants as commands
use Rattle.px_event.specs.declared.event.Event.{Event}
use Rattle.px_event.specs.declared.event.Event.TheVariants as events
use Rattle.px_event.specs.declared.side.Side.TheVariants.{Client}
use Rattle.px_event.specs.Chain.{Timed}

-- what is heard of a client says nothing
abbrev pub of_servers : Event → Event
of_servers (events.Piece Client bytes) = events.Begun
of_servers (events.Closed Client) = events.Begun
of_servers event = event

abbrev pub timed_of_servers : Timed Event → Timed Event
timed_of_servers event = record { moment = event.moment; value = of_servers event.value }

abbrev pub all_of_servers : List (Timed Event) → List (Timed Event)
all_of_servers prefix = map timed_of_servers prefix

-- a command by which something is said to a client, or a client is closed
abbrev pub is_to_client : Command → Bool
is_to_client (commands.Send Client bytes) = true
is_to_client (commands.Close Client) = true
is_to_client command = false

-- the others
abbrev pub to_servers : List Command → List Command
to_servers [] = []
to_servers (command ∷ rest) = if is_to_client command then to_servers rest else (command ∷ to_servers rest)
