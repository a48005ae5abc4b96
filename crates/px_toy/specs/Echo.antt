-- What is due of a server that echoes lines and asks before each.
use Rattle.std.specs.Prelude.{ℕ, ◌+◌, ◌==◌, Bool, true, false, if◌then◌else◌, List, [], ◌∷◌, Option, Some, None, take, drop}
use Rattle.std.specs.List.{flat_map, position}
use Rattle.std.specs.Option.{option_map}
use Rattle.px_message.specs.declared.flow.Flow.{Flow}
use Rattle.px_event.specs.declared.ask.Ask.{Ask}
use Rattle.px_event.specs.declared.ask.Ask.TheVariants as asks
use Rattle.px_event.specs.declared.ask.Hook.TheVariants as hooks
use Rattle.px_event.specs.declared.side.Side.TheVariants.{Client}
use Rattle.px_event.specs.declared.event.Event.{Event}
use Rattle.px_event.specs.declared.event.Event.TheVariants as events
use Rattle.px_event.specs.declared.reply.Reply.{Reply}
use Rattle.px_event.specs.declared.reply.Reply.TheVariants as replies
use Rattle.px_event.specs.declared.command.Command.{Command}
use Rattle.px_event.specs.declared.command.Command.TheVariants as commands
use Rattle.px_event.specs.Chain.{Timed, Look, NotYet, Asks, Ends, Turn, Chain}

-- the client's bytes in an event, and the client's joined bytes
abbrev pub piece_in : Event → List ℕ
piece_in (events.Piece Client bytes) = bytes
piece_in _ = []

abbrev pub client_bytes : List (Timed Event) → List ℕ
client_bytes prefix = flat_map (λ e. piece_in e.value) prefix

-- the client closed
abbrev pub closes_client : Event → Bool
closes_client (events.Closed Client) = true
closes_client _ = false

abbrev pub is_closed : List (Timed Event) → Bool
is_closed [] = false
is_closed (e ∷ es) = if closes_client e.value then true else is_closed es

-- how long the first line is, with its line feed, if it is whole
abbrev pub first_line : List ℕ → Option ℕ
first_line bytes = option_map (λ at. at + 1) (position (λ byte. byte == 10) bytes)

-- the stages: so many bytes are used, or it is over
pub data EchoStage : Type 0 where
  Reading : (used : ℕ) → EchoStage
  Over : EchoStage

-- the bytes that are not used
abbrev pub unread : ℕ → List (Timed Event) → List ℕ
unread used prefix = drop used (client_bytes prefix)

-- when the client closed and no line is left, it is closed
abbrev pub pass_by : Bool → Option ℕ → ℕ → Turn EchoStage Command
pass_by false line used = record { owed = []; stage = Reading used }
pass_by true (Some length) used = record { owed = []; stage = Reading used }
pass_by true None used = record { owed = commands.Close Client ∷ []; stage = Over }

abbrev pub pass : EchoStage → List (Timed Event) → Turn EchoStage Command
pass (Reading used) prefix = pass_by (is_closed prefix) (first_line (unread used prefix)) used
pass Over prefix = record { owed = []; stage = Over }

-- what is asked
abbrev pub ask_about : Flow → Ask
ask_about flow = asks.Hook flow.id.index hooks.RequestHead

abbrev pub look_by : Flow → Option ℕ → Look Command
look_by flow None = NotYet
look_by flow (Some length) = Asks (commands.Ask (ask_about flow) flow)

abbrev pub look : Flow → EchoStage → List (Timed Event) → Look Command
look flow (Reading used) prefix = look_by flow (first_line (unread used prefix))
look flow Over prefix = Ends []

-- what a reply says of a line: `Go` echoes it, and any other drops it
abbrev pub echoed : Reply → List ℕ → List Command
echoed (replies.Go flow stream) line = commands.Send Client line ∷ []
echoed _ line = []

abbrev pub is_kill : Reply → Bool
is_kill replies.Kill = true
is_kill _ = false

-- what a reply does with a line of this length, at the front of these bytes
abbrev pub turn_by : Bool → Reply → ℕ → List ℕ → ℕ → Turn EchoStage Command
turn_by true reply length bytes used = record { owed = commands.Close Client ∷ []; stage = Over }
turn_by false reply length bytes used = record { owed = echoed reply (take length bytes); stage = Reading (used + length) }

abbrev pub turn_line : Option ℕ → Reply → List ℕ → ℕ → Turn EchoStage Command
turn_line None reply bytes used = record { owed = []; stage = Reading used }
turn_line (Some length) reply bytes used = turn_by (is_kill reply) reply length bytes used

abbrev pub turn : EchoStage → List (Timed Event) → Timed Reply → Turn EchoStage Command
turn (Reading used) prefix reply = turn_line (first_line (unread used prefix)) reply.value (unread used prefix) used
turn Over prefix reply = record { owed = []; stage = Over }

-- the chain
abbrev pub echo_chain : Flow → Chain EchoStage Event Reply Command
echo_chain flow = record { pass = pass; look = look flow; so_far = λ stage prefix. []; behind = λ stage prefix. []; turn = turn }
