-- How a server that echoes lines keeps where it is.
use Rattle.std.specs.Prelude.{◌≡◌, ℕ, ◌≤◌, Bool, false, List, [], ◌∷◌, Option, Some, None, length}
use Rattle.px_message.specs.declared.flow.Flow.{Flow}
use Rattle.px_event.specs.declared.ask.Ask.{Ask}
use Rattle.px_event.specs.declared.event.Event.{Event}
use Rattle.px_event.specs.declared.command.Command.{Command}
use Rattle.px_event.specs.declared.command.Command.TheVariants as commands
use Rattle.px_event.specs.Chain.{Timed}
use Rattle.px_event.specs.Layer.{Move}
use Rattle.px_event.specs.Stands.{StandsAt}
use Rattle.px_toy.specs.declared.echo.LineEcho.{LineEcho}
use Rattle.px_toy.specs.declared.echo.Phase.{Phase}
use Rattle.px_toy.specs.declared.echo.Phase.TheVariants as phases
use Rattle.px_toy.specs.Echo.{EchoStage, Reading, Over, client_bytes, is_closed, unread, first_line, ask_about, echo_chain}

-- the phase in which it is where this is the first line
abbrev pub phase_at : Option ℕ → Phase
phase_at None = phases.Reading
phase_at (Some length) = phases.Asked length

-- what it asks there
abbrev pub asks_at : Flow → Option ℕ → List Command
asks_at flow None = []
asks_at flow (Some length) = commands.Ask (ask_about flow) flow ∷ []

-- what is awaited in a phase
abbrev pub awaited_in : Flow → Phase → Option Ask
awaited_in flow (phases.Asked length) = Some (ask_about flow)
awaited_in flow _ = None

abbrev pub awaits : LineEcho → Option Ask
awaits state = awaited_in state.flow state.phase

abbrev pub is_over : Phase → Bool
is_over phases.Over = Bool.true
is_over _ = false

-- It keeps the bytes that are not used, and is asked or reads as the first line of them says; no close was worked off.
pub record IsReading (flow : Flow) (state : LineEcho) (used : ℕ) (prefix : List (Timed Event)) : Type 0 where
  pub same_flow : state.flow ≡ flow
  pub keeps : state.unread.items ≡ unread used prefix
  pub phase : state.phase ≡ phase_at (first_line (unread used prefix))
  pub open_still : is_closed prefix ≡ false
  pub within : used ≤ length (client_bytes prefix)

pub record IsOver (flow : Flow) (state : LineEcho) : Type 0 where
  pub same_flow : state.flow ≡ flow
  pub keeps : state.unread.items ≡ []
  pub phase : state.phase ≡ phases.Over

abbrev pub IsAt : Flow → LineEcho → EchoStage → List (Timed Event) → Type 0
IsAt flow state (Reading used) prefix = IsReading flow state used prefix
IsAt flow state Over prefix = IsOver flow state

-- what a state stands for: its chain is that of the flow with which it was made
abbrev pub EchoStands : LineEcho → LineEcho → List Move → List Command → Type 0
EchoStands made state moves given = StandsAt (echo_chain made.flow) (Reading 0) (IsAt made.flow) state moves given
