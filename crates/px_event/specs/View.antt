-- What one peer or one list sees of the commands of a conversation. A text may come in any number of sends, and bytes that are
-- said to one side are in no order with those that are said to another, since how the network cuts decides of it; so what is due is
-- compared in views. A side's bytes, its close and the flows that are finished are seen in one order: a close before the bytes that
-- are due before it would cut them off, as the end of a connection ends a message (RFC 9112, section 6.3). All that is said but for
-- bytes to servers is seen in one order besides: so the client is closed behind its servers, and hears `100 Continue` before a server
-- is dialled.
use Rattle.std.specs.Prelude.{ℕ, ◌==◌, if◌then◌else◌, List, [], ◌∷◌, map}
use Rattle.std.specs.List.{flat_map}
use Rattle.px_message.specs.declared.address.Address.{Address}
use Rattle.px_message.specs.declared.flow.Flow.{Flow}
use Rattle.px_event.specs.declared.ask.Ask.{Ask}
use Rattle.px_event.specs.declared.side.Side.{Side}
use Rattle.px_event.specs.declared.side.Side.TheVariants.{Client}
use Rattle.px_event.specs.declared.said.Said.{Said}
use Rattle.px_event.specs.declared.said.Said.TheVariants as said
use Rattle.px_event.specs.declared.command.Command.{Command}
use Rattle.px_event.specs.declared.command.Command.TheVariants as command
use Rattle.px_event.specs.declared.step.Step.{Step}
use Rattle.px_event.specs.declared.step.Step.TheVariants as steps
use Rattle.px_event.specs.Trace.{is_same_side}

pub data View : Type 0 where
  -- what is sent to a side, its close, and the flows that are finished, in one order
  line : (side : Side) → View
  -- the hooks asked and the servers dialled, in one order
  questions : View
  -- the hooks asked and the flows that are finished, in one order
  course : View
  -- the hooks asked, each with its flow
  flows : View
  -- what is sent to the client, the hooks asked, the servers dialled, the flows that are finished and the closes of all sides, in one order
  order : View

-- the least thing that a view has
pub data Atom : Type 0 where
  byte : (value : ℕ) → Atom
  close : (side : Side) → Atom
  asked : (ask : Ask) → Atom
  dialled : (server : ℕ) (address : Address) → Atom
  done : (flow : Flow) → Atom
  about : (ask : Ask) (flow : Flow) → Atom

-- the bytes among them
abbrev pub byte_in : Atom → List ℕ
byte_in (byte value) = value ∷ []
byte_in _ = []

abbrev pub bytes_in : List Atom → List ℕ
bytes_in atoms = flat_map byte_in atoms

-- what a view has of something said
abbrev pub said_atoms : View → Said → List Atom
said_atoms (line side) (said.Send other text) = if is_same_side other side then map byte text else []
said_atoms (line side) (said.Close other) = if is_same_side other side then close other ∷ [] else []
said_atoms questions (said.Dial server address) = dialled server address ∷ []
said_atoms order (said.Send Client text) = map byte text
said_atoms order (said.Close side) = close side ∷ []
said_atoms order (said.Dial server address) = dialled server address ∷ []
said_atoms _ _ = []

-- what a view has of a command
abbrev pub command_atoms : View → Command → List Atom
command_atoms (line side) (command.Send other text) = if is_same_side other side then map byte text else []
command_atoms (line side) (command.Close other) = if is_same_side other side then close other ∷ [] else []
command_atoms (line side) (command.Done flow) = done flow ∷ []
command_atoms questions (command.Dial server address inside) = dialled server address ∷ []
command_atoms questions (command.Ask ask flow) = asked ask ∷ []
command_atoms course (command.Ask ask flow) = asked ask ∷ []
command_atoms course (command.Done flow) = done flow ∷ []
command_atoms flows (command.Ask ask flow) = about ask flow ∷ []
command_atoms order (command.Send Client text) = map byte text
command_atoms order (command.Close side) = close side ∷ []
command_atoms order (command.Dial server address inside) = dialled server address ∷ []
command_atoms order (command.Ask ask flow) = asked ask ∷ []
command_atoms order (command.Done flow) = done flow ∷ []
command_atoms _ _ = []

-- what a view has of these commands
abbrev pub seen_of : View → List Command → List Atom
seen_of view commands = flat_map (command_atoms view) commands

-- A trace tells each view but one: it has the hooks that were asked, and not their flows.
abbrev pub IsTold : View → Type 0
IsTold flows = ⊥
IsTold _ = Unit {0}

-- what a view of the conversation of this number has of a step
abbrev pub step_atoms : View → ℕ → Step → List Atom
step_atoms view conv (steps.Said other said) = if other == conv then said_atoms view said else []
step_atoms questions conv (steps.Asked other ask) = if other == conv then asked ask ∷ [] else []
step_atoms (line side) conv (steps.Done flow) = if flow.id.conv == conv then done flow ∷ [] else []
step_atoms course conv (steps.Asked other ask) = if other == conv then asked ask ∷ [] else []
step_atoms course conv (steps.Done flow) = if flow.id.conv == conv then done flow ∷ [] else []
step_atoms order conv (steps.Asked other ask) = if other == conv then asked ask ∷ [] else []
step_atoms order conv (steps.Done flow) = if flow.id.conv == conv then done flow ∷ [] else []
step_atoms _ _ _ = []

-- what a view of the conversation has of a trace
abbrev pub seen_in : View → ℕ → List Step → List Atom
seen_in view conv trace = flat_map (step_atoms view conv) trace
