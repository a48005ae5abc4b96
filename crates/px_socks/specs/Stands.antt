-- What a layer of SOCKS keeps at a stage, and what its calls do wherever it stands.
use Rattle.std.specs.Prelude.{◌≡◌, ◌≤◌, ℕ, Bool, true, false, List, [], ◌∷◌, ◌++◌, drop, length, Option, Some, None, ⊤}
use Rattle.px_message.specs.declared.address.Address.{Address}
use Rattle.px_event.specs.declared.ask.Ask.{Ask}
use Rattle.px_event.specs.declared.ask.Ask.TheVariants as asks
use Rattle.px_event.specs.declared.command.Command.{Command}
use Rattle.px_event.specs.declared.command.Command.TheVariants as commands
use Rattle.px_event.specs.declared.event.Event.{Event}
use Rattle.px_event.specs.declared.reply.Reply.{Reply}
use Rattle.px_event.specs.declared.side.Side.TheVariants.{Client}
use Rattle.px_event.specs.Chain.{Timed, Turn, found}
use Rattle.px_event.specs.Layer.{Move}
use Rattle.px_event.specs.Stands.{StandsAt}
use Rattle.px_socks.specs.declared.layer.Phase.{Phase}
use Rattle.px_socks.specs.declared.layer.Phase.TheVariants as phases
use Rattle.px_socks.specs.declared.layer.SocksLayer.{SocksLayer}
use Rattle.px_socks.specs.declared.layer.SocksTunnel.{SocksTunnel}
use Rattle.px_socks.specs.Chain.{look, pass, pass_open, socks_chain, turn}
use Rattle.px_socks.specs.Stages.{Sight, Stage, dialling, greeting, opened, over, requesting, sight_over, sight_with}

-- ---- what is seen of it

abbrev pub awaits_in : Phase → Option Ask
awaits_in (phases.Dialling address) = Some (asks.Dial 0)
awaits_in phase = None

abbrev pub awaits : SocksLayer → Option Ask
awaits state = awaits_in state.phase

abbrev pub is_over : Phase → Bool
is_over (phases.Opened address) = true
is_over phases.Over = true
is_over phase = false

-- one dial is asked for at most
abbrev pub left_in : Phase → ℕ
left_in (phases.Opened address) = 0
left_in phases.Over = 0
left_in phase = 1

-- the bytes of a greeting or a request that is not whole; what stands behind a request waits
abbrev pub keeps_in : Phase → List ℕ → ℕ
keeps_in phases.Greeting unread = length unread
keeps_in phases.Requesting unread = length unread
keeps_in phase unread = 0

abbrev pub socks_keeps : SocksLayer → ℕ
socks_keeps state = keeps_in state.phase state.unread

-- where it is connected to, and what came behind the request
abbrev pub tunnel_by : Phase → List ℕ → Option SocksTunnel
tunnel_by (phases.Opened address) unread = Some (record { address = address; rest = unread })
tunnel_by phase unread = None

abbrev pub tunnel_in : SocksLayer → Option SocksTunnel
tunnel_in state = tunnel_by state.phase state.unread

-- ---- by the stage

-- it keeps what was not used of the client's bytes, and the client has not closed
pub record Keeps (state : SocksLayer) (phase : Phase) (used : ℕ) (seen : Sight) : Type 0 where
  pub phase_is : state.phase ≡ phase
  pub unread : state.unread ≡ drop used seen.client
  pub within : used ≤ length seen.client
  pub open_still : seen.closed ≡ false

abbrev pub IsIn : SocksLayer → Stage → Sight → Type 0
IsIn state greeting seen = Keeps state phases.Greeting 0 seen
IsIn state (requesting used) seen = Keeps state phases.Requesting used seen
IsIn state (dialling used address) seen = Keeps state (phases.Dialling address) used seen
IsIn state (opened used address) seen = Keeps state (phases.Opened address) used seen
IsIn state over seen = state.phase ≡ phases.Over

-- where nothing is awaited and it is not over
abbrev pub IsReading : Stage → Type 0
IsReading greeting = ⊤
IsReading (requesting used) = ⊤
IsReading stage = ⊥

-- ---- what a call led to, wherever it stood

-- it gave what the turn owes and what is found there, and is there
pub record Leads (turn : Turn Stage Command) (seen : Sight) (after : SocksLayer) (more : List Command) : Type 0 where
  pub gives : more ≡ turn.owed ++ found (look turn.stage)
  pub is_in : IsIn after turn.stage seen

-- all that came was judged
pub record Advances (before after : SocksLayer) (out longer : List Command) : Type 0 where
  pub more : List Command
  pub grown : longer ≡ out ++ more
  pub leads : (stage : Stage) (seen : Sight) → IsReading stage → IsIn before stage seen → Leads (pass_open stage seen.client) seen after more

-- an event, where no dial is awaited
pub record Hears (event : Event) (before after : SocksLayer) (out longer : List Command) : Type 0 where
  pub more : List Command
  pub grown : longer ≡ out ++ more
  pub leads : (stage : Stage) (seen : Sight) → IsReading stage → IsIn before stage seen →
      let now = sight_with seen event in Leads (pass stage now) now after more
  pub past_end : is_over before.phase ≡ true → (after ≡ before) × (more ≡ [])

-- the answer to its dial
pub record Answers (reply : Reply) (before after : SocksLayer) (out longer : List Command) : Type 0 where
  pub more : List Command
  pub grown : longer ≡ out ++ more
  pub leads : (used : ℕ) (address : Address) (seen : Sight) → IsIn before (dialling used address) seen →
      Leads (turn (dialling used address) seen.closed reply) seen after more

-- the server is dialled
pub record Asks (address : Address) (before after : SocksLayer) (out longer : List Command) : Type 0 where
  pub grown : longer ≡ out ++ commands.Dial 0 address None ∷ []
  pub phase : after.phase ≡ phases.Dialling address
  pub unread : after.unread ≡ before.unread

-- it is told so, and closed
pub record Refuses (text : List ℕ) (before after : SocksLayer) (out longer : List Command) : Type 0 where
  pub grown : longer ≡ out ++ commands.Send Client text ∷ commands.Close Client ∷ []
  pub phase : after.phase ≡ phases.Over

-- ---- by itself

abbrev pub IsAt : SocksLayer → Stage → List (Timed Event) → Type 0
IsAt state stage prefix = IsIn state stage (sight_over prefix)

-- what a state stands for
abbrev pub SocksStands : SocksLayer → SocksLayer → List Move → List Command → Type 0
SocksStands made state moves given = StandsAt socks_chain greeting IsAt state moves given
