-- How a raw tunnel keeps where it is, and what one event has it do.
use Rattle.std.specs.Prelude.{◌≡◌, ℕ, ◌+◌, Bool, true, false, List, [], ◌∷◌, ◌++◌, length, Option, Some, None}
use Rattle.px_event.specs.declared.ask.Ask.{Ask}
use Rattle.px_event.specs.declared.side.Side.{Side}
use Rattle.px_event.specs.declared.side.Side.TheVariants.{Client, Server}
use Rattle.px_event.specs.declared.event.Event.{Event}
use Rattle.px_event.specs.declared.event.Event.TheVariants as events
use Rattle.px_event.specs.declared.event.Rests.{Rests}
use Rattle.px_event.specs.declared.reply.Reply.{Reply}
use Rattle.px_event.specs.declared.command.Command.{Command}
use Rattle.px_event.specs.declared.command.Command.TheVariants as commands
use Rattle.px_event.specs.Chain.{Timed, Chain}
use Rattle.px_event.specs.Layer.{Move}
use Rattle.px_event.specs.Stands.{StandsAt}
use Rattle.px_tunnel.specs.declared.tunnel.RawTunnel.{RawTunnel}
use Rattle.px_tunnel.specs.Tunnel.{Stage, going, over, across, alone, left_behind, tunnel_chain}

-- ---- what one event has it do

-- bytes to a side, if there are any
abbrev pub sent : Side → List ℕ → List Command
sent side [] = []
sent side (byte ∷ bytes) = commands.Send side (byte ∷ bytes) ∷ []

abbrev pub sent_to : Option Side → List ℕ → List Command
sent_to (Some side) bytes = sent side bytes
sent_to None bytes = []

-- the close of a side that was left alone
abbrev pub closing : Option Side → List Command
closing (Some side) = commands.Close side ∷ []
closing None = []

-- what a tunnel that goes on gives for an event
abbrev pub given_for : ℕ → Rests → Event → List Command
given_for server rests events.Begun = sent (Server server) rests.client ++ sent Client rests.server
given_for server rests (events.Piece side bytes) = sent_to (across server side) bytes
given_for server rests (events.Closed side) = closing (across server side)
given_for server rests (events.Answered ask reply) = []

-- a side was left alone
abbrev pub is_alone : Option Side → Bool
is_alone (Some side) = true
is_alone None = false

-- ---- where it is

-- its server, and what is left of both sides
abbrev pub server_of : RawTunnel → ℕ
server_of state = state.server

abbrev pub rests_of : RawTunnel → Rests
rests_of state = state.rests

-- it asks nothing
abbrev pub awaits_nothing : RawTunnel → Option Ask
awaits_nothing state = None

-- it is over
abbrev pub has_ended : RawTunnel → Bool
has_ended state = state.closed

-- the number of bytes that it keeps
abbrev pub kept_in : RawTunnel → ℕ
kept_in state = length state.rests.client + length state.rests.server

-- what is left of both sides behind a prefix
abbrev pub left_over : Rests → List (Timed Event) → Rests
left_over rests [] = rests
left_over rests (e ∷ es) = left_over (left_behind rests e.value) es

pub record IsGoing (server : ℕ) (rests : Rests) (state : RawTunnel) (prefix : List (Timed Event)) : Type 0 where
  pub same_server : state.server ≡ server
  pub keeps : state.rests ≡ left_over rests prefix
  pub goes_on : state.closed ≡ false
  pub none_alone : alone server prefix ≡ None

pub record IsOver (server : ℕ) (rests : Rests) (state : RawTunnel) (prefix : List (Timed Event)) : Type 0 where
  pub same_server : state.server ≡ server
  pub keeps : state.rests ≡ left_over rests prefix
  pub ended : state.closed ≡ true

abbrev pub IsAt : ℕ → Rests → RawTunnel → Stage → List (Timed Event) → Type 0
IsAt server rests state going prefix = IsGoing server rests state prefix
IsAt server rests state over prefix = IsOver server rests state prefix

-- what a state stands for: its chain is that of the server and the rests with which it was made
abbrev pub chain_of : RawTunnel → Chain Stage Event Reply Command
chain_of made = tunnel_chain (server_of made) (rests_of made)

abbrev pub TunnelStands : RawTunnel → RawTunnel → List Move → List Command → Type 0
TunnelStands made state moves given = StandsAt (chain_of made) going (IsAt (server_of made) (rests_of made)) state moves given
