-- What an event tells of a proxy's answer.
use Rattle.std.specs.Prelude.{◌≡◌, ℕ, Bool, true, false, List, ◌++◌, drop}
use Rattle.px_event.specs.declared.event.Event.{Event}
use Rattle.px_event.specs.declared.side.Side.TheVariants.{Client, Server}
use Rattle.px_event.specs.Sides.{closes, piece_of}
use Rattle.px_tunnel.specs.declared.upstream.ProxyAnswer.{ProxyAnswer}
use Rattle.px_tunnel.specs.declared.upstream.ProxyAnswer.TheVariants as answer
use Rattle.px_tunnel.specs.declared.upstream.UpstreamTunnel.{UpstreamTunnel}
use Rattle.px_tunnel.specs.Reaching.{HasHeard, rest_of}
use Rattle.px_tunnel.specs.Upstream.{Granting, awaited, granted, granting, refused}
use Rattle.px_stack.specs.declared.child.Goal.{Goal}
use Rattle.px_stack.specs.declared.child.Goal.TheVariants as goals
use Rattle.px_stack.specs.declared.child.Opening.{Opening}
use Rattle.px_stack.specs.declared.reaching.ProxySays.{ProxySays}
use Rattle.px_stack.specs.declared.reaching.ProxySays.TheVariants as told

abbrev pub says_of : Granting → Bool → ProxySays
says_of awaited shut = told.Nothing
says_of (granted used) shut = told.Yes
says_of refused shut = told.No shut

-- by the text that had come of the proxy before, and one event more
abbrev pub says_by : ℕ → List ℕ → Event → ProxySays
says_by server text event =
    let shut = closes (Server server) event in says_of (granting (text ++ piece_of (Server server) event) shut) shut

-- what a text says that no close follows, and what a close says while the answer is awaited
abbrev pub says_answer : ProxyAnswer → ProxySays
says_answer answer.Awaited = told.Nothing
says_answer answer.Granted = told.Yes
says_answer answer.Refused = told.No false

abbrev pub says_close : Bool → ProxySays
says_close true = told.No true
says_close false = told.Nothing

-- Behind an event that said so: the text that is heard, while the answer is awaited, and what stands behind the head that grants.
pub record HearsThere (server : ℕ) (after : UpstreamTunnel) (text : List ℕ) (event : Event) (says : ProxySays) : Type 0 where
  pub says_is : says ≡ says_by server text event
  pub nothing : says ≡ told.Nothing → HasHeard after (text ++ piece_of (Server server) event)
  pub yes : (used : ℕ) → granting (text ++ piece_of (Server server) event) false ≡ granted used → rest_of after ≡ drop used (text ++ piece_of (Server server) event)

abbrev pub HearsProxy : ℕ → UpstreamTunnel → UpstreamTunnel → Event → ProxySays → Type 0
HearsProxy server before after event says = (text : List ℕ) → HasHeard before text → HearsThere server after text event says

-- What waits for a tunnel of the client's behind an event: its bytes, and whether it has closed; behind its close nothing is heard.
abbrev pub tunnel_by : Bool → Opening → Event → Goal
tunnel_by true opening event = goals.Tunnel opening true
tunnel_by false opening event = goals.Tunnel (record opening { rest = opening.rest ++ piece_of Client event }) (closes Client event)

abbrev pub tunnel_behind : Opening → Bool → Event → Goal
tunnel_behind opening closed event = tunnel_by closed opening event
