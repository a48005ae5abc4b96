-- What the calls of a conversation do, wherever it stands.
use Rattle.std.specs.Prelude.{◌≡◌, ◌≤◌, ◌<◌, ◌+◌, ℕ, Bool, true, false, List, [], ◌∷◌, ◌++◌, length, drop, Option, Some, None}
use Rattle.std.specs.Global.{Box}
use Rattle.px_message.specs.declared.fault.Fault.TheVariants.{UpstreamRefused}
use Rattle.px_message.specs.declared.flow.Flow.{Flow}
use Rattle.px_event.specs.declared.command.Command.{Command}
use Rattle.px_event.specs.declared.command.Command.TheVariants as commands
use Rattle.px_event.specs.declared.event.Event.{Event}
use Rattle.px_event.specs.declared.event.Rests.{Rests}
use Rattle.px_event.specs.declared.reply.Reply.{Reply}
use Rattle.px_event.specs.declared.reply.Reply.TheVariants as replies
use Rattle.px_event.specs.declared.side.Side.TheVariants.{Client, Server}
use Rattle.px_event.specs.Chain.{Timed, NotYet, Turn}
use Rattle.px_event.specs.Laws.{owed_here, owed_over}
use Rattle.px_event.specs.Layer.{AsksOnly}
use Rattle.px_event.specs.View.{View, seen_of}
use Rattle.px_event.proofs.Steps.{Takes, Resumes}
use Rattle.px_exchange.specs.declared.ending.Used.{Used}
use Rattle.px_exchange.specs.declared.place.Place.{Place}
use Rattle.px_exchange.specs.Endings.{ends_by_fault}
use Rattle.px_exchange.specs.Places.{terms_of}
use Rattle.px_exchange.specs.Texts.{connected_text}
use Rattle.px_chain.specs.Sights.{Standing}
use Rattle.px_event.specs.Sides.{closes}
use Rattle.px_chain.specs.Streams.{Since, bytes_of, client_closed, from_here, now_over}
use Rattle.px_http.specs.declared.conversation.HttpConv.{HttpConv}
use Rattle.px_http.specs.Stands.{awaits}
use Rattle.px_relay.specs.declared.layer.WsLayer.{WsLayer}
use Rattle.px_relay.specs.Chain.{begins_at}
use Rattle.px_relay.specs.Stages.{relaying}
use Rattle.px_relay.specs.Stands.{is_over as has_ended_in}
use Rattle.px_socks.specs.declared.layer.SocksLayer.{SocksLayer}
use Rattle.px_socks.specs.declared.layer.SocksTunnel.{SocksTunnel}
use Rattle.px_socks.specs.Stands.{is_over as front_is_over}
use Rattle.px_stream.specs.Anywhere.{reached_owes}
use Rattle.px_stream.specs.Tells.{led_to, sequence_left}
use Rattle.px_tunnel.specs.declared.tunnel.RawTunnel.{RawTunnel}
use Rattle.px_tunnel.specs.declared.upstream.UpstreamTunnel.{UpstreamTunnel}
use Rattle.px_tunnel.specs.Reaching.{HasHeard}
use Rattle.px_tunnel.specs.Stands.{given_for, has_ended, is_alone, rests_of, server_of}
use Rattle.px_tunnel.specs.Tunnel.{left_alone, left_behind}
use Rattle.px_tunnel.specs.Upstream.{connect_text, granted, refused}
use Rattle.px_stack.specs.declared.child.Child.{Child}
use Rattle.px_stack.specs.declared.child.Child.TheVariants as children
use Rattle.px_stack.specs.declared.child.Goal.{Goal as KeptGoal}
use Rattle.px_stack.specs.declared.child.Goal.TheVariants as goals
use Rattle.px_stack.specs.declared.child.Opening.{Opening}
use Rattle.px_stack.specs.declared.child.Relay.{Relay}
use Rattle.px_stack.specs.declared.closing.Sides.{Sides}
use Rattle.px_stack.specs.Chain.{answer_of, closed_before, closed_of, connected_on, flows_at, inner_place, inner_standing, is_shut, raw_look, stack_chain, text_behind, text_down, text_of, text_on, text_up, upgrades, way_to, owing, pass_flows, follows_to}
use Rattle.px_stack.specs.Kept.{awaited_by, left_by, tunnel_left}
use Rattle.px_stack.specs.Sockets.{is_websocket}
use Rattle.px_stack.specs.Stages.{Dialling, Ends as TunnelEnds, Goal, Link, Stage, Tunnel, Visitor, a_flow, http, raw, reaching, socket, undecided}
use Rattle.px_stack.specs.Stands.{IsChild, IsGoal, IsInFlows, IsOpened, IsRelay, StaysInTime}

-- commands were added, of which this holds
pub record Adds (holds_of : List Command → Type 0) (out longer : List Command) : Type 0 where
  pub more : List Command
  pub grown : longer ≡ out ++ more
  pub holds : holds_of more

-- It is at a stage over a prefix, and gave what is owed there.
pub record IsHere (conv : ℕ) (client : Visitor) (child : Child) (more : List Command) (stage : Stage) (prefix : List (Timed Event)) : Type 0 where
  pub there : IsChild conv client child stage prefix
  pub gives : (view : View) → seen_of view more ≡ seen_of view (owed_here (stack_chain conv client) stage prefix)

-- It came to a stage over a prefix, passed on, and gave what is owed there.
pub record Arrives (conv : ℕ) (client : Visitor) (child : Child) (more : List Command) (stage : Stage) (prefix : List (Timed Event)) : Type 0 where
  pub there : IsChild conv client child ((stack_chain conv client).pass stage prefix).stage prefix
  pub gives : (view : View) → seen_of view more ≡ seen_of view (owed_over (stack_chain conv client) stage prefix)

-- ---- a tunnel that is not read

-- which sides an event closes
abbrev pub sides_by : ℕ → Bool → Bool → Option Sides
sides_by server false false = None
sides_by server shut closed = Some (record { server = server; shut = shut; closed = closed })

abbrev pub sides_closed : ℕ → Event → Option Sides
sides_closed server event = sides_by server (closes (Server server) event) (closes Client event)

-- what was left of both sides is what a tunnel owes there, and these are closed
pub record MayRelay (ends : TunnelEnds) (prefix : List (Timed Event)) (sides : Sides) (rests : Rests) (flow : Option Flow) : Type 0 where
  pub server : sides.server ≡ ends.link.server
  pub shut : sides.shut ≡ is_shut ends.link prefix
  pub closed : sides.closed ≡ client_closed prefix
  pub up : rests.client ≡ text_up ends prefix
  pub down : rests.server ≡ text_down ends prefix
  pub same_flow : flow ≡ ends.flow
  pub used : ends.used ≤ length (bytes_of Client prefix)
  pub side_used : ends.link.used ≤ length (bytes_of (Server ends.link.server) (drop ends.link.opened prefix))
  pub opened : ends.link.opened ≤ length prefix

abbrev pub Relays : Sides → Rests → Option Flow → Child → List Command → Type 0
Relays sides rests flow next more = (conv : ℕ) (client : Visitor) (ends : TunnelEnds) (prefix : List (Timed Event)) →
    MayRelay ends prefix sides rests flow → Arrives conv client next more (raw ends) prefix

-- one that is there takes an event
abbrev pub RelayTakes : Relay → Child → Event → List Command → Type 0
RelayTakes kept next event more = (conv : ℕ) (client : Visitor) (moment : ℕ) (ends : TunnelEnds) (prefix : List (Timed Event)) →
    raw_look ends prefix ≡ NotYet → IsRelay ends prefix kept → Takes (stack_chain conv client) (IsChild conv client) next moment event more (raw ends) prefix

-- and hands it on
pub record GoesOn (kept : Relay) (event : Event) (next : Child) (out longer : List Command) : Type 0 where
  pub tunnel : RawTunnel
  pub is : next ≡ children.Raw (record kept { tunnel = tunnel })
  pub server : server_of tunnel ≡ server_of kept.tunnel
  pub rests : rests_of tunnel ≡ left_behind (rests_of kept.tunnel) event
  pub closed : has_ended tunnel ≡ is_alone (left_alone (server_of kept.tunnel) event)
  pub gives : longer ≡ out ++ given_for (server_of kept.tunnel) (rests_of kept.tunnel) event

-- ---- a client of SOCKS

-- behind a call: it goes on, or all is over
abbrev pub front_comes_by : Bool → SocksLayer → Child
front_comes_by true layer = children.Over
front_comes_by false layer = children.Asking layer

abbrev pub front_comes_to : SocksLayer → Child
front_comes_to layer = front_comes_by (front_is_over layer.phase) layer

-- the tunnel that it asked for
abbrev pub opening_in : SocksTunnel → Opening
opening_in tunnel = record { flow = 0; dials = 1; address = tunnel.address; proxy = None; rest = tunnel.rest }

-- ---- a WebSocket

-- where one begins at this moment, with what was left of both sides, of which the client has not closed
abbrev pub BeginsSocket : List ℕ → ℕ → Sides → Rests → Flow → Child → List Command → Type 0
BeginsSocket key moment sides rests flow next more = (conv : ℕ) (client : Visitor) (ends : TunnelEnds) (prefix : List (Timed Event)) →
    client.key ≡ key → client_closed prefix ≡ false → MayRelay ends prefix sides rests (Some flow) →
    Arrives conv client next more (socket ends (record flow { websocket = true }) (relaying (begins_at moment))) prefix

-- behind a call: it goes on, or it has ended
abbrev pub comes_by : Bool → Box WsLayer → Child
comes_by true layer = children.Over
comes_by false layer = children.Socket layer

abbrev pub comes_to : Box WsLayer → Child
comes_to layer = comes_by (has_ended_in layer.value.phase) layer

-- what follows a response of code 101: a WebSocket, or what is not read
abbrev pub GoesOnAs : List ℕ → ℕ → Sides → Rests → Flow → Child → List Command → Type 0
GoesOnAs key moment sides rests flow next more = (conv : ℕ) (client : Visitor) (ends : TunnelEnds) (prefix : List (Timed Event)) →
    client.key ≡ key → MayRelay ends prefix sides rests (Some flow) →
    Arrives conv client next more (upgrades (is_websocket flow (client_closed prefix)) flow moment ends) prefix

-- ---- a tunnel of which nothing is decided

-- this came of its server, which has not closed, and at this moment the first bytes may decide; whether the client has closed
pub record MayDecide (tunnel : Tunnel) (link : Link) (since : Since) (prefix : List (Timed Event)) (kept : Opening) (server : ℕ) (rest : List ℕ) (closed : Bool) (moment : ℕ) : Type 0 where
  pub opened : IsOpened tunnel link since prefix kept server
  pub come : text_on link prefix ≡ rest
  pub unshut : is_shut link prefix ≡ false
  pub client : client_closed prefix ≡ closed
  pub now : moment ≡ now_over since prefix

-- the server is the last that was dialled, and no flow has dialled it
pub record IsFewDials (kept : Opening) (server : ℕ) : Type 0 where
  pub few : kept.flow < 1000000
  pub last : kept.dials ≡ server + 1
  pub dials : server ≤ kept.flow

abbrev pub Decides : ℕ → Visitor → Opening → ℕ → List ℕ → ℕ → Child → List Command → Type 0
Decides conv client kept server rest moment next more = (tunnel : Tunnel) (link : Link) (since : Since) (prefix : List (Timed Event)) →
    MayDecide tunnel link since prefix kept server rest false moment → Arrives conv client next more (undecided tunnel link since) prefix

-- HTTP begins in it
abbrev pub GoesInside : ℕ → Visitor → Opening → ℕ → List ℕ → ℕ → Child → List Command → Type 0
GoesInside conv client kept server rest moment next more = (tunnel : Tunnel) (link : Link) (since : Since) (prefix : List (Timed Event)) →
    MayDecide tunnel link since prefix kept server rest false moment → Arrives conv client next more (http (inner_place tunnel link) (inner_standing tunnel link since)) prefix

-- the client was told of the connection before
pub record TellsThere (conv : ℕ) (client : Visitor) (next : Child) (more : List Command) (stage : Stage) (prefix : List (Timed Event)) : Type 0 where
  pub there : IsChild conv client next ((stack_chain conv client).pass stage prefix).stage prefix
  pub gives : (view : View) → seen_of view more ≡ seen_of view (commands.Send Client connected_text ∷ owed_over (stack_chain conv client) stage prefix)

abbrev pub Tells : ℕ → Visitor → Opening → ℕ → List ℕ → Bool → ℕ → Child → List Command → Type 0
Tells conv client kept server rest closed moment next more = (tunnel : Tunnel) (link : Link) (since : Since) (prefix : List (Timed Event)) →
    MayDecide tunnel link since prefix kept server rest closed moment → TellsThere conv client next more (undecided tunnel link since) prefix

-- ---- another proxy, which is asked for a tunnel

-- The proxy was sent what asks for a tunnel, and its answer is awaited; whether the client had closed.
pub record IsAsking (kept : KeptGoal) (server : ℕ) (closed : Bool) (next : Child) : Type 0 where
  pub asked : UpstreamTunnel
  pub heard : HasHeard asked []
  pub is : next ≡ children.Reaching (record { asked = asked; server = server; closed_before = closed; goal = kept })

pub record AsksFor (kept : Opening) (server : ℕ) (closed : Bool) (next : Child) (out longer : List Command) : Type 0 where
  pub gives : longer ≡ out ++ commands.Send (Server server) (connect_text kept.address) ∷ []
  pub next_is : IsAsking (goals.Tunnel kept closed) server closed next

-- what waits for the proxy is kept somewhere
pub record IsGoalSomewhere (kept : KeptGoal) : Type 0 where
  pub conv : ℕ
  pub client : Visitor
  pub goal : Goal
  pub link : Link
  pub prefix : List (Timed Event)
  pub at : IsGoal conv client goal link prefix kept

-- What it kept behind an event: the client's bytes and close, and for a flow what a parked side did.
abbrev pub HearsGoal : ℕ → Visitor → KeptGoal → KeptGoal → ℕ → Event → Type 0
HearsGoal conv client before after moment event = (goal : Goal) (link : Link) (prefix : List (Timed Event)) →
    IsGoal conv client goal link prefix before → IsGoal conv client goal link (prefix ++ (record { moment = moment; value = event }) ∷ []) after

-- its answer was read, over a prefix at this moment: what came of the server behind its head, or whether its side closed
pub record MayGoOn (conv : ℕ) (client : Visitor) (goal : Goal) (link : Link) (since : Since) (prefix : List (Timed Event)) (server : ℕ) (kept : KeptGoal) (moment : ℕ) : Type 0 where
  pub same : server ≡ link.server
  pub opened : link.opened ≤ length prefix
  pub come : since.events ≤ length prefix
  pub waiting : IsGoal conv client goal link prefix kept
  pub now : moment ≡ now_over since prefix

pub record IsLetThrough (link : Link) (prefix : List (Timed Event)) (rest : List ℕ) : Type 0 where
  pub used : ℕ
  pub answer : answer_of link prefix ≡ granted used
  pub unshut : closed_of link.server (drop link.opened prefix) ≡ false
  pub rest_is : rest ≡ drop used (text_of link.server (drop link.opened prefix))

-- whether its side closed, and whether the client had closed before it was connected
pub record IsTurnedAway (link : Link) (prefix : List (Timed Event)) (shut before : Bool) : Type 0 where
  pub answer : answer_of link prefix ≡ refused
  pub shut_is : shut ≡ closed_of link.server (drop link.opened prefix)
  pub before_is : before ≡ closed_before link prefix

abbrev pub LetsThrough : ℕ → Visitor → ℕ → KeptGoal → List ℕ → ℕ → Child → List Command → Type 0
LetsThrough conv client server kept rest moment next more = (goal : Goal) (link : Link) (since : Since) (prefix : List (Timed Event)) →
    MayGoOn conv client goal link since prefix server kept moment → IsLetThrough link prefix rest → Arrives conv client next more (reaching goal link since) prefix

abbrev pub TurnsAway : ℕ → Visitor → ℕ → KeptGoal → Bool → Bool → ℕ → Child → List Command → Type 0
TurnsAway conv client server kept shut before moment next more = (goal : Goal) (link : Link) (since : Since) (prefix : List (Timed Event)) →
    MayGoOn conv client goal link since prefix server kept moment → IsTurnedAway link prefix shut before → Arrives conv client next more (reaching goal link since) prefix

-- it was let through somewhere
pub record CanGoOn (server : ℕ) (kept : KeptGoal) (rest : List ℕ) (moment : ℕ) : Type 0 where
  pub conv : ℕ
  pub client : Visitor
  pub goal : Goal
  pub link : Link
  pub since : Since
  pub prefix : List (Timed Event)
  pub may : MayGoOn conv client goal link since prefix server kept moment
  pub through : IsLetThrough link prefix rest

-- ---- where the way to the server of a flow stands

-- these are the server's bytes behind the proxy's head, and its side has not closed
pub record IsBehind (link : Link) (used : ℕ) (prefix : List (Timed Event)) (rest : List ℕ) : Type 0 where
  pub unshut : closed_of link.server (drop link.opened prefix) ≡ false
  pub rest_is : rest ≡ text_behind link used prefix
  pub within : used ≤ length (text_of link.server (drop link.opened prefix))

-- the flow goes on
abbrev pub flow_reached : ℕ → Visitor → Place → Dialling → Link → ℕ → Since → List (Timed Event) → Turn Stage Command
flow_reached conv client place from link used since prefix =
    owing conv client (reached_owes from.sent place from.flow link.server)
    (pass_flows conv client place (connected_on place from (way_to link used prefix) (from_here (now_over since prefix) prefix)) prefix)

pub record LeadsThere (conv : ℕ) (client : Visitor) (next : Child) (more owed : List Command) (stage : Stage) (prefix : List (Timed Event)) : Type 0 where
  pub there : IsChild conv client next stage prefix
  pub gives : (view : View) → seen_of view more ≡ seen_of view (owed ++ owed_here (stack_chain conv client) stage prefix)

abbrev pub Leads : List ℕ → Box HttpConv → List ℕ → ℕ → Child → List Command → Type 0
Leads key flows rest moment next more = (conv : ℕ) (client : Visitor) (place : Place) (from : Dialling) (link : Link) (since : Since) (prefix : List (Timed Event)) (used : ℕ) →
    client.key ≡ key → MayGoOn conv client (a_flow place from) link since prefix link.server (goals.Flow flows) moment → IsBehind link used prefix rest →
    LeadsThere conv client next more (flow_reached conv client place from link used since prefix).owed (flow_reached conv client place from link used since prefix).stage prefix

-- and it may, somewhere
pub record CanReach (flows : Box HttpConv) (rest : List ℕ) (moment : ℕ) : Type 0 where
  pub conv : ℕ
  pub client : Visitor
  pub place : Place
  pub from : Dialling
  pub link : Link
  pub since : Since
  pub prefix : List (Timed Event)
  pub used : ℕ
  pub may : MayGoOn conv client (a_flow place from) link since prefix link.server (goals.Flow flows) moment
  pub behind : IsBehind link used prefix rest

-- It is refused: the flow ends by that, with the proxy's side.
abbrev pub EndsRefused : Option Flow → ℕ → Used → Bool → List Command → List Command → Type 0
EndsRefused dialled moment used closed out longer = (flow : Flow) → dialled ≡ Some flow → longer ≡ out ++ ends_by_fault flow UpstreamRefused moment used closed

-- The reply is not the connection of another proxy.
abbrev pub IsPlain : HttpConv → Reply → Type 0
IsPlain flows reply = reply ≡ replies.Dialled → led_to flows.stream.terms.place flows.stream.phase ≡ None

-- ---- what follows HTTP

-- Where it stands, and what it owes there beside what HTTP did; and no more asks may follow.
pub record FollowsAt (conv : ℕ) (client : Visitor) (flows : HttpConv) (next : Child) (more : List Command) (place : Place) (standing : Standing) (prefix : List (Timed Event)) : Type 0 where
  pub there : IsChild conv client next (follows_to conv client place standing prefix).stage prefix
  pub gives : (view : View) → seen_of view (owed_here (flows_at conv client place) standing prefix) ++ seen_of view more
      ≡ seen_of view ((follows_to conv client place standing prefix).owed ++ owed_here (stack_chain conv client) (follows_to conv client place standing prefix).stage prefix)
  pub left : left_by next ≤ sequence_left flows.stream + tunnel_left place

abbrev pub Follows : List ℕ → ℕ → HttpConv → Child → List Command → Type 0
Follows key moment flows next more = (conv : ℕ) (client : Visitor) (place : Place) (standing : Standing) (prefix : List (Timed Event)) →
    client.key ≡ key → moment ≡ now_over standing.since prefix → IsInFlows conv client place flows standing prefix → StaysInTime (terms_of conv client.address place) standing prefix →
    FollowsAt conv client flows next more place standing prefix

-- what HTTP asked is asked, or it asked nothing
abbrev pub AsksBehind : HttpConv → Child → List Command → List Command → Type 0
AsksBehind flows next out longer = (before : List Command) → AsksOnly (awaits flows) before out → AsksOnly (awaited_by next) before longer

-- ---- calls

abbrev pub TakesChild : ℕ → Visitor → Child → Child → ℕ → Event → List Command → Type 0
TakesChild conv client child next moment event more = (stage : Stage) (prefix : List (Timed Event)) → IsChild conv client child stage prefix →
    Takes (stack_chain conv client) (IsChild conv client) next moment event more stage prefix

abbrev pub ResumesChild : ℕ → Visitor → Child → Child → ℕ → Reply → List Command → Type 0
ResumesChild conv client child next moment reply more = (stage : Stage) (prefix : List (Timed Event)) → IsChild conv client child stage prefix →
    Resumes (stack_chain conv client) (IsChild conv client) next moment reply more stage prefix
