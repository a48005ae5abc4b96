-- Where a conversation is: what it keeps at a stage and over a prefix.
use Rattle.std.specs.Prelude.{◌≡◌, ◌≤◌, ◌<◌, ◌+◌, ℕ, Bool, true, false, List, [], length, drop, Option, Some, None}
use Rattle.std.specs.Global.{Box}
use Rattle.px_event.specs.declared.command.Command.{Command}
use Rattle.px_event.specs.declared.event.Event.{Event}
use Rattle.px_event.specs.declared.side.Side.TheVariants.{Client, Server}
use Rattle.px_event.specs.Chain.{Timed, Look, NotYet, Asks, Ends}
use Rattle.px_exchange.specs.declared.place.Place.{Place}
use Rattle.px_exchange.specs.declared.place.Place.TheVariants as places
use Rattle.px_exchange.specs.declared.terms.Terms.{Terms}
use Rattle.px_exchange.specs.Places.{terms_of}
use Rattle.px_chain.specs.Chain.{look}
use Rattle.px_chain.specs.Sights.{Standing, sight_over}
use Rattle.px_chain.specs.Stages.{At, busy, connection, unparked}
use Rattle.px_chain.specs.Streams.{Since, bytes_of, client_closed}
use Rattle.px_http.specs.declared.conversation.HttpConv.{HttpConv}
use Rattle.px_http.specs.Stands.{HttpStands}
use Rattle.px_message.specs.declared.address.Address.{Address}
use Rattle.px_message.specs.declared.flow.Flow.{Flow}
use Rattle.px_relay.specs.declared.layer.WsLayer.{WsLayer}
use Rattle.px_relay.specs.Sights.{no_rests as nothing_left}
use Rattle.px_relay.specs.Stages.{Stage as Frames}
use Rattle.px_relay.specs.Stands.{IsIn}
use Rattle.px_socks.specs.declared.layer.SocksLayer.{SocksLayer}
use Rattle.px_socks.specs.Stages.{Stage as Front, greeting, nothing_seen}
use Rattle.px_socks.specs.Stands.{IsIn as IsInFront}
use Rattle.px_stream.specs.Anywhere.{IsInSequence}
use Rattle.px_stream.specs.Tells.{IsDialling}
use Rattle.px_tunnel.specs.Reaching.{HasHeard}
use Rattle.px_tunnel.specs.Stands.{has_ended, rests_of, server_of}
use Rattle.px_tunnel.specs.Tunnel.{no_rests}
use Rattle.px_stack.specs.declared.child.Child.{Child}
use Rattle.px_stack.specs.declared.child.Child.TheVariants as children
use Rattle.px_stack.specs.declared.child.Goal.{Goal as KeptGoal}
use Rattle.px_stack.specs.declared.child.Goal.TheVariants as goals
use Rattle.px_stack.specs.declared.child.Opening.{Opening}
use Rattle.px_stack.specs.declared.child.Reaching.{Reaching}
use Rattle.px_stack.specs.declared.child.Relay.{Relay}
use Rattle.px_stack.specs.Chain.{closed_before, closed_of, first_at, front_sight, has_answered, opening_text, socket_sight, socket_terms, stack_chain, text_of}
use Rattle.px_stack.specs.Decides.{decided, still}
use Rattle.px_stack.specs.Stages.{Dialling, Ends as TunnelEnds, Goal, Link, Stage, Tunnel, Visitor, a_flow, a_tunnel, asking, connecting, http, over, raw, reaching, socket, undecided}

-- ---- HTTP

-- how many servers more than flows there may have been before HTTP began at a place: a side that is connected was dialled by no flow
abbrev pub ahead_at : Place → ℕ
ahead_at (places.Fixed address inside) = 1
ahead_at place = 0

abbrev pub IsInFlows : ℕ → Visitor → Place → HttpConv → Standing → List (Timed Event) → Type 0
IsInFlows conv client place flows standing prefix = IsInSequence (terms_of conv client.address place) (ahead_at place) flows.stream standing prefix

-- ---- a CONNECT, and what follows it

-- the numbers that follow, where it leads and what the client has sent behind it
pub record IsOpening (tunnel : Tunnel) (prefix : List (Timed Event)) (kept : Opening) : Type 0 where
  pub flow : kept.flow ≡ tunnel.at.flow
  pub dials : kept.dials ≡ tunnel.at.dials
  pub address : kept.address ≡ tunnel.address
  pub proxy : kept.proxy ≡ tunnel.proxy
  pub rest : kept.rest ≡ opening_text tunnel prefix
  pub few : tunnel.at.flow < 1000000
  pub used : tunnel.used ≤ length (bytes_of Client prefix)

-- its server is connected: it is the last that was dialled, and no flow has dialled it
pub record IsOpened (tunnel : Tunnel) (link : Link) (since : Since) (prefix : List (Timed Event)) (kept : Opening) (server : ℕ) : Type 0 where
  pub opening : IsOpening tunnel prefix kept
  pub same : server ≡ link.server
  pub last : tunnel.at.dials ≡ link.server + 1
  pub dials : link.server ≤ tunnel.at.flow
  pub opened : link.opened ≤ length prefix
  pub come : since.events ≤ length prefix
  pub used : link.used ≤ length (bytes_of (Server link.server) (drop link.opened prefix))

-- another proxy is asked for it; whether the client has closed
pub record IsAskedFor (tunnel : Tunnel) (link : Link) (prefix : List (Timed Event)) (kept : Opening) (closed : Bool) : Type 0 where
  pub opening : IsOpening tunnel prefix kept
  pub last : tunnel.at.dials ≡ link.server + 1
  pub dials : link.server ≤ tunnel.at.flow
  pub client : closed ≡ client_closed prefix

-- Where the client has closed, it closed since the open side was connected, if one is: behind the client's close that side was not heard either.
abbrev pub InTime : Standing → List (Timed Event) → Type 0
InTime standing prefix = client_closed prefix ≡ true → client_closed (drop standing.opened prefix) ≡ true

-- so it is, unless the end is found there
abbrev pub StaysInTime : Terms → Standing → List (Timed Event) → Type 0
StaysInTime terms standing prefix = ((owed : List Command) → look terms standing.stage (sight_over standing prefix) ≡ Ends owed → ⊥) → InTime standing prefix

-- or for the way of a flow, whose dial has connected the proxy
pub record IsLedOn (conv : ℕ) (client : Visitor) (place : Place) (from : Dialling) (link : Link) (prefix : List (Timed Event)) (flows : HttpConv) : Type 0 where
  pub standing : Standing
  pub at : At
  pub stage : standing.stage ≡ busy at from.flow (connection from.sent)
  pub from_is : from.at ≡ unparked at
  pub used_is : from.used ≡ standing.used.client
  pub there : IsInFlows conv client place flows standing prefix
  pub in_time : InTime standing prefix
  pub dialled : link.server ≡ from.at.dials
  -- the answer to its dial is awaited
  pub waits : IsDialling flows.stream.phase

abbrev pub IsGoal : ℕ → Visitor → Goal → Link → List (Timed Event) → KeptGoal → Type 0
IsGoal conv client (a_tunnel tunnel) link prefix (goals.Tunnel kept closed) = IsAskedFor tunnel link prefix kept closed
IsGoal conv client (a_flow place from) link prefix (goals.Flow flows) = IsLedOn conv client place from link prefix flows.value
IsGoal conv client goal link prefix kept = ⊥

-- a tunnel has handed on all that has come, and no side has closed
pub record IsRelay (ends : TunnelEnds) (prefix : List (Timed Event)) (kept : Relay) : Type 0 where
  pub same : kept.server ≡ ends.link.server
  pub server : server_of kept.tunnel ≡ ends.link.server
  pub rests : rests_of kept.tunnel ≡ no_rests
  pub goes_on : has_ended kept.tunnel ≡ false
  pub flow : kept.flow ≡ ends.flow
  pub used : ends.used ≤ length (bytes_of Client prefix)
  pub side_used : ends.link.used ≤ length (bytes_of (Server ends.link.server) (drop ends.link.opened prefix))
  pub opened : ends.link.opened ≤ length prefix

-- a WebSocket's layer stands at its stage, in what is seen of the two sides
pub record IsFraming (key : List ℕ) (ends : TunnelEnds) (flow : Flow) (frames : Frames) (prefix : List (Timed Event)) (layer : WsLayer) : Type 0 where
  pub there : IsIn (socket_terms key ends flow) layer frames (socket_sight ends prefix)
  pub rests : layer.rests ≡ nothing_left
  pub used : ends.used ≤ length (bytes_of Client prefix)
  pub side_used : ends.link.used ≤ length (bytes_of (Server ends.link.server) (drop ends.link.opened prefix))
  pub opened : ends.link.opened ≤ length prefix

-- ---- by the stage

pub record IsAsking (front : Front) (prefix : List (Timed Event)) (child : Child) : Type 0 where
  pub layer : SocksLayer
  pub is : child ≡ children.Asking layer
  pub there : IsInFront layer front (front_sight prefix)

pub record IsHttp (conv : ℕ) (client : Visitor) (place : Place) (standing : Standing) (prefix : List (Timed Event)) (child : Child) : Type 0 where
  pub flows : Box HttpConv
  pub is : child ≡ children.Http flows
  pub there : IsInFlows conv client place flows.value standing prefix
  pub in_time : InTime standing prefix

pub record IsConnecting (tunnel : Tunnel) (prefix : List (Timed Event)) (child : Child) : Type 0 where
  pub kept : Opening
  pub closed : Bool
  pub is : child ≡ children.Connecting kept closed
  pub opening : IsOpening tunnel prefix kept
  pub dials : tunnel.at.dials ≤ tunnel.at.flow
  pub client : closed ≡ client_closed prefix

-- nothing is decided by what has come of the proxy, which has not closed
pub record IsReaching (conv : ℕ) (client : Visitor) (goal : Goal) (link : Link) (since : Since) (prefix : List (Timed Event)) (child : Child) : Type 0 where
  pub kept : Reaching
  pub is : child ≡ children.Reaching kept
  pub server : kept.server ≡ link.server
  pub before : kept.closed_before ≡ closed_before link prefix
  pub opened : link.opened ≤ length prefix
  pub come : since.events ≤ length prefix
  pub heard : HasHeard kept.asked (text_of link.server (drop link.opened prefix))
  pub unshut : closed_of link.server (drop link.opened prefix) ≡ false
  pub waiting : IsGoal conv client goal link prefix kept.goal

pub record IsUndecided (tunnel : Tunnel) (link : Link) (since : Since) (prefix : List (Timed Event)) (child : Child) : Type 0 where
  pub kept : Opening
  pub server : ℕ
  pub is : child ≡ children.Undecided kept server
  pub opened : IsOpened tunnel link since prefix kept server
  pub decides : decided (opening_text tunnel prefix) (has_answered link prefix) ≡ still

pub record IsRaw (ends : TunnelEnds) (prefix : List (Timed Event)) (child : Child) : Type 0 where
  pub kept : Relay
  pub is : child ≡ children.Raw kept
  pub relay : IsRelay ends prefix kept

pub record IsSocket (key : List ℕ) (ends : TunnelEnds) (flow : Flow) (frames : Frames) (prefix : List (Timed Event)) (child : Child) : Type 0 where
  pub layer : Box WsLayer
  pub is : child ≡ children.Socket layer
  pub framing : IsFraming key ends flow frames prefix layer.value

-- what a conversation of this number begins with, whose client is there: HTTP at its place, or SOCKS
pub record IsFirstHttp (conv : ℕ) (peer : Address) (place : Place) (child : Child) : Type 0 where
  pub flows : Box HttpConv
  pub is : child ≡ children.Http flows
  pub terms : flows.value.stream.terms ≡ terms_of conv (Some peer) place
  pub at : flows.value.stream.at ≡ first_at
  pub stands : HttpStands flows.value flows.value [] []

pub record IsFirstAsking (child : Child) : Type 0 where
  pub layer : SocksLayer
  pub is : child ≡ children.Asking layer
  pub there : IsInFront layer greeting nothing_seen

abbrev pub IsFirst : ℕ → Address → Option Place → Child → Type 0
IsFirst conv peer (Some place) child = IsFirstHttp conv peer place child
IsFirst conv peer None child = IsFirstAsking child

abbrev pub Keeps : ℕ → Visitor → Child → Stage → List (Timed Event) → Type 0
Keeps conv client child (asking front) prefix = IsAsking front prefix child
Keeps conv client child (http place standing) prefix = IsHttp conv client place standing prefix child
Keeps conv client child (connecting tunnel) prefix = IsConnecting tunnel prefix child
Keeps conv client child (reaching goal link since) prefix = IsReaching conv client goal link since prefix child
Keeps conv client child (undecided tunnel link since) prefix = IsUndecided tunnel link since prefix child
Keeps conv client child (raw ends) prefix = IsRaw ends prefix child
Keeps conv client child (socket ends flow frames) prefix = IsSocket client.key ends flow frames prefix child
Keeps conv client child over prefix = ⊥

-- where the end is found nothing is kept
abbrev pub KeepsBy : Look Command → ℕ → Visitor → Child → Stage → List (Timed Event) → Type 0
KeepsBy NotYet conv client child stage prefix = Keeps conv client child stage prefix
KeepsBy (Asks ask) conv client child stage prefix = Keeps conv client child stage prefix
KeepsBy (Ends owed) conv client child stage prefix = child ≡ children.Over

-- What is kept where the walk stopped at this stage and over this prefix.
abbrev pub IsChild : ℕ → Visitor → Child → Stage → List (Timed Event) → Type 0
IsChild conv client child stage prefix = KeepsBy ((stack_chain conv client).look stage prefix) conv client child stage prefix

-- and it is so somewhere
abbrev pub IsSomewhere : ℕ → Visitor → Child → Type 0
IsSomewhere conv client child = (stage : Stage) × (prefix : List (Timed Event)) × IsChild conv client child stage prefix
