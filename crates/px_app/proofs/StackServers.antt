-- The dials that are due in a conversation are numbered by their order: that for a client of SOCKS, those of HTTP, that of a CONNECT, and those of HTTP inside it. A proxy
-- that is asked for a tunnel stands behind its dial, and a WebSocket dials nothing.
use Rattle.std.proofs.Common.{◌≡◌, ◌∙◌, ℕ, ◌+◌, Bool, true, false, List, [], ◌∷◌, ◌++◌, length, Option, Some, None, refl, sym, ap, subst}
use Rattle.std.specs.Prelude.{⊤, ◌||◌}
use Rattle.px_message.specs.declared.address.Address.{Address}
use Rattle.px_message.specs.declared.flow.Flow.{Flow}
use Rattle.px_event.specs.declared.command.Command.{Command}
use Rattle.px_event.specs.declared.command.Command.TheVariants as commands
use Rattle.px_event.specs.declared.event.Event.{Event}
use Rattle.px_event.specs.declared.reply.Reply.{Reply}
use Rattle.px_event.specs.declared.reply.Reply.TheVariants as reply
use Rattle.px_event.specs.declared.side.Side.TheVariants.{Client, Server}
use Rattle.px_event.specs.Chain.{Timed, Look, NotYet, Asks, Ends, Turn, found}
use Rattle.px_event.specs.Layer.{Move}
use Rattle.px_exchange.specs.declared.mode.Mode.{Mode}
use Rattle.px_exchange.specs.declared.place.Place.{Place}
use Rattle.px_exchange.specs.declared.place.Place.TheVariants as places
use Rattle.px_exchange.specs.Places.{dialled_for, place_of, terms_of}
use Rattle.px_exchange.specs.Endings.{shut_all, shut_client, shut_server}
use Rattle.px_exchange.specs.declared.ending.Used.{Used}
use Rattle.px_exchange.specs.declared.ending.Used.TheVariants.{NoServer, ByServer}
use Rattle.px_chain.specs.Chain.{Connect, connect_in, look as look_of}
use Rattle.px_chain.specs.Keeping.{unspoilt_at}
use Rattle.px_chain.specs.Sights.{Sight, Standing, request_in, sight_over}
use Rattle.px_chain.specs.Stages.{At, Parked, Sent, all_sent, busy, coming_down, connection, given_body, given_head, going_up, idle, next, request_body, response_body, response_head, upgraded}
use Rattle.px_chain.specs.Stages as flows
use Rattle.px_chain.specs.Streams.{Since, client_closed, from_here, now_over}
use Rattle.px_tunnel.specs.Upstream.{Granting, awaited, granted, refused}
use Rattle.px_relay.specs.Chain as relay
use Rattle.px_relay.specs.Sending.{Terms}
use Rattle.px_relay.specs.Sights.{Sight as SocketSight}
use Rattle.px_relay.specs.Stages.{Stage as Frames, holding, over as ended, relaying}
use Rattle.px_socks.specs.Chain as socks
use Rattle.px_socks.specs.FrontLaws.{AllToClient, pass_to_client, turn_to_client}
use Rattle.px_socks.specs.Stages as fronts
use Rattle.px_socks.specs.Stages.{Stage as Front}
use Rattle.px_stack.specs.Chain.{answer_of, at_front, begins, begins_by, begun, closed_before, closes_all, connected_on, finished_flow, flows_at, follows, front_sight, goes_by, hands_by, hands_over, has_answered, is_shut, led_at, led_by, opening_look, opening_text, or_stays, owed_at_handing, pass_flows, pass_http, pass_reached, pass_socket, raw_look, shut_parked, socket_sight, socket_terms, stack_chain, tunnel_for, tunnel_found, turn_connected, turn_dial, turn_front, turn_http, upgrades, used_proxy, way_to}
use Rattle.px_stack.specs.Decides.{Decision, decided, is_http, is_raw, still}
use Rattle.px_stack.specs.Frames.{AreSaid, pass_says, turn_says}
use Rattle.px_stack.specs.Modes.{mode_due}
use Rattle.px_stack.specs.Sockets.{is_websocket}
use Rattle.px_stack.specs.Stages.{Dialling, Ends as TunnelEnds, Goal, Link, Stage, Tunnel, Visitor, a_flow, a_tunnel, asking, connecting, http, over, raw, reaching, socket, undecided}
use Rattle.px_stream.specs.Anywhere.{reached_owes}
use Rattle.px_resend.specs.Dialled.{dials_in}
use Rattle.px_app.specs.Servers.{CountsFrom}
use Rattle.px_app.proofs.HttpServers.{Dialled, DialledAt, counts as flows_count}
use Rattle.px_app.proofs.ServerLemmas.{CountsDials, dials_more, due_counts}

-- so many servers were dialled before the stage, or nothing is dialled any more
abbrev DialledFor : ℕ → Goal → Type 0
DialledFor n (a_tunnel tunnel) = tunnel.at.dials ≡ n
DialledFor n (a_flow place from) = from.at.dials + 1 ≡ n

-- For a client of SOCKS none was.
abbrev DialledSo : ℕ → Stage → Type 0
DialledSo n (asking front) = 0 ≡ n
DialledSo n (http place standing) = DialledAt n standing
DialledSo n (connecting tunnel) = tunnel.at.dials ≡ n
DialledSo n (reaching goal link since) = DialledFor n goal
DialledSo n (undecided tunnel link since) = tunnel.at.dials ≡ n
DialledSo n (raw ends) = ⊤
DialledSo n (socket ends flow frames) = ⊤
DialledSo n over = ⊤

-- ---- closes dial nothing

none_both : (xs ys : List Command) → dials_in xs ≡ [] → dials_in ys ≡ [] → dials_in (xs ++ ys) ≡ []
none_both xs ys first more = dials_more xs ys ∙ (ap (λ l. l ++ dials_in ys) first ∙ more)

server_none : (used : Used) → dials_in (shut_server used) ≡ []
server_none NoServer = refl
server_none (ByServer server true) = refl
server_none (ByServer server false) = refl

client_none : (closed : Bool) → dials_in (shut_client closed) ≡ []
client_none true = refl
client_none false = refl

all_none : (used : Used) (closed : Bool) → dials_in (shut_all used closed) ≡ []
all_none used closed = none_both (shut_server used) (shut_client closed) (server_none used) (client_none closed)

flow_none : (flow : Option Flow) → dials_in (finished_flow flow) ≡ []
flow_none None = refl
flow_none (Some flow) = refl

-- nor the close of a side that was parked
parked_none : (parked : Option Parked) → dials_in (shut_parked parked) ≡ []
parked_none None = refl
parked_none (Some parked) = refl

-- what HTTP owed while it waited dials nothing where it hands over
handed_none : (to : Option Stage) (owed : List Command) → dials_in owed ≡ [] → dials_in (owed_at_handing to owed) ≡ []
handed_none None owed none = refl
handed_none (Some to) owed none = none

found_none : (closed : Bool) (owed : List Command) → dials_in owed ≡ [] → dials_in (found (tunnel_found closed owed)) ≡ []
found_none true owed none = none
found_none false owed none = refl

-- the frames of a WebSocket dial nothing
said_none : (terms : Terms) (to : Frames) (owed : List Command) → AreSaid terms to owed → dials_in owed ≡ []
said_none terms to [] said = refl
said_none terms to (commands.Send side text ∷ owed) (here, said) = said_none terms to owed said
said_none terms to (commands.Close side ∷ owed) (here, said) = said_none terms to owed said
said_none terms to (commands.Dial server address inside ∷ owed) (here, said) = absurd here
said_none terms to (commands.Ask ask flow ∷ owed) (here, said) = absurd here
said_none terms to (commands.Done flow ∷ owed) (here, said) = said_none terms to owed said

frames_none : (terms : Terms) (frames : Frames) → dials_in (found (relay.look terms frames)) ≡ []
frames_none terms (relaying at) = refl
frames_none terms (holding from message at) = refl
frames_none terms ended = refl

-- what a client of SOCKS is told dials nothing
clients_none : (owed : List Command) → AllToClient owed → dials_in owed ≡ []
clients_none [] are = refl
clients_none (commands.Send Client text ∷ owed) (here, are) = clients_none owed are
clients_none (commands.Send (Server server) text ∷ owed) (here, are) = absurd here
clients_none (commands.Close Client ∷ owed) (here, are) = clients_none owed are
clients_none (commands.Close (Server server) ∷ owed) (here, are) = absurd here
clients_none (commands.Dial server address inside ∷ owed) (here, are) = absurd here
clients_none (commands.Ask ask flow ∷ owed) (here, are) = absurd here
clients_none (commands.Done flow ∷ owed) (here, are) = absurd here

-- a flow that is connected through another proxy dials nothing more
reached_none : (how : Sent) (place : Place) (flow : Flow) (server : ℕ) → dials_in (reached_owes how place flow server) ≡ []
reached_none all_sent place flow server = refl
reached_none going_up place flow server = refl

-- a list of no dials counts from anywhere
counts_none : (n : ℕ) (list : List Command) → dials_in list ≡ [] → CountsFrom n (dials_in list)
counts_none n list none = let P : List ℕ → Type 0 = CountsFrom n in subst P (sym none) tt

module _ (conv : ℕ) (client : Visitor) where
  -- ---- where a stage goes on to

  tunnel_dialled : (n : ℕ) (place : Place) (standing : Standing) (used : ℕ) (at : At) (connect : Option Connect) → DialledAt n standing → at.dials ≡ n →
      DialledSo n (or_stays (http place standing) (tunnel_for place used at connect))
  tunnel_dialled n place standing used at None is here = is
  tunnel_dialled n place standing used at (Some connect) is here = here

  upgrades_dialled : (n : ℕ) (is : Bool) (flow : Flow) (moment : ℕ) (ends : TunnelEnds) → DialledSo n (upgrades is flow moment ends)
  upgrades_dialled n true flow moment ends = tt
  upgrades_dialled n false flow moment ends = tt

  hands_dialled : (n : ℕ) (place : Place) (standing : Standing) (stage : flows.Stage) (seen : Sight) → DialledAt n standing → Dialled n stage →
      DialledSo n (or_stays (http place standing) (hands_by place standing stage seen))
  hands_dialled n place standing (idle at) seen is here = tunnel_dialled n place standing standing.used.client (unspoilt_at at seen) (connect_in place (request_in seen)) is here
  hands_dialled n place standing (busy at flow (request_body given most)) seen is here = is
  hands_dialled n place standing (busy at flow (connection how)) seen is here = is
  hands_dialled n place standing (busy at flow (response_head side how)) seen is here = is
  hands_dialled n place standing (busy at flow (response_body side how most)) seen is here = is
  hands_dialled n place standing (busy at flow (coming_down side how)) seen is here = is
  hands_dialled n place standing (busy at flow (upgraded side)) seen is here = upgrades_dialled n (is_websocket flow seen.closed) flow seen.now _
  hands_dialled n place standing (busy at flow given_head) seen is here = is
  hands_dialled n place standing (busy at flow given_body) seen is here = is
  hands_dialled n place standing (next at) seen is here = is
  hands_dialled n place standing flows.over seen is here = is

  follows_dialled : (n : ℕ) (d : Decision) (tunnel : Tunnel) (link : Link) (since : Since) → tunnel.at.dials ≡ n → DialledSo n (follows d tunnel link since)
  follows_dialled n still tunnel link since is = is
  follows_dialled n is_http tunnel link since is = is
  follows_dialled n is_raw tunnel link since is = tt

  flows_counts : (place : Place) → CountsDials (flows_at conv client place) DialledAt
  flows_counts place = flows_count (terms_of conv client.address place)

  goes_dialled : (n : ℕ) (closed : Bool) (tunnel : Tunnel) (link : Link) (since : Since) (prefix : List (Timed Event)) → tunnel.at.dials ≡ n →
      DialledSo n (goes_by closed tunnel link since prefix)
  goes_dialled n true tunnel link since prefix is = is
  goes_dialled n false tunnel link since prefix is = follows_dialled n (decided (opening_text tunnel prefix) (has_answered link prefix)) tunnel link since is

  -- a WebSocket
  socket_none : (ends : TunnelEnds) (flow : Flow) (frames : Frames) (prefix : List (Timed Event)) → dials_in (pass_socket conv client ends flow frames prefix).owed ≡ []
  socket_none ends flow frames prefix =
      let terms : Terms = socket_terms client.key ends flow in
      let on : Turn Frames Command = relay.pass terms frames (socket_sight ends prefix) in
      said_none terms on.stage on.owed (pass_says terms (socket_sight ends prefix) frames)

  begun_dialled : (n : ℕ) (stage : Stage) (prefix : List (Timed Event)) → DialledSo n stage →
      (dials_in (begun conv client stage prefix).owed ≡ []) × DialledSo n (begun conv client stage prefix).stage
  begun_dialled n (asking front) prefix is = (refl, is)
  begun_dialled n (http place standing) prefix is = (refl, is)
  begun_dialled n (connecting tunnel) prefix is = (refl, is)
  begun_dialled n (reaching goal link since) prefix is = (refl, is)
  begun_dialled n (undecided tunnel link since) prefix is = (refl, is)
  begun_dialled n (raw ends) prefix is = (refl, tt)
  begun_dialled n (socket ends flow frames) prefix is = (socket_none ends flow frames prefix, tt)
  begun_dialled n over prefix is = (refl, tt)

  -- HTTP passes on, and what follows it begins
  flows_pass : (n : ℕ) (place : Place) (standing : Standing) (prefix : List (Timed Event)) → DialledAt n standing →
      (dials_in (pass_flows conv client place standing prefix).owed ≡ []) × DialledSo n (pass_flows conv client place standing prefix).stage
  flows_pass n place standing prefix is =
      let on = (flows_at conv client place).pass standing prefix in
      let knows = (flows_counts place).pass n standing prefix is in
      let to : Stage = pass_http conv client place on.stage prefix in
      let further = begun_dialled n to prefix (hands_dialled n place on.stage on.stage.stage (sight_over on.stage prefix) knows.1 knows.1) in
      let handed : List Command = owed_at_handing (hands_over place on.stage prefix) ((flows_at conv client place).so_far on.stage prefix) in
      let waited : dials_in handed ≡ [] = handed_none (hands_over place on.stage prefix) ((flows_at conv client place).so_far on.stage prefix) ((flows_counts place).so_far on.stage prefix) in
      let rest : List Command = (begun conv client to prefix).owed in
      (none_both on.owed (handed ++ rest) knows.0 (none_both handed rest waited further.0), further.1)

  -- ---- a client of SOCKS

  front_dialled : (n : ℕ) (front : Front) → 0 ≡ n → DialledSo n (at_front front)
  front_dialled n fronts.greeting is = is
  front_dialled n (fronts.requesting used) is = is
  front_dialled n (fronts.dialling used address) is = is
  front_dialled n (fronts.opened used address) is = is
  front_dialled n fronts.over is = tt

  front_finds : (n : ℕ) (front : Front) → 0 ≡ n → CountsFrom n (dials_in (found (socks.look front)))
  front_finds n fronts.greeting is = tt
  front_finds n (fronts.requesting used) is = tt
  front_finds n (fronts.dialling used address) is = (is, tt)
  front_finds n (fronts.opened used address) is = tt
  front_finds n fronts.over is = tt

  -- its dial was the first
  asked_dialled : (n : ℕ) (used : ℕ) (address : Address) (closed : Bool) (answer : Reply) (prefix : List (Timed Event)) (moment : ℕ) → 0 ≡ n →
      DialledSo (n + 1) (turn_front conv client (socks.turn (fronts.dialling used address) closed answer) prefix moment).stage
  asked_dialled n used address closed (reply.Go given stream) prefix moment is = tt
  asked_dialled n used address closed (reply.Respond response) prefix moment is = tt
  asked_dialled n used address closed reply.Kill prefix moment is = tt
  asked_dialled n used address closed reply.Discard prefix moment is = tt
  asked_dialled n used address closed reply.Dialled prefix moment is = ap (λ (k : ℕ). k + 1) is
  asked_dialled n used address closed (reply.Refused fault) prefix moment is = tt

  front_asked : (used : ℕ) (address : Address) (ask : Command) → socks.look (fronts.dialling used address) ≡ Asks ask → length (dials_in (ask ∷ [])) ≡ 1
  front_asked used address ask is = let P : Look Command → Type 0 = λ l. length (dials_in (found l)) ≡ 1 in subst P is refl

  front_turned : (n : ℕ) (front : Front) (ask : Command) (closed : Bool) (answer : Reply) (prefix : List (Timed Event)) (moment : ℕ) → 0 ≡ n → socks.look front ≡ Asks ask →
      DialledSo (n + length (dials_in (ask ∷ []))) (turn_front conv client (socks.turn front closed answer) prefix moment).stage
  front_turned n fronts.greeting ask closed answer prefix moment is asks = absurd (let no : NotYet ≡ Asks ask = asks in cc)
  front_turned n (fronts.requesting used) ask closed answer prefix moment is asks = absurd (let no : NotYet ≡ Asks ask = asks in cc)
  front_turned n (fronts.dialling used address) ask closed answer prefix moment is asks =
      let P : ℕ → Type 0 = λ k. DialledSo (n + k) (turn_front conv client (socks.turn (fronts.dialling used address) closed answer) prefix moment).stage in
      subst P (sym (front_asked used address ask asks)) (asked_dialled n used address closed answer prefix moment is)
  front_turned n (fronts.opened used address) ask closed answer prefix moment is asks = absurd (let no : Ends [] ≡ Asks ask = asks in cc)
  front_turned n fronts.over ask closed answer prefix moment is asks = absurd (let no : Ends [] ≡ Asks ask = asks in cc)

  -- ---- another proxy, which has answered

  reached_dialled : (n : ℕ) (goal : Goal) (link : Link) (since : Since) (prefix : List (Timed Event)) (g : Granting) → DialledFor n goal →
      (dials_in (pass_reached conv client goal link since prefix g).owed ≡ []) × DialledSo n (pass_reached conv client goal link since prefix g).stage
  reached_dialled n goal link since prefix awaited is = (refl, is)
  reached_dialled n (a_tunnel tunnel) link since prefix (granted used) is =
      (refl, goes_dialled n (client_closed prefix) tunnel (way_to link used prefix) (from_here (now_over since prefix) prefix) prefix is)
  reached_dialled n (a_flow place from) link since prefix (granted used) is =
      let to : Standing = connected_on place from (way_to link used prefix) (from_here (now_over since prefix) prefix) in
      let on = flows_pass n place to prefix is in
      (none_both (reached_owes from.sent place from.flow link.server) (pass_flows conv client place to prefix).owed (reached_none from.sent place from.flow link.server) on.0, on.1)
  reached_dialled n (a_tunnel tunnel) link since prefix refused is = (all_none (used_proxy link prefix) (closed_before link prefix), tt)
  reached_dialled n (a_flow place from) link since prefix refused is = (all_none (used_proxy link prefix) (closed_before link prefix), tt)

  passes : (n : ℕ) (stage : Stage) (prefix : List (Timed Event)) → DialledSo n stage →
      (dials_in ((stack_chain conv client).pass stage prefix).owed ≡ []) × DialledSo n ((stack_chain conv client).pass stage prefix).stage
  passes n (asking front) prefix is =
      let on : Turn Front Command = socks.pass front (front_sight prefix) in (clients_none on.owed (pass_to_client front (front_sight prefix)), front_dialled n on.stage is)
  passes n (http place standing) prefix is = flows_pass n place standing prefix is
  passes n (connecting tunnel) prefix is = (refl, is)
  passes n (reaching goal link since) prefix is = reached_dialled n goal link since prefix (answer_of link prefix) is
  passes n (undecided tunnel link since) prefix is = (refl, goes_dialled n (client_closed prefix) tunnel link since prefix is)
  passes n (raw ends) prefix is = (refl, tt)
  passes n (socket ends flow frames) prefix is = (socket_none ends flow frames prefix, tt)
  passes n over prefix is = (refl, tt)

  -- ---- what it owes and what it finds

  waits : (stage : Stage) (prefix : List (Timed Event)) → dials_in ((stack_chain conv client).so_far stage prefix) ≡ []
  waits (asking front) prefix = refl
  waits (http place standing) prefix = (flows_counts place).so_far standing prefix
  waits (connecting tunnel) prefix = refl
  waits (reaching goal link since) prefix = refl
  waits (undecided tunnel link since) prefix = refl
  waits (raw ends) prefix = refl
  waits (socket ends flow frames) prefix = refl
  waits over prefix = refl

  parts : (stage : Stage) (prefix : List (Timed Event)) → dials_in ((stack_chain conv client).behind stage prefix) ≡ []
  parts (asking front) prefix = refl
  parts (http place standing) prefix = (flows_counts place).behind standing prefix
  parts (connecting tunnel) prefix = parked_none tunnel.at.parked
  parts (reaching goal link since) prefix = refl
  parts (undecided tunnel link since) prefix = refl
  parts (raw ends) prefix = refl
  parts (socket ends flow frames) prefix = refl
  parts over prefix = refl

  opening_none : (link : Link) (prefix : List (Timed Event)) → dials_in (found (opening_look link prefix)) ≡ []
  opening_none link prefix =
      let closed : Bool = client_closed prefix in
      let shut : Bool = is_shut link prefix in
      found_none (closed || shut) (closes_all link.server shut closed) (all_none (ByServer link.server shut) closed)

  raw_none : (ends : TunnelEnds) (prefix : List (Timed Event)) → dials_in (found (raw_look ends prefix)) ≡ []
  raw_none ends prefix =
      let closed : Bool = client_closed prefix in
      let shut : Bool = is_shut ends.link prefix in
      let closes : List Command = closes_all ends.link.server shut closed in
      found_none (closed || shut) (finished_flow ends.flow ++ closes)
      (none_both (finished_flow ends.flow) closes (flow_none ends.flow) (all_none (ByServer ends.link.server shut) closed))

  looks : (n : ℕ) (stage : Stage) (prefix : List (Timed Event)) → DialledSo n stage → CountsFrom n (dials_in (found ((stack_chain conv client).look stage prefix)))
  looks n (asking front) prefix is = front_finds n front is
  looks n (http place standing) prefix is = (flows_counts place).look n standing prefix is
  looks n (connecting tunnel) prefix is = (is, tt)
  looks n (reaching goal link since) prefix is = tt
  looks n (undecided tunnel link since) prefix is = counts_none n (found (opening_look link prefix)) (opening_none link prefix)
  looks n (raw ends) prefix is = counts_none n (found (raw_look ends prefix)) (raw_none ends prefix)
  looks n (socket ends flow frames) prefix is =
      let terms : Terms = socket_terms client.key ends flow in
      counts_none n (found (relay.look terms frames)) (frames_none terms frames)
  looks n over prefix is = tt

  -- ---- what a reply brings

  connected_turns : (n : ℕ) (proxy : Option Address) (tunnel : Tunnel) (prefix : List (Timed Event)) (moment : ℕ) → tunnel.at.dials ≡ n →
      (dials_in (turn_connected conv client proxy tunnel prefix moment).owed ≡ []) × DialledSo (n + 1) (turn_connected conv client proxy tunnel prefix moment).stage
  connected_turns n None tunnel prefix moment is = (refl, ap (λ (k : ℕ). k + 1) is)
  connected_turns n (Some proxy) tunnel prefix moment is = (refl, ap (λ (k : ℕ). k + 1) is)

  dial_turns : (n : ℕ) (tunnel : Tunnel) (prefix : List (Timed Event)) (answer : Reply) (moment : ℕ) → tunnel.at.dials ≡ n →
      (dials_in (turn_dial conv client tunnel prefix answer moment).owed ≡ []) × DialledSo (n + 1) (turn_dial conv client tunnel prefix answer moment).stage
  dial_turns n tunnel prefix (reply.Go given stream) moment is = (refl, tt)
  dial_turns n tunnel prefix (reply.Respond response) moment is = (refl, tt)
  dial_turns n tunnel prefix reply.Kill moment is = (refl, tt)
  dial_turns n tunnel prefix reply.Discard moment is = (refl, tt)
  dial_turns n tunnel prefix reply.Dialled moment is = connected_turns n tunnel.proxy tunnel prefix moment is
  dial_turns n tunnel prefix (reply.Refused fault) moment is = (all_none NoServer (client_closed prefix), tt)

  dial_asked : (tunnel : Tunnel) (prefix : List (Timed Event)) (ask : Command) → (stack_chain conv client).look (connecting tunnel) prefix ≡ Asks ask → length (dials_in (ask ∷ [])) ≡ 1
  dial_asked tunnel prefix ask is = let P : Look Command → Type 0 = λ l. length (dials_in (found l)) ≡ 1 in subst P is refl

  found_asks : (closed : Bool) (owed : List Command) (ask : Command) → tunnel_found closed owed ≡ Asks ask → ⊥
  found_asks true owed ask is = let no : Ends owed ≡ Asks ask = is in cc
  found_asks false owed ask is = let no : NotYet ≡ Asks ask = is in cc

  -- ---- a flow whose dial connected another proxy

  -- it stands where its server is dialled
  abbrev IsLed : ℕ → Place → Standing → List (Timed Event) → Option Dialling → Type 0
  IsLed n place standing prefix None = ⊤
  IsLed n place standing prefix (Some from) =
      (from.at.dials ≡ n) × ((flows_at conv client place).look standing prefix ≡ Asks (commands.Dial from.at.dials (dialled_for place from.flow.request) None))

  led_is_by : (n : ℕ) (place : Place) (standing : Standing) (prefix : List (Timed Event)) (stage : flows.Stage) → standing.stage ≡ stage → Dialled n stage →
      IsLed n place standing prefix (led_by standing.used.client stage)
  led_is_by n place standing prefix (idle at) is here = tt
  led_is_by n place standing prefix (busy at flow (request_body given most)) is here = tt
  led_is_by n place standing prefix (busy at flow (connection how)) is here = (here, ap (λ s. look_of (terms_of conv client.address place) s (sight_over standing prefix)) is)
  led_is_by n place standing prefix (busy at flow (response_head side how)) is here = tt
  led_is_by n place standing prefix (busy at flow (response_body side how most)) is here = tt
  led_is_by n place standing prefix (busy at flow (coming_down side how)) is here = tt
  led_is_by n place standing prefix (busy at flow (upgraded side)) is here = tt
  led_is_by n place standing prefix (busy at flow given_head) is here = tt
  led_is_by n place standing prefix (busy at flow given_body) is here = tt
  led_is_by n place standing prefix (next at) is here = tt
  led_is_by n place standing prefix flows.over is here = tt

  led_is : (n : ℕ) (place : Place) (standing : Standing) (prefix : List (Timed Event)) → DialledAt n standing → IsLed n place standing prefix (led_at place standing)
  led_is n places.Regular standing prefix here = tt
  led_is n (places.Upstream proxy) standing prefix here = tt
  led_is n (places.Fixed address None) standing prefix here = tt
  led_is n (places.Fixed address (Some proxy)) standing prefix here =
      led_is_by n (places.Fixed address (Some proxy)) standing prefix standing.stage refl here

  -- the dial was one more
  proxy_dialled : (n : ℕ) (place : Place) (standing : Standing) (prefix : List (Timed Event)) (ask : Command) (from : Dialling) → IsLed n place standing prefix (Some from) →
      (flows_at conv client place).look standing prefix ≡ Asks ask → from.at.dials + 1 ≡ n + length (dials_in (ask ∷ []))
  proxy_dialled n place standing prefix ask from (is, looks) asks =
      let found_same : Asks (commands.Dial from.at.dials (dialled_for place from.flow.request) None) ≡ Asks ask = sym looks ∙ asks in
      let P : Look Command → Type 0 = λ l. from.at.dials + 1 ≡ n + length (dials_in (found l)) in
      subst P found_same (ap (λ (k : ℕ). k + 1) is)

  http_turns : (n : ℕ) (led : Option Dialling) (place : Place) (standing : Standing) (prefix : List (Timed Event)) (ask : Command) (answer : Timed Reply) (value : Reply) →
      IsLed n place standing prefix led → DialledAt n standing → (flows_at conv client place).look standing prefix ≡ Asks ask →
      (dials_in (turn_http conv client led place standing prefix answer value).owed ≡ [])
      × DialledSo (n + length (dials_in (ask ∷ []))) (turn_http conv client led place standing prefix answer value).stage
  http_turns n None place standing prefix ask answer value led is asks = (flows_counts place).turn n standing prefix ask answer is asks
  http_turns n (Some from) place standing prefix ask answer (reply.Go given stream) led is asks = (flows_counts place).turn n standing prefix ask answer is asks
  http_turns n (Some from) place standing prefix ask answer (reply.Respond response) led is asks = (flows_counts place).turn n standing prefix ask answer is asks
  http_turns n (Some from) place standing prefix ask answer reply.Kill led is asks = (flows_counts place).turn n standing prefix ask answer is asks
  http_turns n (Some from) place standing prefix ask answer reply.Discard led is asks = (flows_counts place).turn n standing prefix ask answer is asks
  http_turns n (Some from) place standing prefix ask answer reply.Dialled led is asks = (refl, proxy_dialled n place standing prefix ask from led asks)
  http_turns n (Some from) place standing prefix ask answer (reply.Refused fault) led is asks = (flows_counts place).turn n standing prefix ask answer is asks

  turns : (n : ℕ) (stage : Stage) (prefix : List (Timed Event)) (ask : Command) (answer : Timed Reply) → DialledSo n stage → (stack_chain conv client).look stage prefix ≡ Asks ask →
      (dials_in ((stack_chain conv client).turn stage prefix answer).owed ≡ []) × DialledSo (n + length (dials_in (ask ∷ []))) ((stack_chain conv client).turn stage prefix answer).stage
  turns n (asking front) prefix ask answer is asks =
      let on : Turn Front Command = socks.turn front (client_closed prefix) answer.value in
      (clients_none on.owed (turn_to_client front (client_closed prefix) answer.value), front_turned n front ask (client_closed prefix) answer.value prefix answer.moment is asks)
  turns n (http place standing) prefix ask answer is asks =
      http_turns n (led_at place standing) place standing prefix ask answer answer.value (led_is n place standing prefix is) is asks
  turns n (connecting tunnel) prefix ask answer is asks =
      let on = dial_turns n tunnel prefix answer.value answer.moment is in
      let P : ℕ → Type 0 = λ k. DialledSo (n + k) (turn_dial conv client tunnel prefix answer.value answer.moment).stage in
      (on.0, subst P (sym (dial_asked tunnel prefix ask asks)) on.1)
  turns n (reaching goal link since) prefix ask answer is asks = absurd (let no : NotYet ≡ Asks ask = asks in cc)
  turns n (undecided tunnel link since) prefix ask answer is asks = absurd (found_asks _ _ ask asks)
  turns n (raw ends) prefix ask answer is asks = (refl, tt)
  turns n (socket ends flow frames) prefix ask answer is asks =
      let terms : Terms = socket_terms client.key ends flow in
      let seen : SocketSight = socket_sight ends prefix in
      let on : Turn Frames Command = relay.turn terms frames seen answer.value answer.moment in
      (said_none terms on.stage on.owed (turn_says terms seen frames answer.value answer.moment), tt)
  turns n over prefix ask answer is asks = (refl, tt)

  counts : CountsDials (stack_chain conv client) DialledSo
  counts = record { pass = passes; so_far = waits; behind = parts; look = looks; turn = turns }

-- none was dialled where a conversation begins
begun_none : (place : Option Place) → DialledSo 0 (begins_by place)
begun_none None = refl
begun_none (Some place) = refl

-- the n-th dial that is due names server n
pub mode_counts : (mode : Mode) (key : List ℕ) (conv : ℕ) (peer : Option Address) (moves : List Move) → CountsFrom 0 (dials_in (mode_due mode key conv peer moves))
mode_counts mode key conv peer moves =
    let client : Visitor = record { address = peer; key = key } in due_counts (stack_chain conv client) DialledSo (begins mode) (counts conv client) (begun_none (place_of mode)) moves
