-- What is due of a conversation names it alone.
use Rattle.std.proofs.Common.{◌≡◌, ℕ, List, [], ◌∷◌, ◌++◌, Bool, true, false, Option, Some, None, refl, ap, sym, ◌∙◌, subst}
use Rattle.std.specs.Prelude.{⊤, ◌||◌}
use Rattle.px_message.specs.declared.address.Address.{Address}
use Rattle.px_message.specs.declared.flow.Flow.{Flow}
use Rattle.px_event.specs.declared.command.Command.{Command}
use Rattle.px_event.specs.declared.command.Command.TheVariants as commands
use Rattle.px_event.specs.declared.event.Event.{Event}
use Rattle.px_event.specs.declared.reply.Reply.{Reply}
use Rattle.px_event.specs.declared.reply.Reply.TheVariants as reply
use Rattle.px_event.specs.declared.side.Side.TheVariants.{Client, Server}
use Rattle.px_event.specs.Chain.{Timed, Turn, found}
use Rattle.px_event.specs.Layer.{Move}
use Rattle.px_event.specs.Stands.{due_by}
use Rattle.px_core.specs.Conversation.{AllNamed}
use Rattle.px_core.proofs.ChainNamedLemmas.{StaysNamed, stays_named}
use Rattle.px_exchange.specs.declared.ending.Used.{Used}
use Rattle.px_exchange.specs.declared.ending.Used.TheVariants.{NoServer, ByServer}
use Rattle.px_exchange.specs.declared.place.Place.{Place}
use Rattle.px_exchange.specs.declared.place.Place.TheVariants as places
use Rattle.px_exchange.specs.Endings.{shut_all, shut_client, shut_server}
use Rattle.px_exchange.specs.Places.{terms_of}
use Rattle.px_chain.specs.Chain.{Connect, connect_in}
use Rattle.px_chain.specs.Keeping.{shut_by_byte, shut_stray, unspoilt_at}
use Rattle.px_chain.specs.Sights.{Sight, Standing, request_in, sight_over}
use Rattle.px_chain.specs.Stages.{At, Parked, Sent, all_sent, busy, coming_down, connection, given_body, given_head, going_up, idle, next, request_body, response_body, response_head, upgraded}
use Rattle.px_chain.specs.Stages as flows
use Rattle.px_chain.specs.Streams.{Since, client_closed, from_here, now_over}
use Rattle.px_chain.proofs.Quiet.{IsOf}
use Rattle.px_http.specs.Names.{OfConversation, stays as flows_stay}
use Rattle.px_tunnel.specs.Upstream.{Granting, awaited, granted, refused}
use Rattle.px_relay.specs.Chain as relay
use Rattle.px_relay.specs.Sending.{Terms}
use Rattle.px_relay.specs.Sights.{Sight as SocketSight}
use Rattle.px_relay.specs.Stages.{Stage as Frames, holding, over as ended, relaying}
use Rattle.px_socks.specs.Chain as socks
use Rattle.px_socks.specs.FrontLaws.{AllToClient, pass_to_client, turn_to_client}
use Rattle.px_socks.specs.Stages as fronts
use Rattle.px_socks.specs.Stages.{Stage as Front}
use Rattle.px_stack.specs.Chain.{answer_of, at_front, behind_front, begun, connected_on, closed_before, closes_all, finished_flow, flows_at, follows, front_sight, goes_by, hands_by, hands_over, has_answered, is_shut, led_at, led_by, opening_text, or_stays, owed_at_handing, shut_parked, pass_http, pass_reached, pass_socket, socket_sight, socket_terms, stack_chain, tunnel_for, tunnel_found, turn_connected, turn_dial, turn_http, upgrades, used_proxy, way_to, pass_flows}
use Rattle.px_stack.specs.Decides.{Decision, decided, is_http, is_raw, still}
use Rattle.px_stack.specs.Frames.{AreSaid, pass_says, turn_says}
use Rattle.px_stack.specs.Laws.{handing_owes}
use Rattle.px_stack.specs.Sockets.{is_websocket}
use Rattle.px_stream.specs.Anywhere.{reached_owes}
use Rattle.px_stack.specs.Stages.{Dialling, Ends as TunnelEnds, Goal, Link, Stage, Tunnel, Visitor, a_flow, a_tunnel, asking, connecting, http, over, raw, reaching, socket, undecided}

-- the flow of a place is the conversation's, and so are the one that became a tunnel and the one for which a proxy is asked
abbrev pub IsFlowOf : ℕ → Option Flow → Type 0
IsFlowOf conv None = ⊤
IsFlowOf conv (Some flow) = flow.id.conv ≡ conv

abbrev pub IsGoalOf : ℕ → Goal → Type 0
IsGoalOf conv (a_tunnel tunnel) = ⊤
IsGoalOf conv (a_flow place from) = from.flow.id.conv ≡ conv

abbrev pub IsOfIt : ℕ → Visitor → Stage → Type 0
IsOfIt conv client (http place standing) = IsOf (terms_of conv client.address place) (OfConversation conv) standing.stage
IsOfIt conv client (reaching goal link since) = IsGoalOf conv goal
IsOfIt conv client (raw ends) = IsFlowOf conv ends.flow
IsOfIt conv client (socket ends flow frames) = flow.id.conv ≡ conv
IsOfIt conv client stage = ⊤

-- ---- lists

named_append : (conv : ℕ) (xs ys : List Command) → AllNamed conv xs → AllNamed conv ys → AllNamed conv (xs ++ ys)
named_append conv [] ys all more = more
named_append conv (x ∷ xs) ys (here, all) more = (here, named_append conv xs ys all more)

module _ (conv : ℕ) where
  server_named : (used : Used) → AllNamed conv (shut_server used)
  server_named NoServer = tt
  server_named (ByServer server true) = tt
  server_named (ByServer server false) = (tt, tt)

  -- a parked side, at a byte of it, and where a CONNECT came
  stray_named : (parked : Option Parked) (seen : Sight) → AllNamed conv (shut_stray parked seen)
  stray_named None seen = tt
  stray_named (Some parked) seen = by seen.server
    where
      by : (bytes : List ℕ) → AllNamed conv (shut_by_byte parked.server bytes)
      by [] = tt
      by (first ∷ more) = (tt, tt)

  parked_named : (parked : Option Parked) → AllNamed conv (shut_parked parked)
  parked_named None = tt
  parked_named (Some parked) = (tt, tt)

  client_named : (closed : Bool) → AllNamed conv (shut_client closed)
  client_named true = tt
  client_named false = (tt, tt)

  closes_named : (used : Used) (closed : Bool) → AllNamed conv (shut_all used closed)
  closes_named used closed = named_append conv (shut_server used) (shut_client closed) (server_named used) (client_named closed)

  finished_named : (flow : Option Flow) → IsFlowOf conv flow → AllNamed conv (finished_flow flow)
  finished_named None is = tt
  finished_named (Some flow) is = (is, tt)

  tunnel_named : (closed : Bool) (owed : List Command) → AllNamed conv owed → AllNamed conv (found (tunnel_found closed owed))
  tunnel_named true owed all = all
  tunnel_named false owed all = tt

  -- a WebSocket finishes its flow, and asks hooks of it
  said_named : (terms : Terms) (to : Frames) → terms.flow.id.conv ≡ conv → (owed : List Command) → AreSaid terms to owed → AllNamed conv owed
  said_named terms to is [] said = tt
  said_named terms to is (commands.Send side text ∷ owed) (here, said) = (tt, said_named terms to is owed said)
  said_named terms to is (commands.Close side ∷ owed) (here, said) = (tt, said_named terms to is owed said)
  said_named terms to is (commands.Dial server address inside ∷ owed) (here, said) = absurd here
  said_named terms to is (commands.Ask ask flow ∷ owed) (here, said) = absurd here
  said_named terms to is (commands.Done flow ∷ owed) (here, said) = (ap (λ id. id.conv) here.0 ∙ is, said_named terms to is owed said)

  frames_named : (terms : Terms) (frames : Frames) → terms.flow.id.conv ≡ conv → AllNamed conv (found (relay.look terms frames))
  frames_named terms (relaying at) is = tt
  frames_named terms (holding from message at) is = ((is, refl), tt)
  frames_named terms ended is = tt

  -- a client of SOCKS is told something, or closed
  clients_named : (owed : List Command) → AllToClient owed → AllNamed conv owed
  clients_named [] are = tt
  clients_named (commands.Send Client text ∷ owed) (here, are) = (tt, clients_named owed are)
  clients_named (commands.Send (Server server) text ∷ owed) (here, are) = absurd here
  clients_named (commands.Close Client ∷ owed) (here, are) = (tt, clients_named owed are)
  clients_named (commands.Close (Server server) ∷ owed) (here, are) = absurd here
  clients_named (commands.Dial server address inside ∷ owed) (here, are) = absurd here
  clients_named (commands.Ask ask flow ∷ owed) (here, are) = absurd here
  clients_named (commands.Done flow ∷ owed) (here, are) = absurd here

  front_named : (front : Front) → AllNamed conv (found (socks.look front))
  front_named fronts.greeting = tt
  front_named (fronts.requesting used) = tt
  front_named (fronts.dialling used address) = (tt, tt)
  front_named (fronts.opened used address) = tt
  front_named fronts.over = tt

  -- ---- the chain

  module _ (client : Visitor) where
    -- a client of SOCKS has no flow
    front_is : (front : Front) → IsOfIt conv client (at_front front)
    front_is fronts.greeting = tt
    front_is (fronts.requesting used) = tt
    front_is (fronts.dialling used address) = tt
    front_is (fronts.opened used address) = tt
    front_is fronts.over = tt

    behind_is : (front : Front) (prefix : List (Timed Event)) (moment : ℕ) → IsOfIt conv client (behind_front conv client front prefix moment)
    behind_is fronts.greeting prefix moment = tt
    behind_is (fronts.requesting used) prefix moment = tt
    behind_is (fronts.dialling used address) prefix moment = tt
    behind_is (fronts.opened used address) prefix moment = tt
    behind_is fronts.over prefix moment = tt

    -- where HTTP hands over
    tunnel_is : (place : Place) (standing : Standing) (used : ℕ) (at : At) (connect : Option Connect) → IsOf (terms_of conv client.address place) (OfConversation conv) standing.stage →
        IsOfIt conv client (or_stays (http place standing) (tunnel_for place used at connect))
    tunnel_is place standing used at None is = is
    tunnel_is place standing used at (Some connect) is = tt

    upgrades_is : (is : Bool) (flow : Flow) (moment : ℕ) (ends : TunnelEnds) → flow.id.conv ≡ conv → ends.flow ≡ Some flow → IsOfIt conv client (upgrades is flow moment ends)
    upgrades_is true flow moment ends is same = is
    upgrades_is false flow moment ends is same = let P : Option Flow → Type 0 = IsFlowOf conv in subst P (sym same) is

    hands_is : (place : Place) (standing : Standing) (stage : flows.Stage) (seen : Sight) → IsOf (terms_of conv client.address place) (OfConversation conv) standing.stage →
        IsOf (terms_of conv client.address place) (OfConversation conv) stage → IsOfIt conv client (or_stays (http place standing) (hands_by place standing stage seen))
    hands_is place standing (idle at) seen is here = tunnel_is place standing standing.used.client (unspoilt_at at seen) (connect_in place (request_in seen)) is
    hands_is place standing (busy at flow (request_body given most)) seen is here = is
    hands_is place standing (busy at flow (connection sent)) seen is here = is
    hands_is place standing (busy at flow (response_head side how)) seen is here = is
    hands_is place standing (busy at flow (response_body side how most)) seen is here = is
    hands_is place standing (busy at flow (coming_down side how)) seen is here = is
    hands_is place standing (busy at flow (upgraded side)) seen is here = upgrades_is (is_websocket flow seen.closed) flow seen.now _ here refl
    hands_is place standing (busy at flow given_head) seen is here = is
    hands_is place standing (busy at flow given_body) seen is here = is
    hands_is place standing (next at) seen is here = is
    hands_is place standing flows.over seen is here = is

    follows_is : (d : Decision) (tunnel : Tunnel) (link : Link) (since : Since) → IsOfIt conv client (follows d tunnel link since)
    follows_is still tunnel link since = tt
    follows_is is_http tunnel link since = refl
    follows_is is_raw tunnel link since = tt

    goes_is : (closed : Bool) (tunnel : Tunnel) (link : Link) (since : Since) (prefix : List (Timed Event)) → IsOfIt conv client (goes_by closed tunnel link since prefix)
    goes_is true tunnel link since prefix = tt
    goes_is false tunnel link since prefix = follows_is (decided (opening_text tunnel prefix) (has_answered link prefix)) tunnel link since

    -- what is owed names it, and the stage is of it
    abbrev IsNamedTurn : Turn Stage Command → Type 0
    IsNamedTurn turned = AllNamed conv turned.owed × IsOfIt conv client turned.stage

    its_flows : (place : Place) → StaysNamed conv (flows_at conv client place) (λ standing. IsOf (terms_of conv client.address place) (OfConversation conv) standing.stage)
    its_flows place = flows_stay (terms_of conv client.address place)

    socket_is : (ends : TunnelEnds) (flow : Flow) (frames : Frames) (prefix : List (Timed Event)) → flow.id.conv ≡ conv →
        IsNamedTurn (pass_socket conv client ends flow frames prefix)
    socket_is ends flow frames prefix is =
        let terms : Terms = socket_terms client.key ends flow in
        let on : Turn Frames Command = relay.pass terms frames (socket_sight ends prefix) in
        (said_named terms on.stage is on.owed (pass_says terms (socket_sight ends prefix) frames), is)

    begun_is : (stage : Stage) (prefix : List (Timed Event)) → IsOfIt conv client stage → IsNamedTurn (begun conv client stage prefix)
    begun_is (asking front) prefix is = (tt, tt)
    begun_is (http place standing) prefix is = (tt, is)
    begun_is (connecting tunnel) prefix is = (tt, tt)
    begun_is (reaching goal link since) prefix is = (tt, is)
    begun_is (undecided tunnel link since) prefix is = (tt, tt)
    begun_is (raw ends) prefix is = (tt, is)
    begun_is (socket ends flow frames) prefix is = socket_is ends flow frames prefix is
    begun_is over prefix is = (tt, tt)

    flows_pass : (place : Place) (standing : Standing) (prefix : List (Timed Event)) → IsOfIt conv client (http place standing) → IsNamedTurn (pass_flows conv client place standing prefix)
    flows_pass place standing prefix is =
        let on = (flows_at conv client place).pass standing prefix in
        let named = (its_flows place).pass standing prefix is in
        let to = begun_is (pass_http conv client place on.stage prefix) prefix (hands_is place on.stage on.stage.stage (sight_over on.stage prefix) named.1 named.1) in
        let handed : List Command = owed_at_handing (hands_over place on.stage prefix) ((flows_at conv client place).so_far on.stage prefix) in
        let closes : AllNamed conv handed = handing_owes (AllNamed conv) tt stray_named (terms_of conv client.address place) on.stage on.stage.stage (sight_over on.stage prefix) in
        let rest : List Command = (begun conv client (pass_http conv client place on.stage prefix) prefix).owed in
        (named_append conv on.owed (handed ++ rest) named.0 (named_append conv handed rest closes to.0), to.1)

    -- what a server is owed that is reached
    reached_named : (sent : Sent) (place : Place) (flow : Flow) (server : ℕ) → AllNamed conv (reached_owes sent place flow server)
    reached_named all_sent place flow server = (tt, tt)
    reached_named going_up place flow server = tt

    -- where a proxy has answered
    reached_is : (goal : Goal) (link : Link) (since : Since) (prefix : List (Timed Event)) (g : Granting) → IsGoalOf conv goal →
        IsNamedTurn (pass_reached conv client goal link since prefix g)
    reached_is goal link since prefix awaited is = (tt, is)
    reached_is (a_tunnel tunnel) link since prefix (granted used) is =
        ((tt, tt), goes_is (client_closed prefix) tunnel (way_to link used prefix) (from_here (now_over since prefix) prefix) prefix)
    reached_is (a_flow place from) link since prefix (granted used) is =
        let to : Standing = connected_on place from (way_to link used prefix) (from_here (now_over since prefix) prefix) in
        let on = flows_pass place to prefix is in
        (named_append conv (reached_owes from.sent place from.flow link.server) (pass_flows conv client place to prefix).owed (reached_named from.sent place from.flow link.server) on.0, on.1)
    reached_is (a_tunnel tunnel) link since prefix refused is = ((tt, closes_named (used_proxy link prefix) (closed_before link prefix)), tt)
    reached_is (a_flow place from) link since prefix refused is = ((tt, (is, closes_named (used_proxy link prefix) (closed_before link prefix))), tt)

    passes : (stage : Stage) (prefix : List (Timed Event)) → IsOfIt conv client stage →
        AllNamed conv ((stack_chain conv client).pass stage prefix).owed × IsOfIt conv client ((stack_chain conv client).pass stage prefix).stage
    passes (asking front) prefix is =
        let on : Turn Front Command = socks.pass front (front_sight prefix) in (clients_named on.owed (pass_to_client front (front_sight prefix)), front_is on.stage)
    passes (http place standing) prefix is = flows_pass place standing prefix is
    passes (connecting tunnel) prefix is = (tt, tt)
    passes (reaching goal link since) prefix is = reached_is goal link since prefix (answer_of link prefix) is
    passes (undecided tunnel link since) prefix is = (tt, goes_is (client_closed prefix) tunnel link since prefix)
    passes (raw ends) prefix is = (tt, is)
    passes (socket ends flow frames) prefix is = socket_is ends flow frames prefix is
    passes over prefix is = (tt, tt)

    looks : (stage : Stage) (prefix : List (Timed Event)) → IsOfIt conv client stage → AllNamed conv (found ((stack_chain conv client).look stage prefix))
    looks (asking front) prefix is = front_named front
    looks (http place standing) prefix is = (its_flows place).look standing prefix is
    looks (connecting tunnel) prefix is = (tt, tt)
    looks (reaching goal link since) prefix is = tt
    looks (undecided tunnel link since) prefix is =
        let shut : Bool = is_shut link prefix in
        let closed : Bool = client_closed prefix in
        tunnel_named (closed || shut) (closes_all link.server shut closed) (closes_named (ByServer link.server shut) closed)
    looks (raw ends) prefix is =
        let closed : Bool = client_closed prefix in
        let shut : Bool = is_shut ends.link prefix in
        let closes : List Command = closes_all ends.link.server shut closed in
        tunnel_named (closed || shut) (finished_flow ends.flow ++ closes)
        (named_append conv (finished_flow ends.flow) closes (finished_named ends.flow is) (closes_named (ByServer ends.link.server shut) closed))
    looks (socket ends flow frames) prefix is = frames_named (socket_terms client.key ends flow) frames is
    looks over prefix is = tt

    waits : (stage : Stage) (prefix : List (Timed Event)) → IsOfIt conv client stage → AllNamed conv ((stack_chain conv client).so_far stage prefix)
    waits (asking front) prefix is = tt
    waits (http place standing) prefix is = (its_flows place).so_far standing prefix is
    waits (connecting tunnel) prefix is = tt
    waits (reaching goal link since) prefix is = tt
    waits (undecided tunnel link since) prefix is = tt
    waits (raw ends) prefix is = (tt, (tt, tt))
    waits (socket ends flow frames) prefix is = tt
    waits over prefix is = tt

    parts : (stage : Stage) (prefix : List (Timed Event)) → IsOfIt conv client stage → AllNamed conv ((stack_chain conv client).behind stage prefix)
    parts (asking front) prefix is = tt
    parts (http place standing) prefix is = (its_flows place).behind standing prefix is
    parts (connecting tunnel) prefix is = parked_named tunnel.at.parked
    parts (reaching goal link since) prefix is = tt
    parts (undecided tunnel link since) prefix is = tt
    parts (raw ends) prefix is = tt
    parts (socket ends flow frames) prefix is = tt
    parts over prefix is = tt

    connected_is : (proxy : Option Address) (tunnel : Tunnel) (prefix : List (Timed Event)) (moment : ℕ) → IsNamedTurn (turn_connected conv client proxy tunnel prefix moment)
    connected_is None tunnel prefix moment = ((tt, tt), tt)
    connected_is (Some proxy) tunnel prefix moment = ((tt, tt), tt)

    dial_turns : (tunnel : Tunnel) (prefix : List (Timed Event)) (answer : Reply) (moment : ℕ) →
        AllNamed conv (turn_dial conv client tunnel prefix answer moment).owed × IsOfIt conv client (turn_dial conv client tunnel prefix answer moment).stage
    dial_turns tunnel prefix (reply.Go given stream) moment = (tt, tt)
    dial_turns tunnel prefix (reply.Respond response) moment = (tt, tt)
    dial_turns tunnel prefix reply.Kill moment = (tt, tt)
    dial_turns tunnel prefix reply.Discard moment = (tt, tt)
    dial_turns tunnel prefix reply.Dialled moment = connected_is tunnel.proxy tunnel prefix moment
    dial_turns tunnel prefix (reply.Refused fault) moment = ((tt, client_named _), tt)

    -- a flow that is led through another proxy is the flow of the place
    abbrev IsLedOf : Option Dialling → Type 0
    IsLedOf None = ⊤
    IsLedOf (Some from) = from.flow.id.conv ≡ conv

    led_is_by : (place : Place) (used : ℕ) (stage : flows.Stage) → IsOf (terms_of conv client.address place) (OfConversation conv) stage → IsLedOf (led_by used stage)
    led_is_by place used (idle at) is = tt
    led_is_by place used (busy at flow (request_body given most)) is = tt
    led_is_by place used (busy at flow (connection sent)) is = is
    led_is_by place used (busy at flow (response_head side how)) is = tt
    led_is_by place used (busy at flow (response_body side how most)) is = tt
    led_is_by place used (busy at flow (coming_down side how)) is = tt
    led_is_by place used (busy at flow (upgraded side)) is = tt
    led_is_by place used (busy at flow given_head) is = tt
    led_is_by place used (busy at flow given_body) is = tt
    led_is_by place used (next at) is = tt
    led_is_by place used flows.over is = tt

    led_is : (place : Place) (standing : Standing) → IsOf (terms_of conv client.address place) (OfConversation conv) standing.stage → IsLedOf (led_at place standing)
    led_is places.Regular standing is = tt
    led_is (places.Upstream proxy) standing is = tt
    led_is (places.Fixed address None) standing is = tt
    led_is (places.Fixed address (Some proxy)) standing is = led_is_by (places.Fixed address (Some proxy)) standing.used.client standing.stage is

    http_turns : (led : Option Dialling) (place : Place) (standing : Standing) (prefix : List (Timed Event)) (answer : Timed Reply) (value : Reply) → IsLedOf led →
        IsOfIt conv client (http place standing) → IsNamedTurn (turn_http conv client led place standing prefix answer value)
    http_turns None place standing prefix answer value led is = (its_flows place).turn standing prefix answer is
    http_turns (Some from) place standing prefix answer (reply.Go given stream) led is = (its_flows place).turn standing prefix answer is
    http_turns (Some from) place standing prefix answer (reply.Respond response) led is = (its_flows place).turn standing prefix answer is
    http_turns (Some from) place standing prefix answer reply.Kill led is = (its_flows place).turn standing prefix answer is
    http_turns (Some from) place standing prefix answer reply.Discard led is = (its_flows place).turn standing prefix answer is
    http_turns (Some from) place standing prefix answer reply.Dialled led is = ((tt, tt), led)
    http_turns (Some from) place standing prefix answer (reply.Refused fault) led is = (its_flows place).turn standing prefix answer is

    turns : (stage : Stage) (prefix : List (Timed Event)) (answer : Timed Reply) → IsOfIt conv client stage →
        AllNamed conv ((stack_chain conv client).turn stage prefix answer).owed × IsOfIt conv client ((stack_chain conv client).turn stage prefix answer).stage
    turns (asking front) prefix answer is =
        let on : Turn Front Command = socks.turn front (client_closed prefix) answer.value in
        (clients_named on.owed (turn_to_client front (client_closed prefix) answer.value), behind_is on.stage prefix answer.moment)
    turns (http place standing) prefix answer is = http_turns (led_at place standing) place standing prefix answer answer.value (led_is place standing is) is
    turns (connecting tunnel) prefix answer is = dial_turns tunnel prefix answer.value answer.moment
    turns (reaching goal link since) prefix answer is = (tt, is)
    turns (undecided tunnel link since) prefix answer is = (tt, tt)
    turns (raw ends) prefix answer is = (tt, is)
    turns (socket ends flow frames) prefix answer is =
        let terms : Terms = socket_terms client.key ends flow in
        let seen : SocketSight = socket_sight ends prefix in
        let on : Turn Frames Command = relay.turn terms frames seen answer.value answer.moment in
        (said_named terms on.stage is on.owed (turn_says terms seen frames answer.value answer.moment), is)
    turns over prefix answer is = (tt, tt)

    pub stays : StaysNamed conv (stack_chain conv client) (IsOfIt conv client)
    stays = record { pass = passes; look = looks; so_far = waits; behind = parts; turn = turns }

-- What is due names flows of the conversation alone.
pub stack_names : (conv : ℕ) (client : Visitor) (start : Stage) → IsOfIt conv client start → (moves : List Move) →
    AllNamed conv (due_by (stack_chain conv client) start moves)
stack_names conv client start is moves = stays_named conv (stack_chain conv client) (IsOfIt conv client) start (stays conv client) is moves
