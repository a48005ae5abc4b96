-- A server is sent nothing before its dial was answered with the connection, whatever follows a CONNECT; and before the first call nobody is.
use Rattle.std.proofs.Common.{◌≡◌, ℕ, ◌+◌, ◌<◌, ◌≤◌, Bool, true, false, cond, List, [], ◌∷◌, ◌++◌, drop, length, map, Option, Some, None, refl, ap, sym, ◌∙◌, arith}
use Rattle.std.specs.Prelude.{◌==◌, ◌≢◌, ◌||◌, ⊤}
use Rattle.std.proofs.lemmas.Bool.{eqb-true}
use Rattle.px_message.specs.declared.address.Address.{Address}
use Rattle.px_message.specs.declared.fault.Fault.TheVariants.{UpstreamRefused}
use Rattle.px_message.specs.declared.flow.Flow.{Flow}
use Rattle.px_event.specs.declared.command.Command.{Command}
use Rattle.px_event.specs.declared.command.Command.TheVariants as commands
use Rattle.px_event.specs.declared.event.Event.{Event}
use Rattle.px_event.specs.declared.reply.Reply.{Reply}
use Rattle.px_event.specs.declared.reply.Reply.TheVariants as reply
use Rattle.px_event.specs.declared.side.Side.{Side}
use Rattle.px_event.specs.declared.side.Side.TheVariants.{Client, Server}
use Rattle.px_event.specs.Chain.{Timed, NotYet, Asks, Ends, Turn, found}
use Rattle.px_event.specs.Layer.{Move}
use Rattle.px_event.specs.Stands.{due_by}
use Rattle.px_event.specs.View.{byte, bytes_in, close, line, seen_of}
use Rattle.px_exchange.specs.declared.ending.Used.TheVariants.{ByServer}
use Rattle.px_exchange.specs.declared.mode.Mode.{Mode}
use Rattle.px_exchange.specs.declared.place.Place.{Place}
use Rattle.px_exchange.specs.declared.place.Place.TheVariants as places
use Rattle.px_exchange.specs.Endings.{shut_client, shut_server}
use Rattle.px_exchange.specs.Places.{address_of, place_of, terms_of}
use Rattle.px_chain.specs.Chain.{Connect, connect_in, is_sequence, sequence}
use Rattle.px_chain.specs.Keeping.{shut_by_byte, shut_stray, unspoilt_at}
use Rattle.px_chain.specs.Sights.{Sight, Standing, request_in, sight_over}
use Rattle.px_chain.specs.Silent.{NoAnswer, connects}
use Rattle.px_chain.specs.Stages.{At, Parked, busy, coming_down, connection, given_body, given_head, idle, next, request_body, response_body, response_head, upgraded, Sent, all_sent, going_up}
use Rattle.px_chain.specs.Stages as flows
use Rattle.px_chain.specs.Streams.{Since, client_closed, from_here, now_over}
use Rattle.px_chain.proofs.CountedLemmas.{Counts, CountsServers, IsSilent, counted_silent, silent_both}
use Rattle.px_chain.proofs.BelowLemmas.{dialled_at, http_counts}
use Rattle.px_chain.proofs.SilentLemmas.{AreBelow, ServersBelow, dialled, fault_silent}
use Rattle.px_tunnel.specs.Upstream.{Granting, awaited, connect_text, granted, refused}
use Rattle.px_relay.specs.Chain as relay
use Rattle.px_relay.specs.Sending.{Terms}
use Rattle.px_relay.specs.Stages.{Stage as Frames, holding, over as ended, relaying}
use Rattle.px_socks.specs.Chain as socks
use Rattle.px_socks.specs.FrontLaws.{AllToClient, pass_to_client, turn_to_client}
use Rattle.px_socks.specs.Stages as fronts
use Rattle.px_socks.specs.Stages.{Stage as Front}
use Rattle.px_stream.specs.Anywhere.{reached_owes}
use Rattle.px_stack.specs.Chain.{answer_of, asks_proxy, at_front, begins, begins_by, begun, closed_before, closed_of, closes_all, finished_flow, flows_at, follows, front_sight, goes_by, hands_by, hands_over, has_answered, is_empty, is_shut, led_at, led_by, opening_text, or_stays, owed_at_handing, shut_parked, pass_front, pass_http, pass_reached, pass_socket, socket_sight, socket_terms, socket_turn, stack_chain, text_behind, text_down, text_up, tunnel_for, tunnel_found, turn_connected, turn_dial, turn_flows, turn_front, turn_http, upgrades, used_proxy, way_by, way_to, pass_flows, connected_on}
use Rattle.px_stack.specs.Decides.{Decision, decided, is_http, is_raw, still}
use Rattle.px_stack.specs.Frames.{AreSaid, Says, pass_says, turn_says}
use Rattle.px_stack.specs.Modes.{mode_due}
use Rattle.px_stack.specs.Laws.{handing_owes}
use Rattle.px_stack.specs.Sockets.{is_websocket}
use Rattle.px_stack.specs.Stages.{Dialling, Ends as TunnelEnds, Goal, Link, Stage, Tunnel, Visitor, a_flow, a_tunnel, asking, connecting, http, over, raw, reaching, socket, undecided}

-- ---- what is counted

-- how many servers a stage may send to
abbrev pub dials_of : Goal → ℕ
dials_of (a_tunnel tunnel) = tunnel.at.dials
dials_of (a_flow place from) = from.at.dials + 1

abbrev pub dials_at : Stage → ℕ
dials_at (asking front) = 0
dials_at (http place standing) = dialled_at standing
dials_at (connecting tunnel) = tunnel.at.dials
dials_at (reaching goal link since) = dials_of goal
dials_at (undecided tunnel link since) = tunnel.at.dials
dials_at (raw ends) = ends.link.server + 1
dials_at (socket ends flow frames) = ends.link.server + 1
dials_at over = 0

-- the server's side that is open at a stage is among those that were dialled before it
abbrev pub GoalBelow : Goal → ℕ → Type 0
GoalBelow (a_tunnel tunnel) server = server < tunnel.at.dials
GoalBelow (a_flow place from) server = server ≡ from.at.dials

abbrev pub AllBelow : Stage → Type 0
AllBelow (http place standing) = AreBelow standing
AllBelow (reaching goal link since) = GoalBelow goal link.server
AllBelow (undecided tunnel link since) = link.server < tunnel.at.dials
AllBelow stage = ⊤

-- ---- texts and closes

module _ (server : ℕ) where
  close_silent : (side : Side) (same : Bool) → bytes_in (cond same (close side ∷ []) [] ++ []) ≡ []
  close_silent side true = refl
  close_silent side false = refl

  server_silent : (number : ℕ) (shut : Bool) → IsSilent server (shut_server (ByServer number shut))
  server_silent number true = refl
  server_silent number false = close_silent (Server number) (number == server)

  -- of a parked side, at a byte of it, and where a CONNECT came
  pub stray_silent : (parked : Option Parked) (seen : Sight) → IsSilent server (shut_stray parked seen)
  stray_silent None seen = refl
  stray_silent (Some parked) seen = by seen.server
    where
      by : (bytes : List ℕ) → IsSilent server (shut_by_byte parked.server bytes)
      by [] = refl
      by (first ∷ more) = close_silent (Server parked.server) (parked.server == server)

  pub parked_silent : (parked : Option Parked) → IsSilent server (shut_parked parked)
  parked_silent None = refl
  parked_silent (Some parked) = close_silent (Server parked.server) (parked.server == server)

  pub client_silent : (closed : Bool) → IsSilent server (shut_client closed)
  client_silent true = refl
  client_silent false = refl

  pub closes_silent : (number : ℕ) (shut closed : Bool) → IsSilent server (closes_all number shut closed)
  closes_silent number shut closed =
      silent_both server (shut_server (ByServer number shut)) (shut_client closed) (server_silent number shut) (client_silent closed)

  pub finished_silent : (flow : Option Flow) → IsSilent server (finished_flow flow)
  finished_silent None = refl
  finished_silent (Some flow) = refl

  pub found_silent : (ends : Bool) (owed : List Command) → IsSilent server owed → IsSilent server (found (tunnel_found ends owed))
  found_silent true owed is = is
  found_silent false owed is = refl

  -- another server's bytes
  other : (number : ℕ) (same : Bool) → (number == server) ≡ same → number + 1 ≤ server → same ≡ false
  other number true is below = absurd (let e : number ≡ server = eqb-true number server is in omega arith)
  other number false is below = refl

  sent_silent : (number : ℕ) (text : List ℕ) → number + 1 ≤ server → IsSilent server (commands.Send (Server number) text ∷ [])
  sent_silent number text below = ap (λ same. bytes_in (cond same (map byte text) [] ++ [])) (other number (number == server) refl below)

  -- what a server is owed that is reached
  reached_silent : (sent : Sent) (place : Place) (flow : Flow) (number : ℕ) → number + 1 ≤ server → IsSilent server (reached_owes sent place flow number)
  reached_silent all_sent place flow number below = sent_silent number _ below
  reached_silent going_up place flow number below = refl

  both_silent : (number : ℕ) (up down : List ℕ) → number + 1 ≤ server → IsSilent server (commands.Send (Server number) up ∷ commands.Send Client down ∷ [])
  both_silent number up down below =
      ap (λ same. bytes_in (cond same (map byte up) [] ++ [])) (other number (number == server) refl below)

  -- a WebSocket sends to its own server alone
  frame_silent : (number : ℕ) (text : List ℕ) (own : ℕ) → number ≡ own → own ≢ server → IsSilent server (commands.Send (Server number) text ∷ [])
  frame_silent number text own is apart = by (number == server) refl
    where
      by : (same : Bool) → (number == server) ≡ same → IsSilent server (commands.Send (Server number) text ∷ [])
      by true same = absurd (apart (sym is ∙ eqb-true number server same))
      by false same = ap (λ b. bytes_in (cond b (map byte text) [] ++ [])) same

  pub said_silent : (terms : Terms) (to : Frames) → terms.server ≢ server → (owed : List Command) → AreSaid terms to owed → IsSilent server owed
  said_silent terms to apart [] said = refl
  said_silent terms to apart (commands.Send Client text ∷ owed) (here, said) = said_silent terms to apart owed said
  said_silent terms to apart (commands.Send (Server number) text ∷ owed) (here, said) =
      silent_both server (commands.Send (Server number) text ∷ []) owed (frame_silent number text terms.server here apart) (said_silent terms to apart owed said)
  said_silent terms to apart (commands.Close Client ∷ owed) (here, said) = said_silent terms to apart owed said
  said_silent terms to apart (commands.Close (Server number) ∷ owed) (here, said) =
      silent_both server (commands.Close (Server number) ∷ []) owed (close_silent (Server number) (number == server)) (said_silent terms to apart owed said)
  said_silent terms to apart (commands.Dial number address inside ∷ owed) (here, said) = absurd here
  said_silent terms to apart (commands.Ask ask flow ∷ owed) (here, said) = absurd here
  said_silent terms to apart (commands.Done flow ∷ owed) (here, said) = said_silent terms to apart owed said

  -- a client of SOCKS is told something, or closed, and its dial sends nothing
  clients_silent : (owed : List Command) → AllToClient owed → IsSilent server owed
  clients_silent [] are = refl
  clients_silent (commands.Send Client text ∷ owed) (here, are) = clients_silent owed are
  clients_silent (commands.Send (Server number) text ∷ owed) (here, are) = absurd here
  clients_silent (commands.Close Client ∷ owed) (here, are) = clients_silent owed are
  clients_silent (commands.Close (Server number) ∷ owed) (here, are) = absurd here
  clients_silent (commands.Dial number address inside ∷ owed) (here, are) = absurd here
  clients_silent (commands.Ask ask flow ∷ owed) (here, are) = absurd here
  clients_silent (commands.Done flow ∷ owed) (here, are) = absurd here

  pub front_silent : (front : Front) → IsSilent server (found (socks.look front))
  front_silent fronts.greeting = refl
  front_silent (fronts.requesting used) = refl
  front_silent (fronts.dialling used address) = refl
  front_silent (fronts.opened used address) = refl
  front_silent fronts.over = refl

  pub frames_silent : (terms : Terms) (frames : Frames) → IsSilent server (found (relay.look terms frames))
  frames_silent terms (relaying at) = refl
  frames_silent terms (holding from message at) = refl
  frames_silent terms ended = refl

-- ---- the chain

module _ (conv : ℕ) (client : Visitor) where
  abbrev Few : ℕ → Stage → Type 0
  Few most stage = (dials_at stage ≤ most) × AllBelow stage

  tunnel_few : (place : Place) (standing : Standing) (used : ℕ) (at : At) (seen : Sight) (connect : Option Connect) → standing.stage ≡ idle at → AreBelow standing →
      Few (dialled_at standing) (or_stays (http place standing) (tunnel_for place used (unspoilt_at at seen) connect))
  tunnel_few place standing used at seen None is below = (omega arith, below)
  tunnel_few place standing used at seen (Some connect) is below = let same : dialled standing.stage ≡ at.dials = ap dialled is in (omega arith, tt)

  upgrades_few : (most : ℕ) (is : Bool) (flow : Flow) (moment : ℕ) (ends : TunnelEnds) → ends.link.server + 1 ≤ most → Few most (upgrades is flow moment ends)
  upgrades_few most true flow moment ends less = (less, tt)
  upgrades_few most false flow moment ends less = (less, tt)

  hands_few : (place : Place) (standing : Standing) (stage : flows.Stage) (seen : Sight) → standing.stage ≡ stage → AreBelow standing → ServersBelow stage →
      Few (dialled_at standing) (or_stays (http place standing) (hands_by place standing stage seen))
  hands_few place standing (idle at) seen is below here = tunnel_few place standing standing.used.client at seen (connect_in place (request_in seen)) is below
  hands_few place standing (busy at flow (request_body given most)) seen is below here = (omega arith, below)
  hands_few place standing (busy at flow (connection sent)) seen is below here = (omega arith, below)
  hands_few place standing (busy at flow (response_head side how)) seen is below here = (omega arith, below)
  hands_few place standing (busy at flow (response_body side how most)) seen is below here = (omega arith, below)
  hands_few place standing (busy at flow (coming_down side how)) seen is below here = (omega arith, below)
  hands_few place standing (busy at flow (upgraded side)) seen is below here =
      let same : dialled standing.stage ≡ at.dials = ap dialled is in
      let less : side < at.dials = here in
      upgrades_few (dialled_at standing) (is_websocket flow seen.closed) flow seen.now _ (omega arith)
  hands_few place standing (busy at flow given_head) seen is below here = (omega arith, below)
  hands_few place standing (busy at flow given_body) seen is below here = (omega arith, below)
  hands_few place standing (next at) seen is below here = (omega arith, below)
  hands_few place standing flows.over seen is below here = (omega arith, below)

  flows_count : (place : Place) → CountsServers (flows_at conv client place) dialled_at AreBelow
  flows_count place = http_counts sequence (is_sequence refl) (terms_of conv client.address place)

  quietly : (most : ℕ) (stage : Stage) → Few most stage → Counts dials_at AllBelow most (record { owed = []; stage = stage })
  quietly most stage few = record { silent = λ server beyond. refl; few = few.0; stays = few.1 }

  decided_few : (d : Decision) (tunnel : Tunnel) (link : Link) (since : Since) → link.server < tunnel.at.dials → Few tunnel.at.dials (follows d tunnel link since)
  decided_few still tunnel link since below = (omega arith, below)
  decided_few is_http tunnel link since below = (omega arith, below)
  decided_few is_raw tunnel link since below = (omega arith, tt)

  goes_few : (closed : Bool) (tunnel : Tunnel) (link : Link) (since : Since) (prefix : List (Timed Event)) → link.server < tunnel.at.dials →
      Few tunnel.at.dials (goes_by closed tunnel link since prefix)
  goes_few true tunnel link since prefix below = (omega arith, below)
  goes_few false tunnel link since prefix below = decided_few (decided (opening_text tunnel prefix) (has_answered link prefix)) tunnel link since below

  -- ---- another proxy, which has answered

  -- it is heard on its own side
  way_below : (empty : Bool) (link : Link) (used come dials : ℕ) → link.server < dials → (way_by empty link used come).server < dials
  way_below true link used come dials below = below
  way_below false link used come dials below = below

  way_there : (link : Link) (used : ℕ) (prefix : List (Timed Event)) (dials : ℕ) → link.server < dials → (way_to link used prefix).server < dials
  way_there link used prefix dials below = way_below (is_empty (text_behind link used prefix)) link used (length prefix) dials below

  opened_counts : (tunnel : Tunnel) (link : Link) (since : Since) (prefix : List (Timed Event)) (used : ℕ) → link.server < tunnel.at.dials →
      Counts dials_at AllBelow tunnel.at.dials (pass_reached conv client (a_tunnel tunnel) link since prefix (granted used))
  opened_counts tunnel link since prefix used below =
      let few = goes_few (client_closed prefix) tunnel (way_to link used prefix) (from_here (now_over since prefix) prefix) prefix
      (way_there link used prefix tunnel.at.dials below) in
      record { silent = λ server beyond. refl; few = few.0; stays = few.1 }

  -- a WebSocket
  socket_counts : (ends : TunnelEnds) (flow : Flow) (most : ℕ) (on : Turn Frames Command) → ends.link.server + 1 ≤ most → Says (socket_terms client.key ends flow) on →
      Counts dials_at AllBelow most (socket_turn ends flow on)
  socket_counts ends flow most on less said = record {
    silent = λ server beyond. said_silent server (socket_terms client.key ends flow) on.stage (λ same. omega arith) on.owed said;
    few = less;
    stays = tt;
  }

  socket_passes : (ends : TunnelEnds) (flow : Flow) (frames : Frames) (prefix : List (Timed Event)) →
      Counts dials_at AllBelow (ends.link.server + 1) (pass_socket conv client ends flow frames prefix)
  socket_passes ends flow frames prefix = socket_counts ends flow (ends.link.server + 1) _ (omega arith) (pass_says (socket_terms client.key ends flow) (socket_sight ends prefix) frames)

  -- a client of SOCKS has no server yet
  front_few : (front : Front) → Few 0 (at_front front)
  front_few fronts.greeting = (omega arith, tt)
  front_few (fronts.requesting used) = (omega arith, tt)
  front_few (fronts.dialling used address) = (omega arith, tt)
  front_few (fronts.opened used address) = (omega arith, tt)
  front_few fronts.over = (omega arith, tt)

  front_passes : (front : Front) (prefix : List (Timed Event)) → Counts dials_at AllBelow 0 (pass_front front prefix)
  front_passes front prefix =
      let on : Turn Front Command = socks.pass front (front_sight prefix) in
      let few = front_few on.stage in
      record { silent = λ server beyond. clients_silent server on.owed (pass_to_client front (front_sight prefix)); few = few.0; stays = few.1 }

  begun_counts : (stage : Stage) (prefix : List (Timed Event)) → AllBelow stage → Counts dials_at AllBelow (dials_at stage) (begun conv client stage prefix)
  begun_counts (asking front) prefix is = quietly 0 (asking front) (omega arith, tt)
  begun_counts (http place standing) prefix is = quietly (dialled_at standing) (http place standing) (omega arith, is)
  begun_counts (connecting tunnel) prefix is = quietly tunnel.at.dials (connecting tunnel) (omega arith, tt)
  begun_counts (reaching goal link since) prefix is = quietly (dials_of goal) (reaching goal link since) (omega arith, is)
  begun_counts (undecided tunnel link since) prefix is = quietly tunnel.at.dials (undecided tunnel link since) (omega arith, is)
  begun_counts (raw ends) prefix is = quietly (ends.link.server + 1) (raw ends) (omega arith, tt)
  begun_counts (socket ends flow frames) prefix is = socket_passes ends flow frames prefix
  begun_counts over prefix is = quietly 0 over (omega arith, tt)

  -- HTTP passes on
  flows_pass : (place : Place) (standing : Standing) (prefix : List (Timed Event)) → AreBelow standing →
      Counts dials_at AllBelow (dialled_at standing) (pass_flows conv client place standing prefix)
  flows_pass place standing prefix is =
      let on = (flows_at conv client place).pass standing prefix in
      let counts = (flows_count place).passes standing prefix is in
      let few = hands_few place on.stage on.stage.stage (sight_over on.stage prefix) refl counts.stays counts.stays in
      let to : Stage = pass_http conv client place on.stage prefix in
      let further = begun_counts to prefix few.1 in
      let fewer = counts.few in
      let below = few.0 in
      let last = further.few in
      let handed : List Command = owed_at_handing (hands_over place on.stage prefix) ((flows_at conv client place).so_far on.stage prefix) in
      let still : (server : ℕ) → IsSilent server handed =
      λ server. handing_owes (λ owed. IsSilent server owed) refl (stray_silent server) (terms_of conv client.address place) on.stage on.stage.stage (sight_over on.stage prefix) in
      record {
        silent = λ server beyond.
            silent_both server on.owed (handed ++ (begun conv client to prefix).owed) (counts.silent server beyond)
            (silent_both server handed (begun conv client to prefix).owed (still server) (further.silent server (omega arith)));
        few = omega arith;
        stays = further.stays;
      }

  connected_counts : (place : Place) (from : Dialling) (link : Link) (since : Since) (prefix : List (Timed Event)) (used : ℕ) → link.server ≡ from.at.dials →
      Counts dials_at AllBelow (from.at.dials + 1) (pass_reached conv client (a_flow place from) link since prefix (granted used))
  connected_counts place from link since prefix used is =
      let to : Standing = connected_on place from (way_to link used prefix) (from_here (now_over since prefix) prefix) in
      let owes : List Command = reached_owes from.sent place from.flow link.server in
      let on = flows_pass place to prefix (way_there link used prefix (from.at.dials + 1) (omega arith)) in
      record {
        silent = λ server beyond. silent_both server owes (pass_flows conv client place to prefix).owed (reached_silent server from.sent place from.flow link.server (omega arith)) (on.silent server beyond);
        few = on.few;
        stays = on.stays;
      }

  reached_counts : (goal : Goal) (link : Link) (since : Since) (prefix : List (Timed Event)) (g : Granting) → GoalBelow goal link.server →
      Counts dials_at AllBelow (dials_of goal) (pass_reached conv client goal link since prefix g)
  reached_counts goal link since prefix awaited is = quietly (dials_of goal) (reaching goal link since) (omega arith, is)
  reached_counts (a_tunnel tunnel) link since prefix (granted used) is = opened_counts tunnel link since prefix used is
  reached_counts (a_flow place from) link since prefix (granted used) is = connected_counts place from link since prefix used is
  reached_counts (a_tunnel tunnel) link since prefix refused is = record {
    silent = λ server beyond. closes_silent server link.server (closed_of link.server (drop link.opened prefix)) (closed_before link prefix);
    few = omega arith;
    stays = tt;
  }
  reached_counts (a_flow place from) link since prefix refused is = record {
    silent = λ server beyond. fault_silent server from.flow UpstreamRefused (now_over since prefix) (used_proxy link prefix) (closed_before link prefix);
    few = omega arith;
    stays = tt;
  }

  passes : (stage : Stage) (prefix : List (Timed Event)) → AllBelow stage → Counts dials_at AllBelow (dials_at stage) ((stack_chain conv client).pass stage prefix)
  passes (asking front) prefix is = front_passes front prefix
  passes (http place standing) prefix is = flows_pass place standing prefix is
  passes (connecting tunnel) prefix is = quietly tunnel.at.dials (connecting tunnel) (omega arith, tt)
  passes (reaching goal link since) prefix is = reached_counts goal link since prefix (answer_of link prefix) is
  passes (undecided tunnel link since) prefix is =
      quietly tunnel.at.dials (goes_by (client_closed prefix) tunnel link since prefix) (goes_few (client_closed prefix) tunnel link since prefix is)
  passes (raw ends) prefix is = quietly (ends.link.server + 1) (raw ends) (omega arith, tt)
  passes (socket ends flow frames) prefix is = socket_passes ends flow frames prefix
  passes over prefix is = quietly 0 over (omega arith, tt)

  looks : (stage : Stage) (prefix : List (Timed Event)) → AllBelow stage → (server : ℕ) → dials_at stage ≤ server → IsSilent server (found ((stack_chain conv client).look stage prefix))
  looks (asking front) prefix is server beyond = front_silent server front
  looks (http place standing) prefix is server beyond = (flows_count place).looks standing prefix is server beyond
  looks (connecting tunnel) prefix is server beyond = refl
  looks (reaching goal link since) prefix is server beyond = refl
  looks (undecided tunnel link since) prefix is server beyond =
      let shut : Bool = is_shut link prefix in
      let closed : Bool = client_closed prefix in
      found_silent server (closed || shut) (closes_all link.server shut closed) (closes_silent server link.server shut closed)
  looks (raw ends) prefix is server beyond =
      let closed : Bool = client_closed prefix in
      let shut : Bool = is_shut ends.link prefix in
      let closes : List Command = closes_all ends.link.server shut closed in
      found_silent server (closed || shut) (finished_flow ends.flow ++ closes)
      (silent_both server (finished_flow ends.flow) closes (finished_silent server ends.flow) (closes_silent server ends.link.server shut closed))
  looks (socket ends flow frames) prefix is server beyond = frames_silent server (socket_terms client.key ends flow) frames
  looks over prefix is server beyond = refl

  waits : (stage : Stage) (prefix : List (Timed Event)) → AllBelow stage → (server : ℕ) → dials_at stage ≤ server → IsSilent server ((stack_chain conv client).so_far stage prefix)
  waits (asking front) prefix is server beyond = refl
  waits (http place standing) prefix is server beyond = (flows_count place).waits standing prefix is server beyond
  waits (connecting tunnel) prefix is server beyond = refl
  waits (reaching goal link since) prefix is server beyond = refl
  waits (undecided tunnel link since) prefix is server beyond = refl
  waits (raw ends) prefix is server beyond = both_silent server ends.link.server (text_up ends prefix) (text_down ends prefix) beyond
  waits (socket ends flow frames) prefix is server beyond = refl
  waits over prefix is server beyond = refl

  parts : (stage : Stage) (prefix : List (Timed Event)) → AllBelow stage → (server : ℕ) → dials_at stage ≤ server → IsSilent server ((stack_chain conv client).behind stage prefix)
  parts (asking front) prefix is server beyond = refl
  parts (http place standing) prefix is server beyond = (flows_count place).behind standing prefix is server beyond
  parts (connecting tunnel) prefix is server beyond = parked_silent server tunnel.at.parked
  parts (reaching goal link since) prefix is server beyond = refl
  parts (undecided tunnel link since) prefix is server beyond = refl
  parts (raw ends) prefix is server beyond = refl
  parts (socket ends flow frames) prefix is server beyond = refl
  parts over prefix is server beyond = refl

  -- a proxy is sent the request for a tunnel behind its connection
  connected_turns : (proxy : Option Address) (tunnel : Tunnel) (prefix : List (Timed Event)) (moment : ℕ) →
      Counts dials_at AllBelow (tunnel.at.dials + 1) (turn_connected conv client proxy tunnel prefix moment)
  connected_turns None tunnel prefix moment = record { silent = λ server beyond. refl; few = omega arith; stays = omega arith }
  connected_turns (Some proxy) tunnel prefix moment =
      record { silent = λ server beyond. sent_silent server tunnel.at.dials (connect_text tunnel.address) (omega arith); few = omega arith; stays = omega arith }

  dial_turns : (tunnel : Tunnel) (prefix : List (Timed Event)) (answer : Reply) (moment : ℕ) →
      Counts dials_at AllBelow (tunnel.at.dials + connects answer) (turn_dial conv client tunnel prefix answer moment)
  dial_turns tunnel prefix (reply.Go given stream) moment = quietly (tunnel.at.dials + 0) over (omega arith, tt)
  dial_turns tunnel prefix (reply.Respond response) moment = quietly (tunnel.at.dials + 0) over (omega arith, tt)
  dial_turns tunnel prefix reply.Kill moment = quietly (tunnel.at.dials + 0) over (omega arith, tt)
  dial_turns tunnel prefix reply.Discard moment = quietly (tunnel.at.dials + 0) over (omega arith, tt)
  dial_turns tunnel prefix reply.Dialled moment = connected_turns tunnel.proxy tunnel prefix moment
  dial_turns tunnel prefix (reply.Refused fault) moment =
      record { silent = λ server beyond. client_silent server (client_closed prefix); few = omega arith; stays = tt }

  -- what is answered to the dial of a client of SOCKS
  asked_turns : (used : ℕ) (address : Address) (closed : Bool) (answer : Reply) (prefix : List (Timed Event)) (moment : ℕ) →
      (let on : Turn Front Command = socks.turn (fronts.dialling used address) closed answer in Few (0 + connects answer) (turn_front conv client on prefix moment).stage)
  asked_turns used address closed (reply.Go given stream) prefix moment = (omega arith, tt)
  asked_turns used address closed (reply.Respond response) prefix moment = (omega arith, tt)
  asked_turns used address closed reply.Kill prefix moment = (omega arith, tt)
  asked_turns used address closed reply.Discard prefix moment = (omega arith, tt)
  asked_turns used address closed reply.Dialled prefix moment = (omega arith, omega arith)
  asked_turns used address closed (reply.Refused fault) prefix moment = (omega arith, tt)

  front_turned : (front : Front) (ask : Command) (closed : Bool) (answer : Reply) (prefix : List (Timed Event)) (moment : ℕ) → socks.look front ≡ Asks ask →
      Few (0 + connects answer) (turn_front conv client (socks.turn front closed answer) prefix moment).stage
  front_turned fronts.greeting ask closed answer prefix moment asked = absurd (let no : NotYet ≡ Asks ask = asked in cc)
  front_turned (fronts.requesting used) ask closed answer prefix moment asked = absurd (let no : NotYet ≡ Asks ask = asked in cc)
  front_turned (fronts.dialling used address) ask closed answer prefix moment asked = asked_turns used address closed answer prefix moment
  front_turned (fronts.opened used address) ask closed answer prefix moment asked = absurd (let no : Ends [] ≡ Asks ask = asked in cc)
  front_turned fronts.over ask closed answer prefix moment asked = absurd (let no : Ends [] ≡ Asks ask = asked in cc)

  front_turns : (front : Front) (ask : Command) (closed : Bool) (answer : Reply) (prefix : List (Timed Event)) (moment : ℕ) → socks.look front ≡ Asks ask →
      Counts dials_at AllBelow (0 + connects answer) (turn_front conv client (socks.turn front closed answer) prefix moment)
  front_turns front ask closed answer prefix moment asked =
      let on : Turn Front Command = socks.turn front closed answer in
      let few = front_turned front ask closed answer prefix moment asked in
      record { silent = λ server beyond. clients_silent server on.owed (turn_to_client front closed answer); few = few.0; stays = few.1 }

  asks_not : (ends : Bool) (owed : List Command) (ask : Command) → tunnel_found ends owed ≡ Asks ask → ⊥
  asks_not true owed ask is = let no : Ends owed ≡ Asks ask = is in cc
  asks_not false owed ask is = let no : NotYet ≡ Asks ask = is in cc

  -- ---- a flow whose dial connected another proxy

  -- it stands where its server is dialled
  abbrev IsLed : flows.Stage → Option Dialling → Type 0
  IsLed stage None = ⊤
  IsLed stage (Some from) = dialled stage ≡ from.at.dials

  led_is_by : (used : ℕ) (stage : flows.Stage) → IsLed stage (led_by used stage)
  led_is_by used (idle at) = tt
  led_is_by used (busy at flow (request_body given most)) = tt
  led_is_by used (busy at flow (connection sent)) = refl
  led_is_by used (busy at flow (response_head side how)) = tt
  led_is_by used (busy at flow (response_body side how most)) = tt
  led_is_by used (busy at flow (coming_down side how)) = tt
  led_is_by used (busy at flow (upgraded side)) = tt
  led_is_by used (busy at flow given_head) = tt
  led_is_by used (busy at flow given_body) = tt
  led_is_by used (next at) = tt
  led_is_by used flows.over = tt

  led_is : (place : Place) (standing : Standing) → IsLed standing.stage (led_at place standing)
  led_is places.Regular standing = tt
  led_is (places.Upstream proxy) standing = tt
  led_is (places.Fixed address None) standing = tt
  led_is (places.Fixed address (Some proxy)) standing = led_is_by standing.used.client standing.stage

  proxy_asked : (most : ℕ) (place : Place) (prefix : List (Timed Event)) (from : Dialling) (moment : ℕ) → from.at.dials + 1 ≤ most →
      Counts dials_at AllBelow most (asks_proxy conv client (a_flow place from) (address_of from.flow.request) from.at.dials prefix moment)
  proxy_asked most place prefix from moment more =
      record { silent = λ server beyond. sent_silent server from.at.dials (connect_text (address_of from.flow.request)) (omega arith); few = more; stays = refl }

  flows_turn : (place : Place) (standing : Standing) (prefix : List (Timed Event)) (ask : Command) (answer : Timed Reply) → AreBelow standing →
      (flows_at conv client place).look standing prefix ≡ Asks ask →
      Counts dials_at AllBelow (dialled_at standing + connects answer.value) (turn_flows conv client place standing prefix answer)
  flows_turn place standing prefix ask answer is asked =
      let counts = (flows_count place).turns standing prefix ask answer is asked in
      record { silent = counts.silent; few = counts.few; stays = counts.stays }

  http_turns : (led : Option Dialling) (place : Place) (standing : Standing) (prefix : List (Timed Event)) (ask : Command) (answer : Timed Reply) (value : Reply) →
      IsLed standing.stage led → answer.value ≡ value → AreBelow standing → (flows_at conv client place).look standing prefix ≡ Asks ask →
      Counts dials_at AllBelow (dialled_at standing + connects answer.value) (turn_http conv client led place standing prefix answer value)
  http_turns None place standing prefix ask answer value led same is asked = flows_turn place standing prefix ask answer is asked
  http_turns (Some from) place standing prefix ask answer (reply.Go given stream) led same is asked = flows_turn place standing prefix ask answer is asked
  http_turns (Some from) place standing prefix ask answer (reply.Respond response) led same is asked = flows_turn place standing prefix ask answer is asked
  http_turns (Some from) place standing prefix ask answer reply.Kill led same is asked = flows_turn place standing prefix ask answer is asked
  http_turns (Some from) place standing prefix ask answer reply.Discard led same is asked = flows_turn place standing prefix ask answer is asked
  http_turns (Some from) place standing prefix ask answer reply.Dialled led same is asked =
      let one : connects answer.value ≡ 1 = ap connects same in
      let dials = led in
      proxy_asked (dialled_at standing + connects answer.value) place prefix from answer.moment (omega arith)
  http_turns (Some from) place standing prefix ask answer (reply.Refused fault) led same is asked = flows_turn place standing prefix ask answer is asked

  turns : (stage : Stage) (prefix : List (Timed Event)) (ask : Command) (answer : Timed Reply) → AllBelow stage → (stack_chain conv client).look stage prefix ≡ Asks ask →
      Counts dials_at AllBelow (dials_at stage + connects answer.value) ((stack_chain conv client).turn stage prefix answer)
  turns (asking front) prefix ask answer is asked = front_turns front ask (client_closed prefix) answer.value prefix answer.moment asked
  turns (http place standing) prefix ask answer is asked =
      http_turns (led_at place standing) place standing prefix ask answer answer.value (led_is place standing) refl is asked
  turns (connecting tunnel) prefix ask answer is asked = dial_turns tunnel prefix answer.value answer.moment
  turns (reaching goal link since) prefix ask answer is asked = absurd (let no : NotYet ≡ Asks ask = asked in cc)
  turns (undecided tunnel link since) prefix ask answer is asked = absurd (asks_not _ _ ask asked)
  turns (raw ends) prefix ask answer is asked = absurd (asks_not _ _ ask asked)
  turns (socket ends flow frames) prefix ask answer is asked =
      let more = connects answer.value in
      socket_counts ends flow (ends.link.server + 1 + connects answer.value) _ (omega arith)
      (turn_says (socket_terms client.key ends flow) (socket_sight ends prefix) frames answer.value answer.moment)
  turns over prefix ask answer is asked = absurd (let no : Ends [] ≡ Asks ask = asked in cc)

  pub stack_counts : CountsServers (stack_chain conv client) dials_at AllBelow
  stack_counts = record { passes = passes; looks = looks; waits = waits; behind = parts; turns = turns }

-- no server is dialled where a conversation begins
begun_below : (place : Option Place) → AllBelow (begins_by place)
begun_below None = tt
begun_below (Some place) = tt

begun_none : (place : Option Place) → dials_at (begins_by place) ≡ 0
begun_none None = refl
begun_none (Some place) = refl

-- No byte is due to a server while no call answers its dial with the connection. Servers are numbered from 0 in the order of their dials.
pub mode_silent : (mode : Mode) (key : List ℕ) (conv : ℕ) (peer : Option Address) (server : ℕ) (moves : List Move) → NoAnswer server moves →
    bytes_in (seen_of (line (Server server)) (mode_due mode key conv peer moves)) ≡ []
mode_silent mode key conv peer server moves none =
    let client : Visitor = record { address = peer; key = key } in
    counted_silent (stack_chain conv client) dials_at AllBelow (stack_counts conv client) server (begins mode) moves (begun_below (place_of mode)) (begun_none (place_of mode)) none

-- Nothing at all is due before the first call.
pub mode_nothing_yet : (mode : Mode) (key : List ℕ) (conv : ℕ) (peer : Option Address) → mode_due mode key conv peer [] ≡ []
mode_nothing_yet mode key conv peer = by (place_of mode)
  where
    by : (place : Option Place) → due_by (stack_chain conv (record { address = peer; key = key })) (begins_by place) [] ≡ []
    by None = refl
    by (Some place) = refl
