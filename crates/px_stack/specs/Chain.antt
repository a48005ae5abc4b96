-- What is due in a conversation: what a client of SOCKS says first, in a mode that wants it; HTTP's chain, until a CONNECT or a response of code 101 hands over; then a tunnel, in which HTTP may
-- follow again. All of it looks at joined prefixes alone, so what the one has not used is there for the other.
use Rattle.std.specs.Prelude.{ℕ, ◌+◌, ◌==◌, Bool, true, false, ◌||◌, not, if◌then◌else◌, List, [], ◌∷◌, ◌++◌, drop, take, length, Option, Some, None, unwrap_or}
use Rattle.px_message.specs.declared.address.Address.{Address}
use Rattle.px_message.specs.declared.fault.Fault.TheVariants.{UpstreamRefused}
use Rattle.px_message.specs.declared.flow.Flow.{Flow}
use Rattle.px_event.specs.declared.command.Command.{Command}
use Rattle.px_event.specs.declared.command.Command.TheVariants as commands
use Rattle.px_event.specs.declared.event.Event.{Event}
use Rattle.px_event.specs.declared.reply.Reply.{Reply}
use Rattle.px_event.specs.declared.reply.Reply.TheVariants as reply
use Rattle.px_event.specs.declared.side.Side.TheVariants.{Client, Server}
use Rattle.px_event.specs.Chain.{Timed, Look, NotYet, Asks, Ends, Turn, Chain}
use Rattle.px_exchange.specs.declared.ending.Used.{Used}
use Rattle.px_exchange.specs.declared.ending.Used.TheVariants.{NoServer, ByServer}
use Rattle.px_exchange.specs.declared.mode.Mode.{Mode}
use Rattle.px_exchange.specs.declared.place.Place.{Place}
use Rattle.px_exchange.specs.declared.place.Place.TheVariants as places
use Rattle.px_exchange.specs.Endings.{ends_by_fault, refuses, shut_all}
use Rattle.px_exchange.specs.Places.{address_of, place_of, terms_of}
use Rattle.px_exchange.specs.Texts.{connected_text}
use Rattle.px_chain.specs.Chain.{Connect, begin, connect_in, http_chain, reached, sequence}
use Rattle.px_chain.specs.Sights.{Sight, Standing, request_in, sight_over}
use Rattle.px_chain.specs.Keeping.{unspoilt_at}
use Rattle.px_chain.specs.Stages.{At, Parked, busy, connection, idle, response_head, unparked, upgraded}
use Rattle.px_chain.specs.Stages as flows
use Rattle.px_event.specs.Sides.{closes, piece_of}
use Rattle.px_chain.specs.Streams.{Since, bytes_of, client_closed, from_here, is_closed, last_moment, now_over}
use Rattle.px_stack.specs.Decides.{Decision, decided, is_http, is_raw, still}
use Rattle.px_tunnel.specs.Upstream.{Granting, awaited, connect_text, granted, granting, refused}
use Rattle.px_relay.specs.Chain as relay
use Rattle.px_relay.specs.Sending.{Terms}
use Rattle.px_relay.specs.Sights.{Sight as SocketSight}
use Rattle.px_relay.specs.Stages.{Stage as Frames, relaying}
use Rattle.px_socks.specs.Chain as socks
use Rattle.px_socks.specs.Stages as fronts
use Rattle.px_socks.specs.Stages.{Sight as FrontSight, Stage as Front}
use Rattle.px_stack.specs.Sockets.{is_websocket}
use Rattle.px_stream.specs.Anywhere.{reached_owes}
use Rattle.px_stack.specs.Stages.{Dialling, Ends as TunnelEnds, Goal, Link, Stage, Tunnel, Visitor, a_flow, a_tunnel, asking, connecting, http, over, raw, reaching, socket, undecided}

-- ---- where HTTP hands over

-- the proxy through which a client's tunnels go at a place, if they go through one
abbrev pub proxy_at : Place → Option Address
proxy_at (places.Upstream proxy) = Some proxy
proxy_at place = None

abbrev pub tunnel_for : Place → ℕ → At → Option Connect → Option Stage
tunnel_for place used at None = None
tunnel_for place used at (Some connect) =
    Some (connecting (record { at = at; used = used + connect.used; address = connect.address; proxy = proxy_at place }))

-- Another protocol follows at this moment: a WebSocket, or one that is not read. Where a WebSocket begins, no frame was read yet.
abbrev pub upgrades : Bool → Flow → ℕ → TunnelEnds → Stage
upgrades true flow moment ends = socket ends (record flow { websocket = true }) (relaying (relay.begins_at moment))
upgrades false flow moment ends = raw ends

-- behind a CONNECT, and behind a response of code 101
abbrev pub hands_by : Place → Standing → flows.Stage → Sight → Option Stage
hands_by place standing (idle at) seen = tunnel_for place standing.used.client (unspoilt_at at seen) (connect_in place (request_in seen))
hands_by place standing (busy at flow (upgraded server)) seen = Some (upgrades (is_websocket flow seen.closed) flow seen.now (record {
  used = standing.used.client;
  link = record { server = server; used = standing.used.server; opened = standing.opened };
  flow = Some flow;
}))
hands_by place standing stage seen = None

abbrev pub hands_over : Place → Standing → List (Timed Event) → Option Stage
hands_over place standing prefix = hands_by place standing standing.stage (sight_over standing prefix)

abbrev pub or_stays : Stage → Option Stage → Stage
or_stays stage None = stage
or_stays stage (Some to) = to

-- What HTTP owed while it waited is owed for good where it hands over: the close of a parked side of which a byte came.
abbrev pub owed_at_handing : Option Stage → List Command → List Command
owed_at_handing None owed = []
owed_at_handing (Some to) owed = owed

-- ---- a tunnel of which nothing is decided

-- what has come of the client behind the CONNECT, and of the server
abbrev pub opening_text : Tunnel → List (Timed Event) → List ℕ
opening_text tunnel prefix = drop tunnel.used (bytes_of Client prefix)

abbrev pub text_on : Link → List (Timed Event) → List ℕ
text_on link prefix = drop link.used (bytes_of (Server link.server) (drop link.opened prefix))

abbrev pub is_empty : List ℕ → Bool
is_empty text = length text == 0

abbrev pub has_answered : Link → List (Timed Event) → Bool
has_answered link prefix = not (is_empty (text_on link prefix))

-- HTTP in a tunnel goes to where the CONNECT asked to, the first request on the side that is connected, which is parked until then
abbrev pub inner_place : Tunnel → Link → Place
inner_place tunnel link = places.Fixed tunnel.address tunnel.proxy

abbrev pub inner_standing : Tunnel → Link → Since → Standing
inner_standing tunnel link since = record {
  stage = idle (record tunnel.at { parked = Some (record { server = link.server; address = tunnel.address }) });
  since = since;
  opened = link.opened;
  used = record { client = tunnel.used; server = link.used };
  told = 0;
}

abbrev pub tunnel_ends : Tunnel → Link → TunnelEnds
tunnel_ends tunnel link = record { used = tunnel.used; link = link; flow = None }

abbrev pub follows : Decision → Tunnel → Link → Since → Stage
follows still tunnel link since = undecided tunnel link since
follows is_http tunnel link since = http (inner_place tunnel link) (inner_standing tunnel link since)
follows is_raw tunnel link since = raw (tunnel_ends tunnel link)

-- Where the client has closed, nothing follows: it ends there.
abbrev pub goes_by : Bool → Tunnel → Link → Since → List (Timed Event) → Stage
goes_by true tunnel link since prefix = undecided tunnel link since
goes_by false tunnel link since prefix = follows (decided (opening_text tunnel prefix) (has_answered link prefix)) tunnel link since

-- ---- another proxy, which is asked for a tunnel

-- What has come of a side, and whether it closed: also behind the client's close.
abbrev pub text_of : ℕ → List (Timed Event) → List ℕ
text_of server [] = []
text_of server (e ∷ prefix) =
    if closes (Server server) e.value then [] else (piece_of (Server server) e.value ++ text_of server prefix)

abbrev pub closed_of : ℕ → List (Timed Event) → Bool
closed_of server [] = false
closed_of server (e ∷ prefix) = closes (Server server) e.value || closed_of server prefix

-- its answer, as far as it has come
abbrev pub answer_of : Link → List (Timed Event) → Granting
answer_of link prefix = granting (text_of link.server (drop link.opened prefix)) (closed_of link.server (drop link.opened prefix))

-- What came of the server behind the proxy's head; behind the client's close nothing is heard of it.
abbrev pub unless_closed : Bool → List ℕ → List ℕ
unless_closed true text = []
unless_closed false text = text

abbrev pub text_behind : Link → ℕ → List (Timed Event) → List ℕ
text_behind link used prefix = unless_closed (client_closed prefix) (drop used (text_of link.server (drop link.opened prefix)))

-- Where the server is heard: from here on where nothing came behind the head, and else behind the head.
abbrev pub way_by : Bool → Link → ℕ → ℕ → Link
way_by true link used come = record { server = link.server; used = 0; opened = come }
way_by false link used come = record { server = link.server; used = used; opened = link.opened }

abbrev pub way_to : Link → ℕ → List (Timed Event) → Link
way_to link used prefix = way_by (is_empty (text_behind link used prefix)) link used (length prefix)

-- a flow that is connected so
abbrev pub connected_on : Place → Dialling → Link → Since → Standing
connected_on place from way since = record {
  stage = busy (record from.at { dials = from.at.dials + 1 }) (reached place from.flow) (response_head way.server from.sent);
  since = since;
  opened = way.opened;
  used = record { client = from.used; server = way.used };
  told = 0;
}

-- the proxy's side, and whether it closed
abbrev pub used_proxy : Link → List (Timed Event) → Used
used_proxy link prefix = ByServer link.server (closed_of link.server (drop link.opened prefix))

-- A proxy is a part of a dial: an end by what it says comes at the place of the dial, and what closed behind that was not heard there.
abbrev pub closed_before : Link → List (Timed Event) → Bool
closed_before link prefix = client_closed (take link.opened prefix)

-- ---- a tunnel

abbrev pub text_up : TunnelEnds → List (Timed Event) → List ℕ
text_up ends prefix = drop ends.used (bytes_of Client prefix)

abbrev pub text_down : TunnelEnds → List (Timed Event) → List ℕ
text_down ends prefix = text_on ends.link prefix

abbrev pub is_shut : Link → List (Timed Event) → Bool
is_shut link prefix = is_closed (Server link.server) (drop link.opened prefix)

-- the flow that became the tunnel ends with it, and without an error
abbrev pub finished_flow : Option Flow → List Command
finished_flow None = []
finished_flow (Some flow) = commands.Done flow ∷ []

-- The first close of either side ends it.
abbrev pub tunnel_found : Bool → List Command → Look Command
tunnel_found true owed = Ends owed
tunnel_found false owed = NotYet

abbrev pub closes_all : ℕ → Bool → Bool → List Command
closes_all server shut closed = shut_all (ByServer server shut) closed

abbrev pub raw_look : TunnelEnds → List (Timed Event) → Look Command
raw_look ends prefix =
    let closed = client_closed prefix in
    let shut = is_shut ends.link prefix in
    tunnel_found (closed || shut) (finished_flow ends.flow ++ closes_all ends.link.server shut closed)

abbrev pub opening_look : Link → List (Timed Event) → Look Command
opening_look link prefix =
    let closed = client_closed prefix in
    let shut = is_shut link prefix in
    tunnel_found (closed || shut) (closes_all link.server shut closed)

-- ---- dials

-- the close of a side that was parked when a CONNECT came
abbrev pub shut_parked : Option Parked → List Command
shut_parked None = []
shut_parked (Some parked) = commands.Close (Server parked.server) ∷ []

-- what is dialled for a CONNECT: the proxy that it goes through, or where it asks for a tunnel to
abbrev pub dialled_by : Tunnel → Address
dialled_by tunnel = unwrap_or tunnel.proxy tunnel.address

-- a flow whose server is dialled through another proxy; the side that was parked is closed by then
abbrev pub led_by : ℕ → flows.Stage → Option Dialling
led_by used (busy at flow (connection sent)) = Some (record { at = unparked at; used = used; flow = flow; sent = sent })
led_by used stage = None

abbrev pub led_at : Place → Standing → Option Dialling
led_at (places.Fixed address (Some proxy)) standing = led_by standing.used.client standing.stage
led_at place standing = None

-- ---- a client of SOCKS

abbrev pub front_sight : List (Timed Event) → FrontSight
front_sight prefix = record { client = bytes_of Client prefix; closed = client_closed prefix }

-- where it is over, all is
abbrev pub at_front : Front → Stage
at_front fronts.over = over
at_front front = asking front

abbrev pub pass_front : Front → List (Timed Event) → Turn Stage Command
pass_front front prefix = let on = socks.pass front (front_sight prefix) in record { owed = on.owed; stage = at_front on.stage }

-- the tunnel that it asks for: its server was dialled as the first, and no flow has come yet
abbrev pub asked_tunnel : ℕ → Address → Tunnel
asked_tunnel used address = record { at = record { flow = 0; dials = 1; parked = None }; used = used; address = address; proxy = None }

-- ---- a WebSocket

abbrev pub socket_terms : List ℕ → TunnelEnds → Flow → Terms
socket_terms key ends flow = record { flow = flow; server = ends.link.server; key = key }

abbrev pub socket_sight : TunnelEnds → List (Timed Event) → SocketSight
socket_sight ends prefix = record {
  client = text_up ends prefix;
  closed = client_closed prefix;
  server = text_down ends prefix;
  shut = is_shut ends.link prefix;
  now = last_moment 0 prefix;
}

-- where it leads, by what its frames owe and lead to
abbrev pub socket_turn : TunnelEnds → Flow → Turn Frames Command → Turn Stage Command
socket_turn ends flow on = record { owed = on.owed; stage = socket ends flow on.stage }

-- ---- the chain

module _ (conv : ℕ) (client : Visitor) where
  -- HTTP at a place: flows in sequence
  abbrev pub flows_at : Place → Chain Standing Event Reply Command
  flows_at place = http_chain sequence (terms_of conv client.address place)

  abbrev pub pass_http : Place → Standing → List (Timed Event) → Stage
  pass_http place standing prefix = or_stays (http place standing) (hands_over place standing prefix)

  abbrev pub pass_socket : TunnelEnds → Flow → Frames → List (Timed Event) → Turn Stage Command
  pass_socket ends flow frames prefix = socket_turn ends flow (relay.pass (socket_terms client.key ends flow) frames (socket_sight ends prefix))

  -- a WebSocket works off at once what has come of it
  abbrev pub begun : Stage → List (Timed Event) → Turn Stage Command
  begun (socket ends flow frames) prefix = pass_socket ends flow frames prefix
  begun stage prefix = record { owed = []; stage = stage }

  -- this is owed before
  abbrev pub owing : List Command → Turn Stage Command → Turn Stage Command
  owing owed on = record { owed = owed ++ on.owed; stage = on.stage }

  -- what follows HTTP where it has passed on, if anything does
  abbrev pub follows_to : Place → Standing → List (Timed Event) → Turn Stage Command
  follows_to place standing prefix =
      owing (owed_at_handing (hands_over place standing prefix) ((flows_at place).so_far standing prefix)) (begun (pass_http place standing prefix) prefix)

  -- HTTP passes on, and what follows it begins
  abbrev pub pass_flows : Place → Standing → List (Timed Event) → Turn Stage Command
  pass_flows place standing prefix =
      let on = (flows_at place).pass standing prefix in
      let to = follows_to place on.stage prefix in
      record { owed = on.owed ++ to.owed; stage = to.stage }

  -- a proxy that let through, or refused
  abbrev pub pass_reached : Goal → Link → Since → List (Timed Event) → Granting → Turn Stage Command
  pass_reached goal link since prefix awaited = record { owed = []; stage = reaching goal link since }
  pass_reached (a_tunnel tunnel) link since prefix (granted used) = record {
    owed = commands.Send Client connected_text ∷ [];
    stage = goes_by (client_closed prefix) tunnel (way_to link used prefix) (from_here (now_over since prefix) prefix) prefix;
  }
  pass_reached (a_flow place from) link since prefix (granted used) =
      owing (reached_owes from.sent place from.flow link.server)
      (pass_flows place (connected_on place from (way_to link used prefix) (from_here (now_over since prefix) prefix)) prefix)
  pass_reached (a_tunnel tunnel) link since prefix refused =
      record { owed = refuses UpstreamRefused false (used_proxy link prefix) (closed_before link prefix); stage = over }
  pass_reached (a_flow place from) link since prefix refused = record {
    owed = ends_by_fault from.flow UpstreamRefused (now_over since prefix) (used_proxy link prefix) (closed_before link prefix);
    stage = over;
  }

  abbrev pub pass : Stage → List (Timed Event) → Turn Stage Command
  pass (asking front) prefix = pass_front front prefix
  pass (http place standing) prefix = pass_flows place standing prefix
  pass (socket ends flow frames) prefix = pass_socket ends flow frames prefix
  pass (reaching goal link since) prefix = pass_reached goal link since prefix (answer_of link prefix)
  pass (undecided tunnel link since) prefix = record { owed = []; stage = goes_by (client_closed prefix) tunnel link since prefix }
  pass stage prefix = record { owed = []; stage = stage }

  abbrev pub look : Stage → List (Timed Event) → Look Command
  look (asking front) prefix = socks.look front
  look (http place standing) prefix = (flows_at place).look standing prefix
  look (connecting tunnel) prefix = Asks (commands.Dial tunnel.at.dials (dialled_by tunnel) None)
  look (reaching goal link since) prefix = NotYet
  look (undecided tunnel link since) prefix = opening_look link prefix
  look (raw ends) prefix = raw_look ends prefix
  look (socket ends flow frames) prefix = relay.look (socket_terms client.key ends flow) frames
  look over prefix = Ends []

  -- what a tunnel owes so far: to each side what has come of the other
  abbrev pub so_far : Stage → List (Timed Event) → List Command
  so_far (http place standing) prefix = (flows_at place).so_far standing prefix
  so_far (raw ends) prefix =
      commands.Send (Server ends.link.server) (text_up ends prefix) ∷ commands.Send Client (text_down ends prefix) ∷ []
  so_far stage prefix = []

  -- behind a dial, for a flow or for a CONNECT, the side that was parked is closed
  abbrev pub behind : Stage → List (Timed Event) → List Command
  behind (http place standing) prefix = (flows_at place).behind standing prefix
  behind (connecting tunnel) prefix = shut_parked tunnel.at.parked
  behind stage prefix = []

  -- one dial more was made, and nothing is parked any more
  abbrev pub dialled_more : Tunnel → Tunnel
  dialled_more tunnel = record tunnel { at = record tunnel.at { dials = tunnel.at.dials + 1; parked = None } }

  -- a server that is connected, or a proxy, which is asked for a tunnel to there
  abbrev pub link_at : ℕ → List (Timed Event) → Link
  link_at server prefix = record { server = server; used = 0; opened = length prefix }

  -- where the server that a client of SOCKS asks for is connected, the first bytes behind its request decide what follows
  abbrev pub behind_front : Front → List (Timed Event) → ℕ → Stage
  behind_front (fronts.opened used address) prefix moment = undecided (asked_tunnel used address) (link_at 0 prefix) (from_here moment prefix)
  behind_front front prefix moment = at_front front

  abbrev pub turn_front : Turn Front Command → List (Timed Event) → ℕ → Turn Stage Command
  turn_front on prefix moment = record { owed = on.owed; stage = behind_front on.stage prefix moment }

  abbrev pub asks_proxy : Goal → Address → ℕ → List (Timed Event) → ℕ → Turn Stage Command
  asks_proxy goal address server prefix moment = record {
    owed = commands.Send (Server server) (connect_text address) ∷ [];
    stage = reaching goal (link_at server prefix) (from_here moment prefix);
  }

  abbrev pub turn_connected : Option Address → Tunnel → List (Timed Event) → ℕ → Turn Stage Command
  turn_connected None tunnel prefix moment = record {
    owed = commands.Send Client connected_text ∷ [];
    stage = undecided (dialled_more tunnel) (link_at tunnel.at.dials prefix) (from_here moment prefix);
  }
  turn_connected (Some proxy) tunnel prefix moment = asks_proxy (a_tunnel (dialled_more tunnel)) tunnel.address tunnel.at.dials prefix moment

  abbrev pub turn_dial : Tunnel → List (Timed Event) → Reply → ℕ → Turn Stage Command
  turn_dial tunnel prefix reply.Dialled moment = turn_connected tunnel.proxy tunnel prefix moment
  turn_dial tunnel prefix (reply.Refused fault) moment = record { owed = refuses fault false NoServer (client_closed prefix); stage = over }
  turn_dial tunnel prefix answer moment = record { owed = []; stage = over }

  -- Where a flow's server is reached through another proxy, its dial has connected that proxy.
  abbrev pub turn_flows : Place → Standing → List (Timed Event) → Timed Reply → Turn Stage Command
  turn_flows place standing prefix answer =
      let on = (flows_at place).turn standing prefix answer in record { owed = on.owed; stage = http place on.stage }

  abbrev pub turn_http : Option Dialling → Place → Standing → List (Timed Event) → Timed Reply → Reply → Turn Stage Command
  turn_http (Some from) place standing prefix answer reply.Dialled =
      asks_proxy (a_flow place from) (address_of from.flow.request) from.at.dials prefix answer.moment
  turn_http from place standing prefix answer value = turn_flows place standing prefix answer

  abbrev pub turn : Stage → List (Timed Event) → Timed Reply → Turn Stage Command
  turn (asking front) prefix answer = turn_front (socks.turn front (client_closed prefix) answer.value) prefix answer.moment
  turn (http place standing) prefix answer = turn_http (led_at place standing) place standing prefix answer answer.value
  turn (connecting tunnel) prefix answer = turn_dial tunnel prefix answer.value answer.moment
  turn (socket ends flow frames) prefix answer =
      socket_turn ends flow (relay.turn (socket_terms client.key ends flow) frames (socket_sight ends prefix) answer.value answer.moment)
  turn stage prefix answer = record { owed = []; stage = stage }

  abbrev pub stack_chain : Chain Stage Event Reply Command
  stack_chain = record { pass = pass; look = look; so_far = so_far; behind = behind; turn = turn }

-- where a conversation begins, in this mode
abbrev pub first_at : At
first_at = record { flow = 0; dials = 0; parked = None }

abbrev pub begins_by : Option Place → Stage
begins_by (Some place) = http place (begin (idle first_at))
begins_by None = asking fronts.greeting

abbrev pub begins : Mode → Stage
begins mode = begins_by (place_of mode)
