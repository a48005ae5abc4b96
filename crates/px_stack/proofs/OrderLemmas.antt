-- No hook of a flow is asked behind the flow's end, whatever follows a CONNECT.
use Rattle.std.proofs.Common.{◌≡◌, inl, inr, ℕ, Bool, true, false, List, [], ◌∷◌, ◌++◌, drop, Option, Some, None, refl, ap, sym, ◌∙◌, subst, arith, nat_lt}
use Rattle.std.specs.Prelude.{⊤, ◌==◌, ◌||◌, ◌≢◌, ◌⊎◌}
use Rattle.std.proofs.lemmas.Bool.{eqb-true, ltb-true}
use Rattle.px_message.specs.declared.address.Address.{Address}
use Rattle.px_message.specs.declared.fault.Fault.TheVariants.{UpstreamRefused}
use Rattle.px_message.specs.declared.flow.Flow.{Flow}
use Rattle.px_event.specs.declared.ask.Ask.TheVariants as asks
use Rattle.px_event.specs.declared.command.Command.{Command}
use Rattle.px_event.specs.declared.command.Command.TheVariants as commands
use Rattle.px_event.specs.declared.reply.Reply.{Reply}
use Rattle.px_event.specs.declared.reply.Reply.TheVariants as reply
use Rattle.px_event.specs.declared.event.Event.{Event}
use Rattle.px_event.specs.declared.side.Side.{Side}
use Rattle.px_event.specs.declared.side.Side.TheVariants.{Client, Server}
use Rattle.px_event.specs.Chain.{Timed, NotYet, Asks, Ends, Turn, found, found_at}
use Rattle.px_event.specs.Layer.{Move}
use Rattle.px_event.specs.Stands.{due_by, events_in, replies_in}
use Rattle.px_core.specs.Ordered.{AsksNoneOf, EndsOneOf, AsksBeforeEnds, LeavesBehind, LeavesNone, LeavesFlows}
use Rattle.px_core.proofs.LeavingLemmas.{leaving_ordered}
use Rattle.px_exchange.specs.declared.ending.Used.{Used}
use Rattle.px_exchange.specs.declared.ending.Used.TheVariants.{ByServer, NoServer}
use Rattle.px_exchange.specs.declared.place.Place.{Place}
use Rattle.px_exchange.specs.declared.place.Place.TheVariants as places
use Rattle.px_write.specs.Error.{error_text}
use Rattle.px_exchange.specs.Texts.{connected_text}
use Rattle.px_exchange.specs.Endings.{ends_by_fault, refuses, shut_all, shut_client, shut_server}
use Rattle.px_exchange.specs.Places.{address_of, dialled_for, terms_of}
use Rattle.px_chain.specs.Chain.{Connect, behind as behind_of, connect_in, look as look_of, so_far as so_far_of}
use Rattle.px_chain.specs.Keeping.{shut_by_byte, shut_stray, unspoilt_at}
use Rattle.px_chain.specs.Sights.{Sight, Standing, request_in, server_parked, sight_over}
use Rattle.px_chain.specs.Stages.{At, Parked, busy, coming_down, connection, given_body, given_head, idle, next, request_body, response_body, response_head, unparked, upgraded, Sent, all_sent, going_up}
use Rattle.px_chain.specs.Stages as flows
use Rattle.px_chain.specs.Streams.{Since, client_closed, from_here, now_over}
use Rattle.px_http.proofs.OrderLemmas.{is_counted as is_counted_there, is_counted_at, is_past, is_past_at, leaves_flows}
use Rattle.px_tunnel.specs.Upstream.{Granting, awaited, connect_text, granted, refused}
use Rattle.px_relay.specs.declared.peer.Peer.{Peer}
use Rattle.px_relay.specs.Chain.{message_ask, terms_at, with_message}
use Rattle.px_relay.specs.Chain as relay
use Rattle.px_relay.specs.Messages.{Message}
use Rattle.px_relay.specs.Sending.{Terms}
use Rattle.px_relay.specs.Sights.{Sight as SocketSight}
use Rattle.px_relay.specs.Stages.{At as MessageAt, Stage as Frames, holding, over as ended, relaying}
use Rattle.px_socks.specs.Chain as socks
use Rattle.px_socks.specs.FrontLaws.{AllToClient, pass_to_client, turn_to_client}
use Rattle.px_socks.specs.Stages as fronts
use Rattle.px_socks.specs.Stages.{Stage as Front}
use Rattle.px_stream.specs.Anywhere.{reached_owes}
use Rattle.px_stack.specs.Chain.{answer_of, asks_proxy, at_front, begins_by, begun, behind_front, closed_before, closed_of, closes_all, dialled_by, finished_flow, flows_at, follows, front_sight, goes_by, hands_by, hands_over, has_answered, is_shut, led_at, led_by, opening_text, or_stays, owed_at_handing, shut_parked, pass_front, pass_http, pass_reached, pass_socket, raw_look, socket_sight, socket_terms, stack_chain, tunnel_for, tunnel_found, turn_connected, turn_dial, turn_flows, turn_front, turn_http, upgrades, used_proxy, way_to, connected_on}
use Rattle.px_stack.specs.Decides.{Decision, decided, is_http, is_raw, still}
use Rattle.px_stack.specs.Frames.{AreSaid, IsOver, pass_says, turn_says}
use Rattle.px_stack.specs.Laws.{handing_owes}
use Rattle.px_stack.specs.Sockets.{is_websocket}
use Rattle.px_stack.specs.Stages.{Dialling, Ends as TunnelEnds, Goal, Link, Stage, Tunnel, Visitor, a_flow, a_tunnel, asking, connecting, http, over, raw, reaching, socket, undecided}

-- ---- the tests

abbrev pub is_counted_goal : Goal → Bool
is_counted_goal (a_tunnel tunnel) = true
is_counted_goal (a_flow place from) = from.flow.id.index == from.at.flow

abbrev pub is_counted : Stage → Bool
is_counted (http place standing) = is_counted_at standing
is_counted (reaching goal link since) = is_counted_goal goal
is_counted stage = true

-- a tunnel is past the flows before its own, and one that is not read past all; so is what another proxy is asked for
abbrev pub is_behind_goal : Goal → ℕ → Bool
is_behind_goal (a_tunnel tunnel) index = nat_lt index tunnel.at.flow
is_behind_goal (a_flow place from) index = nat_lt index from.at.flow

-- a WebSocket is past the flows before its own until it has ended
abbrev pub is_behind_frames : Frames → ℕ → ℕ → Bool
is_behind_frames (relaying at) own index = nat_lt index own
is_behind_frames (holding from message at) own index = nat_lt index own
is_behind_frames ended own index = true

-- a client of SOCKS is past none
abbrev pub is_behind : Stage → ℕ → Bool
is_behind (asking front) index = false
is_behind (http place standing) index = is_past_at standing index
is_behind (connecting tunnel) index = nat_lt index tunnel.at.flow
is_behind (reaching goal link since) index = is_behind_goal goal index
is_behind (undecided tunnel link since) index = nat_lt index tunnel.at.flow
is_behind (socket ends flow frames) index = is_behind_frames frames flow.id.index index
is_behind stage index = true

-- ---- one list behind the other

none_both : (index : ℕ) (xs ys : List Command) → AsksNoneOf index xs → AsksNoneOf index ys → AsksNoneOf index (xs ++ ys)
none_both index [] ys a b = b
none_both index (commands.Ask (asks.Hook number hook) flow ∷ xs) ys (apart, a) b = (apart, none_both index xs ys a b)
none_both index (commands.Ask (asks.Dial server) flow ∷ xs) ys a b = none_both index xs ys a b
none_both index (commands.Send side text ∷ xs) ys a b = none_both index xs ys a b
none_both index (commands.Close side ∷ xs) ys a b = none_both index xs ys a b
none_both index (commands.Dial server address inside ∷ xs) ys a b = none_both index xs ys a b
none_both index (commands.Done flow ∷ xs) ys a b = none_both index xs ys a b

ends_both : (index : ℕ) (xs ys : List Command) → EndsOneOf index (xs ++ ys) → EndsOneOf index xs ⊎ EndsOneOf index ys
ends_both index [] ys e = inr e
ends_both index (commands.Done flow ∷ xs) ys (inl is) = inl (inl is)
ends_both index (commands.Done flow ∷ xs) ys (inr e) = later (ends_both index xs ys e)
  where
    later : EndsOneOf index xs ⊎ EndsOneOf index ys → EndsOneOf index (commands.Done flow ∷ xs) ⊎ EndsOneOf index ys
    later (inl a) = inl (inr a)
    later (inr b) = inr b
ends_both index (commands.Send side text ∷ xs) ys e = ends_both index xs ys e
ends_both index (commands.Close side ∷ xs) ys e = ends_both index xs ys e
ends_both index (commands.Dial server address inside ∷ xs) ys e = ends_both index xs ys e
ends_both index (commands.Ask ask flow ∷ xs) ys e = ends_both index xs ys e

ordered_both : (xs ys : List Command) → AsksBeforeEnds xs → AsksBeforeEnds ys → ((index : ℕ) → EndsOneOf index xs → AsksNoneOf index ys) → AsksBeforeEnds (xs ++ ys)
ordered_both [] ys a b none = b
ordered_both (commands.Done flow ∷ xs) ys (here, a) b none =
    (none_both flow.id.index xs ys here (none flow.id.index (inl refl)), ordered_both xs ys a b (λ index e. none index (inr e)))
ordered_both (commands.Send side text ∷ xs) ys a b none = ordered_both xs ys a b none
ordered_both (commands.Close side ∷ xs) ys a b none = ordered_both xs ys a b none
ordered_both (commands.Dial server address inside ∷ xs) ys a b none = ordered_both xs ys a b none
ordered_both (commands.Ask ask flow ∷ xs) ys a b none = ordered_both xs ys a b none

-- ---- the closes of a tunnel

-- no hook is asked, and no flow ends
record IsStill (owed : List Command) : Type 0 where
  ordered : AsksBeforeEnds owed
  none : (index : ℕ) → AsksNoneOf index owed
  ends : (index : ℕ) → EndsOneOf index owed → ⊥

client_still : (closed : Bool) → IsStill (shut_client closed)
client_still true = record { ordered = tt; none = λ index. tt; ends = λ index e. e }
client_still false = record { ordered = tt; none = λ index. tt; ends = λ index e. e }

closes_still : (server : ℕ) (shut closed : Bool) → IsStill (closes_all server shut closed)
closes_still server true closed = client_still closed
closes_still server false true = record { ordered = tt; none = λ index. tt; ends = λ index e. e }
closes_still server false false = record { ordered = tt; none = λ index. tt; ends = λ index e. e }

-- a parked side, which is closed behind a dial
parked_still : (used : Used) (owed : List Command) → IsStill owed → IsStill (shut_server used ++ owed)
parked_still NoServer owed is = is
parked_still (ByServer server true) owed is = is
parked_still (ByServer server false) owed is = record { ordered = is.ordered; none = is.none; ends = is.ends }

-- so is one of which a byte came, and one where a CONNECT came
stray_still : (parked : Option Parked) (seen : Sight) → IsStill (shut_stray parked seen)
stray_still None seen = record { ordered = tt; none = λ index. tt; ends = λ index e. e }
stray_still (Some parked) seen = by seen.server
  where
    by : (bytes : List ℕ) → IsStill (shut_by_byte parked.server bytes)
    by [] = record { ordered = tt; none = λ index. tt; ends = λ index e. e }
    by (byte ∷ more) = record { ordered = tt; none = λ index. tt; ends = λ index e. e }

unparked_still : (parked : Option Parked) → IsStill (shut_parked parked)
unparked_still None = record { ordered = tt; none = λ index. tt; ends = λ index e. e }
unparked_still (Some parked) = record { ordered = tt; none = λ index. tt; ends = λ index e. e }

both_still : (first owed : List Command) → IsStill first → IsStill owed → IsStill (first ++ owed)
both_still first owed a b = record {
  ordered = ordered_both first owed a.ordered b.ordered (λ index ends. absurd (a.ends index ends));
  none = λ index. none_both index first owed (a.none index) (b.none index);
  ends = λ index ends. neither index (ends_both index first owed ends);
}
  where
    neither : (index : ℕ) → EndsOneOf index first ⊎ EndsOneOf index owed → ⊥
    neither index (inl e) = a.ends index e
    neither index (inr e) = b.ends index e

dials_still : (server : ℕ) (address : Address) (owed : List Command) → IsStill owed → IsStill (commands.Dial server address None ∷ owed)
dials_still server address owed is = record { ordered = is.ordered; none = is.none; ends = is.ends }

sends_still : (side : Side) (text : List ℕ) (owed : List Command) → IsStill owed → IsStill (commands.Send side text ∷ owed)
sends_still side text owed is = record { ordered = is.ordered; none = is.none; ends = is.ends }

nothing_still : IsStill []
nothing_still = record { ordered = tt; none = λ index. tt; ends = λ index e. e }

-- what a client of SOCKS is told
clients_still : (owed : List Command) → AllToClient owed → IsStill owed
clients_still [] are = nothing_still
clients_still (commands.Send Client text ∷ owed) (here, are) = sends_still Client text owed (clients_still owed are)
clients_still (commands.Send (Server server) text ∷ owed) (here, are) = absurd here
clients_still (commands.Close Client ∷ owed) (here, are) =
    let still = clients_still owed are in record { ordered = still.ordered; none = still.none; ends = still.ends }
clients_still (commands.Close (Server server) ∷ owed) (here, are) = absurd here
clients_still (commands.Dial server address inside ∷ owed) (here, are) = absurd here
clients_still (commands.Ask ask flow ∷ owed) (here, are) = absurd here
clients_still (commands.Done flow ∷ owed) (here, are) = absurd here

-- the end of the flow that became a tunnel, before its closes
record AsksNothing (owed : List Command) : Type 0 where
  ordered : AsksBeforeEnds owed
  none : (index : ℕ) → AsksNoneOf index owed

finished_first : (flow : Option Flow) (owed : List Command) → IsStill owed → AsksNothing (finished_flow flow ++ owed)
finished_first None owed is = record { ordered = is.ordered; none = is.none }
finished_first (Some flow) owed is = record { ordered = (is.none flow.id.index, is.ordered); none = is.none }

found_nothing : (ends : Bool) (owed : List Command) → AsksNothing owed → AsksNothing (found (tunnel_found ends owed))
found_nothing true owed is = is
found_nothing false owed is = record { ordered = tt; none = λ index. tt }

asks_not : (ends : Bool) (owed : List Command) (ask : Command) → tunnel_found ends owed ≡ Asks ask → ⊥
asks_not true owed ask is = let no : Ends owed ≡ Asks ask = is in cc
asks_not false owed ask is = let no : NotYet ≡ Asks ask = is in cc

-- ---- a WebSocket

-- what its frames owe asks nothing, and finishes its flow at its end alone
said_none : (terms : Terms) (to : Frames) (index : ℕ) (owed : List Command) → AreSaid terms to owed → AsksNoneOf index owed
said_none terms to index [] said = tt
said_none terms to index (commands.Send side text ∷ owed) (here, said) = said_none terms to index owed said
said_none terms to index (commands.Close side ∷ owed) (here, said) = said_none terms to index owed said
said_none terms to index (commands.Dial server address inside ∷ owed) (here, said) = absurd here
said_none terms to index (commands.Ask ask flow ∷ owed) (here, said) = absurd here
said_none terms to index (commands.Done flow ∷ owed) (here, said) = said_none terms to index owed said

said_ordered : (terms : Terms) (to : Frames) (owed : List Command) → AreSaid terms to owed → AsksBeforeEnds owed
said_ordered terms to [] said = tt
said_ordered terms to (commands.Send side text ∷ owed) (here, said) = said_ordered terms to owed said
said_ordered terms to (commands.Close side ∷ owed) (here, said) = said_ordered terms to owed said
said_ordered terms to (commands.Dial server address inside ∷ owed) (here, said) = absurd here
said_ordered terms to (commands.Ask ask flow ∷ owed) (here, said) = absurd here
said_ordered terms to (commands.Done flow ∷ owed) (here, said) = (said_none terms to flow.id.index owed said, said_ordered terms to owed said)

said_ends : (terms : Terms) (to : Frames) (index : ℕ) (owed : List Command) → AreSaid terms to owed → EndsOneOf index owed → IsOver to
said_ends terms to index [] said ends = absurd ends
said_ends terms to index (commands.Send side text ∷ owed) (here, said) ends = said_ends terms to index owed said ends
said_ends terms to index (commands.Close side ∷ owed) (here, said) ends = said_ends terms to index owed said ends
said_ends terms to index (commands.Dial server address inside ∷ owed) (here, said) ends = absurd here
said_ends terms to index (commands.Ask ask flow ∷ owed) (here, said) ends = absurd here
said_ends terms to index (commands.Done flow ∷ owed) (here, said) ends = here.1

-- which is past its flow, and is past all that it was past before
over_behind : (to : Frames) (own index : ℕ) → IsOver to → is_behind_frames to own index ≡ true
over_behind (relaying at) own index is = absurd is
over_behind (holding from message at) own index is = absurd is
over_behind ended own index is = refl

later_behind : (to : Frames) (own index : ℕ) → nat_lt index own ≡ true → is_behind_frames to own index ≡ true
later_behind (relaying at) own index before = before
later_behind (holding from message at) own index before = before
later_behind ended own index before = refl

apart_from : (own index : ℕ) → nat_lt index own ≡ true → own ≢ index
apart_from own index before same = let less = ltb-true index own before in omega arith

-- ---- the chain

module _ (conv : ℕ) (client : Visitor) where
  abbrev Leaves : Stage → List Command → Stage → Type 0
  Leaves = LeavesBehind is_counted is_behind

  -- what HTTP leaves behind, where a stage follows that is past as much
  record Follows (standing : Standing) (to : Stage) : Type 0 where
    keeps : is_counted_at standing ≡ true → (index : ℕ) → is_past_at standing index ≡ true → is_behind to index ≡ true
    leads : is_counted_at standing ≡ true → is_counted to ≡ true

  leads_on : (place : Place) (from standing : Standing) (owed : List Command) (to : Stage) → Follows standing to → LeavesBehind is_counted_at is_past_at from owed standing →
      Leaves (http place from) owed to
  leads_on place from standing owed to on leaves = record {
    ordered = leaves.ordered;
    asks_none = leaves.asks_none;
    ends = λ index ends. on.keeps leaves.leads index (leaves.ends index ends);
    keeps = λ index before. on.keeps leaves.leads index (leaves.keeps index before);
    leads = on.leads leaves.leads;
  }

  same_follows : (place : Place) (standing : Standing) → Follows standing (http place standing)
  same_follows place standing = record { keeps = λ counted index before. before; leads = λ is. is }

  tunnel_follows : (place : Place) (standing : Standing) (used : ℕ) (at : At) (seen : Sight) (connect : Option Connect) → standing.stage ≡ idle at →
      Follows standing (or_stays (http place standing) (tunnel_for place used (unspoilt_at at seen) connect))
  tunnel_follows place standing used at seen None is = same_follows place standing
  tunnel_follows place standing used at seen (Some connect) is =
      record { keeps = λ counted index before. ap (λ s. is_past s index) (sym is) ∙ before; leads = λ counted. refl }

  -- the flow that becomes a WebSocket is the one that HTTP counts
  upgrades_follow : (is : Bool) (standing : Standing) (at : At) (flow : Flow) (moment : ℕ) (side : ℕ) (ends : TunnelEnds) →
      standing.stage ≡ busy at flow (upgraded side) → Follows standing (upgrades is flow moment ends)
  upgrades_follow true standing at flow moment side ends same = record {
    keeps = λ counted index before.
        let own : flow.id.index ≡ at.flow = eqb-true flow.id.index at.flow (ap is_counted_there (sym same) ∙ counted) in
        ap (nat_lt index) own ∙ (ap (λ s. is_past s index) (sym same) ∙ before);
    leads = λ counted. refl;
  }
  upgrades_follow false standing at flow moment side ends same = record { keeps = λ counted index before. refl; leads = λ counted. refl }

  hands_follow : (place : Place) (standing : Standing) (stage : flows.Stage) (seen : Sight) → standing.stage ≡ stage →
      Follows standing (or_stays (http place standing) (hands_by place standing stage seen))
  hands_follow place standing (idle at) seen is = tunnel_follows place standing standing.used.client at seen (connect_in place (request_in seen)) is
  hands_follow place standing (busy at flow (request_body given most)) seen is = same_follows place standing
  hands_follow place standing (busy at flow (connection sent)) seen is = same_follows place standing
  hands_follow place standing (busy at flow (response_head side how)) seen is = same_follows place standing
  hands_follow place standing (busy at flow (response_body side how most)) seen is = same_follows place standing
  hands_follow place standing (busy at flow (coming_down side how)) seen is = same_follows place standing
  hands_follow place standing (busy at flow (upgraded side)) seen is = upgrades_follow (is_websocket flow seen.closed) standing at flow seen.now side _ is
  hands_follow place standing (busy at flow given_head) seen is = same_follows place standing
  hands_follow place standing (busy at flow given_body) seen is = same_follows place standing
  hands_follow place standing (next at) seen is = same_follows place standing
  hands_follow place standing flows.over seen is = same_follows place standing

  -- where nothing is owed
  quietly : (stage to : Stage) → ((index : ℕ) → is_behind stage index ≡ true → is_behind to index ≡ true) → is_counted to ≡ true → Leaves stage [] to
  quietly stage to keeps leads =
      record { ordered = tt; asks_none = λ index before. tt; ends = λ index ends. absurd ends; keeps = keeps; leads = leads }

  -- where nothing is asked, and no flow ends
  still_leaves : (stage : Stage) (owed : List Command) → is_counted stage ≡ true → IsStill owed → Leaves stage owed stage
  still_leaves stage owed leads is = record {
    ordered = is.ordered;
    asks_none = λ index before. is.none index;
    ends = λ index ends. absurd (is.ends index ends);
    keeps = λ index before. before;
    leads = leads;
  }

  -- a client of SOCKS is past no flow, and so is what it leads to
  front_leaves : (front : Front) (owed : List Command) (to : Stage) → IsStill owed → is_counted to ≡ true → Leaves (asking front) owed to
  front_leaves front owed to is leads = record {
    ordered = is.ordered;
    asks_none = λ index before. is.none index;
    ends = λ index ends. absurd (is.ends index ends);
    keeps = λ index before. absurd (let no : false ≡ true = before in cc);
    leads = leads;
  }

  front_counted : (front : Front) → is_counted (at_front front) ≡ true
  front_counted fronts.greeting = refl
  front_counted (fronts.requesting used) = refl
  front_counted (fronts.dialling used address) = refl
  front_counted (fronts.opened used address) = refl
  front_counted fronts.over = refl

  front_passes : (front : Front) (prefix : List (Timed Event)) → Leaves (asking front) (pass_front front prefix).owed (pass_front front prefix).stage
  front_passes front prefix =
      let on : Turn Front Command = socks.pass front (front_sight prefix) in
      front_leaves front on.owed (at_front on.stage) (clients_still on.owed (pass_to_client front (front_sight prefix))) (front_counted on.stage)

  behind_counted : (on : Turn Front Command) (prefix : List (Timed Event)) (moment : ℕ) → is_counted (turn_front conv client on prefix moment).stage ≡ true
  behind_counted on prefix moment = by on.stage
    where
      by : (front : Front) → is_counted (behind_front conv client front prefix moment) ≡ true
      by fronts.greeting = refl
      by (fronts.requesting used) = refl
      by (fronts.dialling used address) = refl
      by (fronts.opened used address) = refl
      by fronts.over = refl

  front_turned : (used : ℕ) (address : Address) (ask : Command) (on : Turn Front Command) (prefix : List (Timed Event)) (moment : ℕ) → AllToClient on.owed →
      Asks (commands.Dial 0 address None) ≡ Asks ask → Leaves (asking (fronts.dialling used address)) (ask ∷ on.owed) (turn_front conv client on prefix moment).stage
  front_turned used address ask on prefix moment are asked =
      let to : Stage = (turn_front conv client on prefix moment).stage in
      let same : commands.Dial 0 address None ≡ ask = cc in
      let P : Command → Type 0 = λ c. Leaves (asking (fronts.dialling used address)) (c ∷ on.owed) to in
      subst P same
      (front_leaves (fronts.dialling used address) (commands.Dial 0 address None ∷ on.owed) to (dials_still 0 address on.owed (clients_still on.owed are)) (behind_counted on prefix moment))

  front_turns : (front : Front) (ask : Command) (closed : Bool) (answer : Reply) (prefix : List (Timed Event)) (moment : ℕ) → socks.look front ≡ Asks ask →
      (let on : Turn Front Command = socks.turn front closed answer in Leaves (asking front) (ask ∷ on.owed) (turn_front conv client on prefix moment).stage)
  front_turns fronts.greeting ask closed answer prefix moment asked = absurd (let no : NotYet ≡ Asks ask = asked in cc)
  front_turns (fronts.requesting used) ask closed answer prefix moment asked = absurd (let no : NotYet ≡ Asks ask = asked in cc)
  front_turns (fronts.dialling used address) ask closed answer prefix moment asked =
      front_turned used address ask (socks.turn (fronts.dialling used address) closed answer) prefix moment (turn_to_client (fronts.dialling used address) closed answer) asked
  front_turns (fronts.opened used address) ask closed answer prefix moment asked = absurd (let no : Ends [] ≡ Asks ask = asked in cc)
  front_turns fronts.over ask closed answer prefix moment asked = absurd (let no : Ends [] ≡ Asks ask = asked in cc)

  front_stops : (front : Front) (prefix : List (Timed Event)) → LeavesNone is_behind (asking front) (found_at (stack_chain conv client) (asking front) prefix)
  front_stops fronts.greeting prefix = record { ordered = tt; asks_none = λ index before. tt }
  front_stops (fronts.requesting used) prefix = record { ordered = tt; asks_none = λ index before. tt }
  front_stops (fronts.dialling used address) prefix = record { ordered = tt; asks_none = λ index before. tt }
  front_stops (fronts.opened used address) prefix = record { ordered = tt; asks_none = λ index before. tt }
  front_stops fronts.over prefix = record { ordered = tt; asks_none = λ index before. tt }

  -- what follows is past what the tunnel is past
  follows_behind : (d : Decision) (tunnel : Tunnel) (link : Link) (since : Since) (index : ℕ) → nat_lt index tunnel.at.flow ≡ true →
      is_behind (follows d tunnel link since) index ≡ true
  follows_behind still tunnel link since index before = before
  follows_behind is_http tunnel link since index before = before
  follows_behind is_raw tunnel link since index before = refl

  goes_behind : (closed : Bool) (tunnel : Tunnel) (link : Link) (since : Since) (prefix : List (Timed Event)) (index : ℕ) → nat_lt index tunnel.at.flow ≡ true →
      is_behind (goes_by closed tunnel link since prefix) index ≡ true
  goes_behind true tunnel link since prefix index before = before
  goes_behind false tunnel link since prefix index before =
      follows_behind (decided (opening_text tunnel prefix) (has_answered link prefix)) tunnel link since index before

  follows_counted : (d : Decision) (tunnel : Tunnel) (link : Link) (since : Since) → is_counted (follows d tunnel link since) ≡ true
  follows_counted still tunnel link since = refl
  follows_counted is_http tunnel link since = refl
  follows_counted is_raw tunnel link since = refl

  goes_counted : (closed : Bool) (tunnel : Tunnel) (link : Link) (since : Since) (prefix : List (Timed Event)) → is_counted (goes_by closed tunnel link since prefix) ≡ true
  goes_counted true tunnel link since prefix = refl
  goes_counted false tunnel link since prefix = follows_counted (decided (opening_text tunnel prefix) (has_answered link prefix)) tunnel link since

  decided_leaves : (tunnel : Tunnel) (link : Link) (since : Since) (prefix : List (Timed Event)) →
      Leaves (undecided tunnel link since) [] (goes_by (client_closed prefix) tunnel link since prefix)
  decided_leaves tunnel link since prefix =
      quietly _ _ (λ index before. goes_behind (client_closed prefix) tunnel link since prefix index before) (goes_counted (client_closed prefix) tunnel link since prefix)

  flows_leave : (place : Place) → LeavesFlows (flows_at conv client place) is_counted_at is_past_at
  flows_leave place = leaves_flows (terms_of conv client.address place)

  -- where a proxy let a tunnel through
  opened_leaves : (tunnel : Tunnel) (link : Link) (since : Since) (prefix : List (Timed Event)) (used : ℕ) →
      Leaves (reaching (a_tunnel tunnel) link since) (pass_reached conv client (a_tunnel tunnel) link since prefix (granted used)).owed
      (pass_reached conv client (a_tunnel tunnel) link since prefix (granted used)).stage
  opened_leaves tunnel link since prefix used =
      let way : Link = way_to link used prefix in
      let from : Since = from_here (now_over since prefix) prefix in
      record {
        ordered = tt;
        asks_none = λ index before. tt;
        ends = λ index ends. absurd ends;
        keeps = λ index before. goes_behind (client_closed prefix) tunnel way from prefix index before;
        leads = goes_counted (client_closed prefix) tunnel way from prefix;
      }

  -- what leads to the end
  ends_there : (goal : Goal) (link : Link) (since : Since) (owed : List Command) → AsksNothing owed → Leaves (reaching goal link since) owed over
  ends_there goal link since owed is = record {
    ordered = is.ordered;
    asks_none = λ index before. is.none index;
    ends = λ index ends. refl;
    keeps = λ index before. refl;
    leads = refl;
  }

  proxy_closes : (link : Link) (prefix : List (Timed Event)) → IsStill (shut_all (used_proxy link prefix) (closed_before link prefix))
  proxy_closes link prefix = closes_still link.server (closed_of link.server (drop link.opened prefix)) (closed_before link prefix)

  -- a tunnel that a proxy did not let through, and a flow, which ends
  refused_tunnel : (tunnel : Tunnel) (link : Link) (since : Since) (prefix : List (Timed Event)) →
      Leaves (reaching (a_tunnel tunnel) link since) (refuses UpstreamRefused false (used_proxy link prefix) (closed_before link prefix)) over
  refused_tunnel tunnel link since prefix =
      let closes = proxy_closes link prefix in
      ends_there (a_tunnel tunnel) link since (refuses UpstreamRefused false (used_proxy link prefix) (closed_before link prefix))
      (record { ordered = closes.ordered; none = closes.none })

  refused_flow : (place : Place) (from : Dialling) (link : Link) (since : Since) (prefix : List (Timed Event)) →
      Leaves (reaching (a_flow place from) link since)
      (ends_by_fault from.flow UpstreamRefused (now_over since prefix) (used_proxy link prefix) (closed_before link prefix)) over
  refused_flow place from link since prefix =
      let closes = proxy_closes link prefix in
      ends_there (a_flow place from) link since (ends_by_fault from.flow UpstreamRefused (now_over since prefix) (used_proxy link prefix) (closed_before link prefix))
      (record { ordered = (closes.none from.flow.id.index, closes.ordered); none = closes.none })

  -- ---- a WebSocket

  socket_leaves : (ends : TunnelEnds) (flow : Flow) (frames to : Frames) (owed : List Command) → AreSaid (socket_terms client.key ends flow) to owed →
      ((index : ℕ) → is_behind_frames frames flow.id.index index ≡ true → is_behind_frames to flow.id.index index ≡ true) →
      Leaves (socket ends flow frames) owed (socket ends flow to)
  socket_leaves ends flow frames to owed said keeps =
      let terms : Terms = socket_terms client.key ends flow in
      record {
        ordered = said_ordered terms to owed said;
        asks_none = λ index before. said_none terms to index owed said;
        ends = λ index ended. over_behind to flow.id.index index (said_ends terms to index owed said ended);
        keeps = keeps;
        leads = refl;
      }

  socket_passes : (ends : TunnelEnds) (flow : Flow) (frames : Frames) (prefix : List (Timed Event)) →
      Leaves (socket ends flow frames) (pass_socket conv client ends flow frames prefix).owed (pass_socket conv client ends flow frames prefix).stage
  socket_passes ends flow (relaying at) prefix =
      let terms : Terms = socket_terms client.key ends flow in
      let on : Turn Frames Command = relay.pass terms (relaying at) (socket_sight ends prefix) in
      socket_leaves ends flow (relaying at) on.stage on.owed (pass_says terms (socket_sight ends prefix) (relaying at)) (λ index before. later_behind on.stage flow.id.index index before)
  socket_passes ends flow (holding from message at) prefix = socket_leaves ends flow (holding from message at) (holding from message at) [] tt (λ index before. before)
  socket_passes ends flow ended prefix = socket_leaves ends flow ended ended [] tt (λ index before. before)

  begun_leaves : (stage : Stage) (prefix : List (Timed Event)) → is_counted stage ≡ true → Leaves stage (begun conv client stage prefix).owed (begun conv client stage prefix).stage
  begun_leaves (asking front) prefix is = quietly (asking front) (asking front) (λ index before. before) refl
  begun_leaves (http place standing) prefix is = quietly (http place standing) (http place standing) (λ index before. before) is
  begun_leaves (connecting tunnel) prefix is = quietly (connecting tunnel) (connecting tunnel) (λ index before. before) refl
  begun_leaves (reaching goal link since) prefix is = quietly (reaching goal link since) (reaching goal link since) (λ index before. before) is
  begun_leaves (undecided tunnel link since) prefix is = quietly (undecided tunnel link since) (undecided tunnel link since) (λ index before. before) refl
  begun_leaves (raw ends) prefix is = quietly (raw ends) (raw ends) (λ index before. before) refl
  begun_leaves (socket ends flow frames) prefix is = socket_passes ends flow frames prefix
  begun_leaves over prefix is = quietly over over (λ index before. before) refl

  -- one behind the other
  leaves_further : (from to last : Stage) (said owed : List Command) → Leaves from said to → Leaves to owed last → Leaves from (said ++ owed) last
  leaves_further from to last said owed first more = record {
    ordered = ordered_both said owed first.ordered more.ordered (λ index e. more.asks_none index (first.ends index e));
    asks_none = λ index before. none_both index said owed (first.asks_none index before) (more.asks_none index (first.keeps index before));
    ends = λ index e. by index (ends_both index said owed e);
    keeps = λ index before. more.keeps index (first.keeps index before);
    leads = more.leads;
  }
    where
      by : (index : ℕ) → EndsOneOf index said ⊎ EndsOneOf index owed → is_behind last index ≡ true
      by index (inl e) = more.keeps index (first.ends index e)
      by index (inr e) = more.ends index e

  http_passes : (place : Place) (standing : Standing) (prefix : List (Timed Event)) → is_counted_at standing ≡ true →
      Leaves (http place standing) ((stack_chain conv client).pass (http place standing) prefix).owed ((stack_chain conv client).pass (http place standing) prefix).stage
  http_passes place standing prefix is =
      let on = (flows_at conv client place).pass standing prefix in
      let to : Stage = pass_http conv client place on.stage prefix in
      let first : Leaves (http place standing) on.owed to =
      leads_on place standing on.stage on.owed to (hands_follow place on.stage on.stage.stage (sight_over on.stage prefix) refl) ((flows_leave place).passes standing prefix is) in
      let handed : List Command = owed_at_handing (hands_over place on.stage prefix) ((flows_at conv client place).so_far on.stage prefix) in
      let still : IsStill handed = handing_owes IsStill nothing_still stray_still (terms_of conv client.address place) on.stage on.stage.stage (sight_over on.stage prefix) in
      leaves_further (http place standing) to _ on.owed _ first
      (leaves_further to to _ handed _ (still_leaves to handed first.leads still) (begun_leaves to prefix first.leads))

  -- a flow goes on whose server is reached
  flow_leaves : (sent : Sent) (place : Place) (from : Dialling) (link : Link) (since : Since) (to : Standing) →
      ((index : ℕ) → is_behind (reaching (a_flow place from) link since) index ≡ true → is_behind (http place to) index ≡ true) → is_counted (http place to) ≡ true →
      Leaves (reaching (a_flow place from) link since) (reached_owes sent place from.flow link.server) (http place to)
  flow_leaves all_sent place from link since to keeps leads = record { ordered = tt; asks_none = λ index before. tt; ends = λ index ends. absurd ends; keeps = keeps; leads = leads }
  flow_leaves going_up place from link since to keeps leads = record { ordered = tt; asks_none = λ index before. tt; ends = λ index ends. absurd ends; keeps = keeps; leads = leads }

  reached_leaves : (goal : Goal) (link : Link) (since : Since) (prefix : List (Timed Event)) (g : Granting) → is_counted_goal goal ≡ true →
      Leaves (reaching goal link since) (pass_reached conv client goal link since prefix g).owed (pass_reached conv client goal link since prefix g).stage
  reached_leaves goal link since prefix awaited is = quietly (reaching goal link since) (reaching goal link since) (λ index before. before) is
  reached_leaves (a_tunnel tunnel) link since prefix (granted used) is = opened_leaves tunnel link since prefix used
  reached_leaves (a_flow place from) link since prefix (granted used) is =
      let to : Standing = connected_on place from (way_to link used prefix) (from_here (now_over since prefix) prefix) in
      leaves_further (reaching (a_flow place from) link since) (http place to) _ (reached_owes from.sent place from.flow link.server) _
      (flow_leaves from.sent place from link since to (λ index before. before) is) (http_passes place to prefix is)
  reached_leaves (a_tunnel tunnel) link since prefix refused is = refused_tunnel tunnel link since prefix
  reached_leaves (a_flow place from) link since prefix refused is = refused_flow place from link since prefix

  passes : (stage : Stage) (prefix : List (Timed Event)) → is_counted stage ≡ true →
      Leaves stage ((stack_chain conv client).pass stage prefix).owed ((stack_chain conv client).pass stage prefix).stage
  passes (asking front) prefix is = front_passes front prefix
  passes (http place standing) prefix is = http_passes place standing prefix is
  passes (connecting tunnel) prefix is = quietly (connecting tunnel) (connecting tunnel) (λ index before. before) refl
  passes (reaching goal link since) prefix is = reached_leaves goal link since prefix (answer_of link prefix) is
  passes (undecided tunnel link since) prefix is = decided_leaves tunnel link since prefix
  passes (raw ends) prefix is = quietly (raw ends) (raw ends) (λ index before. before) refl
  passes (socket ends flow frames) prefix is = socket_passes ends flow frames prefix
  passes over prefix is = quietly over over (λ index before. before) refl

  -- a reply to a dial, as the rest of what is owed there
  dial_leaves : (tunnel : Tunnel) (owed : List Command) (to : Stage) → IsStill owed → ((index : ℕ) → nat_lt index tunnel.at.flow ≡ true → is_behind to index ≡ true) →
      is_counted to ≡ true → Leaves (connecting tunnel) (commands.Dial tunnel.at.dials (dialled_by tunnel) None ∷ (shut_parked tunnel.at.parked ++ owed)) to
  dial_leaves tunnel owed to is keeps leads =
      let all = both_still (shut_parked tunnel.at.parked) owed (unparked_still tunnel.at.parked) is in
      record { ordered = all.ordered; asks_none = λ index before. all.none index; ends = λ index ends. absurd (all.ends index ends); keeps = keeps; leads = leads }

  -- a proxy is sent the request for a tunnel, or the client is told
  connected_turns : (proxy : Option Address) (tunnel : Tunnel) (prefix : List (Timed Event)) (moment : ℕ) →
      Leaves (connecting tunnel) (commands.Dial tunnel.at.dials (dialled_by tunnel) None ∷ (shut_parked tunnel.at.parked ++ (turn_connected conv client proxy tunnel prefix moment).owed))
      (turn_connected conv client proxy tunnel prefix moment).stage
  connected_turns None tunnel prefix moment =
      dial_leaves tunnel (commands.Send Client connected_text ∷ []) _ (sends_still Client connected_text [] nothing_still) (λ index before. before) refl
  connected_turns (Some proxy) tunnel prefix moment =
      dial_leaves tunnel (commands.Send (Server tunnel.at.dials) (connect_text tunnel.address) ∷ []) _
      (sends_still (Server tunnel.at.dials) (connect_text tunnel.address) [] nothing_still) (λ index before. before) refl

  dial_turns : (tunnel : Tunnel) (prefix : List (Timed Event)) (answer : Reply) (moment : ℕ) →
      Leaves (connecting tunnel) (commands.Dial tunnel.at.dials (dialled_by tunnel) None ∷ (shut_parked tunnel.at.parked ++ (turn_dial conv client tunnel prefix answer moment).owed))
      (turn_dial conv client tunnel prefix answer moment).stage
  dial_turns tunnel prefix (reply.Go given stream) moment = dial_leaves tunnel [] over nothing_still (λ index before. refl) refl
  dial_turns tunnel prefix (reply.Respond response) moment = dial_leaves tunnel [] over nothing_still (λ index before. refl) refl
  dial_turns tunnel prefix reply.Kill moment = dial_leaves tunnel [] over nothing_still (λ index before. refl) refl
  dial_turns tunnel prefix reply.Discard moment = dial_leaves tunnel [] over nothing_still (λ index before. refl) refl
  dial_turns tunnel prefix reply.Dialled moment = connected_turns tunnel.proxy tunnel prefix moment
  dial_turns tunnel prefix (reply.Refused fault) moment =
      let closes : List Command = shut_client (client_closed prefix) in
      dial_leaves tunnel (commands.Send Client (error_text fault false) ∷ closes) over (sends_still Client (error_text fault false) closes (client_still (client_closed prefix)))
      (λ index before. refl) refl

  asked_dial : (tunnel : Tunnel) (ask : Command) (owed : List Command) (to : Stage) → Asks (commands.Dial tunnel.at.dials (dialled_by tunnel) None) ≡ Asks ask →
      Leaves (connecting tunnel) (commands.Dial tunnel.at.dials (dialled_by tunnel) None ∷ owed) to → Leaves (connecting tunnel) (ask ∷ owed) to
  asked_dial tunnel ask owed to is leaves =
      let same : commands.Dial tunnel.at.dials (dialled_by tunnel) None ≡ ask = cc in
      let P : Command → Type 0 = λ c. Leaves (connecting tunnel) (c ∷ owed) to in
      subst P same leaves

  -- ---- a flow whose dial connected another proxy

  -- it stands where its server is dialled, in the place
  record IsLedTo (stage : flows.Stage) (from : Dialling) : Type 0 where
    at : At
    sent : Sent
    stands : stage ≡ busy at from.flow (connection sent)
    from_there : from.at ≡ unparked at

  abbrev IsLed : flows.Stage → Option Dialling → Type 0
  IsLed stage None = ⊤
  IsLed stage (Some from) = IsLedTo stage from

  led_is_by : (used : ℕ) (stage : flows.Stage) → IsLed stage (led_by used stage)
  led_is_by used (idle at) = tt
  led_is_by used (busy at flow (request_body given most)) = tt
  led_is_by used (busy at flow (connection sent)) = record { at = at; sent = sent; stands = refl; from_there = refl }
  led_is_by used (busy at flow (response_head side how)) = tt
  led_is_by used (busy at flow (response_body side how most)) = tt
  led_is_by used (busy at flow (coming_down side how)) = tt
  led_is_by used (busy at flow (upgraded side)) = tt
  led_is_by used (busy at flow given_head) = tt
  led_is_by used (busy at flow given_body) = tt
  led_is_by used (next at) = tt
  led_is_by used flows.over = tt

  led_is : (place : Place) (standing : Standing) → IsLed standing.stage (led_at place standing)
  led_is places.Regular standing = tt
  led_is (places.Upstream proxy) standing = tt
  led_is (places.Fixed address None) standing = tt
  led_is (places.Fixed address (Some proxy)) standing = led_is_by standing.used.client standing.stage

  -- there it owes the close of a parked side of which a byte came, the dial, and behind that the close of one that is still kept
  abbrev closes_behind : At → Sight → List Command
  closes_behind at seen = shut_server (server_parked (unspoilt_at at seen).parked seen)

  led_owes : (place : Place) (standing : Standing) (prefix : List (Timed Event)) (ask : Command) (from : Dialling) (is : IsLedTo standing.stage from) →
      (flows_at conv client place).look standing prefix ≡ Asks ask → (owed : List Command) →
      ((shut_stray is.at.parked (sight_over standing prefix) ++ [])
      ++ commands.Dial is.at.dials (dialled_for place from.flow.request) None ∷ (closes_behind is.at (sight_over standing prefix) ++ owed))
      ≡ ((flows_at conv client place).so_far standing prefix ++ ask ∷ ((flows_at conv client place).behind standing prefix ++ owed))
  led_owes place standing prefix ask from is asked owed =
      let seen : Sight = sight_over standing prefix in
      let closes : List Command = closes_behind is.at seen in
      let strays : so_far_of (terms_of conv client.address place) standing.stage seen ≡ shut_stray is.at.parked seen ++ [] =
      ap (λ s. so_far_of (terms_of conv client.address place) s seen) is.stands in
      let parts : behind_of standing.stage seen ≡ closes = ap (λ s. behind_of s seen) is.stands in
      let dial : Asks (commands.Dial is.at.dials (dialled_for place from.flow.request) None) ≡ Asks ask =
      sym (ap (λ s. look_of (terms_of conv client.address place) s seen) is.stands) ∙ asked in
      let same : commands.Dial is.at.dials (dialled_for place from.flow.request) None ≡ ask = cc in
      ap (λ c. (shut_stray is.at.parked seen ++ []) ++ c ∷ (closes ++ owed)) same
      ∙ (ap (λ l. (shut_stray is.at.parked seen ++ []) ++ ask ∷ (l ++ owed)) (sym parts) ∙ ap (λ l. l ++ ask ∷ (behind_of standing.stage seen ++ owed)) (sym strays))

  proxy_asked : (place : Place) (standing : Standing) (prefix : List (Timed Event)) (ask : Command) (from : Dialling) (answer : Timed Reply) → IsLedTo standing.stage from →
      is_counted_at standing ≡ true → (flows_at conv client place).look standing prefix ≡ Asks ask →
      (let on : Turn Stage Command = asks_proxy conv client (a_flow place from) (address_of from.flow.request) from.at.dials prefix answer.moment in
      Leaves (http place standing)
      ((flows_at conv client place).so_far standing prefix ++ ask ∷ ((flows_at conv client place).behind standing prefix ++ on.owed)) on.stage)
  proxy_asked place standing prefix ask from answer is counted asked =
      let on : Turn Stage Command = asks_proxy conv client (a_flow place from) (address_of from.flow.request) from.at.dials prefix answer.moment in
      let P : List Command → Type 0 = λ l. Leaves (http place standing) l on.stage in
      let seen : Sight = sight_over standing prefix in
      let closes = parked_still (server_parked (unspoilt_at is.at seen).parked seen) on.owed (sends_still (Server from.at.dials) (connect_text (address_of from.flow.request)) [] nothing_still) in
      let strays = both_still (shut_stray is.at.parked seen) [] (stray_still is.at.parked seen) nothing_still in
      let still = both_still (shut_stray is.at.parked seen ++ []) (commands.Dial is.at.dials (dialled_for place from.flow.request) None ∷ (closes_behind is.at seen ++ on.owed))
      strays (dials_still is.at.dials (dialled_for place from.flow.request) (closes_behind is.at seen ++ on.owed) closes) in
      subst P (led_owes place standing prefix ask from is asked on.owed) (record {
        ordered = still.ordered;
        asks_none = λ index before. still.none index;
        ends = λ index ends. absurd (still.ends index ends);
        keeps = λ index before. ap (λ a. nat_lt index a.flow) is.from_there ∙ (ap (λ s. is_past s index) (sym is.stands) ∙ before);
        leads = ap (λ a. from.flow.id.index == a.flow) is.from_there ∙ (ap is_counted_there (sym is.stands) ∙ counted);
      })

  flows_turn : (place : Place) (standing : Standing) (prefix : List (Timed Event)) (ask : Command) (answer : Timed Reply) → is_counted_at standing ≡ true →
      (flows_at conv client place).look standing prefix ≡ Asks ask →
      Leaves (http place standing)
      ((flows_at conv client place).so_far standing prefix ++ ask ∷ ((flows_at conv client place).behind standing prefix ++ (turn_flows conv client place standing prefix answer).owed))
      (turn_flows conv client place standing prefix answer).stage
  flows_turn place standing prefix ask answer is asked =
      let on = (flows_at conv client place).turn standing prefix answer in
      leads_on place standing on.stage _ (http place on.stage) (same_follows place on.stage) ((flows_leave place).turns standing prefix ask is asked answer)

  http_turns : (led : Option Dialling) (place : Place) (standing : Standing) (prefix : List (Timed Event)) (ask : Command) (answer : Timed Reply) (value : Reply) →
      IsLed standing.stage led → is_counted_at standing ≡ true → (flows_at conv client place).look standing prefix ≡ Asks ask →
      Leaves (http place standing)
      ((flows_at conv client place).so_far standing prefix
      ++ ask ∷ ((flows_at conv client place).behind standing prefix ++ (turn_http conv client led place standing prefix answer value).owed))
      (turn_http conv client led place standing prefix answer value).stage
  http_turns None place standing prefix ask answer value led is asked = flows_turn place standing prefix ask answer is asked
  http_turns (Some from) place standing prefix ask answer (reply.Go given stream) led is asked = flows_turn place standing prefix ask answer is asked
  http_turns (Some from) place standing prefix ask answer (reply.Respond response) led is asked = flows_turn place standing prefix ask answer is asked
  http_turns (Some from) place standing prefix ask answer reply.Kill led is asked = flows_turn place standing prefix ask answer is asked
  http_turns (Some from) place standing prefix ask answer reply.Discard led is asked = flows_turn place standing prefix ask answer is asked
  http_turns (Some from) place standing prefix ask answer reply.Dialled led is asked = proxy_asked place standing prefix ask from answer led is asked
  http_turns (Some from) place standing prefix ask answer (reply.Refused fault) led is asked = flows_turn place standing prefix ask answer is asked

  -- a message is asked about
  message_turns : (ends : TunnelEnds) (flow : Flow) (from : Peer) (message : Message) (at : MessageAt) (seen : SocketSight) (answer : Timed Reply) →
      (let terms : Terms = socket_terms client.key ends flow in
      let on : Turn Frames Command = relay.turn terms (holding from message at) seen answer.value answer.moment in
      Leaves (socket ends flow (holding from message at)) (commands.Ask (message_ask terms at) (with_message (terms_at terms at).flow from message) ∷ on.owed) (socket ends flow on.stage))
  message_turns ends flow from message at seen answer =
      let terms : Terms = socket_terms client.key ends flow in
      let on : Turn Frames Command = relay.turn terms (holding from message at) seen answer.value answer.moment in
      let said : AreSaid terms on.stage on.owed = turn_says terms seen (holding from message at) answer.value answer.moment in
      record {
        ordered = said_ordered terms on.stage on.owed said;
        asks_none = λ index before. (apart_from flow.id.index index before, said_none terms on.stage index on.owed said);
        ends = λ index ended. over_behind on.stage flow.id.index index (said_ends terms on.stage index on.owed said ended);
        keeps = λ index before. later_behind on.stage flow.id.index index before;
        leads = refl;
      }

  socket_turns : (ends : TunnelEnds) (flow : Flow) (frames : Frames) (seen : SocketSight) (ask : Command) (answer : Timed Reply) →
      relay.look (socket_terms client.key ends flow) frames ≡ Asks ask →
      (let on : Turn Frames Command = relay.turn (socket_terms client.key ends flow) frames seen answer.value answer.moment in
      Leaves (socket ends flow frames) (ask ∷ on.owed) (socket ends flow on.stage))
  socket_turns ends flow (relaying at) seen ask answer asked = absurd (let no : NotYet ≡ Asks ask = asked in cc)
  socket_turns ends flow (holding from message at) seen ask answer asked =
      let terms : Terms = socket_terms client.key ends flow in
      let on : Turn Frames Command = relay.turn terms (holding from message at) seen answer.value answer.moment in
      let same : commands.Ask (message_ask terms at) (with_message (terms_at terms at).flow from message) ≡ ask = cc in
      let P : Command → Type 0 = λ c. Leaves (socket ends flow (holding from message at)) (c ∷ on.owed) (socket ends flow on.stage) in
      subst P same (message_turns ends flow from message at seen answer)
  socket_turns ends flow ended seen ask answer asked = absurd (let no : Ends [] ≡ Asks ask = asked in cc)

  turns : (stage : Stage) (prefix : List (Timed Event)) (ask : Command) → is_counted stage ≡ true → (stack_chain conv client).look stage prefix ≡ Asks ask →
      (answer : Timed Reply) →
      Leaves stage ((stack_chain conv client).so_far stage prefix ++ ask ∷ ((stack_chain conv client).behind stage prefix ++ ((stack_chain conv client).turn stage prefix answer).owed))
      ((stack_chain conv client).turn stage prefix answer).stage
  turns (asking front) prefix ask is asked answer = front_turns front ask (client_closed prefix) answer.value prefix answer.moment asked
  turns (http place standing) prefix ask is asked answer =
      http_turns (led_at place standing) place standing prefix ask answer answer.value (led_is place standing) is asked
  turns (connecting tunnel) prefix ask is asked answer =
      asked_dial tunnel ask (shut_parked tunnel.at.parked ++ (turn_dial conv client tunnel prefix answer.value answer.moment).owed) _ asked (dial_turns tunnel prefix answer.value answer.moment)
  turns (reaching goal link since) prefix ask is asked answer = absurd (let no : NotYet ≡ Asks ask = asked in cc)
  turns (undecided tunnel link since) prefix ask is asked answer = absurd (asks_not _ _ ask asked)
  turns (raw ends) prefix ask is asked answer = absurd (asks_not _ _ ask asked)
  turns (socket ends flow frames) prefix ask is asked answer =
      socket_turns ends flow frames (socket_sight ends prefix) ask answer asked
  turns over prefix ask is asked answer = absurd (let no : Ends [] ≡ Asks ask = asked in cc)

  -- where it stops
  nothing_there : (stage : Stage) (owed : List Command) → AsksNothing owed → LeavesNone is_behind stage owed
  nothing_there stage owed is = record { ordered = is.ordered; asks_none = λ index before. is.none index }

  raw_stops : (ends : TunnelEnds) (prefix : List (Timed Event)) → AsksNothing (found (raw_look ends prefix))
  raw_stops ends prefix =
      let closed : Bool = client_closed prefix in
      let shut : Bool = is_shut ends.link prefix in
      let closes : List Command = closes_all ends.link.server shut closed in
      found_nothing (closed || shut) (finished_flow ends.flow ++ closes) (finished_first ends.flow closes (closes_still ends.link.server shut closed))

  socket_stops : (ends : TunnelEnds) (flow : Flow) (frames : Frames) (prefix : List (Timed Event)) →
      LeavesNone is_behind (socket ends flow frames) (found ((stack_chain conv client).look (socket ends flow frames) prefix))
  socket_stops ends flow (relaying at) prefix = record { ordered = tt; asks_none = λ index before. tt }
  socket_stops ends flow (holding from message at) prefix = record { ordered = tt; asks_none = λ index before. (apart_from flow.id.index index before, tt) }
  socket_stops ends flow ended prefix = record { ordered = tt; asks_none = λ index before. tt }

  stops : (stage : Stage) (prefix : List (Timed Event)) → is_counted stage ≡ true →
      LeavesNone is_behind stage ((stack_chain conv client).so_far stage prefix ++ found_at (stack_chain conv client) stage prefix)
  stops (asking front) prefix is = front_stops front prefix
  stops (http place standing) prefix is =
      let here = (flows_leave place).stops standing prefix is in record { ordered = here.ordered; asks_none = here.asks_none }
  stops (connecting tunnel) prefix is =
      let still = unparked_still tunnel.at.parked in record { ordered = still.ordered; asks_none = λ index before. still.none index }
  stops (reaching goal link since) prefix is = record { ordered = tt; asks_none = λ index before. tt }
  stops (undecided tunnel link since) prefix is =
      let shut : Bool = is_shut link prefix in
      let closed : Bool = client_closed prefix in
      let closes = closes_still link.server shut closed in
      nothing_there (undecided tunnel link since) _
      (found_nothing (closed || shut) (closes_all link.server shut closed) (record { ordered = closes.ordered; none = closes.none }))
  stops (raw ends) prefix is =
      let nothing = raw_stops ends prefix in record { ordered = nothing.ordered; asks_none = λ index before. nothing.none index }
  stops (socket ends flow frames) prefix is = socket_stops ends flow frames prefix
  stops over prefix is = record { ordered = tt; asks_none = λ index before. tt }

  -- Whatever follows a CONNECT, the flows are left behind.
  pub stack_leaves : LeavesFlows (stack_chain conv client) is_counted is_behind
  stack_leaves = record { passes = passes; turns = turns; stops = stops }

  -- What is due asks no hook of a flow behind its end.
  pub ordered_from : (start : Stage) → is_counted start ≡ true → (moves : List Move) → AsksBeforeEnds (due_by (stack_chain conv client) start moves)
  ordered_from start is moves = leaving_ordered (stack_chain conv client) is_counted is_behind stack_leaves start is (events_in 1 moves) (replies_in 1 moves)

-- a conversation begins at such a stage
pub begun_counted : (place : Option Place) → is_counted (begins_by place) ≡ true
begun_counted None = refl
begun_counted (Some place) = refl
