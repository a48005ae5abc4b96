-- In mode `upstream:` a server that has not answered was sent one request at most.
use Rattle.std.proofs.Common.{◌≡◌, ℕ, ◌+◌, Bool, true, false, cond, List, [], ◌∷◌, ◌++◌, drop, length, map, Option, Some, None, refl, ap, sym, ◌∙◌, subst, append_assoc, arith}
use Rattle.std.specs.Prelude.{◌==◌, ◌||◌, ◌≢◌, ⊤}
use Rattle.std.proofs.lemmas.Bool.{eqb-true}
use Rattle.std.proofs.lemmas.List.{append-nil}
use Rattle.px_message.specs.declared.address.Address.{Address}
use Rattle.px_message.specs.declared.fault.Fault.TheVariants.{UpstreamRefused}
use Rattle.px_message.specs.declared.flow.Flow.{Flow}
use Rattle.px_event.specs.declared.command.Command.{Command}
use Rattle.px_event.specs.declared.command.Command.TheVariants as commands
use Rattle.px_event.specs.declared.event.Event.{Event}
use Rattle.px_event.specs.declared.reply.Reply.{Reply}
use Rattle.px_event.specs.declared.reply.Reply.TheVariants as reply
use Rattle.px_event.specs.declared.side.Side.TheVariants.{Client, Server}
use Rattle.px_event.specs.Chain.{Chain, Look, NotYet, Asks, Ends, Reached, Stamp, Stamped, Stop, Timed, Turn, at_its_step, found, found_at, never, owed_at, reach, reach_by, walk, walk_by, worked_off}
use Rattle.px_event.specs.Layer.{Move, Took, Replied}
use Rattle.px_event.specs.Stands.{events_in, replies_in}
use Rattle.px_event.specs.View.{byte, bytes_in, line, seen_of}
use Rattle.px_event.proofs.LineLemmas.{bytes_alone, bytes_join}
use Rattle.px_event.proofs.Seen.{seen_append}
use Rattle.px_read.specs.Items.{Item}
use Rattle.px_read.specs.declared.head.RequestHead.{RequestHead as ReadRequest}
use Rattle.px_write.specs.declared.form.Form.TheVariants.{Absolute}
use Rattle.px_exchange.specs.declared.ending.Used.TheVariants.{NoServer}
use Rattle.px_exchange.specs.declared.mode.Mode.TheVariants as modes
use Rattle.px_exchange.specs.declared.place.Place.{Place}
use Rattle.px_exchange.specs.declared.place.Place.TheVariants as places
use Rattle.px_exchange.specs.Endings.{ends_by_fault, refuses}
use Rattle.px_exchange.specs.Places.{address_of, form_at, terms_of}
use Rattle.px_exchange.specs.Requests.{is_head}
use Rattle.px_exchange.specs.Texts.{connected_text, onward_text}
use Rattle.px_parts.specs.Texts.{request_so_far}
use Rattle.px_chain.specs.Chain.{Connect, IsOnward, begin_up, connect_in, is_sequence, pass as pass_of, sequence, turn as turn_of}
use Rattle.px_chain.specs.Keeping.{unspoilt_at}
use Rattle.px_chain.specs.Sent.{IsSentOnce, going_on, nothing, one_request}
use Rattle.px_chain.specs.Sights.{Sight, Standing, bytes_over, request_in, sight_over}
use Rattle.px_chain.specs.Stages.{At, all_sent, busy, coming_down, connection, given_body, given_head, idle, next, request_body, response_body, response_head, side_of, unparked, upgraded, Sent, going_up}
use Rattle.px_chain.specs.Stages as flows
use Rattle.px_event.specs.Sides.{piece_of}
use Rattle.px_chain.specs.Streams.{Since, bytes_of, client_closed, from_here, now_over}
use Rattle.px_chain.proofs.CountedLemmas.{IsSilent, silent_both, silent_found}
use Rattle.px_chain.proofs.SentLemmas.{SaidThere, said_heard, said_passed, said_there, said_turned}
use Rattle.px_chain.proofs.SilentLemmas.{AreBelow, behind_silent, fault_silent, looks_silent, pass_silent, so_far_silent}
use Rattle.px_chain.proofs.TellLemmas.{SaidAt, in_part as told_in_part, is_first, not_yet, was_said}
use Rattle.px_tunnel.specs.Upstream.{Granting, awaited, connect_text, granted, refused}
use Rattle.px_relay.specs.Stages.{Stage as Frames}
use Rattle.px_stream.specs.Anywhere.{reached_owes}
use Rattle.px_stack.specs.Chain.{answer_of, asks_proxy, begins, begun, closed_before, closed_of, closes_all, finished_flow, flows_at, follows, follows_to, goes_by, hands_by, hands_over, has_answered, is_empty, is_shut, led_by, opening_text, or_stays, owed_at_handing, pass_http, pass_reached, pass_socket, proxy_at, socket_sight, socket_terms, socket_turn, stack_chain, text_behind, text_down, text_of, text_up, tunnel_for, tunnel_found, turn_connected, turn_dial, turn_flows, turn_http, upgrades, used_proxy, way_by, way_to, pass_flows, connected_on}
use Rattle.px_stack.specs.Decides.{Decision, decided, is_http, is_raw, still}
use Rattle.px_stack.specs.Frames.{Says, pass_says, turn_says}
use Rattle.px_stack.specs.Laws.{handing_owes, never_connects}
use Rattle.px_stack.specs.Modes.{mode_due}
use Rattle.px_stack.specs.Proxies.{DecidesNothing, HasNotAnswered, IsOneRequest, for_tunnel, in_full, in_part, is_none, said_of}
use Rattle.px_stack.specs.Sockets.{is_websocket}
use Rattle.px_stack.specs.Stages.{Dialling, Ends as TunnelEnds, Goal, Link, Stage, Tunnel, Visitor, a_flow, a_tunnel, asking, connecting, http, over, raw, reaching, socket, undecided}
use Rattle.px_stack.proofs.AnswerLemmas.{answers_without, bytes_decide, grants_not, nothing_before, nothing_within, said_in, said_more, text_decides}
use Rattle.px_stack.proofs.ProxyFlowLemmas.{ConnectsNone, FlowApart, FlowUntold, SeesNothing, Untold, not_up, onward_untold, pass_apart, passed_untold, send_silent, sequence_apart, stage_begins_apart, turn_apart, turn_silent, unanswered}
use Rattle.px_stack.proofs.SilentLemmas.{AllBelow, client_silent, finished_silent, closes_silent, found_silent, frames_silent, front_silent, parked_silent, said_silent, stack_counts, stray_silent}

-- the flows of mode upstream begin with no side parked, and none dialled
abbrev is_in_sequence : IsOnward sequence
is_in_sequence = is_sequence refl

module _ (server : ℕ) where
  -- ---- texts

  -- the bytes that these commands send to the server
  abbrev sent_in : List Command → List ℕ
  sent_in owed = bytes_in (seen_of (line (Server server)) owed)

  sent_both : (xs ys : List Command) → sent_in (xs ++ ys) ≡ sent_in xs ++ sent_in ys
  sent_both xs ys = ap bytes_in (seen_append (line (Server server)) xs ys) ∙ bytes_join (seen_of (line (Server server)) xs) (seen_of (line (Server server)) ys)

  -- one text that is sent to it
  sent_one : (number : ℕ) (text : List ℕ) → (number == server) ≡ true → sent_in (commands.Send (Server number) text ∷ []) ≡ text
  sent_one number text same =
      ap (λ s. bytes_in (cond s (map byte text) [] ++ [])) same ∙ (ap bytes_in (append-nil (map byte text)) ∙ bytes_alone text)

  -- ---- places

  -- a place whose tunnels, or whose requests, go through another proxy
  abbrev IsVia : Option Address → Type 0
  IsVia None = ⊥
  IsVia (Some proxy) = ⊤

  abbrev IsThrough : Place → Type 0
  IsThrough places.Regular = ⊥
  IsThrough (places.Upstream proxy) = ⊤
  IsThrough (places.Fixed address inside) = IsVia inside

  -- HTTP inside a tunnel, whose servers are reached through another proxy
  abbrev IsInside : Place → Type 0
  IsInside places.Regular = ⊥
  IsInside (places.Upstream proxy) = ⊥
  IsInside (places.Fixed address inside) = IsVia inside

  abbrev is_inside : Place → Bool
  is_inside places.Regular = false
  is_inside (places.Upstream proxy) = false
  is_inside (places.Fixed address inside) = true

  -- ---- a request that is sent to a server that was dialled

  record Sends (text : List ℕ) (owed : List Command) (dials : ℕ) : Type 0 where
    one : IsOneRequest (text ++ sent_in owed)
    untold : Untold server (text ++ sent_in owed) (dials + 1)

  sends_by : (same : Bool) (text : List ℕ) (number : ℕ) (request : List ℕ) → (number == server) ≡ same → IsOneRequest text → Untold server text number → IsOneRequest request →
      Sends text (commands.Send (Server number) request ∷ []) number
  sends_by true text number request is one untold asks =
      let here : number ≡ server = eqb-true number server is in
      let all : request ≡ text ++ sent_in (commands.Send (Server number) request ∷ []) =
      sym (ap (λ l. l ++ sent_in (commands.Send (Server number) request ∷ [])) (untold (omega arith)) ∙ sent_one number request is) in
      record { one = subst IsOneRequest all asks; untold = λ beyond. absurd (omega arith) }
  sends_by false text number request is one untold asks =
      let silent : sent_in (commands.Send (Server number) request ∷ []) ≡ [] = ap (λ s. bytes_in (cond s (map byte request) [] ++ [])) is in
      let same : text ≡ text ++ sent_in (commands.Send (Server number) request ∷ []) = sym (ap (λ l. text ++ l) silent ∙ append-nil text) in
      record { one = subst IsOneRequest same one; untold = λ beyond. sym same ∙ untold (omega arith) }

  sends : (text : List ℕ) (number : ℕ) (request : List ℕ) → IsOneRequest text → Untold server text number → IsOneRequest request →
      Sends text (commands.Send (Server number) request ∷ []) number
  sends text number request one untold asks = sends_by (number == server) text number request refl one untold asks

  -- ---- stages

  -- No stage sends anything more to the server, but where a request is sent to the proxy itself: it is the side of none that has heard of it.
  abbrev GoalApart : Goal → Type 0
  GoalApart (a_tunnel tunnel) = IsVia tunnel.proxy
  GoalApart (a_flow place from) = IsInside place

  -- No client speaks SOCKS there.
  abbrev IsApart : Stage → Type 0
  IsApart (asking front) = ⊥
  IsApart (http place standing) = IsThrough place × FlowApart server (is_inside place) standing.stage
  IsApart (connecting tunnel) = IsVia tunnel.proxy
  IsApart (reaching goal link since) = GoalApart goal
  IsApart (undecided tunnel link since) = IsVia tunnel.proxy × (link.server ≢ server)
  IsApart (raw ends) = ends.link.server ≢ server
  IsApart (socket ends flow frames) = ends.link.server ≢ server
  IsApart over = ⊤

  -- one request at most, and none before the server was dialled
  abbrev IsTold : List ℕ → ℕ → Type 0
  IsTold text dials = IsOneRequest text × Untold server text dials

  abbrev GoalTold : List ℕ → Goal → Type 0
  GoalTold text (a_tunnel tunnel) = IsTold text tunnel.at.dials
  GoalTold text (a_flow place from) = IsTold text (from.at.dials + 1)

  -- the same of where HTTP hands over
  abbrev HandsTold : List ℕ → flows.Stage → Type 0
  HandsTold text (idle at) = IsTold text at.dials
  HandsTold text (busy at flow (upgraded side)) = IsOneRequest text
  HandsTold text stage = ⊤

  told_one : (place : Place) (dials : ℕ) (text : List ℕ) → form_at place ≡ Absolute → IsSentOnce place None dials server text → IsOneRequest text
  told_one place dials text is (nothing none) = is_none none
  told_one place dials text is (one_request sent) = in_full sent.request (subst (λ form. text ≡ onward_text form sent.request) is sent.text)
  told_one place dials text is (going_on sent) = in_part sent.request sent.heard (subst (λ form. text ≡ request_so_far sent.request form sent.heard) is sent.text)

  module _ (conv : ℕ) (client : Visitor) where
    -- what was sent to the proxy itself, by flows in sequence that go to it
    abbrev IsSaid : Address → Standing → List (Timed Event) → List ℕ → Type 0
    IsSaid proxy standing prefix text = SaidThere sequence is_in_sequence (terms_of conv client.address (places.Upstream proxy)) None 0 server standing prefix text

    abbrev PlaceTold : List (Timed Event) → List ℕ → Place → Standing → Type 0
    PlaceTold prefix text places.Regular standing = ⊥
    PlaceTold prefix text (places.Upstream proxy) standing = IsSaid proxy standing prefix text
    PlaceTold prefix text (places.Fixed address inside) standing = IsOneRequest text × FlowUntold server text standing.stage

    abbrev StageTold : List (Timed Event) → List ℕ → Stage → Type 0
    StageTold prefix text (asking front) = ⊥
    StageTold prefix text (http place standing) = PlaceTold prefix text place standing
    StageTold prefix text (connecting tunnel) = IsTold text tunnel.at.dials
    StageTold prefix text (reaching goal link since) = GoalTold text goal
    StageTold prefix text (undecided tunnel link since) = IsTold text tunnel.at.dials
    StageTold prefix text (raw ends) = IsOneRequest text
    StageTold prefix text (socket ends flow frames) = IsOneRequest text
    StageTold prefix text over = IsOneRequest text

    record Stays (prefix : List (Timed Event)) (text : List ℕ) (stage : Stage) : Type 0 where
      apart : IsApart stage
      told : StageTold prefix text stage

    -- what was sent with what is owed, at the stage that follows
    abbrev Goes : List (Timed Event) → List ℕ → Turn Stage Command → Type 0
    Goes prefix text turned = Stays prefix (text ++ sent_in turned.owed) turned.stage

    stays_by : (prefix : List (Timed Event)) (text other : List ℕ) (stage : Stage) → text ≡ other → Stays prefix text stage → Stays prefix other stage
    stays_by prefix text other stage same stays = let P : List ℕ → Type 0 = λ l. Stays prefix l stage in subst P same stays

    -- one event more changes nothing of that
    more_told : (stage : Stage) (prefix : List (Timed Event)) (event : Timed Event) (before : List Command) → StageTold prefix (sent_in before) stage → StageTold (prefix ++ event ∷ []) (sent_in before) stage
    more_told (asking front) prefix event before told = told
    more_told (http places.Regular standing) prefix event before told = told
    more_told (http (places.Upstream proxy) standing) prefix event before told =
        said_heard sequence is_in_sequence (terms_of conv client.address (places.Upstream proxy)) None 0 server standing prefix before event told
    more_told (http (places.Fixed address inside) standing) prefix event before told = told
    more_told (connecting tunnel) prefix event before told = told
    more_told (reaching goal link since) prefix event before told = told
    more_told (undecided tunnel link since) prefix event before told = told
    more_told (raw ends) prefix event before told = told
    more_told (socket ends flow frames) prefix event before told = told
    more_told over prefix event before told = told

    -- where nothing is owed to the server
    quietly : (prefix : List (Timed Event)) (text : List ℕ) (owed : List Command) (stage : Stage) → IsSilent server owed → Stays prefix text stage →
        Goes prefix text (record { owed = owed; stage = stage })
    quietly prefix text owed stage silent stays = stays_by prefix text (text ++ sent_in owed) stage (sym (ap (λ l. text ++ l) silent ∙ append-nil text)) stays

    -- or nothing before what goes on
    goes_behind : (prefix : List (Timed Event)) (text : List ℕ) (first : List Command) (turned : Turn Stage Command) → IsSilent server first → Goes prefix text turned →
        Goes prefix text (record { owed = first ++ turned.owed; stage = turned.stage })
    goes_behind prefix text first turned silent goes =
        stays_by prefix (text ++ sent_in turned.owed) (text ++ sent_in (first ++ turned.owed)) turned.stage
        (sym (ap (λ l. text ++ l) (sent_both first turned.owed ∙ ap (λ l. l ++ sent_in turned.owed) silent))) goes

    -- what goes on behind what is owed first
    goes_on : (prefix : List (Timed Event)) (text : List ℕ) (first : List Command) (turned : Turn Stage Command) → Goes prefix (text ++ sent_in first) turned →
        Goes prefix text (record { owed = first ++ turned.owed; stage = turned.stage })
    goes_on prefix text first turned goes =
        stays_by prefix ((text ++ sent_in first) ++ sent_in turned.owed) (text ++ sent_in (first ++ turned.owed)) turned.stage
        (append_assoc text (sent_in first) (sent_in turned.owed) ∙ ap (λ l. text ++ l) (sym (sent_both first turned.owed))) goes

    -- ---- where HTTP hands over

    module _ (prefix : List (Timed Event)) (text : List ℕ) where
      tunnel_stays : (place : Place) (standing : Standing) (used : ℕ) (at : At) (connect : Option Connect) → Stays prefix text (http place standing) → IsVia (proxy_at place) → IsTold text at.dials →
          Stays prefix text (or_stays (http place standing) (tunnel_for place used at connect))
      tunnel_stays place standing used at None is via told = is
      tunnel_stays place standing used at (Some connect) is via told = record { apart = via; told = told }

      connect_stays : (place : Place) (standing : Standing) (used : ℕ) (at : At) (item : Item ReadRequest) → Stays prefix text (http place standing) → IsTold text at.dials →
          Stays prefix text (or_stays (http place standing) (tunnel_for place used at (connect_in place item)))
      connect_stays places.Regular standing used at item is told = absurd is.apart.0
      connect_stays (places.Upstream proxy) standing used at item is told = tunnel_stays (places.Upstream proxy) standing used at (connect_in (places.Upstream proxy) item) is tt told
      connect_stays (places.Fixed address inside) standing used at item is told =
          let place : Place = places.Fixed address inside in
          let P : Option Connect → Type 0 = λ c. Stays prefix text (or_stays (http place standing) (tunnel_for place used at c)) in
          subst P (sym (never_connects address inside item)) is

      upgrades_stay : (is : Bool) (flow : Flow) (moment : ℕ) (ends : TunnelEnds) → ends.link.server ≢ server → IsOneRequest text → Stays prefix text (upgrades is flow moment ends)
      upgrades_stay true flow moment ends apart one = record { apart = apart; told = one }
      upgrades_stay false flow moment ends apart one = record { apart = apart; told = one }

      hands_stay : (inside : Bool) (place : Place) (standing : Standing) (stage : flows.Stage) (seen : Sight) → Stays prefix text (http place standing) → FlowApart server inside stage → HandsTold text stage →
          Stays prefix text (or_stays (http place standing) (hands_by place standing stage seen))
      hands_stay inside place standing (idle at) seen is apart told = connect_stays place standing standing.used.client (unspoilt_at at seen) (request_in seen) is told
      hands_stay inside place standing (busy at flow (request_body given most)) seen is apart told = is
      hands_stay inside place standing (busy at flow (connection sent)) seen is apart told = is
      hands_stay inside place standing (busy at flow (response_head side how)) seen is apart told = is
      hands_stay inside place standing (busy at flow (response_body side how most)) seen is apart told = is
      hands_stay inside place standing (busy at flow (coming_down side how)) seen is apart told = is
      hands_stay inside place standing (busy at flow (upgraded side)) seen is apart told = upgrades_stay (is_websocket flow seen.closed) flow seen.now _ apart told
      hands_stay inside place standing (busy at flow given_head) seen is apart told = is
      hands_stay inside place standing (busy at flow given_body) seen is apart told = is
      hands_stay inside place standing (next at) seen is apart told = is
      hands_stay inside place standing flows.over seen is apart told = is

      -- as it is told inside a tunnel
      hands_inside : (stage : flows.Stage) → IsOneRequest text → FlowUntold server text stage → HandsTold text stage
      hands_inside (idle at) one untold = (one, untold)
      hands_inside (busy at flow (request_body given most)) one untold = tt
      hands_inside (busy at flow (connection sent)) one untold = tt
      hands_inside (busy at flow (response_head side how)) one untold = tt
      hands_inside (busy at flow (response_body side how most)) one untold = tt
      hands_inside (busy at flow (coming_down side how)) one untold = tt
      hands_inside (busy at flow (upgraded side)) one untold = one
      hands_inside (busy at flow given_head) one untold = tt
      hands_inside (busy at flow given_body) one untold = tt
      hands_inside (next at) one untold = tt
      hands_inside flows.over one untold = tt

      -- and where flows go to the proxy itself: no request goes up there
      idle_told : (proxy : Address) (at : At) (seen : Sight) → SaidAt server (terms_of conv client.address (places.Upstream proxy)) None 0 (idle at) seen text → IsTold text at.dials
      idle_told proxy at seen (not_yet none up) = (is_none none, λ before. none)
      idle_told proxy at seen (told_in_part used tells) = absurd tells
      idle_told proxy at seen (was_said all used up) = (told_one (places.Upstream proxy) 0 text refl all, λ before. let less = used.0 in absurd (let no : ⊥ = omega arith in no))

      upgraded_told : (proxy : Address) (at : At) (flow : Flow) (side : ℕ) (seen : Sight) →
          SaidAt server (terms_of conv client.address (places.Upstream proxy)) None 0 (busy at flow (upgraded side)) seen text → IsOneRequest text
      upgraded_told proxy at flow side seen (not_yet none up) = is_none none
      upgraded_told proxy at flow side seen (told_in_part used tells) = absurd tells.0
      upgraded_told proxy at flow side seen (was_said all used up) = told_one (places.Upstream proxy) 0 text refl all

      hands_upstream : (proxy : Address) (stage : flows.Stage) (seen : Sight) → SaidAt server (terms_of conv client.address (places.Upstream proxy)) None 0 stage seen text → HandsTold text stage
      hands_upstream proxy (idle at) seen said = idle_told proxy at seen said
      hands_upstream proxy (busy at flow (request_body given most)) seen said = tt
      hands_upstream proxy (busy at flow (connection sent)) seen said = tt
      hands_upstream proxy (busy at flow (response_head side how)) seen said = tt
      hands_upstream proxy (busy at flow (response_body side how most)) seen said = tt
      hands_upstream proxy (busy at flow (coming_down side how)) seen said = tt
      hands_upstream proxy (busy at flow (upgraded side)) seen said = upgraded_told proxy at flow side seen said
      hands_upstream proxy (busy at flow given_head) seen said = tt
      hands_upstream proxy (busy at flow given_body) seen said = tt
      hands_upstream proxy (next at) seen said = tt
      hands_upstream proxy flows.over seen said = tt

    abbrev chain : Chain Stage Event Reply Command
    chain = stack_chain conv client

    -- what HTTP owed while it waited, where it hands over
    abbrev handed : Place → Standing → List (Timed Event) → List Command
    handed place standing prefix = owed_at_handing (hands_over place standing prefix) ((flows_at conv client place).so_far standing prefix)

    handed_silent : (place : Place) (standing : Standing) (prefix : List (Timed Event)) → IsSilent server (handed place standing prefix)
    handed_silent place standing prefix =
        handing_owes (IsSilent server) refl (stray_silent server) (terms_of conv client.address place) standing standing.stage (sight_over standing prefix)

    -- ---- passing

    module _ (before : List Command) where
      abbrev text : List ℕ
      text = sent_in before

      -- a WebSocket sends to its own server, which has answered
      socket_goes : (prefix : List (Timed Event)) (told : List ℕ) (ends : TunnelEnds) (flow : Flow) (on : Turn Frames Command) → IsOneRequest told → ends.link.server ≢ server →
          Says (socket_terms client.key ends flow) on → Goes prefix told (socket_turn ends flow on)
      socket_goes prefix told ends flow on one apart said =
          quietly prefix told on.owed (socket ends flow on.stage) (said_silent server (socket_terms client.key ends flow) on.stage apart on.owed said) (record { apart = apart; told = one })

      socket_passes : (ends : TunnelEnds) (flow : Flow) (frames : Frames) (prefix : List (Timed Event)) (told : List ℕ) → IsOneRequest told → ends.link.server ≢ server →
          Goes prefix told (pass_socket conv client ends flow frames prefix)
      socket_passes ends flow frames prefix told one apart =
          socket_goes prefix told ends flow _ one apart (pass_says (socket_terms client.key ends flow) (socket_sight ends prefix) frames)

      begun_goes : (stage : Stage) (prefix : List (Timed Event)) (told : List ℕ) → Stays prefix told stage → Goes prefix told (begun conv client stage prefix)
      begun_goes (asking front) prefix told is = absurd is.apart
      begun_goes (http place standing) prefix told is = quietly prefix told [] (http place standing) refl is
      begun_goes (connecting tunnel) prefix told is = quietly prefix told [] (connecting tunnel) refl is
      begun_goes (reaching goal link since) prefix told is = quietly prefix told [] (reaching goal link since) refl is
      begun_goes (undecided tunnel link since) prefix told is = quietly prefix told [] (undecided tunnel link since) refl is
      begun_goes (raw ends) prefix told is = quietly prefix told [] (raw ends) refl is
      begun_goes (socket ends flow frames) prefix told is = socket_passes ends flow frames prefix told is.told is.apart
      begun_goes over prefix told is = quietly prefix told [] over refl is

      -- flows that go to the proxy itself
      upstream_passes : (proxy : Address) (standing : Standing) (prefix : List (Timed Event)) → Stays prefix text (http (places.Upstream proxy) standing) →
          Goes prefix text (pass_flows conv client (places.Upstream proxy) standing prefix)
      upstream_passes proxy standing prefix is =
          let place : Place = places.Upstream proxy in
          let terms = terms_of conv client.address place in
          let on = (flows_at conv client place).pass standing prefix in
          let seen : Sight = sight_over standing prefix in
          let to : flows.Stage = (pass_of terms standing.stage seen).stage in
          let apart : FlowApart server false (sequence to) = sequence_apart server false to (pass_apart server false terms standing.stage seen is.apart.1) in
          let told : List ℕ = text ++ sent_in on.owed in
          let P : List ℕ → Type 0 = λ l. IsSaid proxy on.stage prefix l in
          let said : IsSaid proxy on.stage prefix told = subst P (sent_both before on.owed) (said_passed sequence is_in_sequence terms None 0 server standing prefix before (unanswered server false standing.stage seen is.apart.1) is.told) in
          let there : Stays prefix told (http place on.stage) = record { apart = (tt, apart); told = said } in
          let hands = hands_upstream prefix told proxy (sequence to) (sight_over on.stage prefix) said.said in
          let next = pass_http conv client place on.stage prefix in
          goes_on prefix text on.owed (follows_to conv client place on.stage prefix)
          (goes_behind prefix told (handed place on.stage prefix) (begun conv client next prefix) (handed_silent place on.stage prefix)
          (begun_goes next prefix told (hands_stay prefix told false place on.stage (sequence to) (sight_over on.stage prefix) there apart hands)))

      -- and those inside a tunnel
      inside_passes : (address : Address) (inside : Option Address) (standing : Standing) (prefix : List (Timed Event)) →
          Stays prefix text (http (places.Fixed address inside) standing) → Goes prefix text (pass_flows conv client (places.Fixed address inside) standing prefix)
      inside_passes address inside standing prefix is =
          let place : Place = places.Fixed address inside in
          let terms = terms_of conv client.address place in
          let on = (flows_at conv client place).pass standing prefix in
          let seen : Sight = sight_over standing prefix in
          let to : flows.Stage = (pass_of terms standing.stage seen).stage in
          let apart : FlowApart server true (sequence to) = sequence_apart server true to (pass_apart server true terms standing.stage seen is.apart.1) in
          let untold : FlowUntold server text (sequence to) = passed_untold server text terms standing.stage seen is.told.1 in
          let there : Stays prefix text (http place on.stage) = record { apart = (is.apart.0, apart); told = (is.told.0, untold) } in
          let hands = hands_inside prefix text (sequence to) is.told.0 untold in
          let begun_up : flows.Stage = begin_up terms standing.stage seen in
          let silent = pass_silent server terms standing.stage seen (not_up server begun_up (stage_begins_apart server true terms standing.stage seen is.apart.1)) in
          let next = pass_http conv client place on.stage prefix in
          goes_behind prefix text on.owed (follows_to conv client place on.stage prefix) silent
          (goes_behind prefix text (handed place on.stage prefix) (begun conv client next prefix) (handed_silent place on.stage prefix)
          (begun_goes next prefix text (hands_stay prefix text true place on.stage (sequence to) (sight_over on.stage prefix) there apart hands)))

      http_passes : (place : Place) (standing : Standing) (prefix : List (Timed Event)) → Stays prefix text (http place standing) → Goes prefix text (pass_flows conv client place standing prefix)
      http_passes places.Regular standing prefix is = absurd is.apart.0
      http_passes (places.Upstream proxy) standing prefix is = upstream_passes proxy standing prefix is
      http_passes (places.Fixed address inside) standing prefix is = inside_passes address inside standing prefix is

      -- what follows a CONNECT
      follows_stay : (d : Decision) (tunnel : Tunnel) (link : Link) (since : Since) (prefix : List (Timed Event)) → Stays prefix text (undecided tunnel link since) → Stays prefix text (follows d tunnel link since)
      follows_stay still tunnel link since prefix is = is
      follows_stay is_http tunnel link since prefix is = record { apart = (is.apart.0, is.apart.1); told = (is.told.0, is.told.1) }
      follows_stay is_raw tunnel link since prefix is = record { apart = is.apart.1; told = is.told.0 }

      goes_stay : (closed : Bool) (tunnel : Tunnel) (link : Link) (since : Since) (prefix : List (Timed Event)) → Stays prefix text (undecided tunnel link since) →
          Stays prefix text (goes_by closed tunnel link since prefix)
      goes_stay true tunnel link since prefix is = is
      goes_stay false tunnel link since prefix is = follows_stay (decided (opening_text tunnel prefix) (has_answered link prefix)) tunnel link since prefix is

      -- ---- a proxy that has answered is another one

      is_another : (link : Link) (prefix : List (Timed Event)) (used : ℕ) → DecidesNothing (said_in server prefix) → answer_of link prefix ≡ granted used → link.server ≢ server
      is_another link prefix used none grants same =
          let P : ℕ → Type 0 = λ n. DecidesNothing (text_of n (drop link.opened prefix)) in
          grants_not (text_of link.server (drop link.opened prefix)) (closed_of link.server (drop link.opened prefix)) used
          (subst P (sym same) (text_decides server link.opened prefix none)) grants

      way_apart : (empty : Bool) (link : Link) (used come : ℕ) → link.server ≢ server → (way_by empty link used come).server ≢ server
      way_apart true link used come apart = apart
      way_apart false link used come apart = apart

      -- what a server is owed that is reached
      reached_silent : (sent : Sent) (place : Place) (flow : Flow) (number : ℕ) → number ≢ server → IsSilent server (reached_owes sent place flow number)
      reached_silent all_sent place flow number apart = send_silent server number _ apart
      reached_silent going_up place flow number apart = refl

      opened_goes : (tunnel : Tunnel) (link : Link) (since : Since) (prefix : List (Timed Event)) (used : ℕ) → link.server ≢ server → Stays prefix text (reaching (a_tunnel tunnel) link since) →
          Goes prefix text (pass_reached conv client (a_tunnel tunnel) link since prefix (granted used))
      opened_goes tunnel link since prefix used apart stays =
          quietly prefix text (commands.Send Client connected_text ∷ []) _ refl
          (goes_stay (client_closed prefix) tunnel (way_to link used prefix) (from_here (now_over since prefix) prefix) prefix
          (record { apart = (stays.apart, way_apart (is_empty (text_behind link used prefix)) link used (length prefix) apart); told = stays.told }))

      flow_goes : (place : Place) (from : Dialling) (link : Link) (since : Since) (prefix : List (Timed Event)) (used : ℕ) → link.server ≢ server → Stays prefix text (reaching (a_flow place from) link since) →
          Goes prefix text (pass_reached conv client (a_flow place from) link since prefix (granted used))
      flow_goes places.Regular from link since prefix used apart stays = absurd stays.apart
      flow_goes (places.Upstream proxy) from link since prefix used apart stays = absurd stays.apart
      flow_goes (places.Fixed address inside) from link since prefix used apart stays =
          let place : Place = places.Fixed address inside in
          let to : Standing = connected_on place from (way_to link used prefix) (from_here (now_over since prefix) prefix) in
          goes_behind prefix text (reached_owes from.sent place from.flow link.server) (pass_flows conv client place to prefix)
          (reached_silent from.sent place from.flow link.server apart)
          (inside_passes address inside to prefix
          (record { apart = (stays.apart, way_apart (is_empty (text_behind link used prefix)) link used (length prefix) apart); told = stays.told }))

      goal_one : (goal : Goal) → GoalTold text goal → IsOneRequest text
      goal_one (a_tunnel tunnel) told = told.0
      goal_one (a_flow place from) told = told.0

      over_goes : (prefix : List (Timed Event)) (owed : List Command) → IsOneRequest text → IsSilent server owed → Goes prefix text (record { owed = owed; stage = over })
      over_goes prefix owed one silent = quietly prefix text owed over silent (record { apart = tt; told = one })

      reached_goes : (goal : Goal) (link : Link) (since : Since) (prefix : List (Timed Event)) (g : Granting) → DecidesNothing (said_in server prefix) → answer_of link prefix ≡ g →
          Stays prefix text (reaching goal link since) → Goes prefix text (pass_reached conv client goal link since prefix g)
      reached_goes goal link since prefix awaited none is stays = quietly prefix text [] (reaching goal link since) refl stays
      reached_goes (a_tunnel tunnel) link since prefix (granted used) none is stays = opened_goes tunnel link since prefix used (is_another link prefix used none is) stays
      reached_goes (a_flow place from) link since prefix (granted used) none is stays = flow_goes place from link since prefix used (is_another link prefix used none is) stays
      reached_goes (a_tunnel tunnel) link since prefix refused none is stays =
          over_goes prefix (refuses UpstreamRefused false (used_proxy link prefix) (closed_before link prefix)) (goal_one (a_tunnel tunnel) stays.told)
          (closes_silent server link.server (closed_of link.server (drop link.opened prefix)) (closed_before link prefix))
      reached_goes (a_flow place from) link since prefix refused none is stays =
          over_goes prefix (ends_by_fault from.flow UpstreamRefused (now_over since prefix) (used_proxy link prefix) (closed_before link prefix)) (goal_one (a_flow place from) stays.told)
          (fault_silent server from.flow UpstreamRefused (now_over since prefix) (used_proxy link prefix) (closed_before link prefix))

      passes : (stage : Stage) (prefix : List (Timed Event)) → DecidesNothing (said_in server prefix) → Stays prefix text stage → Goes prefix text ((stack_chain conv client).pass stage prefix)
      passes (asking front) prefix none is = absurd is.apart
      passes (http place standing) prefix none is = http_passes place standing prefix is
      passes (connecting tunnel) prefix none is = quietly prefix text [] (connecting tunnel) refl is
      passes (reaching goal link since) prefix none is = reached_goes goal link since prefix (answer_of link prefix) none refl is
      passes (undecided tunnel link since) prefix none is =
          quietly prefix text [] (goes_by (client_closed prefix) tunnel link since prefix) refl (goes_stay (client_closed prefix) tunnel link since prefix is)
      passes (raw ends) prefix none is = quietly prefix text [] (raw ends) refl is
      passes (socket ends flow frames) prefix none is = socket_passes ends flow frames prefix text is.told is.apart
      passes over prefix none is = quietly prefix text [] over refl is

    -- ---- what is found, and what is owed while it waits

    opening_silent : (closed shut : Bool) (number : ℕ) → IsSilent server (found (tunnel_found (closed || shut) (closes_all number shut closed)))
    opening_silent closed shut number = found_silent server (closed || shut) (closes_all number shut closed) (closes_silent server number shut closed)

    looks : (stage : Stage) (prefix : List (Timed Event)) → IsSilent server (found ((stack_chain conv client).look stage prefix))
    looks (asking front) prefix = front_silent server front
    looks (http place standing) prefix = looks_silent server (terms_of conv client.address place) standing.stage (sight_over standing prefix)
    looks (connecting tunnel) prefix = refl
    looks (reaching goal link since) prefix = refl
    looks (undecided tunnel link since) prefix = opening_silent (client_closed prefix) (is_shut link prefix) link.server
    looks (raw ends) prefix =
        let closed : Bool = client_closed prefix in
        let shut : Bool = is_shut ends.link prefix in
        let closes : List Command = closes_all ends.link.server shut closed in
        found_silent server (closed || shut) (finished_flow ends.flow ++ closes)
        (silent_both server (finished_flow ends.flow) closes (finished_silent server ends.flow) (closes_silent server ends.link.server shut closed))
    looks (socket ends flow frames) prefix = frames_silent server (socket_terms client.key ends flow) frames
    looks over prefix = refl

    parts : (stage : Stage) (prefix : List (Timed Event)) → IsSilent server ((stack_chain conv client).behind stage prefix)
    parts (asking front) prefix = refl
    parts (http place standing) prefix = behind_silent server standing.stage (sight_over standing prefix)
    parts (connecting tunnel) prefix = parked_silent server tunnel.at.parked
    parts (reaching goal link since) prefix = refl
    parts (undecided tunnel link since) prefix = refl
    parts (raw ends) prefix = refl
    parts (socket ends flow frames) prefix = refl
    parts over prefix = refl

    -- inside a tunnel, and while bytes go both ways
    inside_waits : (address : Address) (inside : Option Address) (standing : Standing) (prefix : List (Timed Event)) → FlowApart server true standing.stage →
        IsSilent server ((stack_chain conv client).so_far (http (places.Fixed address inside) standing) prefix)
    inside_waits address inside standing prefix apart =
        so_far_silent server (terms_of conv client.address (places.Fixed address inside)) standing.stage (sight_over standing prefix) (not_up server standing.stage apart)

    raw_waits : (ends : TunnelEnds) (prefix : List (Timed Event)) → ends.link.server ≢ server → IsSilent server ((stack_chain conv client).so_far (raw ends) prefix)
    raw_waits ends prefix apart =
        silent_both server (commands.Send (Server ends.link.server) (text_up ends prefix) ∷ []) (commands.Send Client (text_down ends prefix) ∷ [])
        (send_silent server ends.link.server (text_up ends prefix) apart) refl

    -- ---- what a reply brings

    -- what a flow sees of the server has no head
    sees_nothing : (standing : Standing) (prefix : List (Timed Event)) (stage : flows.Stage) → DecidesNothing (said_in server prefix) → standing.stage ≡ stage →
        SeesNothing server stage (sight_over standing prefix)
    sees_nothing standing prefix (idle at) none is = tt
    sees_nothing standing prefix (busy at flow (request_body given most)) none is = tt
    sees_nothing standing prefix (busy at flow (connection sent)) none is = tt
    sees_nothing standing prefix (busy at flow (response_head side how)) none is = λ same.
        let seen : Sight = sight_over standing prefix in
        let P : ℕ → Type 0 = λ n. DecidesNothing (bytes_of (Server n) (drop standing.opened prefix)) in
        let heard : DecidesNothing (bytes_of (Server side) (drop standing.opened prefix)) = subst P (sym same) (bytes_decide server standing.opened prefix none) in
        let Q : Option ℕ → Type 0 = λ s. DecidesNothing (bytes_over s standing.opened prefix) in
        let here : DecidesNothing (bytes_over (side_of standing.stage) standing.opened prefix) = subst Q (sym (ap side_of is)) heard in
        answers_without (is_head flow.request.method) seen.shut seen.server (nothing_within standing.used.server (bytes_over (side_of standing.stage) standing.opened prefix) here)
    sees_nothing standing prefix (busy at flow (response_body side how most)) none is = tt
    sees_nothing standing prefix (busy at flow (coming_down side how)) none is = tt
    sees_nothing standing prefix (busy at flow (upgraded side)) none is = tt
    sees_nothing standing prefix (busy at flow given_head) none is = tt
    sees_nothing standing prefix (busy at flow given_body) none is = tt
    sees_nothing standing prefix (next at) none is = tt
    sees_nothing standing prefix flows.over none is = tt

    none_by : (standing : Standing) (answer : Timed Reply) (stage : flows.Stage) (value : Reply) → standing.stage ≡ stage → answer.value ≡ value → ConnectsNone server stage value →
        ConnectsNone server standing.stage answer.value
    none_by standing answer stage value is same none =
        let P : flows.Stage → Type 0 = λ s. ConnectsNone server s answer.value in
        let Q : Reply → Type 0 = λ v. ConnectsNone server stage v in
        subst P (sym is) (subst Q (sym same) none)

    module _ (before : List Command) where
      abbrev so_sent : List ℕ
      so_sent = sent_in before

      -- another proxy is asked for a tunnel to there
      proxy_goes : (goal : Goal) (to : Address) (number : ℕ) (prefix : List (Timed Event)) (moment : ℕ) → GoalApart goal → IsTold so_sent number →
          ((longer : List ℕ) → IsTold longer (number + 1) → GoalTold longer goal) → Goes prefix so_sent (asks_proxy conv client goal to number prefix moment)
      proxy_goes goal to number prefix moment apart told further =
          let asked = sends so_sent number (connect_text to) told.0 told.1 (for_tunnel to refl) in
          record { apart = apart; told = further _ (asked.one, asked.untold) }

      connected_goes : (proxy : Option Address) (tunnel : Tunnel) (prefix : List (Timed Event)) (moment : ℕ) → tunnel.proxy ≡ proxy → Stays prefix so_sent (connecting tunnel) →
          Goes prefix so_sent (turn_connected conv client proxy tunnel prefix moment)
      connected_goes None tunnel prefix moment is stays = absurd (subst IsVia is stays.apart)
      connected_goes (Some proxy) tunnel prefix moment is stays = proxy_goes _ tunnel.address tunnel.at.dials prefix moment stays.apart stays.told (λ longer further. further)

      dial_goes : (tunnel : Tunnel) (prefix : List (Timed Event)) (answer : Reply) (moment : ℕ) → Stays prefix so_sent (connecting tunnel) →
          Goes prefix so_sent (turn_dial conv client tunnel prefix answer moment)
      dial_goes tunnel prefix (reply.Go given stream) moment is = over_goes before prefix [] is.told.0 refl
      dial_goes tunnel prefix (reply.Respond response) moment is = over_goes before prefix [] is.told.0 refl
      dial_goes tunnel prefix reply.Kill moment is = over_goes before prefix [] is.told.0 refl
      dial_goes tunnel prefix reply.Discard moment is = over_goes before prefix [] is.told.0 refl
      dial_goes tunnel prefix reply.Dialled moment is = connected_goes tunnel.proxy tunnel prefix moment refl is
      dial_goes tunnel prefix (reply.Refused fault) moment is = over_goes before prefix (refuses fault false NoServer (client_closed prefix)) is.told.0 (client_silent server (client_closed prefix))

      -- what was sent, where a reply brings nothing else and no more is owed while it waits
      asked_same : (stage : Stage) (prefix : List (Timed Event)) (ask : Command) (owed : List Command) → chain.look stage prefix ≡ Asks ask → IsSilent server (chain.so_far stage prefix) →
          so_sent ++ sent_in owed ≡ sent_in (before ++ (chain.so_far stage prefix ++ ask ∷ (chain.behind stage prefix ++ owed)))
      asked_same stage prefix ask owed asked so_far_none =
          let more : List Command = chain.behind stage prefix ++ owed in
          let more_same : sent_in more ≡ sent_in owed =
          sent_both (chain.behind stage prefix) owed ∙ ap (λ l. l ++ sent_in owed) (parts stage prefix) in
          let asks_silent : sent_in (ask ∷ []) ≡ [] = ap (λ l. sent_in (found l)) (sym asked) ∙ looks stage prefix in
          let ask_same : sent_in (ask ∷ more) ≡ sent_in owed = sent_both (ask ∷ []) more ∙ (ap (λ l. l ++ sent_in more) asks_silent ∙ more_same) in
          let all : sent_in (chain.so_far stage prefix ++ ask ∷ more) ≡ sent_in owed =
          sent_both (chain.so_far stage prefix) (ask ∷ more) ∙ (ap (λ l. l ++ sent_in (ask ∷ more)) so_far_none ∙ ask_same) in
          sym (sent_both before (chain.so_far stage prefix ++ ask ∷ more) ∙ ap (λ l. so_sent ++ l) all)

      abbrev Turned : Stage → List (Timed Event) → Command → Timed Reply → Type 0
      Turned stage prefix ask answer =
          Stays prefix (sent_in (before ++ (chain.so_far stage prefix ++ ask ∷ (chain.behind stage prefix ++ (chain.turn stage prefix answer).owed)))) (chain.turn stage prefix answer).stage

      turned_by : (stage : Stage) (prefix : List (Timed Event)) (ask : Command) (answer : Timed Reply) → chain.look stage prefix ≡ Asks ask → IsSilent server (chain.so_far stage prefix) →
          Goes prefix so_sent (chain.turn stage prefix answer) → Turned stage prefix ask answer
      turned_by stage prefix ask answer asked silent goes =
          let turned : Turn Stage Command = chain.turn stage prefix answer in
          stays_by prefix (so_sent ++ sent_in turned.owed) (sent_in (before ++ (chain.so_far stage prefix ++ ask ∷ (chain.behind stage prefix ++ turned.owed)))) turned.stage
          (asked_same stage prefix ask turned.owed asked silent) goes

      module _ (standing : Standing) (prefix : List (Timed Event)) (answer : Timed Reply) (none : DecidesNothing (said_in server prefix)) where
        -- ---- a request that goes to the proxy itself

        upstream_turned : (proxy : Address) (ask : Command) → chain.look (http (places.Upstream proxy) standing) prefix ≡ Asks ask → Stays prefix so_sent (http (places.Upstream proxy) standing) →
            Turned (http (places.Upstream proxy) standing) prefix ask answer
        upstream_turned proxy ask asked is =
            let terms = terms_of conv client.address (places.Upstream proxy) in
            let seen : Sight = sight_over standing prefix in
            let turned : Turn flows.Stage Command = turn_of terms standing.stage seen answer in
            let sees = sees_nothing standing prefix standing.stage none refl in
            let apart : FlowApart server false turned.stage = turn_apart server false terms standing.stage seen answer is.apart.1 sees (λ same. absurd (let e : false ≡ true = same in cc)) in
            record {
              apart = (tt, sequence_apart server false turned.stage apart);
              told = said_turned sequence is_in_sequence terms None 0 server standing prefix before ask answer asked (unanswered server false standing.stage seen is.apart.1) is.told;
            }

        -- ---- a request inside a tunnel

        module _ (below : AreBelow standing) (address : Address) (proxy : Address) (stays : Stays prefix so_sent (http (places.Fixed address (Some proxy)) standing)) where
          abbrev place : Place
          place = places.Fixed address (Some proxy)

          -- a reply that connects no server
          flows_go : ConnectsNone server standing.stage answer.value → Goes prefix so_sent (turn_flows conv client place standing prefix answer)
          flows_go connects_none =
              let terms = terms_of conv client.address place in
              let seen : Sight = sight_over standing prefix in
              let turned : Turn flows.Stage Command = turn_of terms standing.stage seen answer in
              let sees = sees_nothing standing prefix standing.stage none refl in
              let apart : FlowApart server true turned.stage = turn_apart server true terms standing.stage seen answer stays.apart.1 sees (λ same. connects_none) in
              quietly prefix so_sent turned.owed _ (turn_silent server true terms standing.stage seen answer below stays.apart.1 connects_none)
              (record {
                apart = (stays.apart.0, sequence_apart server true turned.stage apart);
                told = (stays.told.0, onward_untold server so_sent terms standing.stage seen answer below stays.told.1);
              })

          led_goes : (at : At) (flow : Flow) (sent : Sent) (value : Reply) → standing.stage ≡ busy at flow (connection sent) → answer.value ≡ value →
              Goes prefix so_sent (turn_http conv client (led_by standing.used.client (busy at flow (connection sent))) place standing prefix answer value)
          led_goes at flow sent (reply.Go given stream) is same = flows_go (none_by standing answer _ _ is same tt)
          led_goes at flow sent (reply.Respond response) is same = flows_go (none_by standing answer _ _ is same tt)
          led_goes at flow sent reply.Kill is same = flows_go (none_by standing answer _ _ is same tt)
          led_goes at flow sent reply.Discard is same = flows_go (none_by standing answer _ _ is same tt)
          led_goes at flow sent reply.Dialled is same =
              let U : flows.Stage → Type 0 = λ s. FlowUntold server so_sent s in
              let from : Dialling = record { at = unparked at; used = standing.used.client; flow = flow; sent = sent } in
              proxy_goes (a_flow place from) (address_of flow.request) at.dials prefix answer.moment stays.apart.0 (stays.told.0, subst U is stays.told.1) (λ longer further. further)
          led_goes at flow sent (reply.Refused fault) is same = flows_go (none_by standing answer _ _ is same tt)

          inside_goes : (stage : flows.Stage) (value : Reply) → standing.stage ≡ stage → answer.value ≡ value →
              Goes prefix so_sent (turn_http conv client (led_by standing.used.client stage) place standing prefix answer value)
          inside_goes (busy at flow (connection sent)) value is same = led_goes at flow sent value is same
          inside_goes (idle at) value is same = flows_go (none_by standing answer (idle at) value is same tt)
          inside_goes (busy at flow (request_body given most)) value is same = flows_go (none_by standing answer (busy at flow (request_body given most)) value is same tt)
          inside_goes (busy at flow (response_head side how)) value is same = flows_go (none_by standing answer (busy at flow (response_head side how)) value is same tt)
          inside_goes (busy at flow (response_body side how most)) value is same = flows_go (none_by standing answer (busy at flow (response_body side how most)) value is same tt)
          inside_goes (busy at flow (coming_down side how)) value is same = flows_go (none_by standing answer (busy at flow (coming_down side how)) value is same tt)
          inside_goes (busy at flow (upgraded side)) value is same = flows_go (none_by standing answer (busy at flow (upgraded side)) value is same tt)
          inside_goes (busy at flow given_head) value is same = flows_go (none_by standing answer (busy at flow given_head) value is same tt)
          inside_goes (busy at flow given_body) value is same = flows_go (none_by standing answer (busy at flow given_body) value is same tt)
          inside_goes (next at) value is same = flows_go (none_by standing answer (next at) value is same tt)
          inside_goes flows.over value is same = flows_go (none_by standing answer flows.over value is same tt)

        http_turned : (place : Place) (ask : Command) → AreBelow standing → chain.look (http place standing) prefix ≡ Asks ask → Stays prefix so_sent (http place standing) →
            Turned (http place standing) prefix ask answer
        http_turned places.Regular ask below asked stays = absurd stays.apart.0
        http_turned (places.Upstream proxy) ask below asked stays = upstream_turned proxy ask asked stays
        http_turned (places.Fixed address None) ask below asked stays = absurd stays.apart.0
        http_turned (places.Fixed address (Some proxy)) ask below asked stays =
            turned_by (http (places.Fixed address (Some proxy)) standing) prefix ask answer asked (inside_waits address (Some proxy) standing prefix stays.apart.1)
            (inside_goes below address proxy stays standing.stage answer.value refl refl)

      turns : (stage : Stage) (prefix : List (Timed Event)) (ask : Command) (answer : Timed Reply) → DecidesNothing (said_in server prefix) → AllBelow stage → chain.look stage prefix ≡ Asks ask →
          Stays prefix so_sent stage → Turned stage prefix ask answer
      turns (asking front) prefix ask answer none below asked is = absurd is.apart
      turns (http place standing) prefix ask answer none below asked is = http_turned standing prefix answer none place ask below asked is
      turns (connecting tunnel) prefix ask answer none below asked is = turned_by (connecting tunnel) prefix ask answer asked refl (dial_goes tunnel prefix answer.value answer.moment is)
      turns (reaching goal link since) prefix ask answer none below asked is = turned_by (reaching goal link since) prefix ask answer asked refl (quietly prefix so_sent [] (reaching goal link since) refl is)
      turns (undecided tunnel link since) prefix ask answer none below asked is =
          turned_by (undecided tunnel link since) prefix ask answer asked refl (quietly prefix so_sent [] (undecided tunnel link since) refl is)
      turns (raw ends) prefix ask answer none below asked is = turned_by (raw ends) prefix ask answer asked (raw_waits ends prefix is.apart) (quietly prefix so_sent [] (raw ends) refl is)
      turns (socket ends flow frames) prefix ask answer none below asked is =
          turned_by (socket ends flow frames) prefix ask answer asked refl
          (socket_goes before prefix so_sent ends flow _ is.told is.apart (turn_says (socket_terms client.key ends flow) (socket_sight ends prefix) frames answer.value answer.moment))
      turns over prefix ask answer none below asked is = turned_by over prefix ask answer asked refl (quietly prefix so_sent [] over refl is)

      -- ---- what is owed where it stops

      one_by : (stage : Stage) (prefix : List (Timed Event)) → IsSilent server (chain.so_far stage prefix) → IsOneRequest so_sent →
          IsOneRequest (sent_in (before ++ (chain.so_far stage prefix ++ found_at chain stage prefix)))
      one_by stage prefix waits one =
          let more : List Command = chain.so_far stage prefix ++ found_at chain stage prefix in
          let silent : sent_in more ≡ [] =
          silent_both server (chain.so_far stage prefix) (found_at chain stage prefix) waits
          (silent_found server (chain.behind stage prefix) (chain.look stage prefix) (parts stage prefix) (looks stage prefix)) in
          subst IsOneRequest (sym (sent_both before more ∙ (ap (λ l. so_sent ++ l) silent ∙ append-nil so_sent))) one

      http_one : (place : Place) (standing : Standing) (prefix : List (Timed Event)) → Stays prefix so_sent (http place standing) →
          IsOneRequest (sent_in (before ++ (chain.so_far (http place standing) prefix ++ found_at chain (http place standing) prefix)))
      http_one places.Regular standing prefix is = absurd is.apart.0
      http_one (places.Upstream proxy) standing prefix is =
          told_one (places.Upstream proxy) 0 _ refl (said_there sequence is_in_sequence (terms_of conv client.address (places.Upstream proxy)) None 0 server standing prefix before is.told)
      http_one (places.Fixed address inside) standing prefix is =
          one_by (http (places.Fixed address inside) standing) prefix (inside_waits address inside standing prefix is.apart.1) is.told.0

      there_one : (stage : Stage) (prefix : List (Timed Event)) → Stays prefix so_sent stage → IsOneRequest (sent_in (before ++ (chain.so_far stage prefix ++ found_at chain stage prefix)))
      there_one (asking front) prefix is = absurd is.apart
      there_one (http place standing) prefix is = http_one place standing prefix is
      there_one (connecting tunnel) prefix is = one_by (connecting tunnel) prefix refl is.told.0
      there_one (reaching goal link since) prefix is = one_by (reaching goal link since) prefix refl (goal_one before goal is.told)
      there_one (undecided tunnel link since) prefix is = one_by (undecided tunnel link since) prefix refl is.told.0
      there_one (raw ends) prefix is = one_by (raw ends) prefix (raw_waits ends prefix is.apart) is.told
      there_one (socket ends flow frames) prefix is = one_by (socket ends flow frames) prefix refl is.told
      there_one over prefix is = one_by over prefix refl is.told

  -- ---- the walk

  -- what events say of the server before they are worked off
  abbrev said_by : List (Stamped Event) → List ℕ
  said_by [] = []
  said_by (e ∷ es) = piece_of (Server server) e.value ++ said_by es

  said_are : (step : ℕ) (moves : List Move) → said_by (events_in step moves) ≡ said_of server moves
  said_are step [] = refl
  said_are step (Took moment event ∷ moves) = ap (λ l. piece_of (Server server) event ++ l) (said_are (step + 1) moves)
  said_are step (Replied moment answer ∷ moves) = said_are (step + 1) moves

  module _ (conv : ℕ) (client : Visitor) (total : List ℕ) (none : DecidesNothing total) where
    abbrev walks : Chain Stage Event Reply Command
    walks = stack_chain conv client

    record Holds (before : List Command) (stage : Stage) (prefix : List (Timed Event)) : Type 0 where
      stays : Stays conv client prefix (sent_in before) stage
      below : AllBelow stage

    record Here (here : Reached Stage Event Command) : Type 0 where
      holds : Holds here.before here.stage here.prefix
      whole : said_in server here.prefix ++ said_by here.rest ≡ total

    decides : (prefix : List (Timed Event)) (rest : List (Stamped Event)) → said_in server prefix ++ said_by rest ≡ total → DecidesNothing (said_in server prefix)
    decides prefix rest whole = nothing_before (said_in server prefix) (said_by rest) (subst DecidesNothing (sym whole) none)

    whole_more : (last : Stamp) (prefix : List (Timed Event)) (e : Stamped Event) (es : List (Stamped Event)) → said_in server prefix ++ said_by (e ∷ es) ≡ total →
        said_in server (prefix ++ worked_off last e ∷ []) ++ said_by es ≡ total
    whole_more last prefix e es whole =
        ap (λ l. l ++ said_by es) (said_more server prefix (worked_off last e))
        ∙ (append_assoc (said_in server prefix) (piece_of (Server server) e.value) (said_by es) ∙ whole)

    passed : (before : List Command) (stage : Stage) (prefix : List (Timed Event)) (rest : List (Stamped Event)) → Holds before stage prefix → said_in server prefix ++ said_by rest ≡ total →
        Here (record { before = before ++ (walks.pass stage prefix).owed; stage = (walks.pass stage prefix).stage; prefix = prefix; rest = rest })
    passed before stage prefix rest holds whole =
        let on : Turn Stage Command = walks.pass stage prefix in
        record {
          holds = record {
            stays = stays_by conv client prefix (sent_in before ++ sent_in on.owed) (sent_in (before ++ on.owed)) on.stage (sym (sent_both before on.owed))
                (passes conv client before stage prefix (decides prefix rest whole) holds.stays);
            below = ((stack_counts conv client).passes stage prefix holds.below).stays;
          };
          whole = whole;
        }

    heard : (before : List Command) (stage : Stage) (prefix : List (Timed Event)) (event : Timed Event) → Holds before stage prefix → Holds before stage (prefix ++ event ∷ [])
    heard before stage prefix event holds =
        record { stays = record { apart = holds.stays.apart; told = more_told conv client stage prefix event before holds.stays.told }; below = holds.below }

    reached_by : (l : Look Command) (further here : Reached Stage Event Command) → Here further → Here here → Here (reach_by l further here)
    reached_by NotYet further here a b = a
    reached_by (Asks ask) further here a b = b
    reached_by (Ends owed) further here a b = b

    reached_here : (last : Stamp) (before : List Command) (stage : Stage) (prefix : List (Timed Event)) (es : List (Stamped Event)) → Holds before stage prefix →
        said_in server prefix ++ said_by es ≡ total → Here (reach walks last before stage prefix es)
    reached_here last before stage prefix [] holds whole = passed before stage prefix [] holds whole
    reached_here last before stage prefix (e ∷ es) holds whole =
        let on : Turn Stage Command = walks.pass stage prefix in
        let here = passed before stage prefix (e ∷ es) holds whole in
        reached_by (walks.look on.stage prefix) _ _
        (reached_here last (before ++ on.owed) on.stage (prefix ++ worked_off last e ∷ []) es
        (heard (before ++ on.owed) on.stage prefix (worked_off last e) here.holds) (whole_more last prefix e es whole)) here

    walk_by_one : (l : Look Command) (on : Command → Stop Stage Event Reply Command) (stop : Stop Stage Event Reply Command) →
        ((ask : Command) → l ≡ Asks ask → IsOneRequest (sent_in (owed_at walks (on ask)))) → IsOneRequest (sent_in (owed_at walks stop)) →
        IsOneRequest (sent_in (owed_at walks (walk_by l on stop)))
    walk_by_one NotYet on stop asked here = here
    walk_by_one (Asks ask) on stop asked here = asked ask refl
    walk_by_one (Ends owed) on stop asked here = here

    walk_one : (rs : List (Stamped Reply)) (last : Stamp) (before : List Command) (stage : Stage) (prefix : List (Timed Event)) (es : List (Stamped Event)) → Holds before stage prefix →
        said_in server prefix ++ said_by es ≡ total → IsOneRequest (sent_in (owed_at walks (walk walks rs last before stage prefix es)))
    walk_one [] last before stage prefix es holds whole =
        let here : Reached Stage Event Command = reach walks last before stage prefix es in
        let there = reached_here last before stage prefix es holds whole in
        there_one conv client here.before here.stage here.prefix there.holds.stays
    walk_one (r ∷ rs) last before stage prefix es holds whole =
        let here : Reached Stage Event Command = reach walks last before stage prefix es in
        let there = reached_here last before stage prefix es holds whole in
        let on : Turn Stage Command = walks.turn here.stage here.prefix (at_its_step r) in
        walk_by_one (walks.look here.stage here.prefix) _ _
        (λ ask asked.
        walk_one rs r.stamp (here.before ++ (walks.so_far here.stage here.prefix ++ ask ∷ (walks.behind here.stage here.prefix ++ on.owed))) on.stage here.prefix here.rest
        (record {
          stays = turns conv client here.before here.stage here.prefix ask (at_its_step r) (decides here.prefix here.rest there.whole) there.holds.below asked there.holds.stays;
          below = ((stack_counts conv client).turns here.stage here.prefix ask (at_its_step r) there.holds.below asked).stays;
        }) there.whole)
        (there_one conv client here.before here.stage here.prefix there.holds.stays)

-- In mode `upstream:` a server that has not answered was sent one request at most.
pub mode_one_request : (proxy : Address) (peer : Option Address) (key : List ℕ) (conv server : ℕ) (moves : List Move) → HasNotAnswered server moves →
    IsOneRequest (bytes_in (seen_of (line (Server server)) (mode_due (modes.Upstream proxy) key conv peer moves)))
mode_one_request proxy peer key conv server moves none =
    walk_one server conv (record { address = peer; key = key }) (said_of server moves) none (replies_in 1 moves) never [] (begins (modes.Upstream proxy)) [] (events_in 1 moves)
    (record {
      stays = record { apart = (tt, tt); told = record { below = tt; since = (omega arith, is_first refl); untold = tt; said = not_yet refl tt } };
      below = tt;
    }) (said_are server 1 moves)
