-- What follows HTTP is where the chain is, and gives what it owes beside what HTTP did.
use Rattle.std.proofs.Common.{◌≡◌, inl, inr, ℕ, ◌+◌, ◌<◌, ◌≤◌, Bool, true, false, List, [], ◌∷◌, ◌++◌, length, Option, Some, None, refl, ap, sym, ◌∙◌, ap₂, subst, arith, option_to_list}
use Rattle.std.specs.Prelude.{◌⊎◌, Result, Ok, Err, IfOk, unwrap_or}
use Rattle.std.specs.Global.{Box}
use Rattle.std.proofs.lemmas.Grind.{flat_map-append}
use Rattle.std.proofs.lemmas.List.{append-nil, drop-drop}
use Rattle.px_message.specs.declared.flow.Flow.{Flow}
use Rattle.px_event.specs.declared.ask.Ask.{Ask}
use Rattle.px_event.specs.declared.command.Command.{Command}
use Rattle.px_event.specs.declared.command.Command.TheVariants as commands
use Rattle.px_event.specs.declared.event.Event.{Event}
use Rattle.px_event.specs.declared.event.Rests.{Rests}
use Rattle.px_event.specs.declared.side.Side.TheVariants.{Client}
use Rattle.px_event.specs.Chain.{Timed, Look, NotYet, Asks, Ends, Turn, found_with}
use Rattle.px_event.specs.Laws.{owed_here}
use Rattle.px_event.specs.Layer.{AsksOnly, asks_in}
use Rattle.px_event.specs.View.{View, seen_of}
use Rattle.px_event.proofs.Seen.{seen_append}
use Rattle.px_read.specs.Items.{Item, missing, part, complete, bad_head, bad_body}
use Rattle.px_read.specs.Reader.{State}
use Rattle.px_read.specs.declared.head.RequestHead.{RequestHead as ReadRequest}
use Rattle.px_exchange.specs.declared.asked.Judged.{Judged}
use Rattle.px_exchange.specs.declared.asked.Judged.TheVariants.{Refused, Accepted, Connects}
use Rattle.px_exchange.specs.declared.ending.Used.TheVariants.{ByServer}
use Rattle.px_exchange.specs.declared.outcome.Outcome.{Outcome}
use Rattle.px_exchange.specs.declared.outcome.Outcome.TheVariants as outcomes
use Rattle.px_exchange.specs.declared.place.Place.{Place}
use Rattle.px_exchange.specs.declared.place.Place.TheVariants as places
use Rattle.px_exchange.specs.declared.terms.Terms.{Terms}
use Rattle.px_exchange.specs.Places.{terms_of}
use Rattle.px_exchange.specs.Requests.{judged}
use Rattle.px_chain.specs.Chain.{Connect, behind, connect_by as connect_judged, connect_in, look, sequence, so_far}
use Rattle.px_chain.specs.Keeping.{is_silent, unspoilt_at, unspoilt_by}
use Rattle.px_chain.specs.Sights.{IsWithin, Sight, Standing, UsedBytes, request_in, sight_over, used_with}
use Rattle.px_chain.specs.Stages.{At, Parked, busy, coming_down, connection, given_body, given_head, idle, next, request_body, response_body, response_head, upgraded}
use Rattle.px_chain.specs.Stages as stages
use Rattle.px_chain.specs.Streams.{Since, bytes_of, client_closed, now_over}
use Rattle.px_chain.proofs.UsedLaws.{request_within}
use Rattle.px_http.specs.declared.conversation.HttpConv.{HttpConv}
use Rattle.px_stream.specs.declared.link.Link.{Link as KeptLink}
use Rattle.px_stream.specs.declared.phase.Phase.{Phase}
use Rattle.px_stream.specs.declared.phase.Phase.TheVariants as phase
use Rattle.px_stream.specs.declared.phase.Wanted.{Wanted}
use Rattle.px_stream.specs.declared.phase.Wanted.TheVariants as ready
use Rattle.px_stream.specs.Anywhere.{IsCounted}
use Rattle.px_stream.specs.Heard.{shut_if}
use Rattle.px_stream.specs.Tells.{asked_tunnel, closed_in, open_parked, outcome_in, phase_flow, sequence_left, side_rest, upgraded_side, uses_side}
use Rattle.px_stream.specs.Stands.{IsConnecting as IsTunnelAsked, IsLast, IsLastAt, IsOpen, IsUpgraded, LinkKeeps, PhaseAt, awaited_in, is_last, parked_link, silent_link}
use Rattle.px_stream.proofs.StateLaws.{ends_where_it_ends}
use Rattle.px_stack.specs.declared.child.Child.{Child}
use Rattle.px_stack.specs.declared.child.Child.TheVariants as children
use Rattle.px_stack.specs.declared.child.Opening.{Opening}
use Rattle.px_stack.specs.declared.closing.Sides.{Sides}
use Rattle.px_stack.specs.Chain.{begun, flows_at, hands_by, hands_over, or_stays, owed_at_handing, owing, proxy_at, shut_parked, stack_chain, tunnel_for, upgrades as upgraded_to}
use Rattle.px_stack.specs.Kept.{awaited_by, connecting_left, left_by, most_asked, tunnel_left}
use Rattle.px_stack.specs.Laws.{hands, never_connects}
use Rattle.px_stack.specs.Stages.{Ends as TunnelEnds, Stage, Tunnel, Visitor, connecting, http}
use Rattle.px_stack.specs.Stands.{InTime, StaysInTime, IsChild, IsInFlows, KeepsBy, ahead_at}
use Rattle.px_stack.specs.Sockets.{is_websocket}
use Rattle.px_stack.specs.Steps.{Adds, Arrives, AsksBehind, Follows, FollowsAt, GoesOnAs, MayRelay}
use Rattle.px_stack.proofs.RelayLemmas.{given_twice}

-- ---- what became of HTTP

-- it goes on, or not
going_on : (found : Phase) → outcome_in found ≡ outcomes.Going → is_last found ≡ true → ⊥
going_on (phase.Asked awaits) is last = let no : false ≡ true = last in cc
going_on (phase.Ready ready.Over) is last = let no : outcomes.Over ≡ outcomes.Going = is in cc
going_on (phase.Ready (ready.Connects address)) is last = let no : outcomes.Connects ≡ outcomes.Going = is in cc
going_on (phase.Ready (ready.Upgraded flow server)) is last = let no : outcomes.Upgraded ≡ outcomes.Going = is in cc
going_on (phase.Ready ready.Idle) is last = let no : false ≡ true = last in cc
going_on (phase.Ready (ready.RequestBody flow given most body held)) is last = let no : false ≡ true = last in cc
going_on (phase.Ready (ready.Connection flow up)) is last = let no : false ≡ true = last in cc
going_on (phase.Ready (ready.ResponseHead flow server up)) is last = let no : false ≡ true = last in cc
going_on (phase.Ready (ready.ResponseBody flow server up most body held)) is last = let no : false ≡ true = last in cc
going_on (phase.Ready (ready.ComingDown flow server up sent)) is last = let no : false ≡ true = last in cc
going_on (phase.Ready (ready.GivenHead flow)) is last = let no : false ≡ true = last in cc
going_on (phase.Ready (ready.GivenBody flow)) is last = let no : false ≡ true = last in cc

-- every outcome but `Going` is a last one
last_when : (found : Phase) → (outcome_in found ≡ outcomes.Going → ⊥) → is_last found ≡ true
last_when (phase.Asked awaits) ends = absurd (ends refl)
last_when (phase.Ready ready.Over) ends = refl
last_when (phase.Ready (ready.Connects address)) ends = refl
last_when (phase.Ready (ready.Upgraded flow server)) ends = refl
last_when (phase.Ready ready.Idle) ends = absurd (ends refl)
last_when (phase.Ready (ready.RequestBody flow given most body held)) ends = absurd (ends refl)
last_when (phase.Ready (ready.Connection flow up)) ends = absurd (ends refl)
last_when (phase.Ready (ready.ResponseHead flow server up)) ends = absurd (ends refl)
last_when (phase.Ready (ready.ResponseBody flow server up most body held)) ends = absurd (ends refl)
last_when (phase.Ready (ready.ComingDown flow server up sent)) ends = absurd (ends refl)
last_when (phase.Ready (ready.GivenHead flow)) ends = absurd (ends refl)
last_when (phase.Ready (ready.GivenBody flow)) ends = absurd (ends refl)

-- where it ended, how
pub data EndsAs (place : Place) (standing : Standing) (stage : stages.Stage) (seen : Sight) (requests : State) (side : Option KeptLink) (found : Phase) : Type 0 where
  by_connect : (at : At) (connects : Connect) → stage ≡ idle at → connect_in place (request_in seen) ≡ Some connects →
      (last : Wanted) → found ≡ phase.Ready last → IsTunnelAsked at connects seen requests side last → EndsAs place standing stage seen requests side found
  by_upgrade : (at : At) (flow : Flow) (server : ℕ) → stage ≡ busy at flow (upgraded server) →
      (last : Wanted) → found ≡ phase.Ready last → IsUpgraded flow server seen requests side last → EndsAs place standing stage seen requests side found
  by_end : hands_by place standing stage seen ≡ None → (last : Wanted) → found ≡ phase.Ready last → last ≡ ready.Over → EndsAs place standing stage seen requests side found

idle_as : (place : Place) (standing : Standing) (at : At) (seen : Sight) (requests : State) (side : Option KeptLink) (found : Phase) (last : Wanted) (connects : Option Connect) →
    connect_in place (request_in seen) ≡ connects → found ≡ phase.Ready last → IsLastAt at connects seen requests side last → EndsAs place standing (idle at) seen requests side found
idle_as place standing at seen requests side found last None is same ends = by_end (ap (tunnel_for place standing.used.client (unspoilt_at at seen)) is) last same ends
idle_as place standing at seen requests side found last (Some connects) is same ends = by_connect at connects refl is last same ends

ends_as : (terms : Terms) (standing : Standing) (stage : stages.Stage) (seen : Sight) (requests : State) (side : Option KeptLink) (found : Phase) (last : Wanted) →
    found ≡ phase.Ready last → IsLast terms stage seen requests side last → EndsAs terms.place standing stage seen requests side found
ends_as terms standing (idle at) seen requests side found last same is = idle_as terms.place standing at seen requests side found last (connect_in terms.place (request_in seen)) refl same is
ends_as terms standing (busy at flow (request_body given most)) seen requests side found last same is = by_end refl last same is
ends_as terms standing (busy at flow (connection sent)) seen requests side found last same is = by_end refl last same is
ends_as terms standing (busy at flow (response_head server how)) seen requests side found last same is = by_end refl last same is
ends_as terms standing (busy at flow (response_body server how most)) seen requests side found last same is = by_end refl last same is
ends_as terms standing (busy at flow (coming_down server how)) seen requests side found last same is = by_end refl last same is
ends_as terms standing (busy at flow (upgraded server)) seen requests side found last same is = by_upgrade at flow server refl last same is
ends_as terms standing (busy at flow given_head) seen requests side found last same is = by_end refl last same is
ends_as terms standing (busy at flow given_body) seen requests side found last same is = by_end refl last same is
ends_as terms standing (next at) seen requests side found last same is = by_end refl last same is
ends_as terms standing stages.over seen requests side found last same is = by_end refl last same is

-- the phase is a last one, so the end was found
ends_by : (l : Look Command) (terms : Terms) (at : At) (requests : State) (side : Option KeptLink) (found : Phase) (standing : Standing) (stage : stages.Stage) (seen : Sight) →
    (owed : List Command) × (l ≡ Ends owed) → PhaseAt l terms at requests side found stage seen → EndsAs terms.place standing stage seen requests side found
ends_by NotYet terms at requests side found standing stage seen (owed, is) there = absurd (let no : NotYet ≡ Ends owed = is in cc)
ends_by (Asks ask) terms at requests side found standing stage seen (owed, is) there = absurd (let no : Asks ask ≡ Ends owed = is in cc)
ends_by (Ends owed) terms at requests side found standing stage seen is (last, same, there) = ends_as terms standing stage seen requests side found last same there

-- ---- by the stage that follows

module _ (conv : ℕ) (client : Visitor) (place : Place) (flows : HttpConv) (standing : Standing) (prefix : List (Timed Event)) where
  abbrev terms : Terms
  terms = terms_of conv client.address place

  abbrev seen : Sight
  seen = sight_over standing prefix

  -- HTTP's own look, and what it owes there
  abbrev looked : Look Command
  looked = look terms standing.stage seen

  -- what HTTP owed while it waited, where it hands over; and a WebSocket works off at once what has come
  abbrev goes_to : Option Stage → Turn Stage Command
  goes_to to = owing conv client (owed_at_handing to ((flows_at conv client place).so_far standing prefix)) (begun conv client (or_stays (http place standing) to) prefix)

  record FollowsBy (next : Child) (more : List Command) (to : Option Stage) : Type 0 where
    there : IsChild conv client next (goes_to to).stage prefix
    gives : (view : View) → seen_of view (owed_here (flows_at conv client place) standing prefix) ++ seen_of view more
        ≡ seen_of view ((goes_to to).owed ++ owed_here (stack_chain conv client) (goes_to to).stage prefix)
    left : left_by next ≤ sequence_left flows.stream + tunnel_left place

  as_follows : (next : Child) (more : List Command) (to : Option Stage) → hands_over place standing prefix ≡ to → FollowsBy next more to →
      FollowsAt conv client flows next more place standing prefix
  as_follows child more to is by =
      let P : Option Stage → Type 0 = FollowsBy child more in
      let there = subst P (sym is) by in
      record { there = there.there; gives = there.gives; left = there.left }

  module _ (at : IsInFlows conv client place flows standing prefix) where
    -- where HTTP goes on nothing follows it
    none_follows : (is_last flows.stream.phase ≡ true → ⊥) → (to : Option Stage) → hands_over place standing prefix ≡ to → hands_over place standing prefix ≡ None
    none_follows open_still None is = is
    none_follows open_still (Some to) is =
        let over = hands terms standing standing.stage seen to is in
        absurd (open_still ((ends_where_it_ends sequence terms).there flows.stream standing prefix [] at.is_at over.ends))

    no_end : (is_last flows.stream.phase ≡ true → ⊥) → (owed : List Command) → looked ≡ Ends owed → ⊥
    no_end open_still owed is = open_still ((ends_where_it_ends sequence terms).there flows.stream standing prefix owed at.is_at is)

    keeps_by : InTime standing prefix → (boxed : Box HttpConv) → boxed.value ≡ flows → (l : Look Command) → ((owed : List Command) → l ≡ Ends owed → ⊥) →
        KeepsBy l conv client (children.Http boxed) (http place standing) prefix
    keeps_by in_time boxed same NotYet goes =
        let P : HttpConv → Type 0 = λ f. IsInFlows conv client place f standing prefix in record { flows = boxed; is = refl; there = subst P (sym same) at; in_time = in_time }
    keeps_by in_time boxed same (Asks ask) goes =
        let P : HttpConv → Type 0 = λ f. IsInFlows conv client place f standing prefix in record { flows = boxed; is = refl; there = subst P (sym same) at; in_time = in_time }
    keeps_by in_time boxed same (Ends owed) goes = absurd (goes owed refl)

    pub goes_on : StaysInTime terms standing prefix → (boxed : Box HttpConv) → boxed.value ≡ flows → outcome_in flows.stream.phase ≡ outcomes.Going →
        FollowsAt conv client flows (children.Http boxed) [] place standing prefix
    goes_on in_time boxed same is =
        let open_still : is_last flows.stream.phase ≡ true → ⊥ = going_on flows.stream.phase is in
        let P : HttpConv → Type 0 = λ f. sequence_left f.stream + tunnel_left f.stream.terms.place ≤ sequence_left flows.stream + tunnel_left flows.stream.terms.place in
        let Q : Terms → Type 0 = λ t. sequence_left boxed.value.stream + tunnel_left boxed.value.stream.terms.place ≤ sequence_left flows.stream + tunnel_left t.place in
        as_follows (children.Http boxed) [] None (none_follows open_still (hands_over place standing prefix) refl) (record {
          there = keeps_by (in_time (no_end open_still)) boxed same looked (no_end open_still);
          gives = λ view. append-nil _;
          left = subst Q at.is_at.is_in.terms (subst P (sym same) (omega arith));
        })

    ends_there : (owed : List Command) (l : Look Command) → l ≡ Ends owed → KeepsBy l conv client children.Over (http place standing) prefix
    ends_there owed NotYet is = absurd (let no : NotYet ≡ Ends owed = is in cc)
    ends_there owed (Asks ask) is = absurd (let no : Asks ask ≡ Ends owed = is in cc)
    ends_there owed (Ends other) is = refl

    is_over : hands_over place standing prefix ≡ None → (owed : List Command) × (looked ≡ Ends owed) → FollowsAt conv client flows children.Over [] place standing prefix
    is_over stays (owed, is) =
        as_follows children.Over [] None stays (record { there = ends_there owed looked is; gives = λ view. append-nil _; left = omega arith })

    -- where the end is found, and how
    found_end : is_last flows.stream.phase ≡ true → EndsAs place standing standing.stage seen flows.stream.requests flows.stream.side flows.stream.phase
    found_end last =
        ends_by looked terms flows.stream.at flows.stream.requests flows.stream.side flows.stream.phase standing standing.stage seen
        ((ends_where_it_ends sequence terms).ends flows.stream standing prefix at.is_at last) at.is_at.is_in.phase

    end_by : (last : is_last flows.stream.phase ≡ true) → EndsAs place standing standing.stage seen flows.stream.requests flows.stream.side flows.stream.phase →
        (outcome_in flows.stream.phase ≡ outcomes.Connects → ⊥) → (outcome_in flows.stream.phase ≡ outcomes.Upgraded → ⊥) → hands_over place standing prefix ≡ None
    end_by last (by_connect at connects is whole last_phase same asked) apart other =
        absurd (apart (ap outcome_in same ∙ ap (λ r. outcome_in (phase.Ready r)) asked.phase))
    end_by last (by_upgrade at flow server is last_phase same asked) apart other =
        absurd (other (ap outcome_in same ∙ ap (λ r. outcome_in (phase.Ready r)) asked.phase))
    end_by last (by_end stays last_phase same is) apart other = stays

    -- it has ended
    pub ends : is_last flows.stream.phase ≡ true → (outcome_in flows.stream.phase ≡ outcomes.Connects → ⊥) → (outcome_in flows.stream.phase ≡ outcomes.Upgraded → ⊥) →
        FollowsAt conv client flows children.Over [] place standing prefix
    ends last apart other =
        is_over (end_by last (found_end last) apart other) ((ends_where_it_ends sequence terms).ends flows.stream standing prefix at.is_at last)

-- ---- a CONNECT

-- what is dialled for it, and behind that the close of a side that was kept for a next flow
abbrev pub dials_for : Opening → Option ℕ → List Command
dials_for kept parked = commands.Dial kept.dials (unwrap_or kept.proxy kept.address) None ∷ shut_if parked

-- that is the parked side, unless its keeping has ended
closes_by : (silent : Bool) (parked : Option Parked) (side : Option KeptLink) → ((own : Parked) → parked ≡ Some own → side ≡ silent_link silent own.server) →
    shut_if (open_parked parked side) ≡ shut_parked (unspoilt_by silent parked)
closes_by true None side is = refl
closes_by false None side is = refl
closes_by true (Some parked) side is = ap (λ s. shut_if (open_parked (Some parked) s)) (is parked refl)
closes_by false (Some parked) side is = ap (λ s. shut_if (open_parked (Some parked) s)) (is parked refl)

closes_parked : (parked : Option Parked) (seen : Sight) → shut_if (open_parked parked (parked_link parked seen)) ≡ shut_parked (unspoilt_by (is_silent seen.server seen.shut) parked)
closes_parked parked seen = closes_by (is_silent seen.server seen.shut) parked (parked_link parked seen) (λ own is. ap (λ p. parked_link p seen) is)

-- only where requests go where they ask to, a tunnel may follow
record LeavesRoom (place : Place) : Type 0 where
  none_ahead : ahead_at place ≡ 0
  asks : tunnel_left place ≡ connecting_left

leaves_room : (place : Place) (seen : Sight) (connects : Connect) → connect_in place (request_in seen) ≡ Some connects → LeavesRoom place
leaves_room (places.Fixed address inside) seen connects is =
    absurd (let no : None ≡ Some connects = sym (never_connects address inside (request_in seen)) ∙ is in cc)
leaves_room places.Regular seen connects is = record { none_ahead = refl; asks = refl }
leaves_room (places.Upstream proxy) seen connects is = record { none_ahead = refl; asks = refl }

-- it used the bytes of a whole head
judged_used : (made : Judged) (size : ℕ) (connects : Connect) → connect_judged made size ≡ Some connects → connects.used ≡ size
judged_used (Refused fault) size connects is = absurd (let no : None ≡ Some connects = is in cc)
judged_used (Accepted request) size connects is = absurd (let no : None ≡ Some connects = is in cc)
judged_used (Connects address) size connects is = let same : connects ≡ record { address = address; used = size } = cc in ap (λ c. c.used) same

connect_used : (place : Place) (item : Item ReadRequest) (used : ℕ) (connects : Connect) → connect_in place item ≡ Some connects → used_with item used ≡ used + connects.used
connect_used place missing used connects is = absurd (let no : None ≡ Some connects = is in cc)
connect_used place (part head body) used connects is = absurd (let no : None ≡ Some connects = is in cc)
connect_used place (complete head body trailers size) used connects is = ap (λ n. used + n) (sym (judged_used (judged place head) size connects is))
connect_used place (bad_head fault) used connects is = absurd (let no : None ≡ Some connects = is in cc)
connect_used place (bad_body fault head body) used connects is = absurd (let no : None ≡ Some connects = is in cc)

module _ (conv : ℕ) (client : Visitor) (place : Place) (flows : HttpConv) where
  -- over plain parts of a standing
  module _ (at : At) (since : Since) (opened : ℕ) (used : UsedBytes) (told : ℕ) (prefix : List (Timed Event)) where
    abbrev here : Standing
    here = record { stage = idle at; since = since; opened = opened; used = used; told = told }

    abbrev sight : Sight
    sight = sight_over here prefix

    abbrev tunnel_of : Connect → Tunnel
    tunnel_of connects = record { at = unspoilt_at at sight; used = used.client + connects.used; address = connects.address; proxy = proxy_at place }

    -- what it used had come
    connect_come : IsWithin here prefix → (connects : Connect) → connect_in place (request_in sight) ≡ Some connects → used.client + connects.used ≤ length (bytes_of Client prefix)
    connect_come within connects is =
        let whole = request_within sight used.client (bytes_of Client prefix) refl within.client in
        let same = connect_used place (request_in sight) used.client connects is in
        omega arith

    connect_follows : IsInFlows conv client place flows here prefix → (connects : Connect) → connect_in place (request_in sight) ≡ Some connects →
        (last : Wanted) → flows.stream.phase ≡ phase.Ready last → IsTunnelAsked at connects sight flows.stream.requests flows.stream.side last →
        (kept : Opening) (closed : Bool) (parked : Option ℕ) → parked ≡ open_parked flows.stream.at.parked flows.stream.side → kept.flow ≡ flows.stream.at.flow → kept.dials ≡ flows.stream.at.dials → asked_tunnel flows.stream.phase ≡ Some kept.address → kept.proxy ≡ proxy_at place →
        kept.rest ≡ flows.stream.requests.rest → closed ≡ flows.stream.client_closed → FollowsAt conv client flows (children.Connecting kept closed) (dials_for kept parked) place here prefix
    connect_follows in_flows connects is last same asked kept closed parked side_is flow dials address proxy rest client_is =
        let room = leaves_room place sight connects is in
        let tunnel : Tunnel = tunnel_of connects in
        let to : hands_over place here prefix ≡ Some (connecting tunnel) = ap (tunnel_for place used.client (unspoilt_at at sight)) is in
        let over = hands (terms_of conv client.address place) here (idle at) sight (connecting tunnel) to in
        let placed = in_flows.is_at.is_in.place in
        let counted : IsCounted (ahead_at place) at = in_flows.few in
        let few : at.dials ≤ at.flow + ahead_at place = counted.dials in
        let none : ahead_at place ≡ 0 = room.none_ahead in
        let below : at.flow < 1000000 = counted.few in
        let there : Some connects.address ≡ Some kept.address = sym (ap asked_tunnel same ∙ ap (λ r. asked_tunnel (phase.Ready r)) asked.phase) ∙ address in
        let same_address : kept.address ≡ connects.address = let e : connects.address ≡ kept.address = cc in sym e in
        let waits : List Command = so_far (terms_of conv client.address place) (idle at) sight in
        let closes : shut_if parked ≡ shut_parked (unspoilt_at at sight).parked =
        ap shut_if (side_is ∙ (ap (λ (a : At). open_parked a.parked flows.stream.side) placed.is_here ∙ ap (open_parked at.parked) asked.parked)) ∙ closes_parked at.parked sight in
        let same_server : kept.dials ≡ at.dials = dials ∙ ap (λ (a : At). a.dials) placed.is_here in
        as_follows conv client place flows here prefix (children.Connecting kept closed) (dials_for kept parked) (Some (connecting tunnel)) to (record {
          there = record {
            kept = kept;
            closed = closed;
            is = refl;
            opening = record {
              flow = flow ∙ ap (λ (a : At). a.flow) placed.is_here;
              dials = same_server;
              address = same_address;
              proxy = proxy;
              rest = rest ∙ (asked.keeps.rest ∙ drop-drop connects.used used.client (bytes_of Client prefix));
              few = below;
              used = connect_come in_flows.is_at.within connects is;
            };
            dials = omega arith;
            client = client_is ∙ placed.client;
          };
          gives = λ view.
              ap (λ l. seen_of view (waits ++ found_with (behind (idle at) sight) l) ++ seen_of view (dials_for kept parked)) over.ends
              ∙ (sym (seen_append view (waits ++ []) (dials_for kept parked))
              ∙ (ap (λ n. seen_of view ((waits ++ []) ++ commands.Dial n (unwrap_or kept.proxy kept.address) None ∷ shut_if parked)) same_server
              ∙ (ap (λ p. seen_of view ((waits ++ []) ++ commands.Dial at.dials (unwrap_or p kept.address) None ∷ shut_if parked)) proxy
              ∙ (ap (λ a. seen_of view ((waits ++ []) ++ commands.Dial at.dials (unwrap_or (proxy_at place) a) None ∷ shut_if parked)) same_address
              ∙ ap (λ l. seen_of view ((waits ++ []) ++ commands.Dial at.dials (unwrap_or (proxy_at place) connects.address) None ∷ l)) closes))));
          left = let room_left : tunnel_left place ≡ connecting_left = room.asks in omega arith;
        })

  -- whatever the standing
  module _ (kept : Opening) (closed : Bool) (parked : Option ℕ) (side_is : parked ≡ open_parked flows.stream.at.parked flows.stream.side) (since : Since) (opened : ℕ) (used : UsedBytes) (told : ℕ) (prefix : List (Timed Event)) where
    abbrev standing_at : stages.Stage → Standing
    standing_at stage = record { stage = stage; since = since; opened = opened; used = used; told = told }

    abbrev Dials : stages.Stage → Type 0
    Dials stage = FollowsAt conv client flows (children.Connecting kept closed) (dials_for kept parked) place (standing_at stage) prefix

    connect_by : (stage : stages.Stage) → IsInFlows conv client place flows (standing_at stage) prefix → outcome_in flows.stream.phase ≡ outcomes.Connects →
        EndsAs place (standing_at stage) stage (sight_over (standing_at stage) prefix) flows.stream.requests flows.stream.side flows.stream.phase →
        kept.flow ≡ flows.stream.at.flow → kept.dials ≡ flows.stream.at.dials → asked_tunnel flows.stream.phase ≡ Some kept.address → kept.proxy ≡ proxy_at place →
        kept.rest ≡ flows.stream.requests.rest → closed ≡ flows.stream.client_closed → Dials stage
    connect_by stage in_flows outcome (by_connect at connects is whole last same asked) flow dials address proxy rest client_is =
        let P : stages.Stage → Type 0 = λ s. IsInFlows conv client place flows (standing_at s) prefix →
        connect_in place (request_in (sight_over (standing_at s) prefix)) ≡ Some connects →
        IsTunnelAsked at connects (sight_over (standing_at s) prefix) flows.stream.requests flows.stream.side last → Dials s in
        subst P (sym is) (λ flows_there whole_there asked_there. connect_follows at since opened used told prefix flows_there connects whole_there last same asked_there kept closed parked side_is flow dials address proxy rest client_is)
        in_flows whole asked
    connect_by stage in_flows outcome (by_upgrade at follower server is last same asked) flow dials address proxy rest client_is =
        absurd (let no : outcomes.Upgraded ≡ outcomes.Connects = sym (ap outcome_in same ∙ ap (λ r. outcome_in (phase.Ready r)) asked.phase) ∙ outcome in cc)
    connect_by stage in_flows outcome (by_end stays last same is) flow dials address proxy rest client_is =
        absurd (let no : outcomes.Over ≡ outcomes.Connects = sym (ap outcome_in same ∙ ap (λ r. outcome_in (phase.Ready r)) is) ∙ outcome in cc)

apart : (found : Phase) (a b : Outcome) → outcome_in found ≡ a → (a ≡ b → ⊥) → outcome_in found ≡ b → ⊥
apart found a b is differ other = differ (sym is ∙ other)

connects_not : outcomes.Connects ≡ outcomes.Going → ⊥
connects_not is = let no : outcomes.Connects ≡ outcomes.Going = is in cc

upgraded_not : outcomes.Upgraded ≡ outcomes.Going → ⊥
upgraded_not is = let no : outcomes.Upgraded ≡ outcomes.Going = is in cc

-- A CONNECT was read: its server is dialled.
pub connects : (flows : HttpConv) (kept : Opening) (closed : Bool) (parked : Option ℕ) → parked ≡ open_parked flows.stream.at.parked flows.stream.side → outcome_in flows.stream.phase ≡ outcomes.Connects →
    kept.flow ≡ flows.stream.at.flow → kept.dials ≡ flows.stream.at.dials → asked_tunnel flows.stream.phase ≡ Some kept.address → kept.proxy ≡ proxy_at flows.stream.terms.place →
    kept.rest ≡ flows.stream.requests.rest → closed ≡ flows.stream.client_closed → (key : List ℕ) (moment : ℕ) → Follows key moment flows (children.Connecting kept closed) (dials_for kept parked)
connects flows kept closed parked side_is is flow dials address proxy rest client_is key moment conv client place standing prefix keyed now at in_time =
    let last : is_last flows.stream.phase ≡ true = last_when flows.stream.phase (apart flows.stream.phase outcomes.Connects outcomes.Going is connects_not) in
    connect_by conv client place flows kept closed parked side_is standing.since standing.opened standing.used standing.told prefix standing.stage at is
    (found_end conv client place flows standing prefix at last) flow dials address (proxy ∙ ap (λ t. proxy_at t.place) at.is_at.is_in.terms) rest client_is

-- ---- another protocol

-- the side that is open
open_link : (holds : KeptLink → Type 0) (side : Option KeptLink) → IsOpen holds side → (link : KeptLink) × (side ≡ Some link) × holds link
open_link holds None is = absurd is
open_link holds (Some link) is = (link, refl, is)

-- a WebSocket's stage, and that of what is not read, are passed alike
begun_passes : (conv : ℕ) (client : Visitor) (b : Bool) (flow : Flow) (moment : ℕ) (ends : TunnelEnds) (prefix : List (Timed Event)) →
    (stack_chain conv client).pass (upgraded_to b flow moment ends) prefix ≡ begun conv client (upgraded_to b flow moment ends) prefix
begun_passes conv client true flow moment ends prefix = refl
begun_passes conv client false flow moment ends prefix = refl

-- what is left for a WebSocket is left for it everywhere
socket_room : (place : Place) → most_asked ≤ tunnel_left place
socket_room (places.Fixed address inside) = omega arith
socket_room places.Regular = omega arith
socket_room (places.Upstream proxy) = omega arith

module _ (conv : ℕ) (client : Visitor) (place : Place) (flows : HttpConv) where
  module _ (at : At) (flow : Flow) (server : ℕ) (since : Since) (opened : ℕ) (used : UsedBytes) (told : ℕ) (prefix : List (Timed Event)) where
    abbrev there_at : Standing
    there_at = record { stage = busy at flow (upgraded server); since = since; opened = opened; used = used; told = told }

    abbrev ends_of : TunnelEnds
    ends_of = record { used = used.client; link = record { server = server; used = used.server; opened = opened }; flow = Some flow }

    abbrev stage_of : Stage
    stage_of = upgraded_to (is_websocket flow (client_closed prefix)) flow (now_over since prefix) ends_of

    upgrade_follows : IsInFlows conv client place flows there_at prefix → (last : Wanted) → flows.stream.phase ≡ phase.Ready last →
        IsUpgraded flow server (sight_over there_at prefix) flows.stream.requests flows.stream.side last →
        (moment : ℕ) (sides : Sides) (rests : Rests) (given : Flow) (child : Child) (more : List Command) → moment ≡ now_over since prefix →
        upgraded_side flows.stream.phase flows.stream.side ≡ Some (ByServer sides.server sides.shut) → sides.closed ≡ flows.stream.client_closed →
        rests.client ≡ flows.stream.requests.rest → rests.server ≡ side_rest (uses_side flows.stream.phase) flows.stream.side → Some given ≡ phase_flow flows.stream.phase →
        left_by child ≤ most_asked → GoesOnAs client.key moment sides rests given child more →
        FollowsAt conv client flows child more place there_at prefix
    upgrade_follows in_flows last same asked moment sides rests given child more now sides_are closed_is client_rest server_rest given_is few_left goes =
        let seen_there : Sight = sight_over there_at prefix in
        let phase_is : flows.stream.phase ≡ phase.Ready (ready.Upgraded flow server) = same ∙ ap phase.Ready asked.phase in
        let placed = in_flows.is_at.is_in.place in
        let within = in_flows.is_at.within in
        let to : hands_over place there_at prefix ≡ Some stage_of = refl in
        let over = hands (terms_of conv client.address place) there_at (busy at flow (upgraded server)) seen_there stage_of to in
        let (kept, side_is, keeps) = open_link (LinkKeeps server seen_there.server seen_there.shut) flows.stream.side asked.is_open in
        let used_are : Some (ByServer sides.server sides.shut) ≡ Some (ByServer server kept.closed) =
        sym sides_are ∙ (ap (λ p. upgraded_side p flows.stream.side) phase_is ∙ ap (λ o. Some (ByServer server (closed_in o))) side_is) in
        let server_is : sides.server ≡ server = cc in
        let shut_is : sides.shut ≡ kept.closed = cc in
        let flows_are : Some given ≡ Some flow = given_is ∙ ap phase_flow phase_is in
        let flow_is : given ≡ flow = cc in
        let may : MayRelay ends_of prefix sides rests (Some given) = record {
          server = server_is;
          shut = shut_is ∙ keeps.closed;
          closed = closed_is ∙ placed.client;
          up = client_rest ∙ asked.keeps.rest;
          down = server_rest ∙ (ap (λ p. side_rest (uses_side p) flows.stream.side) phase_is ∙ (ap (side_rest true) side_is ∙ keeps.rest));
          same_flow = flows_are;
          used = within.client;
          side_used = within.server;
          opened = within.opened;
        } in
        let Q : Flow → Type 0 = λ f. Arrives conv client child more (upgraded_to (is_websocket f (client_closed prefix)) f moment ends_of) prefix in
        let R : ℕ → Type 0 = λ n. Arrives conv client child more (upgraded_to (is_websocket flow (client_closed prefix)) flow n ends_of) prefix in
        let arrives : Arrives conv client child more stage_of prefix = subst R now (subst Q flow_is (goes conv client ends_of prefix refl may)) in
        let passes = begun_passes conv client (is_websocket flow (client_closed prefix)) flow (now_over since prefix) ends_of prefix in
        let P : Turn Stage Command → Type 0 = λ t. IsChild conv client child t.stage prefix in
        let room = socket_room place in
        as_follows conv client place flows there_at prefix child more (Some stage_of) to (record {
          there = subst P passes arrives.there;
          gives = λ view. ap (λ l. seen_of view (found_with [] l) ++ seen_of view more) over.ends
              ∙ (arrives.gives view ∙ ap (λ t. seen_of view (t.owed ++ owed_here (stack_chain conv client) t.stage prefix)) passes);
          left = omega arith;
        })

  module _ (moment : ℕ) (sides : Sides) (rests : Rests) (given : Flow) (child : Child) (more : List Command)
      (since : Since) (opened : ℕ) (used : UsedBytes) (told : ℕ) (prefix : List (Timed Event)) (now : moment ≡ now_over since prefix) where
    abbrev stands_at : stages.Stage → Standing
    stands_at stage = record { stage = stage; since = since; opened = opened; used = used; told = told }

    upgrade_by : (stage : stages.Stage) → IsInFlows conv client place flows (stands_at stage) prefix → outcome_in flows.stream.phase ≡ outcomes.Upgraded →
        EndsAs place (stands_at stage) stage (sight_over (stands_at stage) prefix) flows.stream.requests flows.stream.side flows.stream.phase →
        upgraded_side flows.stream.phase flows.stream.side ≡ Some (ByServer sides.server sides.shut) → sides.closed ≡ flows.stream.client_closed →
        rests.client ≡ flows.stream.requests.rest → rests.server ≡ side_rest (uses_side flows.stream.phase) flows.stream.side → Some given ≡ phase_flow flows.stream.phase →
        left_by child ≤ most_asked → GoesOnAs client.key moment sides rests given child more →
        FollowsAt conv client flows child more place (stands_at stage) prefix
    upgrade_by stage in_flows outcome (by_connect at tunnel is whole last same asked) a b c d e f goes =
        absurd (let no : outcomes.Connects ≡ outcomes.Upgraded = sym (ap outcome_in same ∙ ap (λ r. outcome_in (phase.Ready r)) asked.phase) ∙ outcome in cc)
    upgrade_by stage in_flows outcome (by_upgrade at flow server is last same asked) a b c d e f goes =
        let P : stages.Stage → Type 0 = λ s. IsInFlows conv client place flows (stands_at s) prefix →
        IsUpgraded flow server (sight_over (stands_at s) prefix) flows.stream.requests flows.stream.side last → FollowsAt conv client flows child more place (stands_at s) prefix in
        subst P (sym is) (λ flows_there asked_there. upgrade_follows at flow server since opened used told prefix flows_there last same asked_there moment sides rests given child more now a b c d e f goes)
        in_flows asked
    upgrade_by stage in_flows outcome (by_end stays last same is) a b c d e f goes =
        absurd (let no : outcomes.Over ≡ outcomes.Upgraded = sym (ap outcome_in same ∙ ap (λ r. outcome_in (phase.Ready r)) is) ∙ outcome in cc)

-- A response of code 101 was sent: what follows on both sides is a WebSocket, or is not read.
pub upgrades : (key : List ℕ) (moment : ℕ) (flows : HttpConv) (sides : Sides) (rests : Rests) (given : Flow) (child : Child) (more : List Command) →
    outcome_in flows.stream.phase ≡ outcomes.Upgraded → upgraded_side flows.stream.phase flows.stream.side ≡ Some (ByServer sides.server sides.shut) → sides.closed ≡ flows.stream.client_closed →
    rests.client ≡ flows.stream.requests.rest → rests.server ≡ side_rest (uses_side flows.stream.phase) flows.stream.side → Some given ≡ phase_flow flows.stream.phase →
    left_by child ≤ most_asked → GoesOnAs key moment sides rests given child more →
    Follows key moment flows child more
upgrades key moment flows sides rests given child more is a b c d e f goes conv client place standing prefix keyed now at in_time =
    let last : is_last flows.stream.phase ≡ true = last_when flows.stream.phase (apart flows.stream.phase outcomes.Upgraded outcomes.Going is upgraded_not) in
    let P : List ℕ → Type 0 = λ k. GoesOnAs k moment sides rests given child more in
    upgrade_by conv client place flows moment sides rests given child more standing.since standing.opened standing.used standing.told prefix now standing.stage at is
    (found_end conv client place flows standing prefix at last) a b c d e f (subst P (sym keyed) goes)

-- its flow is there
pub upgraded_flow : (found : Phase) → outcome_in found ≡ outcomes.Upgraded → phase_flow found ≡ None → ⊥
upgraded_flow (phase.Ready (ready.Upgraded flow server)) is none = let no : Some flow ≡ None = none in cc
upgraded_flow (phase.Asked awaits) is none = let no : outcomes.Going ≡ outcomes.Upgraded = is in cc
upgraded_flow (phase.Ready ready.Over) is none = let no : outcomes.Over ≡ outcomes.Upgraded = is in cc
upgraded_flow (phase.Ready (ready.Connects address)) is none = let no : outcomes.Connects ≡ outcomes.Upgraded = is in cc
upgraded_flow (phase.Ready ready.Idle) is none = let no : outcomes.Going ≡ outcomes.Upgraded = is in cc
upgraded_flow (phase.Ready (ready.RequestBody flow given most body held)) is none = let no : outcomes.Going ≡ outcomes.Upgraded = is in cc
upgraded_flow (phase.Ready (ready.Connection flow up)) is none = let no : outcomes.Going ≡ outcomes.Upgraded = is in cc
upgraded_flow (phase.Ready (ready.ResponseHead flow server up)) is none = let no : outcomes.Going ≡ outcomes.Upgraded = is in cc
upgraded_flow (phase.Ready (ready.ResponseBody flow server up most body held)) is none = let no : outcomes.Going ≡ outcomes.Upgraded = is in cc
upgraded_flow (phase.Ready (ready.ComingDown flow server up sent)) is none = let no : outcomes.Going ≡ outcomes.Upgraded = is in cc
upgraded_flow (phase.Ready (ready.GivenHead flow)) is none = let no : outcomes.Going ≡ outcomes.Upgraded = is in cc
upgraded_flow (phase.Ready (ready.GivenBody flow)) is none = let no : outcomes.Going ≡ outcomes.Upgraded = is in cc

-- HTTP asked nothing there
none_asked : (found : Phase) → outcome_in found ≡ outcomes.Upgraded → awaited_in found ≡ None
none_asked (phase.Asked awaits) is = absurd (let no : outcomes.Going ≡ outcomes.Upgraded = is in cc)
none_asked (phase.Ready last) is = refl

pub asks_behind : {E : Type 0} (flows : HttpConv) (out longer : List Command) (result : Result Child E) → outcome_in flows.stream.phase ≡ outcomes.Upgraded →
    IfOk result (λ next. AsksOnly (awaited_by next) out longer) → IfOk result (λ next. AsksBehind flows next out longer)
asks_behind flows out longer (Ok child) is asks = λ before first. (
  first.0 ++ asks.0,
  given_twice before out longer first.0 asks.0 first.1 asks.1,
  flat_map-append asks_in first.0 asks.0 ∙ ap₂ (λ (a b : List Ask). a ++ b) (first.2 ∙ ap option_to_list (none_asked flows.stream.phase is)) asks.2,
)
asks_behind flows out longer (Err error) is asks = tt

-- what holds with each key holds with one
pub with_one_key : {E : Type 0} (key : List ℕ) (moment : ℕ) (flows : HttpConv) (out longer : List Command) (result : Result Child E) →
    IfOk result (λ next. Adds (λ more. (key : List ℕ) (moment : ℕ) → Follows key moment flows next more) out longer) → IfOk result (λ next. Adds (Follows key moment flows next) out longer)
with_one_key key moment flows out longer (Ok child) adds = record { more = adds.more; grown = adds.grown; holds = adds.holds key moment }
with_one_key key moment flows out longer (Err error) adds = tt

-- ---- the end

-- a result with two facts, where it is Ok
pub two_ok : {A B : Type 0} (result : Result A B) (P Q R : A → Type 0) → IfOk result P → IfOk result Q → ((a : A) → P a → Q a → R a) → IfOk result R
two_ok (Ok a) P Q R one two leads = leads a one two
two_ok (Err b) P Q R one two leads = one

ended : (found : Phase) (outcome : Outcome) → outcome ≡ outcome_in found → (outcome ≡ outcomes.Next) ⊎ (outcome ≡ outcomes.Over) →
    (other : Outcome) → (other ≡ outcomes.Next → ⊥) → (other ≡ outcomes.Over → ⊥) → outcome_in found ≡ other → ⊥
ended found outcome is (inl here) other a b there = a (sym there ∙ (sym is ∙ here))
ended found outcome is (inr here) other a b there = b (sym there ∙ (sym is ∙ here))

pub ends_with : (flows : HttpConv) (outcome : Outcome) → outcome ≡ outcome_in flows.stream.phase → (outcome ≡ outcomes.Next) ⊎ (outcome ≡ outcomes.Over) →
    (key : List ℕ) (moment : ℕ) → Follows key moment flows children.Over []
ends_with flows outcome is which key moment conv client place standing prefix keyed now at in_time =
    let apart_from = ended flows.stream.phase outcome is which in
    ends conv client place flows standing prefix at
    (last_when flows.stream.phase (apart_from outcomes.Going (λ e. let no : outcomes.Going ≡ outcomes.Next = e in cc) (λ e. let no : outcomes.Going ≡ outcomes.Over = e in cc)))
    (apart_from outcomes.Connects (λ e. let no : outcomes.Connects ≡ outcomes.Next = e in cc) (λ e. let no : outcomes.Connects ≡ outcomes.Over = e in cc))
    (apart_from outcomes.Upgraded (λ e. let no : outcomes.Upgraded ≡ outcomes.Next = e in cc) (λ e. let no : outcomes.Upgraded ≡ outcomes.Over = e in cc))

-- and HTTP asked nothing there
none_waits : (found : Phase) (outcome : Outcome) → outcome ≡ outcome_in found → (outcome ≡ outcomes.Next) ⊎ (outcome ≡ outcomes.Over) → awaited_in found ≡ None
none_waits (phase.Asked awaits) outcome is which =
    absurd (ended (phase.Asked awaits) outcome is which outcomes.Going (λ e. let no : outcomes.Going ≡ outcomes.Next = e in cc) (λ e. let no : outcomes.Going ≡ outcomes.Over = e in cc) refl)
none_waits (phase.Ready last) outcome is which = refl

pub ends_asks : (flows : HttpConv) (outcome : Outcome) → outcome ≡ outcome_in flows.stream.phase → (outcome ≡ outcomes.Next) ⊎ (outcome ≡ outcomes.Over) → (out : List Command) →
    AsksBehind flows children.Over out out
ends_asks flows outcome is which out = λ before first.
    let P : Option Ask → Type 0 = λ a. AsksOnly a before out in subst P (none_waits flows.stream.phase outcome is which) first
