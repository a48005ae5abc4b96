-- The laws of the chain: at one prefix passing settles at once, and in each view what is owed while it waits only grows.
use Rattle.std.proofs.Common.{◌≡◌, ℕ, ◌+◌, Bool, true, false, List, [], ◌∷◌, ◌++◌, drop, Option, Some, None, refl, ap, sym, ◌∙◌, subst, append-nil, append_assoc}
use Rattle.std.specs.Prelude.{zero, suc, ◌≢◌, ◌||◌, ⊤, bytes_eq, Result, Ok, Err}
use Rattle.px_text.specs.Prefix.{IsPrefixOf}
use Rattle.px_message.specs.declared.address.Address.{Address}
use Rattle.px_message.specs.declared.fault.Fault.{Fault}
use Rattle.px_message.specs.declared.flow.Flow.{Flow}
use Rattle.px_message.specs.declared.length.Length.{Length}
use Rattle.px_message.specs.declared.request.Request.{Request}
use Rattle.px_event.specs.declared.command.Command.{Command}
use Rattle.px_event.specs.declared.event.Event.{Event}
use Rattle.px_event.specs.declared.side.Side.{Side}
use Rattle.px_event.specs.declared.side.Side.TheVariants.{Client, Server}
use Rattle.px_event.specs.Chain.{Timed, NotYet, Ends, found, found_with}
use Rattle.px_event.specs.Laws.{IsSettled, Settles, SoFarGrows, owed_here, owed_over}
use Rattle.px_event.specs.View.{View, seen_of}
use Rattle.px_event.proofs.Seen.{seen_append}
use Rattle.px_read.specs.Heads.{connect_method}
use Rattle.px_read.specs.Items.{Item, missing, part, complete, bad_head, bad_body}
use Rattle.px_read.specs.declared.head.RequestHead.{RequestHead as ReadRequest}
use Rattle.px_exchange.specs.declared.asked.Judged.{Judged}
use Rattle.px_exchange.specs.declared.asked.Judged.TheVariants.{Refused, Accepted, Connects}
use Rattle.px_exchange.specs.declared.ending.Used.{Used}
use Rattle.px_exchange.specs.declared.place.Place.{Place}
use Rattle.px_exchange.specs.declared.place.Place.TheVariants as places
use Rattle.px_exchange.specs.declared.terms.Terms.{Terms}
use Rattle.px_exchange.specs.Endings.{shut_server}
use Rattle.px_exchange.specs.Places.{terms_of}
use Rattle.px_exchange.specs.Finds.{look_head, look_judged, or_leaves}
use Rattle.px_exchange.specs.Requests.{judged, judged_goal, judged_length, judged_method}
use Rattle.px_chain.specs.Chain.{Connect, connect_by, connect_in, is_sequence, look as look_of, sequence, so_far as so_far_of}
use Rattle.px_chain.specs.Keeping.{shut_stray, unspoilt_at}
use Rattle.px_chain.specs.Sights.{Sight, Standing, request_in, server_parked, sight_over}
use Rattle.px_chain.specs.Stages.{At, Parked, busy, coming_down, connection, given_body, given_head, idle, next, place_of, request_body, response_body, response_head, upgraded}
use Rattle.px_chain.specs.Stages as flows
use Rattle.px_event.specs.Sides.{piece_of}
use Rattle.px_chain.specs.Streams.{Since, bytes_of, client_closed, from_here, now_over}
use Rattle.px_chain.proofs.ChainLaws.{settles as flows_settle, so_far_grows as flows_grow}
use Rattle.px_chain.proofs.FrontLaws.{DropMore, behind, none, bytes_more, drop_more, open_behind}
use Rattle.px_tunnel.specs.Tunnel.{both_ways}
use Rattle.px_tunnel.specs.Laws.{both_append}
use Rattle.px_tunnel.specs.Upstream.{Granting, awaited, granted, refused}
use Rattle.px_relay.specs.Laws.{settles as frames_settle}
use Rattle.px_relay.specs.Stages.{Stage as Frames}
use Rattle.px_socks.specs.Chain as socks
use Rattle.px_socks.specs.LayerLaws.{settles_at}
use Rattle.px_socks.specs.Stages as fronts
use Rattle.px_socks.specs.Stages.{Stage as Front}
use Rattle.px_stack.specs.Chain.{answer_of, at_front, begun, connected_on, flows_at, follows, front_sight, goes_by, hands_by, hands_over, has_answered, inner_place, inner_standing, is_shut, opening_text, or_stays, owed_at_handing, pass_http, pass_reached, pass_socket, proxy_at, raw_look, socket_sight, socket_terms, stack_chain, text_down, text_up, tunnel_for, tunnel_found, upgrades, way_to, pass_flows}
use Rattle.px_stack.specs.Decides.{Decision, decided, is_http, is_raw, still}
use Rattle.px_stack.specs.Sockets.{is_websocket}
use Rattle.px_stack.specs.Stages.{Ends as TunnelEnds, Goal, Link, Stage, Tunnel, Visitor, a_flow, a_tunnel, asking, connecting, http, over, raw, reaching, socket, undecided}

-- ---- at one address nothing is a CONNECT

by_length : (length : Result Length Fault) (request : Request) (used : ℕ) → connect_by (judged_length length request) used ≡ None
by_length (Ok length) request used = refl
by_length (Err fault) request used = refl

by_goal : (head : ReadRequest) (apart : head.method ≢ connect_method) (goal : Option (Address × List ℕ)) (used : ℕ) →
    connect_by (judged_goal head apart goal) used ≡ None
by_goal head apart None used = refl
by_goal head apart (Some goal) used = by_length _ _ used

by_method : (address : Address) (inside : Option Address) (head : ReadRequest) (connects : Bool)
    (is : bytes_eq head.method connect_method ≡ connects) (used : ℕ) →
    connect_by (judged_method (places.Fixed address inside) head connects is) used ≡ None
by_method address inside head true is used = refl
by_method address inside head false is used = by_goal head _ _ used

pub never_connects : (address : Address) (inside : Option Address) (item : Item ReadRequest) →
    connect_in (places.Fixed address inside) item ≡ None
never_connects address inside missing = refl
never_connects address inside (part head body) = refl
never_connects address inside (complete head body trailers used) = by_method address inside head (bytes_eq head.method connect_method) refl used
never_connects address inside (bad_head fault) = refl
never_connects address inside (bad_body fault head body) = refl

-- ---- where HTTP hands over

-- a stage to which it does
abbrev pub IsTunnel : Stage → Type 0
IsTunnel (connecting tunnel) = ⊤
IsTunnel (raw ends) = ⊤
IsTunnel (socket ends flow frames) = ⊤
IsTunnel stage = ⊥

upgrades_tunnel : (is : Bool) (flow : Flow) (moment : ℕ) (ends : TunnelEnds) → IsTunnel (upgrades is flow moment ends)
upgrades_tunnel true flow moment ends = tt
upgrades_tunnel false flow moment ends = tt

-- Where HTTP hands over, nothing more of it comes.
pub record HandsOver (terms : Terms) (stage : flows.Stage) (seen : Sight) (to : Stage) : Type 0 where
  pub is_tunnel : IsTunnel to
  pub ends : look_of terms stage seen ≡ Ends []

-- the judgement by which a CONNECT is found is the one that the look has
leaves_nothing : (closed : Bool) (leaves : List Command) → or_leaves closed leaves (Ends []) ≡ Ends []
leaves_nothing true leaves = refl
leaves_nothing false leaves = refl

some_same : (a b : Stage) → Some a ≡ Some b → a ≡ b
some_same a b is = cc

judged_ends : (terms : Terms) (index : ℕ) (head : ReadRequest) (made : Judged) (used moment : ℕ) (parked : Used) (closed : Bool) (connect : Connect) →
    connect_by made used ≡ Some connect → look_judged terms index head made moment parked closed ≡ Ends []
judged_ends terms index head (Refused fault) used moment parked closed connect is = absurd (let no : None ≡ Some connect = is in cc)
judged_ends terms index head (Accepted request) used moment parked closed connect is = absurd (let no : None ≡ Some connect = is in cc)
judged_ends terms index head (Connects address) used moment parked closed connect is = refl

item_ends : (terms : Terms) (index : ℕ) (item : Item ReadRequest) (moment : ℕ) (parked : Used) (closed : Bool) (connect : Connect) →
    connect_in terms.place item ≡ Some connect → look_head terms index item moment parked closed ≡ Ends []
item_ends terms index missing moment parked closed connect is = absurd (let no : None ≡ Some connect = is in cc)
item_ends terms index (part head body) moment parked closed connect is = absurd (let no : None ≡ Some connect = is in cc)
item_ends terms index (complete head body trailers used) moment parked closed connect is =
    judged_ends terms index head (judged terms.place head) used moment parked closed connect is
item_ends terms index (bad_head fault) moment parked closed connect is = absurd (let no : None ≡ Some connect = is in cc)
item_ends terms index (bad_body fault head body) moment parked closed connect is = absurd (let no : None ≡ Some connect = is in cc)

-- from a head that is awaited it hands over exactly by a CONNECT
idle_hands : (terms : Terms) (used : ℕ) (at : At) (seen : Sight) (to : Stage) (found : Option Connect) → connect_in terms.place (request_in seen) ≡ found →
    tunnel_for terms.place used (unspoilt_at at seen) found ≡ Some to → HandsOver terms (idle at) seen to
idle_hands terms used at seen to None is hands = absurd (let no : None ≡ Some to = hands in cc)
idle_hands terms used at seen to (Some connect) is hands =
    let open_still : At = unspoilt_at at seen in
    let there : Stage = connecting (record { at = open_still; used = used + connect.used; address = connect.address; proxy = proxy_at terms.place }) in
    let parked : Used = server_parked open_still.parked seen in
    record {
      is_tunnel = let P : Stage → Type 0 = IsTunnel in subst P (some_same there to hands) tt;
      ends = ap (λ l. or_leaves seen.closed (shut_server parked) l) (item_ends terms at.flow (request_in seen) seen.now parked seen.closed connect is)
          ∙ leaves_nothing seen.closed (shut_server parked);
    }

pub hands : (terms : Terms) (standing : Standing) (stage : flows.Stage) (seen : Sight) (to : Stage) → hands_by terms.place standing stage seen ≡ Some to →
    HandsOver terms stage seen to
hands terms standing (idle at) seen to is = idle_hands terms standing.used.client at seen to (connect_in terms.place (request_in seen)) refl is
hands terms standing (busy at flow (request_body given most)) seen to is = absurd (let no : None ≡ Some to = is in cc)
hands terms standing (busy at flow (connection sent)) seen to is = absurd (let no : None ≡ Some to = is in cc)
hands terms standing (busy at flow (response_head side how)) seen to is = absurd (let no : None ≡ Some to = is in cc)
hands terms standing (busy at flow (response_body side how most)) seen to is = absurd (let no : None ≡ Some to = is in cc)
hands terms standing (busy at flow (coming_down side how)) seen to is = absurd (let no : None ≡ Some to = is in cc)
hands terms standing (busy at flow (upgraded server)) seen to is = record {
  is_tunnel = let P : Stage → Type 0 = IsTunnel in subst P (some_same _ to is) (upgrades_tunnel (is_websocket flow seen.closed) flow seen.now _);
  ends = leaves_nothing seen.closed [];
}
hands terms standing (busy at flow given_head) seen to is = absurd (let no : None ≡ Some to = is in cc)
hands terms standing (busy at flow given_body) seen to is = absurd (let no : None ≡ Some to = is in cc)
hands terms standing (next at) seen to is = absurd (let no : None ≡ Some to = is in cc)
hands terms standing flows.over seen to is = absurd (let no : None ≡ Some to = is in cc)

-- What is owed for good where it hands over: nothing, or the close of a parked side of which a byte came.
connect_owes : (owes : List Command → Type 0) → owes [] → (place : Place) (used : ℕ) (at : At) (connect : Option Connect) (owed : List Command) → owes owed →
    owes (owed_at_handing (tunnel_for place used at connect) owed)
connect_owes owes nothing place used at None owed is = nothing
connect_owes owes nothing place used at (Some connect) owed is = is

pub handing_owes : (owes : List Command → Type 0) → owes [] → ((parked : Option Parked) (seen : Sight) → owes (shut_stray parked seen)) →
    (terms : Terms) (standing : Standing) (stage : flows.Stage) (seen : Sight) → owes (owed_at_handing (hands_by terms.place standing stage seen) (so_far_of terms stage seen))
handing_owes owes nothing closes terms standing (idle at) seen =
    connect_owes owes nothing terms.place standing.used.client (unspoilt_at at seen) (connect_in terms.place (request_in seen)) _
    (subst owes (sym (append-nil (shut_stray at.parked seen))) (closes at.parked seen))
handing_owes owes nothing closes terms standing (busy at flow (request_body given most)) seen = nothing
handing_owes owes nothing closes terms standing (busy at flow (connection sent)) seen = nothing
handing_owes owes nothing closes terms standing (busy at flow (response_head side how)) seen = nothing
handing_owes owes nothing closes terms standing (busy at flow (response_body side how most)) seen = nothing
handing_owes owes nothing closes terms standing (busy at flow (coming_down side how)) seen = nothing
handing_owes owes nothing closes terms standing (busy at flow (upgraded server)) seen = nothing
handing_owes owes nothing closes terms standing (busy at flow given_head) seen = nothing
handing_owes owes nothing closes terms standing (busy at flow given_body) seen = nothing
handing_owes owes nothing closes terms standing (next at) seen = nothing
handing_owes owes nothing closes terms standing flows.over seen = nothing

-- ---- passing settles at once

module _ (conv : ℕ) (client : Visitor) where
  -- where the frames of a WebSocket were worked off
  socket_settled : (ends : TunnelEnds) (flow : Flow) (frames : Frames) (prefix : List (Timed Event)) →
      IsSettled (stack_chain conv client) (pass_socket conv client ends flow frames prefix).stage prefix
  socket_settled ends flow frames prefix =
      let at = (frames_settle (socket_terms client.key ends flow) (socket_sight ends)).at frames prefix in
      record { stays = ap (λ to. socket ends flow to) at.stays; owes_nothing = at.owes_nothing }

  tunnel_settled : (stage : Stage) (prefix : List (Timed Event)) → IsTunnel stage → IsSettled (stack_chain conv client) (begun conv client stage prefix).stage prefix
  tunnel_settled (asking front) prefix is = absurd is
  tunnel_settled (http place standing) prefix is = absurd is
  tunnel_settled (connecting tunnel) prefix is = record { stays = refl; owes_nothing = refl }
  tunnel_settled (reaching goal link since) prefix is = absurd is
  tunnel_settled (undecided tunnel link since) prefix is = absurd is
  tunnel_settled (raw ends) prefix is = record { stays = refl; owes_nothing = refl }
  tunnel_settled (socket ends flow frames) prefix is = socket_settled ends flow frames prefix
  tunnel_settled over prefix is = absurd is

  -- where HTTP stood still and does not hand over, it goes on standing still
  stays_settled : (place : Place) (standing : Standing) (prefix : List (Timed Event)) → IsSettled (flows_at conv client place) standing prefix →
      hands_over place standing prefix ≡ None → IsSettled (stack_chain conv client) (http place standing) prefix
  stays_settled place standing prefix at is =
      let on = (flows_at conv client place).pass standing prefix in
      let goes : pass_http conv client place on.stage prefix ≡ http place standing =
      ap (λ s. pass_http conv client place s prefix) at.stays ∙ ap (λ o. or_stays (http place standing) o) is in
      let nothing : owed_at_handing (hands_over place on.stage prefix) ((flows_at conv client place).so_far on.stage prefix) ≡ [] =
      ap (λ s. owed_at_handing (hands_over place s prefix) ((flows_at conv client place).so_far s prefix)) at.stays
      ∙ ap (λ o. owed_at_handing o ((flows_at conv client place).so_far standing prefix)) is in
      record {
        stays = ap (λ s. (begun conv client s prefix).stage) goes;
        owes_nothing = ap (λ l. on.owed ++ (l ++ (begun conv client (pass_http conv client place on.stage prefix) prefix).owed)) nothing
            ∙ (ap (λ s. on.owed ++ (begun conv client s prefix).owed) goes ∙ ap (λ l. l ++ []) at.owes_nothing);
      }

  http_settled : (place : Place) (standing : Standing) (prefix : List (Timed Event)) (to : Option Stage) → IsSettled (flows_at conv client place) standing prefix →
      hands_over place standing prefix ≡ to → IsSettled (stack_chain conv client) (begun conv client (or_stays (http place standing) to) prefix).stage prefix
  http_settled place standing prefix None at is = stays_settled place standing prefix at is
  http_settled place standing prefix (Some to) at is =
      tunnel_settled to prefix (hands (terms_of conv client.address place) standing standing.stage (sight_over standing prefix) to is).is_tunnel

  decided_settled : (tunnel : Tunnel) (link : Link) (since : Since) (prefix : List (Timed Event)) (d : Decision) → client_closed prefix ≡ false →
      decided (opening_text tunnel prefix) (has_answered link prefix) ≡ d → IsSettled (stack_chain conv client) (follows d tunnel link since) prefix
  decided_settled tunnel link since prefix still unclosed is = record {
    stays = ap (λ c. goes_by c tunnel link since prefix) unclosed ∙ ap (λ d. follows d tunnel link since) is;
    owes_nothing = refl;
  }
  decided_settled tunnel link since prefix is_http unclosed is =
      let inner : Standing = inner_standing tunnel link since in
      let at : At = unspoilt_at (place_of inner.stage) (sight_over inner prefix) in
      stays_settled (inner_place tunnel link) inner prefix (record { stays = refl; owes_nothing = refl })
      (ap (tunnel_for (inner_place tunnel link) inner.used.client at) (never_connects tunnel.address tunnel.proxy (request_in (sight_over inner prefix))))
  decided_settled tunnel link since prefix is_raw unclosed is = record { stays = refl; owes_nothing = refl }

  goes_settled : (tunnel : Tunnel) (link : Link) (since : Since) (prefix : List (Timed Event)) (closed : Bool) → client_closed prefix ≡ closed →
      IsSettled (stack_chain conv client) (goes_by closed tunnel link since prefix) prefix
  goes_settled tunnel link since prefix true is = record { stays = ap (λ c. goes_by c tunnel link since prefix) is; owes_nothing = refl }
  goes_settled tunnel link since prefix false is =
      decided_settled tunnel link since prefix (decided (opening_text tunnel prefix) (has_answered link prefix)) is refl

  -- where HTTP has passed on
  flows_settled : (place : Place) (standing : Standing) (prefix : List (Timed Event)) → IsSettled (stack_chain conv client) (pass_flows conv client place standing prefix).stage prefix
  flows_settled place standing prefix =
      let on = (flows_at conv client place).pass standing prefix in
      let law = flows_settle sequence (is_sequence refl) (terms_of conv client.address place) in
      http_settled place on.stage prefix (hands_over place on.stage prefix) (law.at standing prefix) refl

  reached_settled : (goal : Goal) (link : Link) (since : Since) (prefix : List (Timed Event)) (g : Granting) → answer_of link prefix ≡ g →
      IsSettled (stack_chain conv client) (pass_reached conv client goal link since prefix g).stage prefix
  reached_settled goal link since prefix awaited is = record {
    stays = ap (λ g. (pass_reached conv client goal link since prefix g).stage) is;
    owes_nothing = ap (λ g. (pass_reached conv client goal link since prefix g).owed) is;
  }
  reached_settled (a_tunnel tunnel) link since prefix (granted used) is =
      goes_settled tunnel (way_to link used prefix) (from_here (now_over since prefix) prefix) prefix (client_closed prefix) refl
  reached_settled (a_flow place from) link since prefix (granted used) is =
      flows_settled place (connected_on place from (way_to link used prefix) (from_here (now_over since prefix) prefix)) prefix
  reached_settled (a_tunnel tunnel) link since prefix refused is = record { stays = refl; owes_nothing = refl }
  reached_settled (a_flow place from) link since prefix refused is = record { stays = refl; owes_nothing = refl }

  -- a client of SOCKS, where its bytes were judged
  asking_settled : (front : Front) (prefix : List (Timed Event)) → socks.pass front (front_sight prefix) ≡ record { owed = []; stage = front } → at_front front ≡ asking front →
      IsSettled (stack_chain conv client) (asking front) prefix
  asking_settled front prefix is here = record { stays = ap (λ on. at_front on.stage) is ∙ here; owes_nothing = ap (λ on. on.owed) is }

  front_settled : (front : Front) (prefix : List (Timed Event)) → socks.pass front (front_sight prefix) ≡ record { owed = []; stage = front } →
      IsSettled (stack_chain conv client) (at_front front) prefix
  front_settled fronts.greeting prefix is = asking_settled fronts.greeting prefix is refl
  front_settled (fronts.requesting used) prefix is = asking_settled (fronts.requesting used) prefix is refl
  front_settled (fronts.dialling used address) prefix is = asking_settled (fronts.dialling used address) prefix is refl
  front_settled (fronts.opened used address) prefix is = asking_settled (fronts.opened used address) prefix is refl
  front_settled fronts.over prefix is = record { stays = refl; owes_nothing = refl }

  settled_at : (stage : Stage) (prefix : List (Timed Event)) → IsSettled (stack_chain conv client) ((stack_chain conv client).pass stage prefix).stage prefix
  settled_at (asking front) prefix = front_settled (socks.pass front (front_sight prefix)).stage prefix (settles_at front (front_sight prefix))
  settled_at (http place standing) prefix = flows_settled place standing prefix
  settled_at (connecting tunnel) prefix = record { stays = refl; owes_nothing = refl }
  settled_at (reaching goal link since) prefix = reached_settled goal link since prefix (answer_of link prefix) refl
  settled_at (undecided tunnel link since) prefix = goes_settled tunnel link since prefix (client_closed prefix) refl
  settled_at (raw ends) prefix = record { stays = refl; owes_nothing = refl }
  settled_at (socket ends flow frames) prefix = socket_settled ends flow frames prefix
  settled_at over prefix = record { stays = refl; owes_nothing = refl }

  pub settles : Settles (stack_chain conv client)
  settles = record { at = settled_at }

-- ---- what is owed while it waits only grows

joins : {A : Type 0} (xs ys zs : List A) → IsPrefixOf xs ys → IsPrefixOf xs (ys ++ zs)
joins xs ys zs (rest, is) = (rest ++ zs, ap (λ l. l ++ zs) is ∙ append_assoc xs rest zs)

pub drops : (n : ℕ) (xs ys : List ℕ) → IsPrefixOf (drop n xs) (drop n (xs ++ ys))
drops zero xs ys = (ys, refl)
drops (suc n) [] ys = (drop (suc n) ys, refl)
drops (suc n) (x ∷ xs) ys = drops n xs ys

begins_as : {A : Type 0} (xs ys zs : List A) → IsPrefixOf xs ys → ys ≡ zs → IsPrefixOf xs zs
begins_as xs ys zs (rest, is) same = (rest, sym same ∙ is)

module _ (conv : ℕ) (client : Visitor) where
  module _ (view : View) where
    -- what is seen of two lists, where the one begins the other
    seen_begins : (before xs ys : List Command) → IsPrefixOf xs ys → IsPrefixOf (seen_of view (before ++ xs)) (seen_of view (before ++ ys))
    seen_begins before xs ys (rest, is) =
        (seen_of view rest, ap (λ l. seen_of view (before ++ l)) is ∙ (ap (seen_of view) (sym (append_assoc before xs rest)) ∙ seen_append view (before ++ xs) rest))

    begins_on : (xs ys zs : List Command) → IsPrefixOf (seen_of view xs) (seen_of view ys) → IsPrefixOf (seen_of view ys) (seen_of view zs) →
        IsPrefixOf (seen_of view xs) (seen_of view zs)
    begins_on xs ys zs (rest, is) (more, on) = (rest ++ more, on ∙ (ap (λ l. l ++ more) is ∙ append_assoc (seen_of view xs) rest more))

    -- HTTP: what it owes is owed here, and where it hands over what it owed while it waited
    http_grows : (place : Place) (owed : List Command) (before : List Command) (standing : Standing) (prefix : List (Timed Event)) (to : Option Stage) →
        hands_over place standing prefix ≡ to →
        IsPrefixOf (seen_of view owed) (seen_of view (before ++ owed_here (flows_at conv client place) standing prefix)) →
        (let on = begun conv client (or_stays (http place standing) to) prefix in
        let first = owed_at_handing to ((flows_at conv client place).so_far standing prefix) in
        IsPrefixOf (seen_of view owed) (seen_of view ((before ++ (first ++ on.owed)) ++ owed_here (stack_chain conv client) on.stage prefix)))
    http_grows place owed before standing prefix None is begins =
        begins_as (seen_of view owed) _ _ begins (ap (λ b. seen_of view (b ++ owed_here (flows_at conv client place) standing prefix)) (sym (append-nil before)))
    http_grows place owed before standing prefix (Some to) is begins =
        let over = hands (terms_of conv client.address place) standing standing.stage (sight_over standing prefix) to is in
        let waits : List Command = (flows_at conv client place).so_far standing prefix in
        let parts : List Command = (flows_at conv client place).behind standing prefix in
        let nothing : owed_here (flows_at conv client place) standing prefix ≡ waits =
        ap (λ l. waits ++ found_with parts l) over.ends ∙ append-nil waits in
        let on = begun conv client to prefix in
        let rest : List Command = owed_here (stack_chain conv client) on.stage prefix in
        begins_on owed (before ++ waits) ((before ++ (waits ++ on.owed)) ++ rest)
        (begins_as (seen_of view owed) _ _ begins (ap (λ l. seen_of view (before ++ l)) nothing))
        (seen_begins [] (before ++ waits) ((before ++ (waits ++ on.owed)) ++ rest)
        (on.owed ++ rest, ap (λ l. l ++ rest) (sym (append_assoc before waits on.owed)) ∙ append_assoc (before ++ waits) on.owed rest))

    -- a tunnel: the bytes of both sides
    both_grow : (server : ℕ) (up down longer_up longer_down : List ℕ) → IsPrefixOf up longer_up → IsPrefixOf down longer_down →
        IsPrefixOf (seen_of view (both_ways server up down)) (seen_of view (both_ways server longer_up longer_down))
    both_grow server up down longer_up longer_down (more_up, is_up) (more_down, is_down) = (
      seen_of view (both_ways server more_up more_down),
      ap (λ l. seen_of view (both_ways server l longer_down)) is_up
          ∙ (ap (λ l. seen_of view (both_ways server (up ++ more_up) l)) is_down ∙ both_append view server up more_up down more_down),
    )

    module _ (ends : TunnelEnds) (prefix : List (Timed Event)) (event : Timed Event) where
      up_grows : client_closed prefix ≡ false → IsPrefixOf (text_up ends prefix) (text_up ends (prefix ++ event ∷ []))
      up_grows open_still =
          begins_as _ _ _ (drops ends.used (bytes_of Client prefix) (piece_of Client event.value))
          (ap (drop ends.used) (sym (bytes_more Client prefix event open_still open_still)))

      server_by : DropMore ends.link.opened prefix event → client_closed prefix ≡ false → is_shut ends.link prefix ≡ false →
          IsPrefixOf (bytes_of (Server ends.link.server) (drop ends.link.opened prefix)) (bytes_of (Server ends.link.server) (drop ends.link.opened (prefix ++ event ∷ [])))
      server_by (behind is) open_still unshut =
          let side : Side = Server ends.link.server in
          (piece_of side event.value, ap (bytes_of side) is ∙ bytes_more side (drop ends.link.opened prefix) event (open_behind ends.link.opened prefix open_still) unshut)
      server_by (none was is) open_still unshut =
          let side : Side = Server ends.link.server in
          (bytes_of side [], ap (bytes_of side) is ∙ sym (ap (λ l. bytes_of side l ++ bytes_of side []) was))

      down_by : (bytes longer : List ℕ) → IsPrefixOf bytes longer → IsPrefixOf (drop ends.link.used bytes) (drop ends.link.used longer)
      down_by bytes longer (more, is) = begins_as _ _ _ (drops ends.link.used bytes more) (ap (drop ends.link.used) (sym is))

      down_grows : client_closed prefix ≡ false → is_shut ends.link prefix ≡ false → IsPrefixOf (text_down ends prefix) (text_down ends (prefix ++ event ∷ []))
      down_grows open_still unshut = down_by _ _ (server_by (drop_more ends.link.opened prefix event) open_still unshut)

      raw_open : (closed shut : Bool) (owed : List Command) → tunnel_found (closed || shut) owed ≡ NotYet → (closed ≡ false) × (shut ≡ false)
      raw_open true shut owed is = absurd (let no : Ends owed ≡ NotYet = is in cc)
      raw_open false true owed is = absurd (let no : Ends owed ≡ NotYet = is in cc)
      raw_open false false owed is = (refl, refl)

      raw_grows : raw_look ends prefix ≡ NotYet →
          IsPrefixOf (seen_of view (both_ways ends.link.server (text_up ends prefix) (text_down ends prefix)))
          (seen_of view (owed_over (stack_chain conv client) (raw ends) (prefix ++ event ∷ [])))
      raw_grows is =
          let still_open = raw_open (client_closed prefix) (is_shut ends.link prefix) _ is in
          let longer : List (Timed Event) = prefix ++ event ∷ [] in
          let texts : List Command = both_ways ends.link.server (text_up ends longer) (text_down ends longer) in
          begins_on (both_ways ends.link.server (text_up ends prefix) (text_down ends prefix)) texts (texts ++ found (raw_look ends longer))
          (both_grow ends.link.server _ _ _ _ (up_grows still_open.0) (down_grows still_open.0 still_open.1))
          (seen_begins [] texts (texts ++ found (raw_look ends longer)) (found (raw_look ends longer), refl))

    grows_at : (stage : Stage) (prefix : List (Timed Event)) (event : Timed Event) → (stack_chain conv client).look stage prefix ≡ NotYet →
        IsPrefixOf (seen_of view ((stack_chain conv client).so_far stage prefix)) (seen_of view (owed_over (stack_chain conv client) stage (prefix ++ event ∷ [])))
    grows_at (asking front) prefix event is = (_, refl)
    grows_at (http place standing) prefix event is =
        let longer : List (Timed Event) = prefix ++ event ∷ [] in
        let on = (flows_at conv client place).pass standing longer in
        let law = flows_grow sequence (is_sequence refl) (terms_of conv client.address place) view in
        http_grows place _ on.owed on.stage longer (hands_over place on.stage longer) refl
        (law.grows standing prefix event is)
    grows_at (connecting tunnel) prefix event is = (_, refl)
    grows_at (reaching goal link since) prefix event is = (_, refl)
    grows_at (undecided tunnel link since) prefix event is = (_, refl)
    grows_at (raw ends) prefix event is = raw_grows ends prefix event is
    grows_at (socket ends flow frames) prefix event is = (_, refl)
    grows_at over prefix event is = (_, refl)

  pub so_far_grows : (view : View) → SoFarGrows (stack_chain conv client) (seen_of view)
  so_far_grows view = record { grows = grows_at view }
