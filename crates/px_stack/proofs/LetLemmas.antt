-- Where another proxy has answered: a tunnel of the client's is told of, or a flow goes on, or the one or the other is refused.
use Rattle.std.proofs.Common.{◌≡◌, ℕ, ◌+◌, ◌≤◌, ◌<◌, Bool, true, false, List, [], ◌∷◌, ◌++◌, length, drop, Some, None, refl, ap, sym, ◌∙◌, subst, arith, append_assoc}
use Rattle.std.specs.Prelude.{IfOk, OnOk, Result, Ok, Err}
use Rattle.std.specs.Global.{Box}
use Rattle.std.specs.List.{flat_map}
use Rattle.std.proofs.lemmas.Bool.{eqb-true}
use Rattle.std.proofs.Math.Seq.{drop-length}
use Rattle.std.proofs.lemmas.List.{append-nil, drop_all}
use Rattle.px_message.specs.declared.fault.Fault.{Fault}
use Rattle.px_message.specs.declared.fault.Fault.TheVariants.{UpstreamRefused}
use Rattle.px_message.specs.declared.flow.Flow.{Flow}
use Rattle.px_event.specs.declared.command.Command.{Command}
use Rattle.px_event.specs.declared.event.Event.{Event}
use Rattle.px_event.specs.declared.side.Side.TheVariants.{Client, Server}
use Rattle.px_event.specs.Chain.{Timed, Turn}
use Rattle.px_event.specs.Laws.{owed_here}
use Rattle.px_event.specs.Layer.{AsksOnly, asks_in}
use Rattle.px_event.specs.View.{seen_of}
use Rattle.px_event.proofs.Seen.{seen_append}
use Rattle.px_exchange.specs.declared.ending.Used.{Used}
use Rattle.px_exchange.specs.declared.ending.Used.TheVariants.{ByServer, NoServer}
use Rattle.px_exchange.specs.declared.place.Place.{Place}
use Rattle.px_exchange.specs.Endings.{ends_by_fault, refuses, shut_all, shut_client, shut_server}
use Rattle.px_exchange.specs.Places.{terms_of}
use Rattle.px_chain.specs.Chain.{reached}
use Rattle.px_chain.specs.Sights.{Standing}
use Rattle.px_chain.specs.Stages.{At, busy, connection, response_head, Sent}
use Rattle.px_chain.specs.Streams.{Since, bytes_of, client_closed, from_here, is_closed, now_over}
use Rattle.px_chain.proofs.FrontLaws.{now_here, open_behind}
use Rattle.px_http.specs.declared.conversation.HttpConv.{HttpConv}
use Rattle.px_stream.specs.declared.phase.Asked.TheVariants as asked
use Rattle.px_stream.specs.declared.phase.Phase.{Phase}
use Rattle.px_stream.specs.declared.phase.Phase.TheVariants as phase
use Rattle.px_stream.specs.Anywhere.{MayReach, Reaches, Somewhere, reached_owes}
use Rattle.px_stream.specs.Tells.{IsDialling, dialled_flow, sequence_left}
use Rattle.px_stack.proofs.TimeLemmas.{in_time_connected, open_in_time}
use Rattle.px_stack.specs.declared.child.Child.{Child}
use Rattle.px_stack.specs.declared.child.Child.TheVariants as children
use Rattle.px_stack.specs.declared.child.Goal.{Goal as KeptGoal}
use Rattle.px_stack.specs.declared.child.Goal.TheVariants as goals
use Rattle.px_stack.specs.declared.child.Opening.{Opening}
use Rattle.px_stack.specs.Chain.{closed_before, closed_of, connected_on, flows_at, follows_to, is_empty, is_shut, pass_reached, stack_chain, text_behind, text_of, text_on, unless_closed, used_proxy, way_by, way_to}
use Rattle.px_stack.specs.Kept.{awaited_by, goal_left, left_by, tunnel_left}
use Rattle.px_tunnel.proofs.UpstreamLemmas.{granted_within}
use Rattle.px_stack.specs.Stages.{Dialling, Goal, Link, Stage, Tunnel, Visitor, a_flow, a_tunnel, over, reaching}
use Rattle.px_stack.specs.Stands.{StaysInTime, IsAskedFor, IsChild, IsGoal, IsLedOn, ahead_at}
use Rattle.px_stack.specs.Steps.{Adds, Arrives, CanGoOn, CanReach, EndsRefused, Follows, FollowsAt, IsBehind, IsFewDials, IsGoalSomewhere, IsLetThrough, IsTurnedAway, Leads, LeadsThere, LetsThrough, MayDecide, MayGoOn, Tells, TurnsAway, flow_reached}
use Rattle.px_stack.proofs.LedLemmas.{closed_there, flow_there}
use Rattle.px_stack.proofs.SaidLemmas.{same_close, same_text}
use Rattle.px_stack.proofs.RelayLemmas.{given_twice}

-- ---- where the server is heard behind the proxy's head

no_text : (text : List ℕ) → is_empty text ≡ true → text ≡ []
no_text [] is = refl
no_text (x ∷ text) is = absurd (omega (arith, eqb-true (length (x ∷ text)) 0 is))

-- where something came, the client has not closed
heard_open : (closed : Bool) (text : List ℕ) → is_empty (unless_closed closed text) ≡ false → closed ≡ false
heard_open true text is = absurd (let no : true ≡ false = is in cc)
heard_open false text is = refl

-- this is what came of it there, and its side is open
record IsWay (link way : Link) (prefix : List (Timed Event)) (rest : List ℕ) : Type 0 where
  server : way.server ≡ link.server
  opened : way.opened ≤ length prefix
  used : way.used ≤ length (bytes_of (Server way.server) (drop way.opened prefix))
  come : text_on way prefix ≡ rest
  unshut : is_shut way prefix ≡ false

module _ (link : Link) (used : ℕ) (prefix : List (Timed Event)) (rest : List ℕ) (opened : link.opened ≤ length prefix) (behind : IsBehind link used prefix rest) where
  abbrev come_of : List ℕ
  come_of = text_of link.server (drop link.opened prefix)

  way_there : (none : Bool) → is_empty rest ≡ none → IsWay link (way_by none link used (length prefix)) prefix rest
  way_there true none =
      let gone = drop_all (length prefix) prefix (omega arith) in
      record {
        server = refl;
        opened = omega arith;
        used = omega arith;
        come = ap (bytes_of (Server link.server)) gone ∙ sym (no_text rest none);
        unshut = ap (is_closed (Server link.server)) gone;
      }
  way_there false some =
      let open_still : client_closed prefix ≡ false = heard_open (client_closed prefix) (drop used come_of) (ap is_empty (sym behind.rest_is) ∙ some) in
      let open_there = open_behind link.opened prefix open_still in
      let heard_is : bytes_of (Server link.server) (drop link.opened prefix) ≡ come_of = same_text link.server (drop link.opened prefix) open_there in
      let P : List ℕ → Type 0 = λ l. used ≤ length l in
      record {
        server = refl;
        opened = opened;
        used = subst P (sym heard_is) behind.within;
        come = ap (drop used) heard_is ∙ sym (behind.rest_is ∙ ap (λ c. unless_closed c (drop used come_of)) open_still);
        unshut = same_close link.server (drop link.opened prefix) open_there ∙ behind.unshut;
      }

  is_way : IsWay link (way_to link used prefix) prefix rest
  is_way =
      let P : Bool → Type 0 = λ b. IsWay link (way_by b link used (length prefix)) prefix rest in
      subst P (ap is_empty behind.rest_is) (way_there (is_empty rest) refl)

-- what was let through
behind_head : (link : Link) (prefix : List (Timed Event)) (closed : Bool) (rest heard : List ℕ) → closed ≡ client_closed prefix → heard ≡ unless_closed closed rest →
    (lets : IsLetThrough link prefix rest) → IsBehind link lets.used prefix heard
behind_head link prefix closed rest heard client is lets = record {
  unshut = lets.unshut;
  rest_is = is ∙ (ap (λ c. unless_closed c rest) client ∙ ap (unless_closed (client_closed prefix)) lets.rest_is);
  within = granted_within (text_of link.server (drop link.opened prefix)) (closed_of link.server (drop link.opened prefix)) lets.used lets.answer;
}

-- ---- a tunnel of the client's

pub few_dials : (conv : ℕ) (client : Visitor) (goal : Goal) (link : Link) (since : Since) (prefix : List (Timed Event)) (server : ℕ) (kept : Opening) (closed : Bool) (moment : ℕ) →
    MayGoOn conv client goal link since prefix server (goals.Tunnel kept closed) moment → IsFewDials kept server
few_dials conv client (a_tunnel tunnel) link since prefix server kept closed moment may =
    let asked : IsAskedFor tunnel link prefix kept closed = may.waiting in
    let flow = asked.opening.flow in
    let few = asked.opening.few in
    let next = asked.opening.dials in
    let last = asked.last in
    let dials = asked.dials in
    let same = may.same in
    record { few = omega arith; last = omega arith; dials = omega arith }
few_dials conv client (a_flow place from) link since prefix server kept closed moment may = absurd may.waiting

module _ (conv : ℕ) (client : Visitor) (kept : Opening) (closed : Bool) (server : ℕ) (rest heard : List ℕ) (moment : ℕ) (is_heard : heard ≡ unless_closed closed rest) where
  may_decide : (tunnel : Tunnel) (link : Link) (since : Since) (prefix : List (Timed Event)) → MayGoOn conv client (a_tunnel tunnel) link since prefix server (goals.Tunnel kept closed) moment →
      (lets : IsLetThrough link prefix rest) →
      MayDecide tunnel (way_to link lets.used prefix) (from_here (now_over since prefix) prefix) prefix kept server heard closed moment
  may_decide tunnel link since prefix may lets =
      let asked : IsAskedFor tunnel link prefix kept closed = may.waiting in
      let way : Link = way_to link lets.used prefix in
      let there = is_way link lets.used prefix heard may.opened (behind_head link prefix closed rest heard asked.client is_heard lets) in
      let P : ℕ → Type 0 = λ n. n ≤ tunnel.at.flow in
      record {
        opened = record {
          opening = asked.opening;
          same = may.same ∙ sym there.server;
          last = asked.last ∙ ap (λ n. n + 1) (sym there.server);
          dials = subst P (sym there.server) asked.dials;
          opened = there.opened;
          come = omega arith;
          used = there.used;
        };
        come = there.come;
        unshut = there.unshut;
        client = sym asked.client;
        now = may.now ∙ sym (now_here (now_over since prefix) prefix);
      }

  module _ (next : Child) (more : List Command) (tells : Tells conv client kept server heard closed moment next more) where
    lets_there : (tunnel : Tunnel) (link : Link) (since : Since) (prefix : List (Timed Event)) → MayGoOn conv client (a_tunnel tunnel) link since prefix server (goals.Tunnel kept closed) moment →
        IsLetThrough link prefix rest → Arrives conv client next more (reaching (a_tunnel tunnel) link since) prefix
    lets_there tunnel link since prefix may lets =
        let to = tells tunnel (way_to link lets.used prefix) (from_here (now_over since prefix) prefix) prefix (may_decide tunnel link since prefix may lets) in
        let passes = ap (pass_reached conv client (a_tunnel tunnel) link since prefix) lets.answer in
        let P : Turn Stage Command → Type 0 = λ t. IsChild conv client next t.stage prefix in
        record {
          there = subst P (sym passes) to.there;
          gives = λ view. to.gives view ∙ ap (λ t. seen_of view (t.owed ++ owed_here (stack_chain conv client) t.stage prefix)) (sym passes);
        }

    pub lets_tunnel : LetsThrough conv client server (goals.Tunnel kept closed) rest moment next more
    lets_tunnel (a_tunnel tunnel) link since prefix may lets = lets_there tunnel link since prefix may lets
    lets_tunnel (a_flow place from) link since prefix may lets = absurd may.waiting

-- ---- it is refused

pub same_flow : (a b : Flow) → Some a ≡ Some b → a ≡ b
same_flow a b is = cc

-- what is owed by that, with the proxy's side and by whether the client had closed before
proxy_is : (link : Link) (prefix : List (Timed Event)) (server : ℕ) (shut before : Bool) → server ≡ link.server → IsTurnedAway link prefix shut before →
    (owes : Used → Bool → List Command) → owes (ByServer server shut) before ≡ owes (used_proxy link prefix) (closed_before link prefix)
proxy_is link prefix server shut before same turned owes =
    ap (λ n. owes (ByServer n shut) before) same
    ∙ (ap (λ b. owes (ByServer link.server b) before) turned.shut_is ∙ ap (owes (used_proxy link prefix)) turned.before_is)

module _ (conv : ℕ) (client : Visitor) (server : ℕ) (shut before : Bool) (moment : ℕ) where
  -- nothing follows it
  away_as : (goal : Goal) (link : Link) (since : Since) (prefix : List (Timed Event)) (more owed : List Command) →
      (stack_chain conv client).pass (reaching goal link since) prefix ≡ record { owed = owed; stage = over } → more ≡ owed →
      Arrives conv client children.Over more (reaching goal link since) prefix
  away_as goal link since prefix more owed passes is =
      let P : Turn Stage Command → Type 0 = λ t. IsChild conv client children.Over t.stage prefix in
      record {
        there = subst P (sym passes) refl;
        gives = λ view. ap (seen_of view) (is ∙ sym (append-nil owed)) ∙ ap (λ t. seen_of view (t.owed ++ owed_here (stack_chain conv client) t.stage prefix)) (sym passes);
      }

  pub away_tunnel : (kept : Opening) (closed : Bool) → TurnsAway conv client server (goals.Tunnel kept closed) shut before moment children.Over (refuses UpstreamRefused false (ByServer server shut) before)
  away_tunnel kept closed (a_tunnel tunnel) link since prefix may turned =
      away_as (a_tunnel tunnel) link since prefix (refuses UpstreamRefused false (ByServer server shut) before) (refuses UpstreamRefused false (used_proxy link prefix) (closed_before link prefix))
      (ap (pass_reached conv client (a_tunnel tunnel) link since prefix) turned.answer)
      (proxy_is link prefix server shut before may.same turned (λ used closed. refuses UpstreamRefused false used closed))
  away_tunnel kept closed (a_flow place from) link since prefix may turned = absurd may.waiting

  pub away_flow : (boxed : Box HttpConv) (flow : Flow) → dialled_flow boxed.value.stream.phase ≡ Some flow →
      TurnsAway conv client server (goals.Flow boxed) shut before moment children.Over (ends_by_fault flow UpstreamRefused moment (ByServer server shut) before)
  away_flow boxed flow dialled (a_tunnel tunnel) link since prefix may turned = absurd may.waiting
  away_flow boxed flow dialled (a_flow place from) link since prefix may turned =
      let led : IsLedOn conv client place from link prefix boxed.value = may.waiting in
      let flow_is : flow ≡ from.flow = same_flow flow from.flow (sym dialled ∙ flow_there (terms_of conv client.address place) (ahead_at place) boxed.value led.standing prefix led.at from.flow from.sent led.stage led.there) in
      away_as (a_flow place from) link since prefix (ends_by_fault flow UpstreamRefused moment (ByServer server shut) before)
      (ends_by_fault from.flow UpstreamRefused (now_over since prefix) (used_proxy link prefix) (closed_before link prefix))
      (ap (pass_reached conv client (a_flow place from) link since prefix) turned.answer)
      (ap (λ f. ends_by_fault f UpstreamRefused moment (ByServer server shut) before) flow_is
      ∙ (ap (λ m. ends_by_fault from.flow UpstreamRefused m (ByServer server shut) before) may.now
      ∙ proxy_is link prefix server shut before may.same turned (λ used closed. ends_by_fault from.flow UpstreamRefused (now_over since prefix) used closed)))

-- ---- a flow goes on

-- where something came behind the proxy's head the client has not closed, and else the way begins there
connected_in_time : (conv : ℕ) (client : Visitor) (place : Place) (from : Dialling) (link : Link) (since : Since) (prefix : List (Timed Event)) (used : ℕ) (empty : Bool) →
    is_empty (text_behind link used prefix) ≡ empty →
    StaysInTime (terms_of conv client.address place) ((flows_at conv client place).pass (connected_on place from (way_by empty link used (length prefix)) since) prefix).stage prefix
connected_in_time conv client place from link since prefix used true is =
    in_time_connected (terms_of conv client.address place) (record from.at { dials = from.at.dials + 1 }) (reached place from.flow) link.server from.sent since (length prefix) (record { client = from.used; server = 0 }) 0
    prefix (drop-length prefix)
connected_in_time conv client place from link since prefix used false is =
    λ no_end. open_in_time ((flows_at conv client place).pass (connected_on place from (way_by false link used (length prefix)) since) prefix).stage prefix (heard_open (client_closed prefix) (drop used (text_of link.server (drop link.opened prefix))) is)

regroup : (a b c d : List Command) → (a ++ b) ++ (c ++ d) ≡ (a ++ (b ++ c)) ++ d
regroup a b c d = append_assoc a b (c ++ d) ∙ (ap (λ l. a ++ l) (sym (append_assoc b c d)) ∙ sym (append_assoc a (b ++ c) d))

-- the flow that is dialled is one
same_dial : (a b : At) (f g : Flow) (s t : Sent) → busy a f (connection s) ≡ busy b g (connection t) → (b ≡ a) × (g ≡ f) × (t ≡ s)
same_dial a b f g s t is = (let e : b ≡ a = cc in e, let e : g ≡ f = cc in e, let e : t ≡ s = cc in e)

module _ (conv : ℕ) (client : Visitor) (boxed : Box HttpConv) (place : Place) (from : Dialling) (link : Link) (since : Since) (prefix : List (Timed Event)) (used : ℕ)
    (rest : List ℕ) (moment : ℕ) (may : MayGoOn conv client (a_flow place from) link since prefix link.server (goals.Flow boxed) moment) (behind : IsBehind link used prefix rest) where
  abbrev reached_since : Since
  reached_since = from_here (now_over since prefix) prefix

  abbrev way : Link
  way = way_to link used prefix

  abbrev there_on : Standing
  there_on = connected_on place from way reached_since

  abbrev led : IsLedOn conv client place from link prefix boxed.value
  led = may.waiting

  -- its server
  number : link.server ≡ led.at.dials
  number = led.dialled ∙ ap (λ (a : At). a.dials) led.from_is

  may_reach : MayReach (terms_of conv client.address place) (ahead_at place) boxed.value.stream moment rest led.standing there_on prefix
  may_reach =
      let there = is_way link used prefix rest may.opened behind in
      let server_is : way.server ≡ from.at.dials = there.server ∙ led.dialled in
      let U : ℕ → Type 0 = λ n. n ≤ length (bytes_of Client prefix) in
      record {
        at = led.at;
        flow = from.flow;
        sent = from.sent;
        dialling = led.stage;
        there = led.there;
        stage = ap (λ n. busy (record from.at { dials = from.at.dials + 1 }) (reached place from.flow) (response_head n from.sent)) server_is
            ∙ ap (λ (a : At). busy (record a { dials = a.dials + 1 }) (reached place from.flow) (response_head a.dials from.sent)) led.from_is;
        client = led.used_is;
        told = refl;
        come = there.come;
        unshut = there.unshut;
        within = record { since = omega arith; opened = there.opened; client = subst U (sym led.used_is) led.there.is_at.within.client; server = there.used };
        now = may.now ∙ sym (now_here (now_over since prefix) prefix);
      }

  -- behind the client's close nothing was heard of it, and the flow ends there
  in_time_on : StaysInTime (terms_of conv client.address place) ((flows_at conv client place).pass there_on prefix).stage prefix
  in_time_on = connected_in_time conv client place from link reached_since prefix used (is_empty (text_behind link used prefix)) refl

  module _ (after : HttpConv) (next : Child) (out mid : List Command) (second : List Command) (reaches : Reaches boxed.value.stream after.stream moment rest out mid)
      (follows : Follows client.key moment after next second) where
    -- where it has passed on
    abbrev on_there : Turn Standing Command
    on_there = (flows_at conv client place).pass there_on prefix

    reached_on : FollowsAt conv client after next second place on_there.stage prefix
    reached_on =
        follows conv client place on_there.stage prefix refl (may.now ∙ sym (now_here (now_over since prefix) prefix))
        (reaches.reaches (terms_of conv client.address place) (ahead_at place) led.standing there_on prefix may_reach).is_there
        in_time_on

    -- its server is owed that at the place where it is
    owes_same : reached_owes may_reach.sent place may_reach.flow may_reach.at.dials ≡ reached_owes from.sent place from.flow link.server
    owes_same =
        let same = same_dial led.at may_reach.at from.flow may_reach.flow from.sent may_reach.sent (sym led.stage ∙ may_reach.dialling) in
        ap (λ s. reached_owes s place may_reach.flow may_reach.at.dials) same.2
        ∙ (ap (λ f. reached_owes from.sent place f may_reach.at.dials) same.1
        ∙ (ap (λ (a : At). reached_owes from.sent place from.flow a.dials) same.0
        ∙ ap (λ n. reached_owes from.sent place from.flow n) (sym number)))

    leads_on : LeadsThere conv client next (reaches.more ++ second) (flow_reached conv client place from link used since prefix).owed (flow_reached conv client place from link used since prefix).stage prefix
    leads_on =
        let on = reached_on in
        let there = reaches.reaches (terms_of conv client.address place) (ahead_at place) led.standing there_on prefix may_reach in
        let first : List Command = reached_owes may_reach.sent place may_reach.flow may_reach.at.dials in
        let owes : List Command = reached_owes from.sent place from.flow link.server in
        let here : List Command = owed_here (flows_at conv client place) on_there.stage prefix in
        let to : Turn Stage Command = follows_to conv client place on_there.stage prefix in
        let rest : List Command = owed_here (stack_chain conv client) to.stage prefix in
        record {
          there = on.there;
          gives = λ view.
              seen_append view reaches.more second
              ∙ (ap (λ l. l ++ seen_of view second)
              (there.gives view
              ∙ (ap (λ l. seen_of view (l ++ (on_there.owed ++ here))) owes_same
              ∙ (ap (seen_of view) (sym (append_assoc owes on_there.owed here)) ∙ seen_append view (owes ++ on_there.owed) here)))
              ∙ (append_assoc (seen_of view (owes ++ on_there.owed)) (seen_of view here) (seen_of view second)
              ∙ (ap (λ l. seen_of view (owes ++ on_there.owed) ++ l) (on.gives view)
              ∙ (sym (seen_append view (owes ++ on_there.owed) (to.owed ++ rest)) ∙ ap (seen_of view) (regroup owes on_there.owed to.owed rest)))));
        }

    -- and the bound on what it may still ask
    reach_left : sequence_left after.stream < sequence_left boxed.value.stream → left_by next ≤ goal_left (goals.Flow boxed)
    reach_left fewer =
        let left = reached_on.left in
        let same : tunnel_left boxed.value.stream.terms.place ≡ tunnel_left place = ap (λ t. tunnel_left t.place) led.there.is_at.is_in.terms in
        omega arith

-- the server's number, as the proxy's side has it
of_side : (conv : ℕ) (client : Visitor) (goal : Goal) (link : Link) (since : Since) (prefix : List (Timed Event)) (server : ℕ) (kept : KeptGoal) (moment : ℕ) →
    MayGoOn conv client goal link since prefix server kept moment → MayGoOn conv client goal link since prefix link.server kept moment
of_side conv client goal link since prefix server kept moment may =
    record { same = refl; opened = may.opened; come = may.come; waiting = may.waiting; now = may.now }

-- a flow waits alike whatever the key of masks
abbrev with_key : Visitor → List ℕ → Visitor
with_key client key = record { address = client.address; key = key }

led_keyed : (conv : ℕ) (client : Visitor) (key : List ℕ) (place : Place) (from : Dialling) (link : Link) (prefix : List (Timed Event)) (flows : HttpConv) →
    IsLedOn conv client place from link prefix flows → IsLedOn conv (with_key client key) place from link prefix flows
led_keyed conv client key place from link prefix flows led = record {
  standing = led.standing;
  at = led.at;
  stage = led.stage;
  from_is = led.from_is;
  used_is = led.used_is;
  there = led.there;
  in_time = led.in_time;
  dialled = led.dialled;
  waits = led.waits;
}

may_keyed : (conv : ℕ) (client : Visitor) (key : List ℕ) (place : Place) (from : Dialling) (link : Link) (since : Since) (prefix : List (Timed Event)) (server : ℕ) (boxed : Box HttpConv) (moment : ℕ) →
    MayGoOn conv client (a_flow place from) link since prefix server (goals.Flow boxed) moment →
    MayGoOn conv (with_key client key) (a_flow place from) link since prefix server (goals.Flow boxed) moment
may_keyed conv client key place from link since prefix server boxed moment may = record {
  same = may.same;
  opened = may.opened;
  come = may.come;
  waiting = led_keyed conv client key place from link prefix boxed.value may.waiting;
  now = may.now;
}

module _ (key : List ℕ) (boxed : Box HttpConv) (rest : List ℕ) (moment : ℕ) where
  pub leads : (after : HttpConv) (next : Child) (out mid second : List Command) (reaches : Reaches boxed.value.stream after.stream moment rest out mid) → Follows key moment after next second →
      Leads key boxed rest moment next (reaches.more ++ second)
  leads after next out mid second reaches follows conv client place from link since prefix used keyed may behind =
      let P : List ℕ → Type 0 = λ k. Follows k moment after next second in
      leads_on conv client boxed place from link since prefix used rest moment may behind after next out mid second reaches (subst P (sym keyed) follows)

  pub leads_left : (after : HttpConv) (next : Child) (out mid second : List Command) (reaches : Reaches boxed.value.stream after.stream moment rest out mid) → Follows key moment after next second →
      CanReach boxed rest moment → sequence_left after.stream < sequence_left boxed.value.stream → left_by next ≤ goal_left (goals.Flow boxed)
  leads_left after next out mid second reaches follows can fewer =
      reach_left can.conv (with_key can.client key) boxed can.place can.from can.link can.since can.prefix can.used rest moment
      (may_keyed can.conv can.client key can.place can.from can.link can.since can.prefix can.link.server boxed moment can.may) can.behind after next out mid second reaches follows fewer

module _ (boxed : Box HttpConv) (rest : List ℕ) (moment : ℕ) where
  pub reach_waits : CanReach boxed rest moment → IsDialling boxed.value.stream.phase
  reach_waits can = let led : IsLedOn can.conv can.client can.place can.from can.link can.prefix boxed.value = can.may.waiting in led.waits

  pub reach_somewhere : CanReach boxed rest moment → Somewhere boxed.value.stream
  reach_somewhere can =
      let led : IsLedOn can.conv can.client can.place can.from can.link can.prefix boxed.value = can.may.waiting in
      (terms_of can.conv can.client.address can.place, ahead_at can.place, led.standing, can.prefix, led.there)

-- it was let through
module _ (server : ℕ) (boxed : Box HttpConv) (rest heard : List ℕ) (moment : ℕ) (is_heard : heard ≡ unless_closed boxed.value.stream.client_closed rest) where
  flow_behind : (conv : ℕ) (client : Visitor) (place : Place) (from : Dialling) (link : Link) (prefix : List (Timed Event)) →
      IsLedOn conv client place from link prefix boxed.value → (lets : IsLetThrough link prefix rest) → IsBehind link lets.used prefix heard
  flow_behind conv client place from link prefix led lets =
      behind_head link prefix boxed.value.stream.client_closed rest heard
      (closed_there (terms_of conv client.address place) (ahead_at place) boxed.value led.standing prefix led.at from.flow from.sent led.stage led.there) is_heard lets

  pub can_reach : CanGoOn server (goals.Flow boxed) rest moment → CanReach boxed heard moment
  can_reach can = by can.goal can.may
    where
      by : (goal : Goal) → MayGoOn can.conv can.client goal can.link can.since can.prefix server (goals.Flow boxed) moment → CanReach boxed heard moment
      by (a_tunnel tunnel) may = absurd may.waiting
      by (a_flow place from) may = record {
        conv = can.conv;
        client = can.client;
        place = place;
        from = from;
        link = can.link;
        since = can.since;
        prefix = can.prefix;
        used = can.through.used;
        may = of_side can.conv can.client (a_flow place from) can.link can.since can.prefix server (goals.Flow boxed) moment may;
        behind = flow_behind can.conv can.client place from can.link can.prefix may.waiting can.through;
      }

  pub lets_flow : (conv : ℕ) (client : Visitor) (key : List ℕ) (next : Child) (more : List Command) → client.key ≡ key → Leads key boxed heard moment next more →
      LetsThrough conv client server (goals.Flow boxed) rest moment next more
  lets_flow conv client key next more keyed leads_so (a_tunnel tunnel) link since prefix may lets = absurd may.waiting
  lets_flow conv client key next more keyed leads_so (a_flow place from) link since prefix may lets =
      let to = leads_so conv client place from link since prefix lets.used keyed (of_side conv client (a_flow place from) link since prefix server (goals.Flow boxed) moment may)
      (flow_behind conv client place from link prefix may.waiting lets) in
      let passes = ap (pass_reached conv client (a_flow place from) link since prefix) lets.answer in
      let P : Turn Stage Command → Type 0 = λ t. IsChild conv client next t.stage prefix in
      record {
        there = subst P (sym passes) to.there;
        gives = λ view. to.gives view ∙ ap (λ t. seen_of view (t.owed ++ owed_here (stack_chain conv client) t.stage prefix)) (sym passes);
      }

-- ---- somewhere

pub away_somewhere : (boxed : Box HttpConv) → IsGoalSomewhere (goals.Flow boxed) → Somewhere boxed.value.stream
away_somewhere boxed somewhere = by somewhere.goal somewhere.at
  where
    by : (goal : Goal) → IsGoal somewhere.conv somewhere.client goal somewhere.link somewhere.prefix (goals.Flow boxed) → Somewhere boxed.value.stream
    by (a_tunnel tunnel) at = absurd at
    by (a_flow place from) at = (terms_of somewhere.conv somewhere.client.address place, ahead_at place, at.standing, somewhere.prefix, at.there)

pub away_waits : (boxed : Box HttpConv) → IsGoalSomewhere (goals.Flow boxed) → IsDialling boxed.value.stream.phase
away_waits boxed somewhere = by somewhere.goal somewhere.at
  where
    by : (goal : Goal) → IsGoal somewhere.conv somewhere.client goal somewhere.link somewhere.prefix (goals.Flow boxed) → IsDialling boxed.value.stream.phase
    by (a_tunnel tunnel) at = absurd at
    by (a_flow place from) at = at.waits

pub flow_waits : (goal : KeptGoal) (boxed : Box HttpConv) → goal ≡ goals.Flow boxed → IsGoalSomewhere goal → IsDialling boxed.value.stream.phase
flow_waits goal boxed is somewhere = let P : KeptGoal → Type 0 = IsGoalSomewhere in away_waits boxed (subst P is somewhere)

pub flow_somewhere : (goal : KeptGoal) (boxed : Box HttpConv) → goal ≡ goals.Flow boxed → IsGoalSomewhere goal → Somewhere boxed.value.stream
flow_somewhere goal boxed is somewhere = let P : KeptGoal → Type 0 = IsGoalSomewhere in away_somewhere boxed (subst P is somewhere)

-- the flow that waits is there
pub some_dialled : (found : Phase) → IsDialling found → (flow : Flow) × (dialled_flow found ≡ Some flow)
some_dialled (phase.Asked (asked.Connection flow server up)) waits = (flow, refl)
some_dialled (phase.Asked (asked.Idle flow expects)) waits = absurd waits
some_dialled (phase.Asked (asked.RequestBody flow)) waits = absurd waits
some_dialled (phase.Asked (asked.ResponseHead flow server up)) waits = absurd waits
some_dialled (phase.Asked (asked.ResponseBody flow server up)) waits = absurd waits
some_dialled (phase.Asked (asked.GivenHead flow)) waits = absurd waits
some_dialled (phase.Asked (asked.GivenBody flow)) waits = absurd waits
some_dialled (phase.Ready looked) waits = absurd waits

pub none_dialled : (found : Phase) → IsDialling found → dialled_flow found ≡ None → ⊥
none_dialled found waits none = let (flow, is) = some_dialled found waits in let no : Some flow ≡ None = sym is ∙ none in cc

-- ---- what the functions give

pub few_let : (server : ℕ) (kept : Opening) (closed : Bool) (goal : KeptGoal) (rest : List ℕ) (moment : ℕ) → goal ≡ goals.Tunnel kept closed → CanGoOn server goal rest moment →
    IsFewDials kept server
few_let server kept closed goal rest moment is can =
    let P : KeptGoal → Type 0 = λ g. CanGoOn server g rest moment in
    let there : CanGoOn server (goals.Tunnel kept closed) rest moment = subst P is can in
    few_dials there.conv there.client there.goal there.link there.since there.prefix server kept closed moment there.may

pub reach_let : (server : ℕ) (boxed : Box HttpConv) (goal : KeptGoal) (rest heard : List ℕ) (moment : ℕ) → goal ≡ goals.Flow boxed →
    heard ≡ unless_closed boxed.value.stream.client_closed rest → CanGoOn server goal rest moment → CanReach boxed heard moment
reach_let server boxed goal rest heard moment is is_heard can =
    let P : KeptGoal → Type 0 = λ g. CanGoOn server g rest moment in can_reach server boxed rest heard moment is_heard (subst P is can)

module _ {E : Type 0} (conv : ℕ) (client : Visitor) (server : ℕ) (goal : KeptGoal) (rest heard : List ℕ) (moment : ℕ) (result : Result Child E) where
  pub tunnel_let : (kept : Opening) (closed : Bool) (out given : List Command) → goal ≡ goals.Tunnel kept closed → heard ≡ unless_closed closed rest →
      IfOk result (λ next. Adds (Tells conv client kept server heard closed moment next) out given) → IfOk result (λ next. Adds (LetsThrough conv client server goal rest moment next) out given)
  tunnel_let kept closed out given is is_heard tells_so = by result tells_so
    where
      by : (result : Result Child E) → IfOk result (λ next. Adds (Tells conv client kept server heard closed moment next) out given) →
          IfOk result (λ next. Adds (LetsThrough conv client server goal rest moment next) out given)
      by (Ok next) told =
          let P : KeptGoal → Type 0 = λ g. LetsThrough conv client server g rest moment next told.more in
          record { more = told.more; grown = told.grown; holds = subst P (sym is) (lets_tunnel conv client kept closed server rest heard moment is_heard next told.more told.holds) }
      by (Err error) told = tt

  pub flow_let : (key : List ℕ) (boxed : Box HttpConv) (out given : List Command) → client.key ≡ key → goal ≡ goals.Flow boxed →
      heard ≡ unless_closed boxed.value.stream.client_closed rest →
      IfOk result (λ next. Adds (Leads key boxed heard moment next) out given) → IfOk result (λ next. Adds (LetsThrough conv client server goal rest moment next) out given)
  flow_let key boxed out given keyed is is_heard leads_so = by result leads_so
    where
      by : (result : Result Child E) → IfOk result (λ next. Adds (Leads key boxed heard moment next) out given) →
          IfOk result (λ next. Adds (LetsThrough conv client server goal rest moment next) out given)
      by (Ok next) goes =
          let P : KeptGoal → Type 0 = λ g. LetsThrough conv client server g rest moment next goes.more in
          record { more = goes.more; grown = goes.grown; holds = subst P (sym is) (lets_flow server boxed rest heard moment is_heard conv client key next goes.more keyed goes.holds) }
      by (Err error) goes = tt

-- by the proxy's side, whose number and close are in `used`
abbrev pub AwayBy : Used → KeptGoal → Bool → ℕ → Child → List Command → Type 0
AwayBy used goal before moment next more = (conv : ℕ) (client : Visitor) (server : ℕ) (shut : Bool) → used ≡ ByServer server shut →
    TurnsAway conv client server goal shut before moment next more

pub away_given : (goal : KeptGoal) (kept : Opening) (closed : Bool) (used : Used) (before : Bool) (moment : ℕ) (out longer : List Command) →
    goal ≡ goals.Tunnel kept closed → longer ≡ out ++ refuses UpstreamRefused false used before → Adds (AwayBy used goal before moment children.Over) out longer
away_given goal kept closed used before moment out longer is gave =
    let more : List Command = refuses UpstreamRefused false used before in
    let P : KeptGoal → Type 0 = λ g. AwayBy used g before moment children.Over more in
    record {
      more = more;
      grown = gave;
      holds = subst P (sym is) (λ conv client server shut by.
          let Q : Used → Type 0 = λ u. TurnsAway conv client server (goals.Tunnel kept closed) shut before moment children.Over (refuses UpstreamRefused false u before) in
          subst Q (sym by) (away_tunnel conv client server shut before moment kept closed));
    }

refused_adds : (goal : KeptGoal) (boxed : Box HttpConv) (used : Used) (before : Bool) (moment : ℕ) (out longer : List Command) → goal ≡ goals.Flow boxed →
    IsDialling boxed.value.stream.phase → EndsRefused (dialled_flow boxed.value.stream.phase) moment used before out longer → Adds (AwayBy used goal before moment children.Over) out longer
refused_adds goal boxed used before moment out longer is waits gave =
    let (flow, dialled) = some_dialled boxed.value.stream.phase waits in
    let more : List Command = ends_by_fault flow UpstreamRefused moment used before in
    let P : KeptGoal → Type 0 = λ g. AwayBy used g before moment children.Over more in
    record {
      more = more;
      grown = gave flow dialled;
      holds = subst P (sym is) (λ conv client server shut by.
          let Q : Used → Type 0 = λ u. TurnsAway conv client server (goals.Flow boxed) shut before moment children.Over (ends_by_fault flow UpstreamRefused moment u before) in
          subst Q (sym by) (away_flow conv client server shut before moment boxed flow dialled));
    }

pub refused_given : {E : Type 0} (goal : KeptGoal) (boxed : Box HttpConv) (used : Used) (before : Bool) (moment : ℕ) (out longer : List Command) (result : Result Child E) →
    goal ≡ goals.Flow boxed → IsDialling boxed.value.stream.phase → IfOk result (λ next. next ≡ children.Over) →
    OnOk result (EndsRefused (dialled_flow boxed.value.stream.phase) moment used before out longer) → IfOk result (λ next. Adds (AwayBy used goal before moment next) out longer)
refused_given goal boxed used before moment out longer (Ok next) is waits over_is gave =
    let P : Child → Type 0 = λ n. Adds (AwayBy used goal before moment n) out longer in
    subst P (sym over_is) (refused_adds goal boxed used before moment out longer is waits gave)
refused_given goal boxed used before moment out longer (Err error) is waits over_is gave = tt

module _ {E : Type 0} (key : List ℕ) (boxed : Box HttpConv) (moment : ℕ) (after : HttpConv) (out mid longer : List Command) (result : Result Child E) where
  pub led_given : (rest : List ℕ) → Reaches boxed.value.stream after.stream moment rest out mid → IfOk result (λ next. Adds (Follows key moment after next) mid longer) →
      IfOk result (λ next. Adds (Leads key boxed rest moment next) out longer)
  led_given rest reaches follows = by result follows
    where
      by : (result : Result Child E) → IfOk result (λ next. Adds (Follows key moment after next) mid longer) → IfOk result (λ next. Adds (Leads key boxed rest moment next) out longer)
      by (Ok next) follows_so = record {
        more = reaches.more ++ follows_so.more;
        grown = given_twice out mid longer reaches.more follows_so.more reaches.grown follows_so.grown;
        holds = leads key boxed rest moment after next out mid follows_so.more reaches follows_so.holds;
      }
      by (Err error) follows_so = tt

  pub led_bound : (rest : List ℕ) → Reaches boxed.value.stream after.stream moment rest out mid → CanReach boxed rest moment → sequence_left after.stream < sequence_left boxed.value.stream →
      IfOk result (λ next. Adds (Follows key moment after next) mid longer) → IfOk result (λ next. left_by next ≤ goal_left (goals.Flow boxed))
  led_bound rest reaches can fewer follows = by result follows
    where
      by : (result : Result Child E) → IfOk result (λ next. Adds (Follows key moment after next) mid longer) → IfOk result (λ next. left_by next ≤ goal_left (goals.Flow boxed))
      by (Ok next) follows_so = leads_left key boxed rest moment after next out mid follows_so.more reaches follows_so.holds can fewer
      by (Err error) follows_so = tt

-- ---- an end asks nothing

server_asks : (used : Used) (rest : List Command) → flat_map asks_in (shut_server used ++ rest) ≡ flat_map asks_in rest
server_asks NoServer rest = refl
server_asks (ByServer index true) rest = refl
server_asks (ByServer index false) rest = refl

client_asks : (closed : Bool) → flat_map asks_in (shut_client closed) ≡ []
client_asks true = refl
client_asks false = refl

all_asks : (used : Used) (closed : Bool) → flat_map asks_in (shut_all used closed) ≡ []
all_asks used closed = server_asks used (shut_client closed) ∙ client_asks closed

pub refuses_asks : (fault : Fault) (asked_head : Bool) (used : Used) (closed : Bool) (out longer : List Command) → longer ≡ out ++ refuses fault asked_head used closed → AsksOnly None out longer
refuses_asks fault asked_head used closed out longer gave = (refuses fault asked_head used closed, gave, all_asks used closed)

module _ {E : Type 0} (boxed : Box HttpConv) (used : Used) (before : Bool) (moment : ℕ) (out longer : List Command) where
  pub refused_asks : (result : Result Child E) → IsDialling boxed.value.stream.phase → IfOk result (λ next. next ≡ children.Over) →
      OnOk result (EndsRefused (dialled_flow boxed.value.stream.phase) moment used before out longer) → IfOk result (λ next. AsksOnly (awaited_by next) out longer)
  refused_asks (Ok next) waits over_is gave =
      let (flow, dialled) = some_dialled boxed.value.stream.phase waits in
      let P : Child → Type 0 = λ n. AsksOnly (awaited_by n) out longer in
      subst P (sym over_is) (ends_by_fault flow UpstreamRefused moment used before, gave flow dialled, all_asks used before)
  refused_asks (Err error) waits over_is gave = tt

  pub refused_left : (goal : KeptGoal) (result : Result Child E) → IfOk result (λ next. next ≡ children.Over) → IfOk result (λ next. left_by next ≤ goal_left goal)
  refused_left goal (Ok next) over_is = let P : Child → Type 0 = λ n. left_by n ≤ goal_left goal in subst P (sym over_is) (omega arith)
  refused_left goal (Err error) over_is = tt

-- ---- by what was said at this moment

pub away_now : {E : Type 0} (conv : ℕ) (client : Visitor) (server : ℕ) (goal : KeptGoal) (shut before : Bool) (moment : ℕ) (closed : Bool) (at : ℕ) (out longer : List Command) (result : Result Child E) →
    closed ≡ before → at ≡ moment → IfOk result (λ next. Adds (AwayBy (ByServer server shut) goal closed at next) out longer) →
    IfOk result (λ next. Adds (TurnsAway conv client server goal shut before moment next) out longer)
away_now conv client server goal shut before moment closed at out longer (Ok next) closed_is at_is adds =
    let P : Bool → Type 0 = λ b. TurnsAway conv client server goal shut b at next adds.more in
    let Q : ℕ → Type 0 = λ m. TurnsAway conv client server goal shut before m next adds.more in
    record { more = adds.more; grown = adds.grown; holds = subst Q at_is (subst P closed_is (adds.holds conv client server shut refl)) }
away_now conv client server goal shut before moment closed at out longer (Err error) closed_is at_is adds = tt
