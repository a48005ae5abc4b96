-- The dial of a CONNECT is answered, or that of a flow: its server is connected, or another proxy, which is asked for a tunnel.
use Rattle.std.proofs.Common.{◌≡◌, ℕ, ◌≤◌, ◌+◌, Bool, true, false, List, [], ◌∷◌, ◌++◌, length, Option, Some, None, refl, ap, sym, ◌∙◌, subst, arith}
use Rattle.std.specs.Prelude.{IfOk, Result, Ok, Err}
use Rattle.std.specs.Global.{Box}
use Rattle.std.specs.Option.{is_some}
use Rattle.std.proofs.lemmas.List.{append-nil, drop_all}
use Rattle.px_message.specs.declared.address.Address.{Address}
use Rattle.px_message.specs.declared.fault.Fault.{Fault}
use Rattle.px_message.specs.declared.flow.Flow.{Flow}
use Rattle.px_event.specs.declared.command.Command.{Command}
use Rattle.px_event.specs.declared.command.Command.TheVariants as commands
use Rattle.px_event.specs.declared.event.Event.{Event}
use Rattle.px_event.specs.declared.reply.Reply.{Reply}
use Rattle.px_event.specs.declared.reply.Reply.TheVariants as reply
use Rattle.px_event.specs.declared.side.Side.TheVariants.{Server}
use Rattle.px_event.specs.Chain.{Timed, Look, NotYet, Asks, Ends, Turn}
use Rattle.px_event.specs.Laws.{owed_over}
use Rattle.px_event.specs.View.{View, seen_of}
use Rattle.px_event.proofs.Steps.{Resumes}
use Rattle.px_exchange.specs.declared.ending.Used.TheVariants.{NoServer}
use Rattle.px_exchange.specs.declared.place.Place.{Place}
use Rattle.px_exchange.specs.Endings.{refuses}
use Rattle.px_exchange.specs.declared.terms.Terms.{Terms}
use Rattle.px_exchange.specs.Places.{address_of, dialled_for, terms_of}
use Rattle.px_chain.specs.Chain.{look as look_of}
use Rattle.px_chain.specs.Sights.{Standing, sight_over}
use Rattle.px_chain.specs.Stages.{At, busy, connection, unparked, Sent}
use Rattle.px_chain.specs.Stages as stages
use Rattle.px_chain.specs.Streams.{bytes_of, client_closed, from_here, is_closed}
use Rattle.px_chain.proofs.FrontLaws.{now_here}
use Rattle.px_http.specs.declared.conversation.HttpConv.{HttpConv}
use Rattle.px_stream.specs.Tells.{led_to}
use Rattle.px_tunnel.specs.declared.upstream.UpstreamTunnel.{UpstreamTunnel}
use Rattle.px_tunnel.specs.Reaching.{HasHeard}
use Rattle.px_tunnel.specs.Upstream.{connect_text}
use Rattle.px_stack.specs.declared.child.Child.{Child}
use Rattle.px_stack.specs.declared.child.Child.TheVariants as children
use Rattle.px_stack.specs.declared.child.Goal.{Goal as KeptGoal}
use Rattle.px_stack.specs.declared.child.Goal.TheVariants as goals
use Rattle.px_stack.specs.declared.child.Opening.{Opening}
use Rattle.px_stack.specs.Chain.{asks_proxy, dialled_by, dialled_more, flows_at, stack_chain, turn_connected, turn_dial, turn_http}
use Rattle.px_stack.specs.Stages.{Dialling, Goal, Link, Stage, Tunnel, Visitor, a_flow, a_tunnel, asking, connecting, http, over, raw, reaching, socket, undecided}
use Rattle.px_stack.specs.Stands.{InTime, IsAskedFor, IsChild, IsConnecting, IsGoal, IsInFlows, IsOpening, IsSomewhere, Keeps, KeepsBy, ahead_at}
use Rattle.px_stack.specs.Steps.{Adds, Arrives, AsksFor, IsAsking, IsFewDials, MayDecide, ResumesChild, Tells}
use Rattle.px_stack.proofs.HttpLemmas.{is_kept}
use Rattle.px_stack.proofs.LedLemmas.{IsLed, closed_there, is_led, server_there}
use Rattle.px_stack.proofs.ReachingLemmas.{new_answer, new_before, new_text, new_unshut, stays_there}
use Rattle.px_stack.proofs.TellLemmas.{behind_sent}

-- ---- a proxy that is asked

module _ (conv : ℕ) (client : Visitor) (goal : Goal) (server : ℕ) (prefix : List (Timed Event)) (moment : ℕ) where
  abbrev new_link : Link
  new_link = record { server = server; used = 0; opened = length prefix }

  -- its answer is awaited
  asks_there : (kept : KeptGoal) (number : ℕ) (closed : Bool) (next : Child) → number ≡ server → closed ≡ client_closed prefix → IsAsking kept number closed next →
      IsGoal conv client goal new_link prefix kept → Arrives conv client next [] (reaching goal new_link (from_here moment prefix)) prefix
  asks_there kept number closed next same closed_is asks waiting =
      let P : List ℕ → Type 0 = λ t. HasHeard asks.asked t in
      stays_there conv client next [] goal new_link (from_here moment prefix) prefix (new_answer server prefix)
      (record {
        kept = record { asked = asks.asked; server = number; closed_before = closed; goal = kept };
        is = asks.is;
        server = same;
        before = closed_is ∙ sym (new_before server prefix);
        opened = omega arith;
        come = omega arith;
        heard = subst P (sym (new_text server prefix)) asks.heard;
        unshut = new_unshut server prefix;
        waiting = waiting;
      }) refl

-- ---- the dial of a CONNECT is answered

same_opening : (a b : Opening) (c d : Bool) → children.Connecting a c ≡ children.Connecting b d → b ≡ a
same_opening a b c d is = cc

same_closed : (a b : Opening) (c d : Bool) → children.Connecting a c ≡ children.Connecting b d → d ≡ c
same_closed a b c d is = cc

record IsDialled (tunnel : Tunnel) (prefix : List (Timed Event)) (kept : Opening) (closed : Bool) : Type 0 where
  opening : IsOpening tunnel prefix kept
  dials : tunnel.at.dials ≤ tunnel.at.flow
  client : closed ≡ client_closed prefix

is_dialled : (tunnel : Tunnel) (prefix : List (Timed Event)) (kept : Opening) (closed : Bool) → IsConnecting tunnel prefix (children.Connecting kept closed) →
    IsDialled tunnel prefix kept closed
is_dialled tunnel prefix kept closed there =
    let P : Opening → Type 0 = λ k. IsOpening tunnel prefix k in
    record {
      opening = subst P (same_opening kept there.kept closed there.closed there.is) there.opening;
      dials = there.dials;
      client = sym (same_closed kept there.kept closed there.closed there.is) ∙ there.client;
    }

-- one server more
abbrev pub counted : Opening → Opening
counted kept = record kept { dials = kept.dials + 1 }

module _ (conv : ℕ) (client : Visitor) (kept : Opening) (closed : Bool) where
  none_kept : (stage : Stage) (prefix : List (Timed Event)) → (Keeps conv client (children.Connecting kept closed) stage prefix → ⊥) →
      (look : Look Command) → KeepsBy look conv client (children.Connecting kept closed) stage prefix → ⊥
  none_kept stage prefix none NotYet there = none there
  none_kept stage prefix none (Asks ask) there = none there
  none_kept stage prefix none (Ends owed) there = let no : children.Connecting kept closed ≡ children.Over = there in cc

  -- what it keeps is kept at no other stage
  at_dial : (P : Stage → Type 0) (stage : Stage) (prefix : List (Timed Event)) → IsChild conv client (children.Connecting kept closed) stage prefix →
      ((tunnel : Tunnel) → IsDialled tunnel prefix kept closed → P (connecting tunnel)) → P stage
  at_dial P (asking front) prefix there goes =
      absurd (none_kept (asking front) prefix (λ at. let no : children.Connecting kept closed ≡ children.Asking at.layer = at.is in cc) _ there)
  at_dial P (http place standing) prefix there goes =
      absurd (none_kept (http place standing) prefix (λ at. let no : children.Connecting kept closed ≡ children.Http at.flows = at.is in cc) _ there)
  at_dial P (connecting tunnel) prefix there goes = goes tunnel (is_dialled tunnel prefix kept closed there)
  at_dial P (reaching goal link since) prefix there goes =
      absurd (none_kept (reaching goal link since) prefix (λ at. let no : children.Connecting kept closed ≡ children.Reaching at.kept = at.is in cc) ((stack_chain conv client).look (reaching goal link since) prefix) there)
  at_dial P (undecided tunnel link since) prefix there goes =
      absurd (none_kept (undecided tunnel link since) prefix (λ at. let no : children.Connecting kept closed ≡ children.Undecided at.kept at.server = at.is in cc) _ there)
  at_dial P (raw ends) prefix there goes =
      absurd (none_kept (raw ends) prefix (λ at. let no : children.Connecting kept closed ≡ children.Raw at.kept = at.is in cc) _ there)
  at_dial P (socket ends flow frames) prefix there goes =
      absurd (none_kept (socket ends flow frames) prefix (λ at. let no : children.Connecting kept closed ≡ children.Socket at.layer = at.is in cc) _ there)
  at_dial P over prefix there goes = absurd (none_kept over prefix (λ at. at) (Ends []) there)

  -- its servers are few
  pub dials_few : IsSomewhere conv client (children.Connecting kept closed) → IsFewDials (counted kept) kept.dials
  dials_few (stage, prefix, there) =
      at_dial (λ s. IsFewDials (counted kept) kept.dials) stage prefix there
      (λ tunnel at.
      let flow = at.opening.flow in
      let same = at.opening.dials in
      let few = at.opening.few in
      let dials = at.dials in
      record { few = omega arith; last = refl; dials = omega arith })

  counted_opening : (tunnel : Tunnel) (prefix : List (Timed Event)) → IsOpening tunnel prefix kept → IsOpening (dialled_more conv client tunnel) prefix (counted kept)
  counted_opening tunnel prefix opening = record {
    flow = opening.flow;
    dials = ap (λ n. n + 1) opening.dials;
    address = opening.address;
    proxy = opening.proxy;
    rest = opening.rest;
    few = opening.few;
    used = opening.used;
  }

  module _ (moment : ℕ) (next : Child) where
    -- what a reply brings, where it is this
    resumes_by : (tunnel : Tunnel) (prefix : List (Timed Event)) (answer : Reply) (more : List Command) (turned : Turn Stage Command) →
        (stack_chain conv client).turn (connecting tunnel) prefix (record { moment = moment; value = answer }) ≡ turned →
        IsChild conv client next ((stack_chain conv client).pass turned.stage prefix).stage prefix →
        ((view : View) → seen_of view more ≡ seen_of view (turned.owed ++ owed_over (stack_chain conv client) turned.stage prefix)) →
        Resumes (stack_chain conv client) (IsChild conv client) next moment answer more (connecting tunnel) prefix
    resumes_by tunnel prefix answer more turned is there gives =
        let P : Turn Stage Command → Type 0 = λ t. IsChild conv client next ((stack_chain conv client).pass t.stage prefix).stage prefix in
        record {
          ask = commands.Dial tunnel.at.dials (dialled_by tunnel) None;
          asked = refl;
          place = subst P (sym is) there;
          gives = λ view. gives view ∙ ap (λ t. seen_of view (t.owed ++ owed_over (stack_chain conv client) t.stage prefix)) (sym is);
        }

    -- the server itself
    connected_decides : (rest : List ℕ) → rest ≡ [] → (tunnel : Tunnel) (prefix : List (Timed Event)) → IsDialled tunnel prefix kept closed →
        MayDecide (dialled_more conv client tunnel) (record { server = tunnel.at.dials; used = 0; opened = length prefix }) (from_here moment prefix) prefix (counted kept) kept.dials rest closed moment
    connected_decides rest empty tunnel prefix at =
        let none = drop_all (length prefix) prefix (omega arith) in
        record {
          opened = record {
            opening = counted_opening tunnel prefix at.opening;
            same = at.opening.dials;
            last = refl;
            dials = at.dials;
            opened = omega arith;
            come = omega arith;
            used = omega arith;
          };
          come = ap (bytes_of (Server tunnel.at.dials)) none ∙ sym empty;
          unshut = ap (is_closed (Server tunnel.at.dials)) none;
          client = sym at.client;
          now = sym (now_here moment prefix);
        }

    pub resumes_told : (rest : List ℕ) (more : List Command) → rest ≡ [] → kept.proxy ≡ None → Tells conv client (counted kept) kept.dials rest closed moment next more →
        ResumesChild conv client (children.Connecting kept closed) next moment reply.Dialled more
    resumes_told rest more empty direct tells stage prefix there =
        at_dial (λ s. Resumes (stack_chain conv client) (IsChild conv client) next moment reply.Dialled more s prefix) stage prefix there
        (λ tunnel at.
        let link : Link = record { server = tunnel.at.dials; used = 0; opened = length prefix } in
        let to = tells (dialled_more conv client tunnel) link (from_here moment prefix) prefix (connected_decides rest empty tunnel prefix at) in
        resumes_by tunnel prefix reply.Dialled more (turn_connected conv client None tunnel prefix moment)
        (ap (λ p. turn_connected conv client p tunnel prefix moment) (sym at.opening.proxy ∙ direct)) to.there to.gives)

    -- or another proxy, which is asked
    asked_for : (tunnel : Tunnel) (prefix : List (Timed Event)) → IsDialled tunnel prefix kept closed →
        IsAskedFor (dialled_more conv client tunnel) (new_link conv client (a_tunnel (dialled_more conv client tunnel)) tunnel.at.dials prefix moment) prefix (counted kept) closed
    asked_for tunnel prefix at = record { opening = counted_opening tunnel prefix at.opening; last = refl; dials = at.dials; client = at.client }

    asked_there : IsAsking (goals.Tunnel (counted kept) closed) kept.dials closed next → (tunnel : Tunnel) (prefix : List (Timed Event)) (proxy : Address) →
        tunnel.proxy ≡ Some proxy → IsDialled tunnel prefix kept closed →
        Resumes (stack_chain conv client) (IsChild conv client) next moment reply.Dialled (commands.Send (Server kept.dials) (connect_text kept.address) ∷ []) (connecting tunnel) prefix
    asked_there asks tunnel prefix proxy through at =
        let goal : Goal = a_tunnel (dialled_more conv client tunnel) in
        let turned : Turn Stage Command = turn_connected conv client (Some proxy) tunnel prefix moment in
        let to = asks_there conv client goal tunnel.at.dials prefix moment (goals.Tunnel (counted kept) closed) kept.dials closed next at.opening.dials at.client asks
        (asked_for tunnel prefix at) in
        resumes_by tunnel prefix reply.Dialled (commands.Send (Server kept.dials) (connect_text kept.address) ∷ []) turned (ap (λ p. turn_connected conv client p tunnel prefix moment) through) to.there
        (λ view.
        ap (λ n. seen_of view (commands.Send (Server n) (connect_text kept.address) ∷ [])) at.opening.dials
        ∙ (ap (λ a. seen_of view (commands.Send (Server tunnel.at.dials) (connect_text a) ∷ [])) at.opening.address
        ∙ behind_sent conv client view turned.owed [] turned.stage prefix (to.gives view)))

    pub resumes_asked : (proxy : Address) → kept.proxy ≡ Some proxy → IsAsking (goals.Tunnel (counted kept) closed) kept.dials closed next →
        ResumesChild conv client (children.Connecting kept closed) next moment reply.Dialled (commands.Send (Server kept.dials) (connect_text kept.address) ∷ [])
    resumes_asked proxy through asks stage prefix there =
        at_dial (λ s. Resumes (stack_chain conv client) (IsChild conv client) next moment reply.Dialled (commands.Send (Server kept.dials) (connect_text kept.address) ∷ []) s prefix) stage prefix there
        (λ tunnel at. asked_there asks tunnel prefix proxy (sym at.opening.proxy ∙ through) at)

    pub resumes_refused : (fault : Fault) (more : List Command) → next ≡ children.Over → more ≡ refuses fault false NoServer closed →
        ResumesChild conv client (children.Connecting kept closed) next moment (reply.Refused fault) more
    resumes_refused fault more same gave stage prefix there =
        at_dial (λ s. Resumes (stack_chain conv client) (IsChild conv client) next moment (reply.Refused fault) more s prefix) stage prefix there
        (λ tunnel at. record {
          ask = commands.Dial tunnel.at.dials (dialled_by tunnel) None;
          asked = refl;
          place = same;
          gives = λ view. ap (seen_of view) (gave ∙ (ap (refuses fault false NoServer) at.client ∙ sym (append-nil (refuses fault false NoServer (client_closed prefix)))));
        })

-- ---- the dial of a flow is answered

module _ (conv : ℕ) (client : Visitor) (boxed : Box HttpConv) (moment : ℕ) (next : Child) where
  -- the dial is the ask there
  asks_dial : (place : Place) (standing : Standing) (prefix : List (Timed Event)) (at : At) (flow : Flow) (sent : Sent) → standing.stage ≡ busy at flow (connection sent) →
      (flows_at conv client place).look standing prefix ≡ Asks (commands.Dial at.dials (dialled_for place flow.request) None)
  asks_dial place standing prefix at flow sent stage =
      let P : stages.Stage → Type 0 = λ s. look_of (terms_of conv client.address place) s (sight_over standing prefix) ≡ Asks (commands.Dial at.dials (dialled_for place flow.request) None) in
      subst P (sym stage) refl

  asked_flow : (place : Place) (standing : Standing) (prefix : List (Timed Event)) (address : Address) → IsInFlows conv client place boxed.value standing prefix →
      InTime standing prefix → IsLed place boxed.value standing address → IsAsking (goals.Flow boxed) boxed.value.stream.at.dials boxed.value.stream.client_closed next →
      Resumes (stack_chain conv client) (IsChild conv client) next moment reply.Dialled
      (commands.Send (Server boxed.value.stream.at.dials) (connect_text address) ∷ []) (http place standing) prefix
  asked_flow place standing prefix address there in_time led asks =
      let server : ℕ = boxed.value.stream.at.dials in
      let from : Dialling = record { at = unparked led.at; used = standing.used.client; flow = led.flow; sent = led.sent } in
      let terms : Terms = terms_of conv client.address place in
      let dialled : server ≡ led.at.dials = server_there terms (ahead_at place) boxed.value standing prefix led.at led.flow led.sent led.stage there in
      let answer : Timed Reply = record { moment = moment; value = reply.Dialled } in
      let turned : Turn Stage Command = asks_proxy conv client (a_flow place from) (address_of led.flow.request) led.at.dials prefix moment in
      let is : (stack_chain conv client).turn (http place standing) prefix answer ≡ turned =
      ap (λ l. turn_http conv client l place standing prefix answer reply.Dialled) led.led in
      let to = asks_there conv client (a_flow place from) led.at.dials prefix moment (goals.Flow boxed) server boxed.value.stream.client_closed next dialled
      (closed_there terms (ahead_at place) boxed.value standing prefix led.at led.flow led.sent led.stage there) asks
      (record {
        standing = standing;
        at = led.at;
        stage = led.stage;
        from_is = refl;
        used_is = refl;
        there = there;
        in_time = in_time;
        dialled = refl;
        waits = led.waits;
      }) in
      let P : Turn Stage Command → Type 0 = λ t. IsChild conv client next ((stack_chain conv client).pass t.stage prefix).stage prefix in
      record {
        ask = commands.Dial led.at.dials (dialled_for place led.flow.request) None;
        asked = asks_dial place standing prefix led.at led.flow led.sent led.stage;
        place = subst P (sym is) to.there;
        gives = λ view.
            ap (λ n. seen_of view (commands.Send (Server n) (connect_text address) ∷ [])) dialled
            ∙ (ap (λ a. seen_of view (commands.Send (Server led.at.dials) (connect_text a) ∷ [])) led.there
            ∙ (behind_sent conv client view turned.owed [] turned.stage prefix (to.gives view)
            ∙ ap (λ t. seen_of view (t.owed ++ owed_over (stack_chain conv client) t.stage prefix)) (sym is)));
      }

  pub resumes_led : (address : Address) → led_to boxed.value.stream.terms.place boxed.value.stream.phase ≡ Some address →
      IsAsking (goals.Flow boxed) boxed.value.stream.at.dials boxed.value.stream.client_closed next →
      ResumesChild conv client (children.Http boxed) next moment reply.Dialled
      (commands.Send (Server boxed.value.stream.at.dials) (connect_text address) ∷ [])
  resumes_led address led asks stage prefix is =
      let kept = is_kept conv client boxed stage prefix is in
      let more : List Command = commands.Send (Server boxed.value.stream.at.dials) (connect_text address) ∷ [] in
      let P : Stage → Type 0 = λ s. Resumes (stack_chain conv client) (IsChild conv client) next moment reply.Dialled more s prefix in
      subst P (sym kept.is)
      (asked_flow kept.place kept.standing prefix address kept.there kept.in_time
      (is_led conv client boxed.value kept.standing prefix address kept.place kept.there led) asks)

-- ---- what the functions give

some_there : (proxy : Option Address) → is_some proxy ≡ true → (there : Address) × (proxy ≡ Some there)
some_there None is = absurd (let no : false ≡ true = is in cc)
some_there (Some there) is = (there, refl)

none_there : (proxy : Option Address) → is_some proxy ≡ false → proxy ≡ None
none_there None is = refl
none_there (Some there) is = absurd (let no : true ≡ false = is in cc)

module _ {E : Type 0} (conv : ℕ) (client : Visitor) (kept : Opening) (closed : Bool) (moment : ℕ) (out longer : List Command) where
  pub told_resumed : (rest : List ℕ) → rest ≡ [] → is_some kept.proxy ≡ false → (result : Result Child E) →
      IfOk result (λ next. Adds (Tells conv client (counted kept) kept.dials rest closed moment next) out longer) →
      IfOk result (λ next. Adds (ResumesChild conv client (children.Connecting kept closed) next moment reply.Dialled) out longer)
  told_resumed rest empty direct (Ok next) tells = record {
    more = tells.more;
    grown = tells.grown;
    holds = resumes_told conv client kept closed moment next rest tells.more empty (none_there kept.proxy direct) tells.holds;
  }
  told_resumed rest empty direct (Err error) tells = tt

  pub asked_resumed : is_some kept.proxy ≡ true → (result : Result Child E) →
      IfOk result (λ next. AsksFor (counted kept) kept.dials closed next out longer) →
      IfOk result (λ next. Adds (ResumesChild conv client (children.Connecting kept closed) next moment reply.Dialled) out longer)
  asked_resumed through (Ok next) asks =
      let (proxy, is) = some_there kept.proxy through in
      record {
        more = commands.Send (Server kept.dials) (connect_text kept.address) ∷ [];
        grown = asks.gives;
        holds = resumes_asked conv client kept closed moment next proxy is asks.next_is;
      }
  asked_resumed through (Err error) asks = tt

pub refused_resumed : (conv : ℕ) (client : Visitor) (kept : Opening) (closed : Bool) (moment : ℕ) (answer : Reply) (fault : Fault) (out longer : List Command) →
    answer ≡ reply.Refused fault → longer ≡ out ++ refuses fault false NoServer closed →
    Adds (ResumesChild conv client (children.Connecting kept closed) children.Over moment answer) out longer
refused_resumed conv client kept closed moment answer fault out longer is gave =
    let P : Reply → Type 0 = λ r. ResumesChild conv client (children.Connecting kept closed) children.Over moment r (refuses fault false NoServer closed) in
    record {
      more = refuses fault false NoServer closed;
      grown = gave;
      holds = subst P (sym is) (resumes_refused conv client kept closed moment children.Over fault (refuses fault false NoServer closed) refl refl);
    }

-- no other reply comes to a dial
turn_other : (conv : ℕ) (client : Visitor) (tunnel : Tunnel) (prefix : List (Timed Event)) (answer : Reply) (moment : ℕ) → (answer ≡ reply.Dialled → ⊥) →
    ((fault : Fault) → answer ≡ reply.Refused fault → ⊥) → turn_dial conv client tunnel prefix answer moment ≡ record { owed = []; stage = over }
turn_other conv client tunnel prefix reply.Dialled moment no_dialled no_refused = absurd (no_dialled refl)
turn_other conv client tunnel prefix (reply.Refused fault) moment no_dialled no_refused = absurd (no_refused fault refl)
turn_other conv client tunnel prefix (reply.Go flow stream) moment no_dialled no_refused = refl
turn_other conv client tunnel prefix (reply.Respond given) moment no_dialled no_refused = refl
turn_other conv client tunnel prefix reply.Kill moment no_dialled no_refused = refl
turn_other conv client tunnel prefix reply.Discard moment no_dialled no_refused = refl

pub other_resumed : (conv : ℕ) (client : Visitor) (kept : Opening) (closed : Bool) (moment : ℕ) (answer : Reply) (out : List Command) →
    (answer ≡ reply.Dialled → ⊥) → ((fault : Fault) → answer ≡ reply.Refused fault → ⊥) →
    Adds (ResumesChild conv client (children.Connecting kept closed) children.Over moment answer) out out
other_resumed conv client kept closed moment answer out no_dialled no_refused = record {
  more = [];
  grown = sym (append-nil out);
  holds = λ stage prefix there.
      at_dial conv client kept closed (λ s. Resumes (stack_chain conv client) (IsChild conv client) children.Over moment answer [] s prefix) stage prefix there
      (λ tunnel at. resumes_by conv client kept closed moment children.Over tunnel prefix answer [] (record { owed = []; stage = over })
      (turn_other conv client tunnel prefix answer moment no_dialled no_refused) refl (λ view. refl));
}

-- the proxy of a flow was asked
pub led_resumed : (conv : ℕ) (client : Visitor) (boxed : Box HttpConv) (moment server : ℕ) (closed : Bool) (address : Address) (asked : UpstreamTunnel) (text : List ℕ) (out longer : List Command) →
    server ≡ boxed.value.stream.at.dials → closed ≡ boxed.value.stream.client_closed → led_to boxed.value.stream.terms.place boxed.value.stream.phase ≡ Some address → HasHeard asked [] →
    text ≡ connect_text address → longer ≡ out ++ commands.Send (Server server) text ∷ [] →
    Adds (ResumesChild conv client (children.Http boxed) (children.Reaching (record { asked = asked; server = server; closed_before = closed; goal = goals.Flow boxed })) moment reply.Dialled) out longer
led_resumed conv client boxed moment server closed address asked text out longer same closed_is led heard is sent =
    let next : Child = children.Reaching (record { asked = asked; server = server; closed_before = closed; goal = goals.Flow boxed }) in
    record {
      more = commands.Send (Server boxed.value.stream.at.dials) (connect_text address) ∷ [];
      grown = sent ∙ (ap (λ t. out ++ commands.Send (Server server) t ∷ []) is ∙ ap (λ n. out ++ commands.Send (Server n) (connect_text address) ∷ []) same);
      holds = resumes_led conv client boxed moment next address led (record {
        asked = asked;
        heard = heard;
        is = ap (λ n. children.Reaching (record { asked = asked; server = n; closed_before = closed; goal = goals.Flow boxed })) same
            ∙ ap (λ c. children.Reaching (record { asked = asked; server = boxed.value.stream.at.dials; closed_before = c; goal = goals.Flow boxed })) closed_is;
      });
    }
