-- What waits for another proxy's answer, over one event more.
use Rattle.std.proofs.Common.{◌≡◌, ℕ, Bool, true, false, List, [], ◌∷◌, ◌++◌, drop, refl, ap, sym, ◌∙◌, subst}
use Rattle.std.specs.Prelude.{◌||◌, IfOk, Result, Ok, Err}
use Rattle.std.specs.Global.{Box}
use Rattle.std.specs.Box.{with_value}
use Rattle.std.proofs.lemmas.List.{append-nil, drop-append-le}
use Rattle.px_event.specs.declared.event.Event.{Event}
use Rattle.px_event.specs.declared.event.Event.TheVariants as events
use Rattle.px_event.specs.declared.side.Side.{Side}
use Rattle.px_event.specs.declared.side.Side.TheVariants.{Client, Server}
use Rattle.px_event.specs.Chain.{Timed}
use Rattle.px_event.specs.Sides.{closes, piece_of}
use Rattle.px_exchange.specs.Places.{terms_of}
use Rattle.px_chain.specs.Streams.{bytes_of, client_closed}
use Rattle.px_chain.proofs.FrontLaws.{bytes_more, bytes_shut, closed_more, closed_stays}
use Rattle.px_http.specs.declared.conversation.HttpConv.{HttpConv}
use Rattle.px_stream.specs.declared.phase.Phase.{Phase}
use Rattle.px_stream.specs.Anywhere.{HearsWaiting}
use Rattle.px_stream.specs.Tells.{IsDialling}
use Rattle.px_stack.specs.declared.child.Goal.{Goal as KeptGoal}
use Rattle.px_stack.specs.declared.child.Goal.TheVariants as goals
use Rattle.px_stack.specs.declared.child.Opening.{Opening}
use Rattle.px_stack.specs.Kept.{goal_left}
use Rattle.px_stack.specs.Reached.{tunnel_behind}
use Rattle.px_stack.specs.Stages.{Link, Tunnel, Visitor, a_flow, a_tunnel}
use Rattle.px_stack.specs.Stands.{IsAskedFor, ahead_at}
use Rattle.px_stack.specs.Steps.{HearsGoal}
use Rattle.px_stack.proofs.RelayLemmas.{longer_bytes}
use Rattle.px_stack.proofs.TimeLemmas.{in_time_more, opens_in_time}

-- ---- a CONNECT of the client's

module _ (tunnel : Tunnel) (link : Link) (prefix : List (Timed Event)) (kept : Opening) (e : Timed Event) where
  asked_more : IsAskedFor tunnel link prefix kept false →
      IsAskedFor tunnel link (prefix ++ e ∷ []) (record kept { rest = kept.rest ++ piece_of Client e.value }) (closes Client e.value)
  asked_more at =
      let open_still : client_closed prefix ≡ false = sym at.client in
      let more = bytes_more Client prefix e open_still open_still in
      let opening = at.opening in
      record {
        opening = record {
          flow = opening.flow;
          dials = opening.dials;
          address = opening.address;
          proxy = opening.proxy;
          rest = ap (λ l. l ++ piece_of Client e.value) opening.rest
              ∙ sym (ap (drop tunnel.used) more ∙ drop-append-le tunnel.used (bytes_of Client prefix) (piece_of Client e.value) opening.used);
          few = opening.few;
          used = longer_bytes tunnel.used _ _ _ more opening.used;
        };
        last = at.last;
        dials = at.dials;
        client = sym (closed_more Client prefix e open_still ∙ ap (λ b. b || closes Client e.value) open_still);
      }

  -- behind its close nothing of it is heard
  asked_past : IsAskedFor tunnel link prefix kept true → IsAskedFor tunnel link (prefix ++ e ∷ []) kept true
  asked_past at =
      let closed : client_closed prefix ≡ true = sym at.client in
      let same : bytes_of Client (prefix ++ e ∷ []) ≡ bytes_of Client prefix = bytes_shut Client prefix e closed in
      let opening = at.opening in
      record {
        opening = record {
          flow = opening.flow;
          dials = opening.dials;
          address = opening.address;
          proxy = opening.proxy;
          rest = opening.rest ∙ ap (drop tunnel.used) (sym same);
          few = opening.few;
          used = longer_bytes tunnel.used _ [] _ (same ∙ sym (append-nil (bytes_of Client prefix))) opening.used;
        };
        last = at.last;
        dials = at.dials;
        client = sym (closed_stays Client prefix e closed);
      }

pub hears_tunnel : (kept : Opening) (closed : Bool) (event : Event) (conv : ℕ) (client : Visitor) (moment : ℕ) →
    HearsGoal conv client (goals.Tunnel kept closed) (tunnel_behind kept closed event) moment event
hears_tunnel kept true event conv client moment (a_tunnel tunnel) link prefix at = asked_past tunnel link prefix kept (record { moment = moment; value = event }) at
hears_tunnel kept false event conv client moment (a_tunnel tunnel) link prefix at = asked_more tunnel link prefix kept (record { moment = moment; value = event }) at
hears_tunnel kept closed event conv client moment (a_flow place from) link prefix at = absurd at

-- what is not the client's brings it nothing
same_rest : (kept : Opening) (piece : List ℕ) → piece ≡ [] → kept ≡ record kept { rest = kept.rest ++ piece }
same_rest kept piece none =
    let P : List ℕ → Type 0 = λ l. kept ≡ record kept { rest = l } in subst P (sym (ap (λ l. kept.rest ++ l) none ∙ append-nil kept.rest)) refl

pub unheard : (kept : Opening) (event : Event) → piece_of Client event ≡ [] → kept ≡ record kept { rest = kept.rest ++ piece_of Client event }
unheard kept event none = same_rest kept (piece_of Client event) none

pub unheard_server : (server : ℕ) (bytes : List ℕ) → piece_of Client (events.Piece (Server server) bytes) ≡ []
unheard_server server bytes = refl

pub unheard_others : (event : Event) → ((from : Side) (bytes : List ℕ) → event ≡ events.Piece from bytes → ⊥) → piece_of Client event ≡ []
unheard_others events.Begun none = refl
unheard_others (events.Piece from bytes) none = absurd (none from bytes refl)
unheard_others (events.Closed from) none = refl
unheard_others (events.Answered ask reply) none = refl

-- ---- a flow

pub hears_flow : (boxed after : Box HttpConv) (event : Event) → HearsWaiting boxed.value.stream after.value.stream event → after.value.stream.phase ≡ boxed.value.stream.phase →
    (conv : ℕ) (client : Visitor) (moment : ℕ) → HearsGoal conv client (goals.Flow boxed) (goals.Flow after) moment event
hears_flow boxed after event hears same conv client moment (a_tunnel tunnel) link prefix led = absurd led
hears_flow boxed after event hears same conv client moment (a_flow place from) link prefix led =
    let e : Timed Event = record { moment = moment; value = event } in
    let P : Phase → Type 0 = IsDialling in
    record {
      standing = led.standing;
      at = led.at;
      stage = led.stage;
      from_is = led.from_is;
      used_is = led.used_is;
      there = hears.hears (terms_of conv client.address place) (ahead_at place) led.standing prefix moment led.at from.flow from.sent led.stage (opens_in_time led.at.parked led.standing prefix led.in_time) led.there;
      in_time = in_time_more led.standing prefix e led.there.is_at.within.opened led.in_time;
      dialled = led.dialled;
      waits = subst P (sym same) led.waits;
    }

-- ---- what the function gives

module _ {E : Type 0} (goal : KeptGoal) (kept : Opening) (closed : Bool) (event : Event) (is : goal ≡ goals.Tunnel kept closed) where
  pub tunnel_result : (result : Result KeptGoal E) → IfOk result (λ next. next ≡ tunnel_behind kept closed event) →
      IfOk result (λ next. (conv : ℕ) (client : Visitor) (moment : ℕ) → HearsGoal conv client goal next moment event)
  tunnel_result (Ok next) grown = λ conv client moment.
      let P : KeptGoal → Type 0 = λ g. HearsGoal conv client g next moment event in
      let Q : KeptGoal → Type 0 = λ g. HearsGoal conv client (goals.Tunnel kept closed) g moment event in
      subst P (sym is) (subst Q (sym grown) (hears_tunnel kept closed event conv client moment))
  tunnel_result (Err error) grown = tt

  pub tunnel_left_alike : (result : Result KeptGoal E) → IfOk result (λ next. next ≡ tunnel_behind kept closed event) → IfOk result (λ next. goal_left next ≡ goal_left goal)
  tunnel_left_alike (Ok next) grown = ap goal_left grown ∙ (behind_left closed ∙ ap goal_left (sym is))
    where
      behind_left : (closed : Bool) → goal_left (tunnel_behind kept closed event) ≡ goal_left (goals.Tunnel kept closed)
      behind_left true = refl
      behind_left false = refl
  tunnel_left_alike (Err error) grown = tt

pub flow_heard : (goal : KeptGoal) (boxed : Box HttpConv) (before after : HttpConv) (event : Event) → goal ≡ goals.Flow boxed → before ≡ boxed.value →
    HearsWaiting before.stream after.stream event → after.stream.phase ≡ before.stream.phase →
    (conv : ℕ) (client : Visitor) (moment : ℕ) → HearsGoal conv client goal (goals.Flow (with_value boxed after)) moment event
flow_heard goal boxed before after event is same hears same_phase conv client moment =
    let P : KeptGoal → Type 0 = λ g. HearsGoal conv client g (goals.Flow (with_value boxed after)) moment event in
    let Q : HttpConv → Type 0 = λ h. HearsWaiting h.stream after.stream event in
    subst P (sym is) (hears_flow boxed (with_value boxed after) event (subst Q same hears) (same_phase ∙ ap (λ h. h.stream.phase) same) conv client moment)
