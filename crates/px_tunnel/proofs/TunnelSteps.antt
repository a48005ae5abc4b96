-- One event of a raw tunnel, where it is, and the law of the layer's call.
use Rattle.std.proofs.Common.{◌≡◌, ℕ, ◌==◌, Bool, true, false, if◌then◌else◌, List, [], ◌∷◌, ◌++◌, map, Option, Some, None, refl, ap, sym, ◌∙◌, subst}
use Rattle.std.specs.List.{flat_map}
use Rattle.std.proofs.lemmas.Grind.{flat_map-append}
use Rattle.std.proofs.lemmas.List.{append-nil}
use Rattle.px_event.specs.declared.event.Event.{Event}
use Rattle.px_event.specs.declared.event.Event.TheVariants as events
use Rattle.px_event.specs.declared.event.Rests.{Rests}
use Rattle.px_event.specs.declared.command.Command.{Command}
use Rattle.px_event.specs.declared.command.Command.TheVariants as commands
use Rattle.px_event.specs.declared.side.Side.{Side}
use Rattle.px_event.specs.declared.side.Side.TheVariants.{Client, Server}
use Rattle.px_event.specs.Chain.{Timed}
use Rattle.px_event.specs.Layer.{Took, Goes, AsksOnly, asks_in}
use Rattle.px_event.specs.View.{View, byte, line, questions, course, flows, order, seen_of}
use Rattle.px_event.proofs.Seen.{seen_append}
use Rattle.px_event.proofs.Steps.{Takes, onward, past_end, take_goes}
use Rattle.px_tunnel.specs.declared.tunnel.RawTunnel.{RawTunnel}
use Rattle.px_event.specs.Trace.{is_same_side}
use Rattle.px_tunnel.specs.Tunnel.{brought, across, left_behind, left_alone, alone, both_ways, sent_over, Stage, going, over, pass_by, tunnel_chain}
use Rattle.px_tunnel.specs.Stands.{sent, sent_to, closing, given_for, is_alone, left_over, IsAt, TunnelStands}
use Rattle.px_tunnel.specs.Laws.{left_append, alone_append, owed_more, settles}

-- ---- what is given for an event is what it brings both ways, and the close

both_by : (server : ℕ) (side : Side) (bytes : List ℕ) → sent_to (across server side) bytes
    ≡ sent (Server server) (if is_same_side side Client then bytes else []) ++ (sent Client (if is_same_side side (Server server) then bytes else []) ++ [])
both_by server Client bytes = sym (append-nil (sent (Server server) bytes))
both_by server (Server number) bytes = by (number == server)
  where
    by : (same : Bool) → sent_to (if same then Some Client else None) bytes ≡ sent Client (if same then bytes else []) ++ []
    by true = sym (append-nil (sent Client bytes))
    by false = refl

given_is : (server : ℕ) (rests : Rests) (event : Event) → given_for server rests event
    ≡ sent (Server server) (brought Client rests event) ++ (sent Client (brought (Server server) rests event) ++ closing (left_alone server event))
given_is server rests events.Begun = ap (λ l. sent (Server server) rests.client ++ l) (sym (append-nil (sent Client rests.server)))
given_is server rests (events.Piece side bytes) = both_by server side bytes
given_is server rests (events.Closed side) = refl
given_is server rests (events.Answered ask reply) = refl

-- a view has nothing of an empty text
seen_empty : (view : View) (side : Side) → seen_of view (commands.Send side [] ∷ []) ≡ []
seen_empty (line other) side = by (is_same_side side other)
  where
    by : (same : Bool) → (if same then map byte [] else []) ++ [] ≡ []
    by true = refl
    by false = refl
seen_empty questions side = refl
seen_empty course side = refl
seen_empty flows side = refl
seen_empty order Client = refl
seen_empty order (Server number) = refl

seen_sent : (view : View) (side : Side) (text : List ℕ) → seen_of view (sent side text) ≡ seen_of view (commands.Send side text ∷ [])
seen_sent view side [] = sym (seen_empty view side)
seen_sent view side (first ∷ text) = refl

pub seen_given : (view : View) (server : ℕ) (rests : Rests) (event : Event) → seen_of view (given_for server rests event)
    ≡ seen_of view (both_ways server (brought Client rests event) (brought (Server server) rests event)) ++ seen_of view (closing (left_alone server event))
seen_given view server rests event =
    let up : List ℕ = brought Client rests event in
    let down : List ℕ = brought (Server server) rests event in
    let close : List Command = closing (left_alone server event) in
    let send_up : List Command = commands.Send (Server server) up ∷ [] in
    let send_down : List Command = commands.Send Client down ∷ [] in
    ap (seen_of view) (given_is server rests event)
    ∙ (seen_append view (sent (Server server) up) (sent Client down ++ close)
    ∙ (ap (λ l. l ++ seen_of view (sent Client down ++ close)) (seen_sent view (Server server) up)
    ∙ (ap (λ l. seen_of view send_up ++ l)
    (seen_append view (sent Client down) close ∙ (ap (λ l. l ++ seen_of view close) (seen_sent view Client down) ∙ sym (seen_append view send_down close)))
    ∙ (sym (seen_append view send_up (send_down ++ close)) ∙ seen_append view (both_ways server up down) close))))

-- ---- one event

module _ (server : ℕ) (rests : Rests) (before after : RawTunnel) (moment : ℕ) (event : Event) (more : List Command) where
  -- where it is over nothing follows
  over_takes : after ≡ before → more ≡ [] → before.closed ≡ true → (stage : Stage) (prefix : List (Timed Event)) → IsAt server rests before stage prefix →
      Takes (tunnel_chain server rests) (IsAt server rests) after moment event more stage prefix
  over_takes same none closed going prefix at = absurd (let no : false ≡ true = sym at.goes_on ∙ closed in cc)
  over_takes same none closed over prefix at =
      let P : RawTunnel → Type 0 = λ s. IsAt server rests s over prefix in
      past_end [] refl (subst P (sym same) at) (λ view. ap (seen_of view) none)

  -- where it goes on it is one event further
  placed_by : (prefix : List (Timed Event)) (texts : List Command) (side : Option Side) → alone server prefix ≡ side → after.server ≡ server → after.rests ≡ left_over rests prefix →
      after.closed ≡ is_alone side → IsAt server rests after (pass_by side texts).stage prefix
  placed_by prefix texts None is same keeps closed = record { same_server = same; keeps = keeps; goes_on = closed; none_alone = is }
  placed_by prefix texts (Some side) is same keeps closed = record { same_server = same; keeps = keeps; ended = closed }

  going_takes : before.closed ≡ false → after.server ≡ before.server → after.rests ≡ left_behind before.rests event → after.closed ≡ is_alone (left_alone before.server event) →
      more ≡ given_for before.server before.rests event → (stage : Stage) (prefix : List (Timed Event)) → IsAt server rests before stage prefix →
      Takes (tunnel_chain server rests) (IsAt server rests) after moment event more stage prefix
  going_takes live same keeps closed gives over prefix at = absurd (let no : true ≡ false = sym at.ended ∙ live in cc)
  going_takes live same keeps closed gives going prefix at =
      let e : Timed Event = record { moment = moment; value = event } in
      let longer : List (Timed Event) = prefix ++ e ∷ [] in
      let here : alone server longer ≡ left_alone server event = alone_append server prefix e at.none_alone in
      let kept : after.rests ≡ left_over rests longer = keeps ∙ (ap (λ r. left_behind r event) at.keeps ∙ sym (left_append rests prefix e)) in
      let ends : after.closed ≡ is_alone (alone server longer) = closed ∙ (ap (λ s. is_alone (left_alone s event)) at.same_server ∙ ap is_alone (sym here)) in
      let given : more ≡ given_for server (left_over rests prefix) event =
      gives ∙ (ap (λ s. given_for s before.rests event) at.same_server ∙ ap (λ r. given_for server r event) at.keeps) in
      onward refl (placed_by longer (sent_over server rests longer) (alone server longer) refl (same ∙ at.same_server) kept ends)
      (λ view.
      ap (λ l. seen_of view (sent_over server rests prefix) ++ l)
      (ap (seen_of view) given
      ∙ (seen_given view server (left_over rests prefix) event
      ∙ ap (λ o. seen_of view (both_ways server (brought Client (left_over rests prefix) event) (brought (Server server) (left_over rests prefix) event)) ++ seen_of view (closing o)) (sym here)))
      ∙ sym (owed_more view server rests prefix e))

-- ---- the law of the layer's call

take_law : (before after : RawTunnel) (moment : ℕ) (event : Event) (more out new_out : List Command) → new_out ≡ out ++ more →
    ((server : ℕ) (rests : Rests) (stage : Stage) (prefix : List (Timed Event)) → IsAt server rests before stage prefix →
    Takes (tunnel_chain server rests) (IsAt server rests) after moment event more stage prefix) →
    Goes TunnelStands before after (Took moment event) out new_out
take_law before after moment event more out new_out grown takes =
    take_goes (λ made. tunnel_chain made.server made.rests) (λ made. settles made.server made.rests) (λ made. going) (λ made. IsAt made.server made.rests)
    before after moment event more out new_out grown (λ made stage prefix _ at. takes made.server made.rests stage prefix at)

pub heard_over : (state : RawTunnel) (moment : ℕ) (event : Event) (out : List Command) → state.closed ≡ true → Goes TunnelStands state state (Took moment event) out out
heard_over state moment event out closed =
    take_law state state moment event [] out out (sym (append-nil out)) (λ server rests. over_takes server rests state state moment event [] refl refl closed)

pub heard_going : (before after : RawTunnel) (moment : ℕ) (event : Event) (out new_out : List Command) → before.closed ≡ false →
    after.server ≡ before.server → after.rests ≡ left_behind before.rests event → after.closed ≡ is_alone (left_alone before.server event) →
    new_out ≡ out ++ given_for before.server before.rests event → Goes TunnelStands before after (Took moment event) out new_out
heard_going before after moment event out new_out live same keeps closed gives =
    let more : List Command = given_for before.server before.rests event in
    take_law before after moment event more out new_out gives (λ server rests. going_takes server rests before after moment event more live same keeps closed refl)

-- ---- it asks nothing

sent_asks : (side : Side) (text : List ℕ) → flat_map asks_in (sent side text) ≡ []
sent_asks side [] = refl
sent_asks side (first ∷ text) = refl

given_asks : (server : ℕ) (rests : Rests) (event : Event) → flat_map asks_in (given_for server rests event) ≡ []
given_asks server rests events.Begun =
    flat_map-append asks_in (sent (Server server) rests.client) (sent Client rests.server)
    ∙ (ap (λ l. l ++ flat_map asks_in (sent Client rests.server)) (sent_asks (Server server) rests.client) ∙ sent_asks Client rests.server)
given_asks server rests (events.Piece side bytes) = by (across server side)
  where
    by : (to : Option Side) → flat_map asks_in (sent_to to bytes) ≡ []
    by (Some to) = sent_asks to bytes
    by None = refl
given_asks server rests (events.Closed side) = by (across server side)
  where
    by : (to : Option Side) → flat_map asks_in (closing to) ≡ []
    by (Some to) = refl
    by None = refl
given_asks server rests (events.Answered ask reply) = refl

pub asks_none : (server : ℕ) (rests : Rests) (event : Event) (out new_out : List Command) → new_out ≡ out ++ given_for server rests event → AsksOnly None out new_out
asks_none server rests event out new_out gives = (given_for server rests event, gives, given_asks server rests event)
