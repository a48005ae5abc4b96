-- A tunnel that is not read: what it gives is what its stage owes, where it begins and over one event more.
use Rattle.std.proofs.Common.{◌≡◌, ℕ, ◌≤◌, ◌==◌, Bool, true, false, List, [], ◌∷◌, ◌++◌, length, drop, Option, Some, None, refl, ap, sym, ◌∙◌, subst, arith, append_assoc, length-append}
use Rattle.std.specs.Prelude.{◌||◌, if◌then◌else◌, IfOk, OnOk, Result, Ok, Err}
use Rattle.std.proofs.lemmas.List.{append-nil, drop-append-le}
use Rattle.px_message.specs.declared.flow.Flow.{Flow}
use Rattle.px_event.specs.declared.command.Command.{Command}
use Rattle.px_event.specs.declared.event.Event.{Event}
use Rattle.px_event.specs.declared.event.Event.TheVariants as events
use Rattle.px_event.specs.declared.event.Rests.{Rests}
use Rattle.px_event.specs.declared.side.Side.{Side}
use Rattle.px_event.specs.declared.side.Side.TheVariants.{Client, Server}
use Rattle.px_event.specs.Chain.{Timed, Look, NotYet, Ends, found}
use Rattle.px_event.specs.View.{View, seen_of}
use Rattle.px_event.proofs.Seen.{seen_append}
use Rattle.px_event.proofs.Steps.{onward}
use Rattle.px_event.specs.Sides.{closes, piece_of}
use Rattle.px_chain.specs.Streams.{bytes_of, client_closed, is_closed}
use Rattle.px_chain.proofs.FrontLaws.{bytes_more, closed_more, open_behind}
use Rattle.px_tunnel.specs.declared.tunnel.RawTunnel.{RawTunnel}
use Rattle.px_tunnel.specs.Tunnel.{both_ways, brought, left_alone, left_behind, no_rests}
use Rattle.px_tunnel.specs.Stands.{closing, given_for, has_ended, is_alone, rests_of, server_of}
use Rattle.px_tunnel.specs.Laws.{both_append}
use Rattle.px_tunnel.proofs.TunnelSteps.{seen_given}
use Rattle.px_stack.specs.declared.child.Child.{Child}
use Rattle.px_stack.specs.declared.child.Child.TheVariants as children
use Rattle.px_stack.specs.declared.child.Relay.{Relay}
use Rattle.px_stack.specs.declared.closing.Sides.{Sides}
use Rattle.px_stack.specs.Chain.{closes_all, finished_flow, is_shut, raw_look, text_down, text_on, text_up, tunnel_found}
use Rattle.px_stack.specs.Stages.{Ends as TunnelEnds, Link, Visitor, raw}
use Rattle.px_stack.specs.Stands.{IsChild, IsRaw, IsRelay, KeepsBy}
use Rattle.px_stack.specs.Steps.{Adds, GoesOn, MayRelay, RelayTakes, Relays, sides_by, sides_closed}

-- ---- what an event brings, once nothing is left

none_left : (event : Event) → left_behind no_rests event ≡ no_rests
none_left events.Begun = refl
none_left (events.Piece side bytes) = refl
none_left (events.Closed side) = refl
none_left (events.Answered ask reply) = refl

client_brings : (event : Event) → brought Client no_rests event ≡ piece_of Client event
client_brings events.Begun = refl
client_brings (events.Piece side bytes) = refl
client_brings (events.Closed side) = refl
client_brings (events.Answered ask reply) = refl

server_brings : (server : ℕ) (event : Event) → brought (Server server) no_rests event ≡ piece_of (Server server) event
server_brings server events.Begun = refl
server_brings server (events.Piece side bytes) = refl
server_brings server (events.Closed side) = refl
server_brings server (events.Answered ask reply) = refl

-- a close brings no bytes
pub none_brought : (side other : Side) (event : Event) → (closes other event || closes Client event) ≡ true → piece_of side event ≡ []
none_brought side other events.Begun is = refl
none_brought side other (events.Piece from bytes) is = absurd (let no : false ≡ true = is in cc)
none_brought side other (events.Closed from) is = refl
none_brought side other (events.Answered ask reply) is = refl

-- an event that closes neither side leaves none alone
none_alone : (server : ℕ) (event : Event) → closes (Server server) event ≡ false → closes Client event ≡ false → left_alone server event ≡ None
none_alone server events.Begun unshut unclosed = refl
none_alone server (events.Piece side bytes) unshut unclosed = refl
none_alone server (events.Closed Client) unshut unclosed = absurd (let no : true ≡ false = unclosed in cc)
none_alone server (events.Closed (Server number)) unshut unclosed = by (number == server) unshut
  where
    by : (same : Bool) → same ≡ false → (if same then Some Client else None) ≡ None
    by true is = absurd (let no : true ≡ false = is in cc)
    by false is = refl
none_alone server (events.Answered ask reply) unshut unclosed = refl

-- ---- which sides an event closes

pub record NoneCloses (server : ℕ) (event : Event) : Type 0 where
  pub unshut : closes (Server server) event ≡ false
  pub unclosed : closes Client event ≡ false

pub none_closes : (server : ℕ) (event : Event) → sides_closed server event ≡ None → NoneCloses server event
none_closes server event is = by (closes (Server server) event) (closes Client event) refl refl is
  where
    by : (shut closed : Bool) → closes (Server server) event ≡ shut → closes Client event ≡ closed → sides_by server shut closed ≡ None → NoneCloses server event
    by true true s c none = absurd (let no : Some (let sides : Sides = record { server = server; shut = true; closed = true } in sides) ≡ None = none in cc)
    by true false s c none = absurd (let no : Some (let sides : Sides = record { server = server; shut = true; closed = false } in sides) ≡ None = none in cc)
    by false true s c none = absurd (let no : Some (let sides : Sides = record { server = server; shut = false; closed = true } in sides) ≡ None = none in cc)
    by false false s c none = record { unshut = s; unclosed = c }

pub record SomeClose (server : ℕ) (shut closed : Bool) (sides : Sides) : Type 0 where
  pub same : sides.server ≡ server
  pub shut_is : sides.shut ≡ shut
  pub closed_is : sides.closed ≡ closed
  pub ends : (shut || closed) ≡ true

same_sides : (a b : Sides) → Some a ≡ Some b → b ≡ a
same_sides a b is = cc

pub some_close : (server : ℕ) (shut closed : Bool) (sides : Sides) → sides_by server shut closed ≡ Some sides → SomeClose server shut closed sides
some_close server false false sides is = absurd (let no : None ≡ Some sides = is in cc)
some_close server false true sides is = let same = same_sides (record { server = server; shut = false; closed = true }) sides is in
    record { same = ap (λ s. s.server) same; shut_is = ap (λ s. s.shut) same; closed_is = ap (λ s. s.closed) same; ends = refl }
some_close server true closed sides is = let same = same_sides (record { server = server; shut = true; closed = closed }) sides is in
    record { same = ap (λ s. s.server) same; shut_is = ap (λ s. s.shut) same; closed_is = ap (λ s. s.closed) same; ends = refl }

-- ---- one event more, where no side has closed

pub longer_bytes : (used : ℕ) (bytes piece longer : List ℕ) → longer ≡ bytes ++ piece → used ≤ length bytes → used ≤ length longer
longer_bytes used bytes piece longer is within = let size = length-append bytes piece in let same : length longer ≡ length (bytes ++ piece) = ap length is in omega arith

pub opened_more : (opened : ℕ) (prefix : List (Timed Event)) (e : Timed Event) → opened ≤ length prefix → opened ≤ length (prefix ++ e ∷ [])
opened_more opened prefix e within = let size = length-append prefix (e ∷ []) in omega arith

module _ (link : Link) (prefix : List (Timed Event)) (e : Timed Event) (open_client : client_closed prefix ≡ false) (unshut : is_shut link prefix ≡ false)
    (opened : link.opened ≤ length prefix) where
  pub client_more : bytes_of Client (prefix ++ e ∷ []) ≡ bytes_of Client prefix ++ piece_of Client e.value
  client_more = bytes_more Client prefix e open_client open_client

  pub client_closes : client_closed (prefix ++ e ∷ []) ≡ closes Client e.value
  client_closes = closed_more Client prefix e open_client ∙ ap (λ b. b || closes Client e.value) open_client

  pub later : drop link.opened (prefix ++ e ∷ []) ≡ drop link.opened prefix ++ e ∷ []
  later = drop-append-le link.opened prefix (e ∷ []) opened

  pub server_more : bytes_of (Server link.server) (drop link.opened (prefix ++ e ∷ []))
      ≡ bytes_of (Server link.server) (drop link.opened prefix) ++ piece_of (Server link.server) e.value
  server_more = ap (λ l. bytes_of (Server link.server) l) later
      ∙ bytes_more (Server link.server) (drop link.opened prefix) e (open_behind link.opened prefix open_client) unshut

  pub server_closes : is_shut link (prefix ++ e ∷ []) ≡ closes (Server link.server) e.value
  server_closes = ap (λ l. is_closed (Server link.server) l) later
      ∙ (closed_more (Server link.server) (drop link.opened prefix) e (open_behind link.opened prefix open_client)
      ∙ ap (λ b. b || closes (Server link.server) e.value) unshut)

  pub up_more : (used : ℕ) → used ≤ length (bytes_of Client prefix) →
      drop used (bytes_of Client (prefix ++ e ∷ [])) ≡ drop used (bytes_of Client prefix) ++ piece_of Client e.value
  up_more used within = ap (λ l. drop used l) client_more ∙ drop-append-le used (bytes_of Client prefix) (piece_of Client e.value) within

  pub down_more : link.used ≤ length (bytes_of (Server link.server) (drop link.opened prefix)) →
      text_on link (prefix ++ e ∷ []) ≡ text_on link prefix ++ piece_of (Server link.server) e.value
  down_more within = ap (λ l. drop link.used l) server_more
      ∙ drop-append-le link.used (bytes_of (Server link.server) (drop link.opened prefix)) (piece_of (Server link.server) e.value) within

-- ---- where it ends, and where it goes on

found_by : (ends : Bool) (owed : List Command) → ends ≡ true → tunnel_found ends owed ≡ Ends owed
found_by true owed is = refl
found_by false owed is = absurd (let no : false ≡ true = is in cc)

not_found_by : (ends : Bool) (owed : List Command) → ends ≡ false → tunnel_found ends owed ≡ NotYet
not_found_by true owed is = absurd (let no : true ≡ false = is in cc)
not_found_by false owed is = refl

-- what is closed and finished at the end
abbrev ending : Option Flow → ℕ → Bool → Bool → List Command
ending flow server shut closed = finished_flow flow ++ closes_all server shut closed

either : (shut closed : Bool) → (shut || closed) ≡ true → (closed || shut) ≡ true
either true true is = refl
either true false is = refl
either false true is = refl
either false false is = is

neither : (shut closed : Bool) → (shut || closed) ≡ false → (closed || shut) ≡ false
neither true closed is = absurd (let no : true ≡ false = is in cc)
neither false true is = absurd (let no : true ≡ false = is in cc)
neither false false is = refl

module _ (ends : TunnelEnds) (prefix : List (Timed Event)) (shut closed : Bool) (shut_is : is_shut ends.link prefix ≡ shut) (closed_is : client_closed prefix ≡ closed) where
  ends_by : (client_closed prefix || is_shut ends.link prefix) ≡ (closed || shut)
  ends_by = ap (λ b. b || is_shut ends.link prefix) closed_is ∙ ap (λ b. closed || b) shut_is

  ends_with : (flow : Option Flow) → flow ≡ ends.flow → (shut || closed) ≡ true → raw_look ends prefix ≡ Ends (ending flow ends.link.server shut closed)
  ends_with flow same_flow is =
      let server = ends.link.server in
      found_by (client_closed prefix || is_shut ends.link prefix) _ (ends_by ∙ either shut closed is)
      ∙ ap Ends
      (ap (λ f. ending f server (is_shut ends.link prefix) (client_closed prefix)) (sym same_flow)
      ∙ (ap (λ b. ending flow server b (client_closed prefix)) shut_is ∙ ap (λ b. ending flow server shut b) closed_is))

  goes_on_with : (shut || closed) ≡ false → raw_look ends prefix ≡ NotYet
  goes_on_with is = not_found_by (client_closed prefix || is_shut ends.link prefix) _ (ends_by ∙ neither shut closed is)

pub shut_ends : (sides : Sides) → sides.shut ≡ true → (sides.shut || sides.closed) ≡ true
shut_ends sides is = ap (λ b. b || sides.closed) is

pub closed_ends : (sides : Sides) → sides.closed ≡ true → (sides.shut || sides.closed) ≡ true
closed_ends sides is = ap (λ b. sides.shut || b) is ∙ by sides.shut
  where
    by : (shut : Bool) → (shut || true) ≡ true
    by true = refl
    by false = refl

-- where it has not ended no side has closed
record IsOpen (ends : TunnelEnds) (prefix : List (Timed Event)) : Type 0 where
  client : client_closed prefix ≡ false
  server : is_shut ends.link prefix ≡ false

is_open : (ends : TunnelEnds) (prefix : List (Timed Event)) → raw_look ends prefix ≡ NotYet → IsOpen ends prefix
is_open ends prefix is = by (client_closed prefix) (is_shut ends.link prefix) _ refl refl is
  where
    by : (closed shut : Bool) (owed : List Command) → client_closed prefix ≡ closed → is_shut ends.link prefix ≡ shut → tunnel_found (closed || shut) owed ≡ NotYet → IsOpen ends prefix
    by true shut owed c s none = absurd (let no : Ends owed ≡ NotYet = none in cc)
    by false true owed c s none = absurd (let no : Ends owed ≡ NotYet = none in cc)
    by false false owed c s none = record { client = c; server = s }

both_as : (server server' : ℕ) (up up' down down' : List ℕ) → server ≡ server' → up ≡ up' → down ≡ down' → both_ways server up down ≡ both_ways server' up' down'
both_as server server' up up' down down' a b c = rw (a, b, c) refl

begun_seen : (view : View) (server : ℕ) (rests : Rests) → seen_of view (given_for server rests events.Begun) ≡ seen_of view (both_ways server rests.client rests.server)
begun_seen view server rests = seen_given view server rests events.Begun ∙ append-nil (seen_of view (both_ways server rests.client rests.server))

module _ (conv : ℕ) (client : Visitor) (ends : TunnelEnds) (prefix : List (Timed Event)) (next : Child) where
  -- what is kept at an end, and where it goes on
  kept_over : (owed : List Command) → raw_look ends prefix ≡ Ends owed → next ≡ children.Over → IsChild conv client next (raw ends) prefix
  kept_over owed look is = let P : Look Command → Type 0 = λ l. KeepsBy l conv client next (raw ends) prefix in subst P (sym look) is

  kept_raw : raw_look ends prefix ≡ NotYet → IsRaw ends prefix next → IsChild conv client next (raw ends) prefix
  kept_raw look is = let P : Look Command → Type 0 = λ l. KeepsBy l conv client next (raw ends) prefix in subst P (sym look) is

-- ---- where it begins

module _ (sides : Sides) (rests : Rests) (flow : Option Flow) (next : Child) where
  begun_both : (ends : TunnelEnds) (prefix : List (Timed Event)) → MayRelay ends prefix sides rests flow →
      both_ways sides.server rests.client rests.server ≡ both_ways ends.link.server (text_up ends prefix) (text_down ends prefix)
  begun_both ends prefix may = both_as _ _ _ _ _ _ may.server may.up may.down

  ends_here : (ends : TunnelEnds) (prefix : List (Timed Event)) → MayRelay ends prefix sides rests flow → (sides.shut || sides.closed) ≡ true →
      raw_look ends prefix ≡ Ends (ending flow sides.server sides.shut sides.closed)
  ends_here ends prefix may is =
      ends_with ends prefix sides.shut sides.closed (sym may.shut) (sym may.closed) flow may.same_flow is
      ∙ ap (λ n. Ends (ending flow n sides.shut sides.closed)) (sym may.server)

  over_relays : next ≡ children.Over → (sides.shut || sides.closed) ≡ true →
      Relays sides rests flow next (given_for sides.server rests events.Begun ++ ending flow sides.server sides.shut sides.closed)
  over_relays over is conv client ends prefix may =
      let tail : List Command = ending flow sides.server sides.shut sides.closed in
      let both : List Command = both_ways ends.link.server (text_up ends prefix) (text_down ends prefix) in
      let look = ends_here ends prefix may is in
      record {
        there = kept_over conv client ends prefix next tail look over;
        gives = λ view. seen_append view (given_for sides.server rests events.Begun) tail
            ∙ (ap (λ l. l ++ seen_of view tail) (begun_seen view sides.server rests ∙ ap (λ l. seen_of view l) (begun_both ends prefix may))
            ∙ (sym (seen_append view both tail) ∙ ap (λ l. seen_of view (both ++ found l)) (sym look)));
      }

  begun_relay : (tunnel : RawTunnel) (ends : TunnelEnds) (prefix : List (Timed Event)) → MayRelay ends prefix sides rests flow →
      server_of tunnel ≡ sides.server → rests_of tunnel ≡ no_rests → has_ended tunnel ≡ false →
      IsRelay ends prefix (record { tunnel = tunnel; server = sides.server; flow = flow })
  begun_relay tunnel ends prefix may server left goes_on = record {
    same = may.server;
    server = server ∙ may.server;
    rests = left;
    goes_on = goes_on;
    flow = may.same_flow;
    used = may.used;
    side_used = may.side_used;
    opened = may.opened;
  }

  raw_relays : (tunnel : RawTunnel) → next ≡ children.Raw (record { tunnel = tunnel; server = sides.server; flow = flow }) →
      server_of tunnel ≡ sides.server → rests_of tunnel ≡ no_rests → has_ended tunnel ≡ false → (sides.shut || sides.closed) ≡ false →
      Relays sides rests flow next (given_for sides.server rests events.Begun)
  raw_relays tunnel same server left goes_on is conv client ends prefix may =
      let both : List Command = both_ways ends.link.server (text_up ends prefix) (text_down ends prefix) in
      let look = goes_on_with ends prefix sides.shut sides.closed (sym may.shut) (sym may.closed) is in
      record {
        there = kept_raw conv client ends prefix next look (record {
          kept = record { tunnel = tunnel; server = sides.server; flow = flow };
          is = same;
          relay = begun_relay tunnel ends prefix may server left goes_on;
        });
        gives = λ view. begun_seen view sides.server rests
            ∙ (ap (λ l. seen_of view l) (begun_both ends prefix may ∙ sym (append-nil both)) ∙ ap (λ l. seen_of view (both ++ found l)) (sym look));
      }

-- ---- one event

pub nothing_more : (text piece : List ℕ) → piece ≡ [] → text ++ piece ≡ text
nothing_more text piece is = ap (λ l. text ++ l) is ∙ append-nil text

module _ (kept : Relay) (next : Child) (event : Event) where
  -- at a close
  over_takes : (sides : Sides) → next ≡ children.Over → sides_closed kept.server event ≡ Some sides →
      RelayTakes kept next event (ending kept.flow sides.server sides.shut sides.closed)
  over_takes sides over closes_some conv client moment ends prefix look there =
      let e : Timed Event = record { moment = moment; value = event } in
      let longer : List (Timed Event) = prefix ++ e ∷ [] in
      let open_still = is_open ends prefix look in
      let some = some_close kept.server (closes (Server kept.server) event) (closes Client event) sides closes_some in
      let shut_now : is_shut ends.link longer ≡ sides.shut =
      server_closes ends.link prefix e open_still.client open_still.server there.opened ∙ (ap (λ n. closes (Server n) event) (sym there.same) ∙ sym some.shut_is) in
      let closed_now : client_closed longer ≡ sides.closed = client_closes ends.link prefix e open_still.client open_still.server there.opened ∙ sym some.closed_is in
      let ended : (sides.shut || sides.closed) ≡ true = ap (λ b. b || sides.closed) some.shut_is ∙ (ap (λ b. closes (Server kept.server) event || b) some.closed_is ∙ some.ends) in
      let more : List Command = ending kept.flow sides.server sides.shut sides.closed in
      let ends_now : raw_look ends longer ≡ Ends more =
      ends_with ends longer sides.shut sides.closed shut_now closed_now kept.flow there.flow ended
      ∙ ap (λ n. Ends (ending kept.flow n sides.shut sides.closed)) (sym (some.same ∙ there.same)) in
      let up : text_up ends longer ≡ text_up ends prefix =
      up_more ends.link prefix e open_still.client open_still.server there.opened ends.used there.used ∙ nothing_more (text_up ends prefix) _ (none_brought Client (Server kept.server) event some.ends) in
      let down : text_down ends longer ≡ text_down ends prefix =
      down_more ends.link prefix e open_still.client open_still.server there.opened there.side_used
      ∙ nothing_more (text_down ends prefix) _ (none_brought (Server ends.link.server) (Server kept.server) event some.ends) in
      let both : List Command = both_ways ends.link.server (text_up ends prefix) (text_down ends prefix) in
      onward look (kept_over conv client ends longer next more ends_now over)
      (λ view. sym (seen_append view both more)
      ∙ (ap (λ l. seen_of view (l ++ more)) (both_as _ _ _ _ _ _ refl (sym up) (sym down))
      ∙ ap (λ l. seen_of view (both_ways ends.link.server (text_up ends longer) (text_down ends longer) ++ found l)) (sym ends_now)))

  -- where no side closes
  goes_relay : (tunnel : RawTunnel) (ends : TunnelEnds) (prefix : List (Timed Event)) (moment : ℕ) → IsOpen ends prefix → IsRelay ends prefix kept →
      server_of tunnel ≡ server_of kept.tunnel → rests_of tunnel ≡ left_behind (rests_of kept.tunnel) event → has_ended tunnel ≡ false →
      IsRelay ends (prefix ++ record { moment = moment; value = event } ∷ []) (record kept { tunnel = tunnel })
  goes_relay tunnel ends prefix moment open_still there server left goes_on =
      let e : Timed Event = record { moment = moment; value = event } in
      record {
        same = there.same;
        server = server ∙ there.server;
        rests = left ∙ (ap (λ r. left_behind r event) there.rests ∙ none_left event);
        goes_on = goes_on;
        flow = there.flow;
        used = longer_bytes ends.used _ _ _ (client_more ends.link prefix e open_still.client open_still.server there.opened) there.used;
        side_used = longer_bytes ends.link.used _ _ _ (server_more ends.link prefix e open_still.client open_still.server there.opened) there.side_used;
        opened = opened_more ends.link.opened prefix e there.opened;
      }

  goes_takes : (tunnel : RawTunnel) → next ≡ children.Raw (record kept { tunnel = tunnel }) → sides_closed kept.server event ≡ None →
      server_of tunnel ≡ server_of kept.tunnel → rests_of tunnel ≡ left_behind (rests_of kept.tunnel) event →
      has_ended tunnel ≡ is_alone (left_alone (server_of kept.tunnel) event) →
      RelayTakes kept next event (given_for (server_of kept.tunnel) (rests_of kept.tunnel) event)
  goes_takes tunnel same closes_none server left goes_on conv client moment ends prefix look there =
      let e : Timed Event = record { moment = moment; value = event } in
      let longer : List (Timed Event) = prefix ++ e ∷ [] in
      let open_still = is_open ends prefix look in
      let none = none_closes kept.server event closes_none in
      let number : ℕ = ends.link.server in
      let unshut : closes (Server number) event ≡ false = ap (λ n. closes (Server n) event) (sym there.same) ∙ none.unshut in
      let alone : left_alone number event ≡ None = none_alone number event unshut none.unclosed in
      let going : has_ended tunnel ≡ false = goes_on ∙ (ap (λ n. is_alone (left_alone n event)) there.server ∙ ap is_alone alone) in
      let look_now : raw_look ends longer ≡ NotYet =
      goes_on_with ends longer false false (server_closes ends.link prefix e open_still.client open_still.server there.opened ∙ unshut)
      (client_closes ends.link prefix e open_still.client open_still.server there.opened ∙ none.unclosed) refl in
      let up_piece : List ℕ = piece_of Client event in
      let down_piece : List ℕ = piece_of (Server number) event in
      let up = up_more ends.link prefix e open_still.client open_still.server there.opened ends.used there.used in
      let down = down_more ends.link prefix e open_still.client open_still.server there.opened there.side_used in
      let both : List Command = both_ways number (text_up ends longer) (text_down ends longer) in
      let given : given_for (server_of kept.tunnel) (rests_of kept.tunnel) event ≡ given_for number no_rests event =
      ap (λ n. given_for n (rests_of kept.tunnel) event) there.server ∙ ap (λ r. given_for number r event) there.rests in
      let brings : both_ways number (brought Client no_rests event) (brought (Server number) no_rests event) ≡ both_ways number up_piece down_piece =
      both_as _ _ _ _ _ _ refl (client_brings event) (server_brings number event) in
      onward look
      (kept_raw conv client ends longer next look_now (record {
        kept = record kept { tunnel = tunnel };
        is = same;
        relay = goes_relay tunnel ends prefix moment open_still there server left going;
      }))
      (λ view.
      ap (λ l. seen_of view (both_ways number (text_up ends prefix) (text_down ends prefix)) ++ l)
      (ap (λ l. seen_of view l) given
      ∙ (seen_given view number no_rests event
      ∙ (ap (λ side. seen_of view (both_ways number (brought Client no_rests event) (brought (Server number) no_rests event)) ++ seen_of view (closing side)) alone
      ∙ (append-nil _ ∙ ap (λ l. seen_of view l) brings))))
      ∙ (sym (both_append view number (text_up ends prefix) up_piece (text_down ends prefix) down_piece)
      ∙ (ap (λ l. seen_of view l) (both_as _ _ _ _ _ _ refl (sym up) (sym down) ∙ sym (append-nil both))
      ∙ ap (λ l. seen_of view (both ++ found l)) (sym look_now))))

-- ---- the calls

-- what was given at once, as one text
pub given_twice : (out mid longer given more : List Command) → mid ≡ out ++ given → longer ≡ mid ++ more → longer ≡ out ++ (given ++ more)
given_twice out mid longer given more first second = second ∙ (ap (λ l. l ++ more) first ∙ append_assoc out given more)

given_as : (server : ℕ) (rests : Rests) (tunnel : RawTunnel) → server_of tunnel ≡ server → rests_of tunnel ≡ rests →
    given_for (server_of tunnel) (rests_of tunnel) events.Begun ≡ given_for server rests events.Begun
given_as server rests tunnel same left = ap (λ n. given_for n (rests_of tunnel) events.Begun) same ∙ ap (λ r. given_for server r events.Begun) left

-- one that begins: the tunnel as it was made, and what was given when it began
module _ (sides : Sides) (rests : Rests) (flow : Option Flow) (made : RawTunnel) (out mid : List Command)
    (made_server : server_of made ≡ sides.server) (made_rests : rests_of made ≡ rests) (given : mid ≡ out ++ given_for (server_of made) (rests_of made) events.Begun) where
  begun : mid ≡ out ++ given_for sides.server rests events.Begun
  begun = given ∙ ap (λ l. out ++ l) (given_as sides.server rests made made_server made_rests)

  -- where a side has closed
  pub begins_over : {E : Type 0} (longer : List Command) (result : Result Child E) → IfOk result (λ next. next ≡ children.Over) →
      OnOk result (longer ≡ mid ++ (finished_flow flow ++ closes_all sides.server sides.shut sides.closed)) →
      (sides.shut || sides.closed) ≡ true → IfOk result (λ next. Adds (Relays sides rests flow next) out longer)
  begins_over longer (Ok next) over more is = record {
    more = given_for sides.server rests events.Begun ++ ending flow sides.server sides.shut sides.closed;
    grown = given_twice out mid longer _ _ begun more;
    holds = over_relays sides rests flow next over is;
  }
  begins_over longer (Err error) over more is = tt

  -- where none has
  pub begins_raw : (tunnel : RawTunnel) → server_of tunnel ≡ server_of made → rests_of tunnel ≡ no_rests → has_ended tunnel ≡ false →
      sides.shut ≡ false → sides.closed ≡ false →
      Adds (Relays sides rests flow (children.Raw (record { tunnel = tunnel; server = sides.server; flow = flow }))) out mid
  begins_raw tunnel server left goes_on unshut unclosed = record {
    more = given_for sides.server rests events.Begun;
    grown = begun;
    holds = raw_relays sides rests flow _ tunnel refl (server ∙ made_server) left goes_on (ap (λ b. b || sides.closed) unshut ∙ unclosed);
  }

-- one that takes an event
module _ {E : Type 0} (kept : Relay) (event : Event) (out longer : List Command) where
  pub takes_over : (sides : Sides) → sides_closed kept.server event ≡ Some sides → (result : Result Child E) → IfOk result (λ next. next ≡ children.Over) →
      OnOk result (longer ≡ out ++ (finished_flow kept.flow ++ closes_all sides.server sides.shut sides.closed)) →
      IfOk result (λ next. Adds (RelayTakes kept next event) out longer)
  takes_over sides closes_some (Ok next) over more = record {
    more = ending kept.flow sides.server sides.shut sides.closed;
    grown = more;
    holds = over_takes kept next event sides over closes_some;
  }
  takes_over sides closes_some (Err error) over more = tt

  pub takes_on : sides_closed kept.server event ≡ None → (result : Result Child E) → IfOk result (λ next. GoesOn kept event next out longer) →
      IfOk result (λ next. Adds (RelayTakes kept next event) out longer)
  takes_on closes_none (Ok next) on = record {
    more = given_for (server_of kept.tunnel) (rests_of kept.tunnel) event;
    grown = on.gives;
    holds = goes_takes kept next event on.tunnel on.is closes_none on.server on.rests on.closed;
  }
  takes_on closes_none (Err error) on = tt
