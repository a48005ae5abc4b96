-- HTTP begins in a tunnel.
use Rattle.std.proofs.Common.{◌≡◌, ℕ, ◌≤◌, ◌+◌, false, List, [], ◌∷◌, ◌++◌, Some, None, refl, ap, sym, ◌∙◌, subst, arith}
use Rattle.std.specs.Prelude.{◌-◌, ◌*◌, if◌then◌else◌, IfOk, Result, Ok, Err}
use Rattle.std.proofs.lemmas.Bool.{eq-eqb}
use Rattle.std.proofs.lemmas.List.{append-nil}
use Rattle.px_message.specs.declared.address.Address.{Address}
use Rattle.px_event.specs.declared.command.Command.{Command}
use Rattle.px_event.specs.declared.event.Event.{Event}
use Rattle.px_event.specs.declared.event.Event.TheVariants as events
use Rattle.px_event.specs.declared.side.Side.TheVariants.{Client, Server}
use Rattle.px_event.specs.Chain.{Timed}
use Rattle.px_event.specs.Layer.{AsksOnly}
use Rattle.px_event.specs.View.{seen_of}
use Rattle.px_event.proofs.Seen.{seen_append}
use Rattle.px_exchange.specs.declared.place.Place.{Place}
use Rattle.px_exchange.specs.declared.place.Place.TheVariants as places
use Rattle.px_exchange.specs.Places.{terms_of}
use Rattle.px_http.specs.declared.conversation.HttpConv.{HttpConv}
use Rattle.px_http.specs.Stands.{awaits}
use Rattle.px_chain.specs.Sights.{sight_over}
use Rattle.px_chain.specs.Stages.{At, idle}
use Rattle.px_chain.specs.Streams.{Since}
use Rattle.px_stream.specs.declared.stream.Stream.{Stream}
use Rattle.px_stream.specs.Anywhere.{Begins, IsCounted, IsNew, MayBegin, Waits}
use Rattle.px_stream.specs.Tells.{left_by as left_in, sequence_left}
use Rattle.px_stack.specs.declared.child.Child.{Child}
use Rattle.px_stack.specs.declared.child.Opening.{Opening}
use Rattle.px_stack.specs.Chain.{inner_place, inner_standing}
use Rattle.px_stack.specs.Kept.{awaited_by, left_by, most_asked, opened_left}
use Rattle.px_stack.specs.Stages.{Link, Tunnel, Visitor}
use Rattle.px_stack.specs.Steps.{Adds, AsksBehind, Follows, FollowsAt, GoesInside, IsFewDials, MayDecide}
use Rattle.px_stack.proofs.RelayLemmas.{given_twice}
use Rattle.px_stack.proofs.TimeLemmas.{open_in_time}

-- ---- HTTP begins in a tunnel

-- where its requests go
abbrev place_in : Opening → Place
place_in kept = places.Fixed kept.address kept.proxy

same_place : (tunnel : Tunnel) (link : Link) (kept : Opening) → kept.address ≡ tunnel.address → kept.proxy ≡ tunnel.proxy → place_in kept ≡ inner_place tunnel link
same_place tunnel link kept at through = ap (λ a. places.Fixed a kept.proxy) at ∙ ap (λ p. places.Fixed tunnel.address p) through

-- and where it begins: the server's side is parked
abbrev new_at : Opening → ℕ → At
new_at kept server = record { flow = kept.flow; dials = kept.dials; parked = Some (record { server = server; address = kept.address }) }

-- with a copy of its address
pub at_copied : (kept : Opening) (server : ℕ) (copy : Address) → copy ≡ kept.address →
    (let at : At = record { flow = kept.flow; dials = kept.dials; parked = Some (record { server = server; address = copy }) } in at) ≡ new_at kept server
at_copied kept server copy is = ap (λ a. let at : At = record { flow = kept.flow; dials = kept.dials; parked = Some (record { server = server; address = a }) } in at) is

at_as : (flow flow' dials dials' server server' : ℕ) (address address' : Address) → flow ≡ flow' → dials ≡ dials' → server ≡ server' → address ≡ address' →
    (let a : At = record { flow = flow; dials = dials; parked = Some (record { server = server; address = address }) } in a)
    ≡ (let b : At = record { flow = flow'; dials = dials'; parked = Some (record { server = server'; address = address' }) } in b)
at_as flow flow' dials dials' server server' address address' p q s t = rw (p, q, s, t) refl

module _ (conv : ℕ) (client : Visitor) (kept : Opening) (server : ℕ) (rest : List ℕ) (moment : ℕ) (before : Stream)
    (terms : before.terms ≡ terms_of conv client.address (place_in kept))
    (there : before.at ≡ new_at kept server) where
  may_begin : (tunnel : Tunnel) (link : Link) (since : Since) (prefix : List (Timed Event)) → MayDecide tunnel link since prefix kept server rest false moment →
      MayBegin (terms_of conv client.address (inner_place tunnel link)) 1 before moment false kept.rest rest (inner_standing tunnel link since) prefix
  may_begin tunnel link since prefix at =
      let opening = at.opened.opening in
      let last = at.opened.last in
      let dials = at.opened.dials in
      let stands : At = record tunnel.at { parked = Some (record { server = link.server; address = tunnel.address }) } in
      let is_there : before.at ≡ stands =
      there ∙ at_as kept.flow tunnel.at.flow kept.dials tunnel.at.dials server link.server kept.address tunnel.address opening.flow opening.dials at.opened.same opening.address in
      let few_dials : tunnel.at.dials ≤ tunnel.at.flow + 1 = omega arith in
      let C : At → Type 0 = IsCounted 1 in
      let W : At → Type 0 = λ a. Waits a.parked (sight_over (inner_standing tunnel link since) prefix) rest in
      record {
        terms = terms ∙ ap (λ p. terms_of conv client.address p) (same_place tunnel link kept opening.address opening.proxy);
        stage = ap idle (sym is_there);
        few = subst C (sym is_there) (record { few = opening.few; dials = few_dials });
        small = omega arith;
        come = sym opening.rest;
        client = at.client;
        waits = subst W (sym is_there) (at.come, at.unshut);
        within = record { since = at.opened.come; opened = at.opened.opened; client = opening.used; server = at.opened.used };
        now = at.now;
      }

  module _ (after : HttpConv) (next : Child) (out mid longer : List Command)
      (begins : Begins before after.stream moment false kept.rest rest out mid) (follows : Adds (Follows client.key moment after next) mid longer) where
    follows_at : (tunnel : Tunnel) (link : Link) (since : Since) (prefix : List (Timed Event)) → MayDecide tunnel link since prefix kept server rest false moment →
        FollowsAt conv client after next follows.more (inner_place tunnel link) (inner_standing tunnel link since) prefix
    follows_at tunnel link since prefix at =
        follows.holds conv client (inner_place tunnel link) (inner_standing tunnel link since) prefix refl at.now
        (begins.begins (terms_of conv client.address (inner_place tunnel link)) 1 (inner_standing tunnel link since) prefix (may_begin tunnel link since prefix at)).is_there
        (λ no_end. open_in_time (inner_standing tunnel link since) prefix at.client)

    goes_inside : GoesInside conv client kept server rest moment next (begins.more ++ follows.more)
    goes_inside tunnel link since prefix at =
        let on = follows_at tunnel link since prefix at in
        let begun = begins.begins (terms_of conv client.address (inner_place tunnel link)) 1 (inner_standing tunnel link since) prefix (may_begin tunnel link since prefix at) in
        record {
          there = on.there;
          gives = λ view. seen_append view begins.more follows.more ∙ (ap (λ l. l ++ seen_of view follows.more) (begun.gives view) ∙ on.gives view);
        }

    begun_inside : Adds (GoesInside conv client kept server rest moment next) out longer
    begun_inside = record { more = begins.more ++ follows.more; grown = given_twice out mid longer _ _ begins.grown follows.grown; holds = goes_inside }

-- somewhere it may be so: each side sent this and nothing else
abbrev some_tunnel : Opening → Tunnel
some_tunnel kept = record { at = record { flow = kept.flow; dials = kept.dials; parked = None }; used = 0; address = kept.address; proxy = kept.proxy }

abbrev some_link : ℕ → Link
some_link server = record { server = server; used = 0; opened = 0 }

abbrev some_prefix : List ℕ → ℕ → List ℕ → ℕ → List (Timed Event)
some_prefix sent server rest moment =
    record { moment = moment; value = events.Piece (Server server) rest } ∷ record { moment = moment; value = events.Piece Client sent } ∷ []

some_decides : (kept : Opening) (server : ℕ) (rest : List ℕ) (moment : ℕ) → IsFewDials kept server →
    MayDecide (some_tunnel kept) (some_link server) (record { events = 0; moment = moment }) (some_prefix kept.rest server rest moment) kept server rest false moment
some_decides kept server rest moment few = record {
  opened = record {
    opening = record { flow = refl; dials = refl; address = refl; proxy = refl; rest = sym (append-nil kept.rest); few = few.few; used = omega arith };
    same = refl;
    last = few.last;
    dials = few.dials;
    opened = omega arith;
    come = omega arith;
    used = omega arith;
  };
  come = ap (λ b. (if b then rest else []) ++ []) (eq-eqb server server refl) ∙ append-nil rest;
  unshut = refl;
  client = refl;
  now = refl;
}

idle_left : (flow : ℕ) → 5 * (1000000 - flow) + 5 + most_asked ≤ opened_left
idle_left flow = omega arith

-- ---- what the function gives

module _ (conv : ℕ) (client : Visitor) (kept : Opening) (server : ℕ) (rest : List ℕ) (moment : ℕ) (key : List ℕ) (keyed : client.key ≡ key) (before : Stream)
    (terms : before.terms ≡ terms_of conv client.address (place_in kept))
    (there : before.at ≡ new_at kept server)
    (after : HttpConv) (out mid longer : List Command) (begins : Begins before after.stream moment false kept.rest rest out mid) where
  -- whose key is the client's
  keyed_follows : (next : Child) → Adds (Follows key moment after next) mid longer → Adds (Follows client.key moment after next) mid longer
  keyed_follows next follows = let P : List ℕ → Type 0 = λ k. Adds (Follows k moment after next) mid longer in subst P (sym keyed) follows

  pub inside_begun : {E : Type 0} (result : Result Child E) → IfOk result (λ next. Adds (Follows key moment after next) mid longer) →
      IfOk result (λ next. Adds (GoesInside conv client kept server rest moment next) out longer)
  inside_begun (Ok next) follows = begun_inside conv client kept server rest moment before terms there after next out mid longer begins (keyed_follows next follows)
  inside_begun (Err error) follows = tt

  pub inside_asks : {E : Type 0} → AsksOnly (awaits after) out mid → (result : Result Child E) → IfOk result (λ next. AsksBehind after next mid longer) →
      IfOk result (λ next. AsksOnly (awaited_by next) out longer)
  inside_asks asks (Ok next) behind = behind out asks
  inside_asks asks (Err error) behind = tt

  inside_left : IsNew before → IsFewDials kept server → sequence_left after.stream ≤ sequence_left before → (next : Child) →
      Adds (Follows client.key moment after next) mid longer → left_by next ≤ opened_left
  inside_left new few less next follows =
      let left = (follows_at conv client kept server rest moment before terms there after next out mid longer begins follows
      (some_tunnel kept) (some_link server) (record { events = 0; moment = moment }) (some_prefix kept.rest server rest moment) (some_decides kept server rest moment few)).left in
      let whole : sequence_left before ≡ 5 * (1000000 - before.at.flow) + 5 = ap (left_in before.at) new.phase in
      let bound = idle_left before.at.flow in
      omega arith

  pub inside_bound : {E : Type 0} → IsNew before → IsFewDials kept server → sequence_left after.stream ≤ sequence_left before → (result : Result Child E) →
      IfOk result (λ next. Adds (Follows key moment after next) mid longer) → IfOk result (λ next. left_by next ≤ opened_left)
  inside_bound new few less (Ok next) follows = inside_left new few less next (keyed_follows next follows)
  inside_bound new few less (Err error) follows = tt
