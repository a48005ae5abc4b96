-- A tunnel of which nothing is decided: what its first bytes decide, and what it does over one event more.
use Rattle.std.proofs.Common.{◌≡◌, ℕ, ◌==◌, Bool, true, false, List, [], ◌∷◌, ◌++◌, length, Option, Some, None, refl, ap, sym, ◌∙◌, subst, arith, length-append}
use Rattle.std.specs.Prelude.{◌||◌, ◌&&◌, not, if◌then◌else◌, IfOk, Result, Ok, Err}
use Rattle.std.proofs.lemmas.Bool.{eq-eqb, eqb-true, ne_eqb}
use Rattle.std.proofs.lemmas.List.{append-nil}
use Rattle.px_event.specs.declared.ask.Ask.{Ask}
use Rattle.px_event.specs.declared.command.Command.{Command}
use Rattle.px_event.specs.declared.event.Event.{Event}
use Rattle.px_event.specs.declared.event.Event.TheVariants as events
use Rattle.px_event.specs.declared.side.Side.{Side}
use Rattle.px_event.specs.declared.side.Side.TheVariants.{Client, Server}
use Rattle.px_event.specs.Chain.{Timed, Look, NotYet, Asks, Ends, found}
use Rattle.px_event.specs.Laws.{owed_here}
use Rattle.px_event.specs.Layer.{AsksOnly}
use Rattle.px_event.specs.View.{View, seen_of}
use Rattle.px_event.proofs.Steps.{Takes, onward}
use Rattle.px_chain.specs.Keeping.{unspoilt_at}
use Rattle.px_chain.specs.Sights.{Standing, request_in, sight_over}
use Rattle.px_chain.specs.Stages.{place_of}
use Rattle.px_event.specs.Sides.{closes, piece_of}
use Rattle.px_chain.specs.Streams.{Since, client_closed}
use Rattle.px_chain.proofs.FrontLaws.{now_more}
use Rattle.px_stack.specs.declared.child.Child.{Child}
use Rattle.px_stack.specs.declared.child.Child.TheVariants as children
use Rattle.px_stack.specs.declared.child.Opening.{Opening}
use Rattle.px_stack.specs.declared.closing.Sides.{Sides}
use Rattle.px_stack.specs.Chain.{begun, closes_all, flows_at, follows, goes_by, hands_over, has_answered, inner_place, inner_standing, is_empty, is_shut, opening_look, opening_text, or_stays, owed_at_handing, stack_chain, text_on, tunnel_ends, tunnel_for, tunnel_found}
use Rattle.px_stack.specs.Decides.{Decision, decided, decided_by, has_method, is_http, is_raw, may_have_method, still}
use Rattle.px_stack.specs.Kept.{awaited_by}
use Rattle.px_stack.specs.Laws.{never_connects}
use Rattle.px_stack.specs.Stages.{Link, Stage, Tunnel, Visitor, asking, connecting, http, over, raw, reaching, socket, undecided}
use Rattle.px_stack.specs.Stands.{IsChild, IsOpened, IsUndecided, Keeps, KeepsBy}
use Rattle.px_stack.specs.Steps.{Adds, Arrives, Decides, GoesInside, MayDecide, MayRelay, Relays, TakesChild, sides_closed}
use Rattle.px_stack.proofs.DecideLemmas.{answer_decides}
use Rattle.px_stack.proofs.RelayLemmas.{client_closes, client_more, down_more, longer_bytes, none_brought, none_closes, nothing_more, server_closes, server_more, some_close, up_more}

-- ---- what is decided

-- by the two tests of the client's bytes
by_tests : (text : List ℕ) (answered method may : Bool) → has_method text ≡ method → may_have_method text ≡ may → decided text answered ≡ decided_by method (not answered && may)
by_tests text answered method may is_method is_may =
    ap (λ b. decided_by b (not answered && may_have_method text)) is_method ∙ ap (λ b. decided_by method (not answered && b)) is_may

-- and by what has come of the server
come_decides : (tunnel : Tunnel) (link : Link) (prefix : List (Timed Event)) (rest : List ℕ) → text_on link prefix ≡ rest →
    decided (opening_text tunnel prefix) (has_answered link prefix) ≡ decided (opening_text tunnel prefix) (not (is_empty rest))
come_decides tunnel link prefix rest come = ap (λ l. decided (opening_text tunnel prefix) (not (is_empty l))) come

-- ---- what is found

pub opening_as : (link : Link) (prefix : List (Timed Event)) (shut closed : Bool) → is_shut link prefix ≡ shut → client_closed prefix ≡ closed →
    opening_look link prefix ≡ tunnel_found (closed || shut) (closes_all link.server shut closed)
opening_as link prefix shut closed shut_is closed_is =
    ap (λ b. tunnel_found (client_closed prefix || b) (closes_all link.server b (client_closed prefix))) shut_is
    ∙ ap (λ b. tunnel_found (b || shut) (closes_all link.server shut b)) closed_is

some_ends : (shut closed : Bool) (owed : List Command) → (shut || closed) ≡ true → tunnel_found (closed || shut) owed ≡ Ends owed
some_ends true true owed is = refl
some_ends true false owed is = refl
some_ends false true owed is = refl
some_ends false false owed is = absurd (let no : false ≡ true = is in cc)

-- ---- where it arrives

module _ (tunnel : Tunnel) (link : Link) (since : Since) (prefix : List (Timed Event)) where
  -- where the chain goes from there: by what is decided, or nowhere
  goes_open : (decision : Decision) → client_closed prefix ≡ false → decided (opening_text tunnel prefix) (has_answered link prefix) ≡ decision →
      goes_by (client_closed prefix) tunnel link since prefix ≡ follows decision tunnel link since
  goes_open decision open_still is = ap (λ b. goes_by b tunnel link since prefix) open_still ∙ ap (λ d. follows d tunnel link since) is

  goes_still : (closed : Bool) → decided (opening_text tunnel prefix) (has_answered link prefix) ≡ still → goes_by closed tunnel link since prefix ≡ undecided tunnel link since
  goes_still true is = refl
  goes_still false is = ap (λ d. follows d tunnel link since) is

  pub goes_closed : client_closed prefix ≡ true → goes_by (client_closed prefix) tunnel link since prefix ≡ undecided tunnel link since
  goes_closed closed = ap (λ b. goes_by b tunnel link since prefix) closed

module _ (conv : ℕ) (client : Visitor) (next : Child) (more : List Command) (tunnel : Tunnel) (link : Link) (since : Since) (prefix : List (Timed Event)) where
  arrives_at : (stage : Stage) → goes_by (client_closed prefix) tunnel link since prefix ≡ stage → IsChild conv client next stage prefix →
      ((view : View) → seen_of view more ≡ seen_of view (owed_here (stack_chain conv client) stage prefix)) → Arrives conv client next more (undecided tunnel link since) prefix
  arrives_at stage is there gives = record {
    there = let P : Stage → Type 0 = λ s. IsChild conv client next s prefix in subst P (sym is) there;
    gives = λ view. gives view ∙ ap (λ s. seen_of view (owed_here (stack_chain conv client) s prefix)) (sym is);
  }

  arrives_raw : client_closed prefix ≡ false → decided (opening_text tunnel prefix) (has_answered link prefix) ≡ is_raw →
      Arrives conv client next more (raw (tunnel_ends tunnel link)) prefix → Arrives conv client next more (undecided tunnel link since) prefix
  arrives_raw open_still is to = arrives_at (raw (tunnel_ends tunnel link)) (goes_open tunnel link since prefix is_raw open_still is) to.there to.gives

  -- HTTP that begins in a tunnel does not hand over
  none_handed : hands_over (inner_place tunnel link) (inner_standing tunnel link since) prefix ≡ None
  none_handed =
      let inner : Standing = inner_standing tunnel link since in
      ap (tunnel_for (inner_place tunnel link) tunnel.used (unspoilt_at (place_of inner.stage) (sight_over inner prefix)))
      (never_connects tunnel.address tunnel.proxy (request_in (sight_over (inner_standing tunnel link since) prefix)))

  arrives_http : client_closed prefix ≡ false → decided (opening_text tunnel prefix) (has_answered link prefix) ≡ is_http →
      Arrives conv client next more (http (inner_place tunnel link) (inner_standing tunnel link since)) prefix →
      Arrives conv client next more (undecided tunnel link since) prefix
  arrives_http open_still is to =
      let there : Stage = http (inner_place tunnel link) (inner_standing tunnel link since) in
      let waits : List Command = (flows_at conv client (inner_place tunnel link)).so_far (inner_standing tunnel link since) prefix in
      let P : Option Stage → Type 0 = λ o. IsChild conv client next (begun conv client (or_stays there o) prefix).stage prefix in
      arrives_at there (goes_open tunnel link since prefix is_http open_still is) (subst P none_handed to.there)
      (λ view. to.gives view
      ∙ ap (λ o. seen_of view ((owed_at_handing o waits ++ (begun conv client (or_stays there o) prefix).owed)
      ++ owed_here (stack_chain conv client) (begun conv client (or_stays there o) prefix).stage prefix)) none_handed)

  -- nothing is decided yet, or it ends before that
  arrives_open : (kept : Opening) (server : ℕ) → client_closed prefix ≡ false → decided (opening_text tunnel prefix) (has_answered link prefix) ≡ still →
      opening_look link prefix ≡ NotYet → IsOpened tunnel link since prefix kept server → next ≡ children.Undecided kept server → more ≡ [] →
      Arrives conv client next more (undecided tunnel link since) prefix
  arrives_open kept server open_still is look opened same none =
      let P : Look Command → Type 0 = λ l. KeepsBy l conv client next (undecided tunnel link since) prefix in
      let there : IsUndecided tunnel link since prefix next = record { kept = kept; server = server; is = same; opened = opened; decides = is } in
      arrives_at (undecided tunnel link since) (goes_open tunnel link since prefix still open_still is) (subst P (sym look) there)
      (λ view. ap (seen_of view) none ∙ ap (λ l. seen_of view (found l)) (sym look))

  pub arrives_over : goes_by (client_closed prefix) tunnel link since prefix ≡ undecided tunnel link since → opening_look link prefix ≡ Ends more →
      next ≡ children.Over → Arrives conv client next more (undecided tunnel link since) prefix
  arrives_over goes look same =
      let P : Look Command → Type 0 = λ l. KeepsBy l conv client next (undecided tunnel link since) prefix in
      arrives_at (undecided tunnel link since) goes (subst P (sym look) same) (λ view. ap (λ l. seen_of view (found l)) (sym look))

-- ---- the bytes decide

-- a byte of the server does, or the client's bytes can't become HTTP any more
pub raw_by_rest : (none may : Bool) → none ≡ false → (not (not none) && may) ≡ false
raw_by_rest none may is = ap (λ b. not (not b) && may) is

pub raw_by_text : (none may : Bool) → may ≡ false → (not (not none) && may) ≡ false
raw_by_text none may is = ap (λ b. not (not none) && b) is ∙ by none
  where
    by : (none : Bool) → (not (not none) && false) ≡ false
    by true = refl
    by false = refl

module _ (conv : ℕ) (client : Visitor) (kept : Opening) (server : ℕ) (rest : List ℕ) (moment : ℕ) (next : Child) (more : List Command) where
  decides_as : (tunnel : Tunnel) (link : Link) (since : Since) (prefix : List (Timed Event)) → MayDecide tunnel link since prefix kept server rest false moment →
      (method may : Bool) → has_method kept.rest ≡ method → may_have_method kept.rest ≡ may →
      decided (opening_text tunnel prefix) (has_answered link prefix) ≡ decided_by method (not (not (is_empty rest)) && may)
  decides_as tunnel link since prefix at method may is_method is_may =
      come_decides tunnel link prefix rest at.come
      ∙ (ap (λ t. decided t (not (is_empty rest))) (sym at.opened.opening.rest) ∙ by_tests kept.rest (not (is_empty rest)) method may is_method is_may)

  pub decides_http : has_method kept.rest ≡ true → GoesInside conv client kept server rest moment next more → Decides conv client kept server rest moment next more
  decides_http method inside tunnel link since prefix at =
      arrives_http conv client next more tunnel link since prefix at.client
      (decides_as tunnel link since prefix at true (may_have_method kept.rest) method refl) (inside tunnel link since prefix at)

  pub decides_raw : has_method kept.rest ≡ false → (not (not (is_empty rest)) && may_have_method kept.rest) ≡ false →
      Relays (record { server = server; shut = false; closed = false }) (record { client = kept.rest; server = rest }) None next more →
      Decides conv client kept server rest moment next more
  decides_raw method none relays tunnel link since prefix at =
      arrives_raw conv client next more tunnel link since prefix at.client
      (decides_as tunnel link since prefix at false (may_have_method kept.rest) method refl ∙ ap (λ b. decided_by false b) none)
      (relays conv client (tunnel_ends tunnel link) prefix (record {
        server = at.opened.same;
        shut = sym at.unshut;
        closed = sym at.client;
        up = at.opened.opening.rest;
        down = sym at.come;
        same_flow = refl;
        used = at.opened.opening.used;
        side_used = at.opened.used;
        opened = at.opened.opened;
      }))

  pub decides_still : has_method kept.rest ≡ false → may_have_method kept.rest ≡ true → is_empty rest ≡ true → next ≡ children.Undecided kept server → more ≡ [] →
      Decides conv client kept server rest moment next more
  decides_still method may silent same none tunnel link since prefix at =
      arrives_open conv client next more tunnel link since prefix kept server at.client
      (decides_as tunnel link since prefix at false true method may ∙ ap (λ b. decided_by false (not (not b) && true)) silent)
      (opening_as link prefix false false at.unshut at.client) at.opened same none

-- ---- where nothing is decided

record IsStill (tunnel : Tunnel) (link : Link) (since : Since) (prefix : List (Timed Event)) (kept : Opening) (server : ℕ) : Type 0 where
  look : opening_look link prefix ≡ NotYet
  opened : IsOpened tunnel link since prefix kept server
  client : client_closed prefix ≡ false
  unshut : is_shut link prefix ≡ false
  silent : text_on link prefix ≡ []
  method : has_method (opening_text tunnel prefix) ≡ false
  may : may_have_method (opening_text tunnel prefix) ≡ true

both_open : (closed shut : Bool) (owed : List Command) → tunnel_found (closed || shut) owed ≡ NotYet → (closed ≡ false) × (shut ≡ false)
both_open true shut owed is = absurd (let no : Ends owed ≡ NotYet = is in cc)
both_open false true owed is = absurd (let no : Ends owed ≡ NotYet = is in cc)
both_open false false owed is = (refl, refl)

by_still : (method may : Bool) → decided_by method may ≡ still → (method ≡ false) × (may ≡ true)
by_still true may is = absurd (let no : is_http ≡ still = is in cc)
by_still false true is = (refl, refl)
by_still false false is = absurd (let no : is_raw ≡ still = is in cc)

none_long : (bytes : List ℕ) → length bytes ≡ 0 → bytes ≡ []
none_long [] is = refl
none_long (x ∷ bytes) is = absurd (omega (arith, is))

no_bytes : (text bytes : List ℕ) → decided text (not (length bytes == 0)) ≡ still → bytes ≡ []
no_bytes text bytes is = by (length bytes == 0) refl
  where
    by : (none : Bool) → (length bytes == 0) ≡ none → bytes ≡ []
    by true same = none_long bytes (eqb-true (length bytes) 0 same)
    by false same = absurd (answer_decides text (sym (ap (λ b. decided text (not b)) same) ∙ is))

same_kept : (a b : Opening) (n m : ℕ) → children.Undecided a n ≡ children.Undecided b m → b ≡ a
same_kept a b n m is = cc

same_server : (a b : Opening) (n m : ℕ) → children.Undecided a n ≡ children.Undecided b m → m ≡ n
same_server a b n m is = cc

is_still : (tunnel : Tunnel) (link : Link) (since : Since) (prefix : List (Timed Event)) (kept : Opening) (server : ℕ) →
    opening_look link prefix ≡ NotYet → IsUndecided tunnel link since prefix (children.Undecided kept server) → IsStill tunnel link since prefix kept server
is_still tunnel link since prefix kept server look there =
    let sides = both_open (client_closed prefix) (is_shut link prefix) _ look in
    let silent = no_bytes (opening_text tunnel prefix) (text_on link prefix) there.decides in
    let tests = by_still (has_method (opening_text tunnel prefix)) (may_have_method (opening_text tunnel prefix))
    (sym (come_decides tunnel link prefix [] silent) ∙ there.decides) in
    let P : Opening → Type 0 = λ k. IsOpened tunnel link since prefix k there.server in
    let Q : ℕ → Type 0 = λ n. IsOpened tunnel link since prefix kept n in
    record {
      look = look;
      opened = subst Q (same_server kept there.kept server there.server there.is) (subst P (same_kept kept there.kept server there.server there.is) there.opened);
      client = sides.0;
      unshut = sides.1;
      silent = silent;
      method = tests.0;
      may = tests.1;
    }

never_asks : (ended : Bool) (owed : List Command) (ask : Command) → tunnel_found ended owed ≡ Asks ask → ⊥
never_asks true owed ask is = let no : Ends owed ≡ Asks ask = is in cc
never_asks false owed ask is = let no : NotYet ≡ Asks ask = is in cc

module _ (conv : ℕ) (client : Visitor) (kept : Opening) (server : ℕ) where
  -- what it keeps is kept at no other stage
  none_kept : (stage : Stage) (prefix : List (Timed Event)) → (Keeps conv client (children.Undecided kept server) stage prefix → ⊥) →
      (look : Look Command) → KeepsBy look conv client (children.Undecided kept server) stage prefix → ⊥
  none_kept stage prefix none NotYet there = none there
  none_kept stage prefix none (Asks ask) there = none there
  none_kept stage prefix none (Ends owed) there = let no : children.Undecided kept server ≡ children.Over = there in cc

  undecided_there : (P : Stage → Type 0) (tunnel : Tunnel) (link : Link) (since : Since) (prefix : List (Timed Event)) →
      (IsStill tunnel link since prefix kept server → P (undecided tunnel link since)) → (look : Look Command) → opening_look link prefix ≡ look →
      KeepsBy look conv client (children.Undecided kept server) (undecided tunnel link since) prefix → P (undecided tunnel link since)
  undecided_there P tunnel link since prefix goes NotYet is there = goes (is_still tunnel link since prefix kept server is there)
  undecided_there P tunnel link since prefix goes (Asks ask) is there =
      absurd (never_asks (client_closed prefix || is_shut link prefix) _ ask is)
  undecided_there P tunnel link since prefix goes (Ends owed) is there = absurd (let no : children.Undecided kept server ≡ children.Over = there in cc)

  at_still : (P : Stage → Type 0) (stage : Stage) (prefix : List (Timed Event)) → IsChild conv client (children.Undecided kept server) stage prefix →
      ((tunnel : Tunnel) (link : Link) (since : Since) → IsStill tunnel link since prefix kept server → P (undecided tunnel link since)) → P stage
  at_still P (asking front) prefix there goes =
      absurd (none_kept (asking front) prefix (λ at. let no : children.Undecided kept server ≡ children.Asking at.layer = at.is in cc) _ there)
  at_still P (http place standing) prefix there goes =
      absurd (none_kept (http place standing) prefix (λ at. let no : children.Undecided kept server ≡ children.Http at.flows = at.is in cc) _ there)
  at_still P (connecting tunnel) prefix there goes =
      absurd (none_kept (connecting tunnel) prefix (λ at. let no : children.Undecided kept server ≡ children.Connecting at.kept at.closed = at.is in cc) ((stack_chain conv client).look (connecting tunnel) prefix) there)
  at_still P (reaching goal link since) prefix there goes =
      absurd (none_kept (reaching goal link since) prefix (λ at. let no : children.Undecided kept server ≡ children.Reaching at.kept = at.is in cc) NotYet there)
  at_still P (undecided tunnel link since) prefix there goes = undecided_there P tunnel link since prefix (goes tunnel link since) (opening_look link prefix) refl there
  at_still P (raw ends) prefix there goes =
      absurd (none_kept (raw ends) prefix (λ at. let no : children.Undecided kept server ≡ children.Raw at.kept = at.is in cc) _ there)
  at_still P (socket ends flow frames) prefix there goes =
      absurd (none_kept (socket ends flow frames) prefix (λ at. let no : children.Undecided kept server ≡ children.Socket at.layer = at.is in cc) _ there)
  at_still P over prefix there goes = absurd (none_kept over prefix (λ at. at) (Ends []) there)

-- ---- one event more

module _ (tunnel : Tunnel) (link : Link) (since : Since) (prefix : List (Timed Event)) (kept : Opening) (server : ℕ)
    (at : IsStill tunnel link since prefix kept server) (moment : ℕ) (event : Event) where
  abbrev now : Timed Event
  now = record { moment = moment; value = event }

  abbrev longer : List (Timed Event)
  longer = prefix ++ now ∷ []

  text_more : opening_text tunnel longer ≡ opening_text tunnel prefix ++ piece_of Client event
  text_more = up_more link prefix now at.client at.unshut at.opened.opened tunnel.used at.opened.opening.used

  text_same : piece_of Client event ≡ [] → opening_text tunnel longer ≡ opening_text tunnel prefix
  text_same none = text_more ∙ nothing_more (opening_text tunnel prefix) (piece_of Client event) none

  heard_more : text_on link longer ≡ piece_of (Server link.server) event
  heard_more = down_more link prefix now at.client at.unshut at.opened.opened at.opened.used ∙ ap (λ l. l ++ piece_of (Server link.server) event) at.silent

  shut_more : is_shut link longer ≡ closes (Server link.server) event
  shut_more = server_closes link prefix now at.client at.unshut at.opened.opened

  closed_more : client_closed longer ≡ closes Client event
  closed_more = client_closes link prefix now at.client at.unshut at.opened.opened

  opened_more : (bytes : List ℕ) → bytes ≡ piece_of Client event → IsOpened tunnel link since longer (record kept { rest = kept.rest ++ bytes }) server
  opened_more bytes is =
      let size = length-append prefix (now ∷ []) in
      let opened = at.opened.opened in
      let come = at.opened.come in
      record {
        opening = record {
          flow = at.opened.opening.flow;
          dials = at.opened.opening.dials;
          address = at.opened.opening.address;
          proxy = at.opened.opening.proxy;
          rest = ap (λ l. kept.rest ++ l) is ∙ (ap (λ l. l ++ piece_of Client event) at.opened.opening.rest ∙ sym text_more);
          few = at.opened.opening.few;
          used = longer_bytes tunnel.used _ _ _ (client_more link prefix now at.client at.unshut at.opened.opened) at.opened.opening.used;
        };
        same = at.opened.same;
        last = at.opened.last;
        dials = at.opened.dials;
        opened = omega arith;
        come = omega arith;
        used = longer_bytes link.used _ _ _ (server_more link prefix now at.client at.unshut at.opened.opened) at.opened.used;
      }

  opened_same : piece_of Client event ≡ [] → IsOpened tunnel link since longer kept server
  opened_same none =
      let P : List ℕ → Type 0 = λ l. IsOpened tunnel link since longer (record kept { rest = l }) server in
      subst P (append-nil kept.rest) (opened_more [] (sym none))

  -- where neither side brings bytes nothing is decided
  still_more : piece_of Client event ≡ [] → piece_of (Server link.server) event ≡ [] → decided (opening_text tunnel longer) (has_answered link longer) ≡ still
  still_more none_up none_down =
      come_decides tunnel link longer [] (heard_more ∙ none_down)
      ∙ (ap (λ t. decided t false) (text_same none_up) ∙ by_tests (opening_text tunnel prefix) false false true at.method at.may)

  -- a byte of the server decides
  raw_more : piece_of Client event ≡ [] → (bytes : List ℕ) → piece_of (Server link.server) event ≡ bytes → (length bytes == 0) ≡ false →
      decided (opening_text tunnel longer) (has_answered link longer) ≡ is_raw
  raw_more none_up bytes is some =
      come_decides tunnel link longer bytes (heard_more ∙ is)
      ∙ (ap (λ b. decided (opening_text tunnel longer) (not b)) some
      ∙ (ap (λ t. decided t true) (text_same none_up) ∙ ap (λ b. decided_by b false) at.method))

  module _ (conv : ℕ) (client : Visitor) (next : Child) (more : List Command) where
    takes_to : Arrives conv client next more (undecided tunnel link since) longer →
        Takes (stack_chain conv client) (IsChild conv client) next moment event more (undecided tunnel link since) prefix
    takes_to to = onward at.look to.there to.gives

    over_more : (sides : Sides) → sides_closed server event ≡ Some sides → next ≡ children.Over → more ≡ closes_all sides.server sides.shut sides.closed →
        Takes (stack_chain conv client) (IsChild conv client) next moment event more (undecided tunnel link since) prefix
    over_more sides closes_some same gave =
        let some = some_close server (closes (Server server) event) (closes Client event) sides closes_some in
        let shut_now : is_shut link longer ≡ sides.shut =
        shut_more ∙ (ap (λ n. closes (Server n) event) (sym at.opened.same) ∙ sym some.shut_is) in
        let closed_now : client_closed longer ≡ sides.closed = closed_more ∙ sym some.closed_is in
        let ended : (sides.shut || sides.closed) ≡ true = ap (λ b. b || sides.closed) some.shut_is ∙ (ap (λ b. closes (Server server) event || b) some.closed_is ∙ some.ends) in
        let none_up = none_brought Client (Server server) event some.ends in
        let none_down = none_brought (Server link.server) (Server server) event some.ends in
        takes_to (arrives_over conv client next more tunnel link since longer (goes_still tunnel link since longer (client_closed longer) (still_more none_up none_down))
        (opening_as link longer sides.shut sides.closed shut_now closed_now
        ∙ (some_ends sides.shut sides.closed _ ended
        ∙ ap Ends (ap (λ n. closes_all n sides.shut sides.closed) (sym (some.same ∙ at.opened.same)) ∙ sym gave))) same)

    stays_more : closes Client event ≡ false → closes (Server server) event ≡ false → piece_of Client event ≡ [] → piece_of (Server server) event ≡ [] →
        next ≡ children.Undecided kept server → more ≡ [] →
        Takes (stack_chain conv client) (IsChild conv client) next moment event more (undecided tunnel link since) prefix
    stays_more unclosed unshut none_up none_down same none =
        let number : server ≡ link.server = at.opened.same in
        takes_to (arrives_open conv client next more tunnel link since longer kept server (closed_more ∙ unclosed)
        (still_more none_up (ap (λ n. piece_of (Server n) event) (sym number) ∙ none_down))
        (opening_as link longer false false (shut_more ∙ (ap (λ n. closes (Server n) event) (sym number) ∙ unshut)) (closed_more ∙ unclosed))
        (opened_same none_up) same none)

-- the client's bytes
client_decides : (tunnel : Tunnel) (link : Link) (since : Since) (prefix : List (Timed Event)) (kept : Opening) (server : ℕ) →
    IsStill tunnel link since prefix kept server → (moment : ℕ) (bytes : List ℕ) →
    MayDecide tunnel link since (prefix ++ record { moment = moment; value = events.Piece Client bytes } ∷ []) (record kept { rest = kept.rest ++ bytes }) server [] false moment
client_decides tunnel link since prefix kept server at moment bytes =
    let event : Event = events.Piece Client bytes in
    record {
      opened = opened_more tunnel link since prefix kept server at moment event bytes refl;
      come = heard_more tunnel link since prefix kept server at moment event;
      unshut = shut_more tunnel link since prefix kept server at moment event;
      client = closed_more tunnel link since prefix kept server at moment event;
      now = sym (now_more since prefix (record { moment = moment; value = event }) at.opened.come);
    }

-- the server's
server_decides : (tunnel : Tunnel) (link : Link) (since : Since) (prefix : List (Timed Event)) (kept : Opening) (server : ℕ) →
    IsStill tunnel link since prefix kept server → (moment number : ℕ) (bytes : List ℕ) → (number == server) ≡ true →
    MayRelay (tunnel_ends tunnel link) (prefix ++ record { moment = moment; value = events.Piece (Server number) bytes } ∷ [])
    (record { server = server; shut = false; closed = false }) (record { client = kept.rest; server = bytes }) None
server_decides tunnel link since prefix kept server at moment number bytes is =
    let event : Event = events.Piece (Server number) bytes in
    let opened = opened_same tunnel link since prefix kept server at moment event refl in
    let brings : piece_of (Server link.server) event ≡ bytes =
    ap (λ n. if number == n then bytes else []) (sym at.opened.same) ∙ ap (λ b. if b then bytes else []) is in
    record {
      server = at.opened.same;
      shut = sym (shut_more tunnel link since prefix kept server at moment event);
      closed = sym (closed_more tunnel link since prefix kept server at moment event);
      up = opened.opening.rest;
      down = sym (heard_more tunnel link since prefix kept server at moment event ∙ brings);
      same_flow = refl;
      used = opened.opening.used;
      side_used = opened.used;
      opened = opened.opened;
    }

-- ---- the calls

module _ (conv : ℕ) (client : Visitor) (kept : Opening) (server : ℕ) (moment : ℕ) (next : Child) (more : List Command) where
  pub takes_over : (event : Event) (sides : Sides) → sides_closed server event ≡ Some sides → next ≡ children.Over → more ≡ closes_all sides.server sides.shut sides.closed →
      TakesChild conv client (children.Undecided kept server) next moment event more
  takes_over event sides closes_some same gave stage prefix there =
      at_still conv client kept server (λ s. Takes (stack_chain conv client) (IsChild conv client) next moment event more s prefix) stage prefix there
      (λ tunnel link since at. over_more tunnel link since prefix kept server at moment event conv client next more sides closes_some same gave)

  pub takes_client : (bytes : List ℕ) → Decides conv client (record kept { rest = kept.rest ++ bytes }) server [] moment next more →
      TakesChild conv client (children.Undecided kept server) next moment (events.Piece Client bytes) more
  takes_client bytes decides stage prefix there =
      let event : Event = events.Piece Client bytes in
      at_still conv client kept server (λ s. Takes (stack_chain conv client) (IsChild conv client) next moment event more s prefix) stage prefix there
      (λ tunnel link since at. takes_to tunnel link since prefix kept server at moment event conv client next more
      (decides tunnel link since (prefix ++ record { moment = moment; value = event } ∷ []) (client_decides tunnel link since prefix kept server at moment bytes)))

  pub takes_server : (number : ℕ) (bytes : List ℕ) → (number == server) ≡ true → (length bytes == 0) ≡ false →
      Relays (record { server = server; shut = false; closed = false }) (record { client = kept.rest; server = bytes }) None next more →
      TakesChild conv client (children.Undecided kept server) next moment (events.Piece (Server number) bytes) more
  takes_server number bytes is some relays stage prefix there =
      let event : Event = events.Piece (Server number) bytes in
      at_still conv client kept server (λ s. Takes (stack_chain conv client) (IsChild conv client) next moment event more s prefix) stage prefix there
      (λ tunnel link since at.
      let longer : List (Timed Event) = prefix ++ record { moment = moment; value = event } ∷ [] in
      let brings : piece_of (Server link.server) event ≡ bytes =
      ap (λ n. if number == n then bytes else []) (sym at.opened.same) ∙ ap (λ b. if b then bytes else []) is in
      takes_to tunnel link since prefix kept server at moment event conv client next more
      (arrives_raw conv client next more tunnel link since longer (closed_more tunnel link since prefix kept server at moment event) (raw_more tunnel link since prefix kept server at moment event refl bytes brings some)
      (relays conv client (tunnel_ends tunnel link) longer (server_decides tunnel link since prefix kept server at moment number bytes is))))

  pub takes_nothing : (event : Event) → sides_closed server event ≡ None → piece_of Client event ≡ [] → piece_of (Server server) event ≡ [] →
      next ≡ children.Undecided kept server → more ≡ [] → TakesChild conv client (children.Undecided kept server) next moment event more
  takes_nothing event closes_none none_up none_down same none stage prefix there =
      let unclosed = none_closes server event closes_none in
      at_still conv client kept server (λ s. Takes (stack_chain conv client) (IsChild conv client) next moment event more s prefix) stage prefix there
      (λ tunnel link since at. stays_more tunnel link since prefix kept server at moment event conv client next more unclosed.unclosed unclosed.unshut none_up none_down same none)

-- ---- what the functions give

-- a tunnel asks nothing
pub relay_asks : {E : Type 0} (out given : List Command) (result : Result Child E) →
    IfOk result (λ next. (awaited_by next ≡ None) × AsksOnly None out given) → IfOk result (λ next. AsksOnly (awaited_by next) out given)
relay_asks out given (Ok next) asks = let P : Option Ask → Type 0 = λ asked. AsksOnly asked out given in subst P (sym asks.0) asks.1
relay_asks out given (Err error) asks = tt

module _ {E : Type 0} (conv : ℕ) (client : Visitor) (kept : Opening) (server : ℕ) (rest : List ℕ) (moment : ℕ) (out given : List Command) where
  pub http_decided : has_method kept.rest ≡ true → (result : Result Child E) →
      IfOk result (λ next. Adds (GoesInside conv client kept server rest moment next) out given) →
      IfOk result (λ next. Adds (Decides conv client kept server rest moment next) out given)
  http_decided method (Ok next) inside =
      record { more = inside.more; grown = inside.grown; holds = decides_http conv client kept server rest moment next inside.more method inside.holds }
  http_decided method (Err error) inside = tt

  pub raw_decided : has_method kept.rest ≡ false → (not (not (is_empty rest)) && may_have_method kept.rest) ≡ false → (result : Result Child E) →
      IfOk result (λ next. Adds (Relays (record { server = server; shut = false; closed = false }) (record { client = kept.rest; server = rest }) None next) out given) →
      IfOk result (λ next. Adds (Decides conv client kept server rest moment next) out given)
  raw_decided method none (Ok next) relays =
      record { more = relays.more; grown = relays.grown; holds = decides_raw conv client kept server rest moment next relays.more method none relays.holds }
  raw_decided method none (Err error) relays = tt

pub still_decided : (conv : ℕ) (client : Visitor) (kept : Opening) (server : ℕ) (rest : List ℕ) (moment : ℕ) (out : List Command) →
    has_method kept.rest ≡ false → may_have_method kept.rest ≡ true → is_empty rest ≡ true →
    Adds (Decides conv client kept server rest moment (children.Undecided kept server)) out out
still_decided conv client kept server rest moment out method may silent = record {
  more = [];
  grown = sym (append-nil out);
  holds = decides_still conv client kept server rest moment (children.Undecided kept server) [] method may silent refl refl;
}

pub over_taken : (conv : ℕ) (client : Visitor) (kept : Opening) (server : ℕ) (moment : ℕ) (event : Event) (out given : List Command) (sides : Sides) →
    sides_closed server event ≡ Some sides → given ≡ out ++ closes_all sides.server sides.shut sides.closed →
    Adds (TakesChild conv client (children.Undecided kept server) children.Over moment event) out given
over_taken conv client kept server moment event out given sides closes_some gave = record {
  more = closes_all sides.server sides.shut sides.closed;
  grown = gave;
  holds = takes_over conv client kept server moment children.Over (closes_all sides.server sides.shut sides.closed) event sides closes_some refl refl;
}

module _ {E : Type 0} (conv : ℕ) (client : Visitor) (kept : Opening) (server : ℕ) (moment : ℕ) (event : Event) (out given : List Command) where
  pub client_taken : (bytes : List ℕ) → event ≡ events.Piece Client bytes → (added : Opening) → added ≡ record kept { rest = kept.rest ++ bytes } → (rest : List ℕ) → rest ≡ [] →
      (result : Result Child E) → IfOk result (λ next. Adds (Decides conv client added server rest moment next) out given) →
      IfOk result (λ next. Adds (TakesChild conv client (children.Undecided kept server) next moment event) out given)
  client_taken bytes is added with_more rest none (Ok next) decides =
      let P : Opening → Type 0 = λ k. Decides conv client k server [] moment next decides.more in
      let R : List ℕ → Type 0 = λ l. Decides conv client added server l moment next decides.more in
      let Q : Event → Type 0 = λ e. TakesChild conv client (children.Undecided kept server) next moment e decides.more in
      record {
        more = decides.more;
        grown = decides.grown;
        holds = subst Q (sym is) (takes_client conv client kept server moment next decides.more bytes (subst P with_more (subst R none decides.holds)));
      }
  client_taken bytes is added with_more rest none (Err error) decides = tt

  pub server_taken : (number : ℕ) (bytes answered : List ℕ) → event ≡ events.Piece (Server number) bytes → answered ≡ bytes → number ≡ server →
      (length bytes == 0) ≡ false → (result : Result Child E) →
      IfOk result (λ next. Adds (Relays (record { server = server; shut = false; closed = false }) (record { client = kept.rest; server = answered }) None next) out given) →
      IfOk result (λ next. Adds (TakesChild conv client (children.Undecided kept server) next moment event) out given)
  server_taken number bytes answered is same number_is some (Ok next) relays =
      let P : List ℕ → Type 0 = λ l. Relays (record { server = server; shut = false; closed = false }) (record { client = kept.rest; server = l }) None next relays.more in
      let Q : Event → Type 0 = λ e. TakesChild conv client (children.Undecided kept server) next moment e relays.more in
      record {
        more = relays.more;
        grown = relays.grown;
        holds = subst Q (sym is) (takes_server conv client kept server moment next relays.more number bytes (eq-eqb number server number_is) some (subst P same relays.holds));
      }
  server_taken number bytes answered is same number_is some (Err error) relays = tt

pub nothing_taken : (conv : ℕ) (client : Visitor) (kept : Opening) (server : ℕ) (moment : ℕ) (event : Event) (out : List Command) →
    sides_closed server event ≡ None → piece_of Client event ≡ [] → piece_of (Server server) event ≡ [] →
    Adds (TakesChild conv client (children.Undecided kept server) (children.Undecided kept server) moment event) out out
nothing_taken conv client kept server moment event out closes_none none_up none_down = record {
  more = [];
  grown = sym (append-nil out);
  holds = takes_nothing conv client kept server moment (children.Undecided kept server) [] event closes_none none_up none_down refl refl;
}

-- a piece of a server's that is empty, or another server's, brings nothing
pub none_of_empty : (server number : ℕ) (bytes : List ℕ) → (length bytes == 0) ≡ true → piece_of (Server server) (events.Piece (Server number) bytes) ≡ []
none_of_empty server number bytes is = by (number == server)
  where
    by : (same : Bool) → (if same then bytes else []) ≡ []
    by true = none_long bytes (eqb-true (length bytes) 0 is)
    by false = refl

pub none_of_other : (server number : ℕ) (bytes : List ℕ) → (number ≡ server → ⊥) → piece_of (Server server) (events.Piece (Server number) bytes) ≡ []
none_of_other server number bytes is = ap (λ b. if b then bytes else []) (ne_eqb number server is)

-- what is no piece brings nothing
pub none_of_others : (side : Side) (event : Event) → ((from : Side) (bytes : List ℕ) → event ≡ events.Piece from bytes → ⊥) → piece_of side event ≡ []
none_of_others side events.Begun none = refl
none_of_others side (events.Piece from bytes) none = absurd (none from bytes refl)
none_of_others side (events.Closed from) none = refl
none_of_others side (events.Answered ask reply) none = refl
