-- Another proxy that is asked for a tunnel: where it is so, and what one event more does.
use Rattle.std.proofs.Common.{◌≡◌, ℕ, ◌≤◌, Bool, true, false, List, [], ◌∷◌, ◌++◌, length, drop, refl, ap, sym, ◌∙◌, subst, arith, length-append}
use Rattle.std.specs.Prelude.{IfOk, Result, Ok, Err}
use Rattle.std.proofs.lemmas.List.{append-nil, drop_all, take-append-le, take_all}
use Rattle.px_event.specs.declared.command.Command.{Command}
use Rattle.px_event.specs.declared.event.Event.{Event}
use Rattle.px_event.specs.declared.side.Side.TheVariants.{Server}
use Rattle.px_event.specs.Chain.{Timed, Look, NotYet, Asks, Ends, Turn}
use Rattle.px_event.specs.View.{seen_of}
use Rattle.px_event.specs.Laws.{owed_here}
use Rattle.px_event.proofs.Steps.{Takes, onward}
use Rattle.px_event.specs.Sides.{closes, piece_of}
use Rattle.px_chain.specs.Streams.{Since, client_closed}
use Rattle.px_chain.proofs.FrontLaws.{now_more}
use Rattle.px_tunnel.specs.declared.upstream.UpstreamTunnel.{UpstreamTunnel}
use Rattle.px_tunnel.specs.Reaching.{HasHeard, rest_of}
use Rattle.px_tunnel.specs.Upstream.{awaited, granting}
use Rattle.px_stack.specs.declared.child.Child.{Child}
use Rattle.px_stack.specs.declared.child.Child.TheVariants as children
use Rattle.px_stack.specs.declared.child.Goal.{Goal as KeptGoal}
use Rattle.px_stack.specs.declared.child.Reaching.{Reaching}
use Rattle.px_stack.specs.declared.reaching.ProxySays.{ProxySays}
use Rattle.px_stack.specs.declared.reaching.ProxySays.TheVariants as told
use Rattle.px_stack.specs.Chain.{answer_of, closed_before, closed_of, pass_reached, stack_chain, text_of}
use Rattle.px_stack.specs.Reached.{HearsProxy, HearsThere}
use Rattle.px_stack.specs.Stages.{Goal, Link, Stage, Visitor, a_flow, a_tunnel, asking, connecting, http, over, raw, reaching, socket, undecided}
use Rattle.px_stack.specs.Stands.{IsChild, IsGoal, IsReaching, IsSomewhere, Keeps, KeepsBy}
use Rattle.px_stack.specs.Steps.{Adds, Arrives, CanGoOn, HearsGoal, IsGoalSomewhere, IsLetThrough, IsTurnedAway, LetsThrough, MayGoOn, TakesChild, TurnsAway}
use Rattle.px_stack.proofs.SaidLemmas.{answer_more, awaits_open, closed_more, closing_piece, grants_open, heard_more, says_no, says_nothing, says_yes}

-- ---- where nothing is answered yet

module _ (conv : ℕ) (client : Visitor) where
  awaits_by : (goal : Goal) (link : Link) (since : Since) (prefix : List (Timed Event)) →
      pass_reached conv client goal link since prefix awaited ≡ record { owed = []; stage = reaching goal link since }
  awaits_by (a_tunnel tunnel) link since prefix = refl
  awaits_by (a_flow place from) link since prefix = refl

  pub awaits_pass : (goal : Goal) (link : Link) (since : Since) (prefix : List (Timed Event)) → answer_of link prefix ≡ awaited →
      (stack_chain conv client).pass (reaching goal link since) prefix ≡ record { owed = []; stage = reaching goal link since }
  awaits_pass goal link since prefix is = ap (pass_reached conv client goal link since prefix) is ∙ awaits_by goal link since prefix

  -- it stays there
  pub stays_there : (next : Child) (more : List Command) (goal : Goal) (link : Link) (since : Since) (prefix : List (Timed Event)) → answer_of link prefix ≡ awaited →
      IsReaching conv client goal link since prefix next → more ≡ [] → Arrives conv client next more (reaching goal link since) prefix
  stays_there next more goal link since prefix is there none =
      let P : Turn Stage Command → Type 0 = λ t. IsChild conv client next t.stage prefix in
      let pass = awaits_pass goal link since prefix is in
      record {
        there = subst P (sym pass) there;
        gives = λ view. ap (seen_of view) none ∙ ap (λ t. seen_of view (t.owed ++ owed_here (stack_chain conv client) t.stage prefix)) (sym pass);
      }

-- ---- a side that was asked just now

new_behind : (prefix : List (Timed Event)) → drop (length prefix) prefix ≡ []
new_behind prefix = drop_all (length prefix) prefix (omega arith)

pub new_text : (server : ℕ) (prefix : List (Timed Event)) → text_of server (drop (length prefix) prefix) ≡ []
new_text server prefix = ap (text_of server) (new_behind prefix)

pub new_unshut : (server : ℕ) (prefix : List (Timed Event)) → closed_of server (drop (length prefix) prefix) ≡ false
new_unshut server prefix = ap (closed_of server) (new_behind prefix)

pub new_answer : (server : ℕ) (prefix : List (Timed Event)) → answer_of (record { server = server; used = 0; opened = length prefix }) prefix ≡ awaited
new_answer server prefix = ap (λ l. granting (text_of server l) (closed_of server l)) (new_behind prefix)

pub new_before : (server : ℕ) (prefix : List (Timed Event)) → closed_before (record { server = server; used = 0; opened = length prefix }) prefix ≡ client_closed prefix
new_before server prefix = ap client_closed (take_all (length prefix) prefix (omega arith))

-- ---- where it is asked

-- this is kept there
pub record IsAnswered (conv : ℕ) (client : Visitor) (goal : Goal) (link : Link) (since : Since) (prefix : List (Timed Event)) (kept : Reaching) : Type 0 where
  pub same : kept.server ≡ link.server
  pub before : kept.closed_before ≡ closed_before link prefix
  pub opened : link.opened ≤ length prefix
  pub come : since.events ≤ length prefix
  pub heard : HasHeard kept.asked (text_of link.server (drop link.opened prefix))
  pub unshut : closed_of link.server (drop link.opened prefix) ≡ false
  pub waiting : IsGoal conv client goal link prefix kept.goal

same_kept : (a b : Reaching) → children.Reaching a ≡ children.Reaching b → b ≡ a
same_kept a b is = cc

module _ (conv : ℕ) (client : Visitor) (kept : Reaching) where
  none_kept : (stage : Stage) (prefix : List (Timed Event)) → (Keeps conv client (children.Reaching kept) stage prefix → ⊥) →
      (look : Look Command) → KeepsBy look conv client (children.Reaching kept) stage prefix → ⊥
  none_kept stage prefix none NotYet there = none there
  none_kept stage prefix none (Asks ask) there = none there
  none_kept stage prefix none (Ends owed) there = let no : children.Reaching kept ≡ children.Over = there in cc

  answered : (goal : Goal) (link : Link) (since : Since) (prefix : List (Timed Event)) →
      IsReaching conv client goal link since prefix (children.Reaching kept) → IsAnswered conv client goal link since prefix kept
  answered goal link since prefix there =
      let P : Reaching → Type 0 = λ k. IsAnswered conv client goal link since prefix k in
      subst P (same_kept kept there.kept there.is) (record {
        same = there.server;
        before = there.before;
        opened = there.opened;
        come = there.come;
        heard = there.heard;
        unshut = there.unshut;
        waiting = there.waiting;
      })

  -- what it keeps is kept at no other stage
  pub at_reaching : (P : Stage → Type 0) (stage : Stage) (prefix : List (Timed Event)) → IsChild conv client (children.Reaching kept) stage prefix →
      ((goal : Goal) (link : Link) (since : Since) → IsAnswered conv client goal link since prefix kept → P (reaching goal link since)) → P stage
  at_reaching P (asking front) prefix there goes =
      absurd (none_kept (asking front) prefix (λ at. let no : children.Reaching kept ≡ children.Asking at.layer = at.is in cc) _ there)
  at_reaching P (http place standing) prefix there goes =
      absurd (none_kept (http place standing) prefix (λ at. let no : children.Reaching kept ≡ children.Http at.flows = at.is in cc) _ there)
  at_reaching P (connecting tunnel) prefix there goes =
      absurd (none_kept (connecting tunnel) prefix (λ at. let no : children.Reaching kept ≡ children.Connecting at.kept at.closed = at.is in cc) ((stack_chain conv client).look (connecting tunnel) prefix) there)
  at_reaching P (reaching goal link since) prefix there goes = goes goal link since (answered goal link since prefix there)
  at_reaching P (undecided tunnel link since) prefix there goes =
      absurd (none_kept (undecided tunnel link since) prefix (λ at. let no : children.Reaching kept ≡ children.Undecided at.kept at.server = at.is in cc) _ there)
  at_reaching P (raw ends) prefix there goes =
      absurd (none_kept (raw ends) prefix (λ at. let no : children.Reaching kept ≡ children.Raw at.kept = at.is in cc) _ there)
  at_reaching P (socket ends flow frames) prefix there goes =
      absurd (none_kept (socket ends flow frames) prefix (λ at. let no : children.Reaching kept ≡ children.Socket at.layer = at.is in cc) _ there)
  at_reaching P over prefix there goes = absurd (none_kept over prefix (λ at. at) (Ends []) there)

-- ---- one event more

module _ (conv : ℕ) (client : Visitor) (goal : Goal) (link : Link) (since : Since) (prefix : List (Timed Event)) (kept : Reaching)
    (at : IsAnswered conv client goal link since prefix kept) (moment : ℕ) (event : Event) where
  abbrev now : Timed Event
  now = record { moment = moment; value = event }

  abbrev longer : List (Timed Event)
  longer = prefix ++ now ∷ []

  abbrev text : List ℕ
  text = text_of link.server (drop link.opened prefix)

  abbrev piece : List ℕ
  piece = piece_of (Server link.server) event

  abbrev shut : Bool
  shut = closes (Server link.server) event

  closing : shut ≡ true → piece ≡ []
  closing is = closing_piece link.server event is

  may_go_on : (after : KeptGoal) → IsGoal conv client goal link longer after → MayGoOn conv client goal link since longer kept.server after moment
  may_go_on after waiting =
      let size = length-append prefix (now ∷ []) in
      let opened = at.opened in
      let come = at.come in
      record { same = at.same; opened = omega arith; come = omega arith; waiting = waiting; now = sym (now_more since prefix now at.come) }

  there_says : (after : UpstreamTunnel) (says : ProxySays) → HearsProxy kept.server kept.asked after event says → HearsThere link.server after text event says
  there_says after says hears = let P : ℕ → Type 0 = λ n. HearsThere n after text event says in subst P at.same (hears text at.heard)

  let_through : (after : UpstreamTunnel) (rest : List ℕ) → HearsProxy kept.server kept.asked after event told.Yes → rest ≡ rest_of after → IsLetThrough link longer rest
  let_through after rest hears left =
      let there = there_says after told.Yes hears in
      let (used, grants) = says_yes (granting (text ++ piece) shut) shut there.says_is in
      let unshut : shut ≡ false = grants_open text piece shut used at.heard.awaits closing grants in
      record {
        used = used;
        answer = answer_more link prefix now at.opened at.unshut ∙ grants;
        unshut = closed_more link prefix now at.opened at.unshut ∙ unshut;
        rest_is = left ∙ (there.yes used (ap (granting (text ++ piece)) (sym unshut) ∙ grants) ∙ ap (drop used) (sym (heard_more link prefix now at.opened at.unshut)));
      }

  -- what had come before its side was connected stays
  before_more : closed_before link longer ≡ closed_before link prefix
  before_more = ap client_closed (take-append-le link.opened prefix (now ∷ []) at.opened)

  turned_away : (after : UpstreamTunnel) (said : Bool) → HearsProxy kept.server kept.asked after event (told.No said) → IsTurnedAway link longer said kept.closed_before
  turned_away after said hears =
      let there = there_says after (told.No said) hears in
      let parts = says_no (granting (text ++ piece) shut) shut said there.says_is in
      record {
        answer = answer_more link prefix now at.opened at.unshut ∙ parts.0;
        shut_is = parts.1 ∙ sym (closed_more link prefix now at.opened at.unshut);
        before_is = at.before ∙ sym before_more;
      }

  module _ (next : Child) (more : List Command) where
    takes_to : Arrives conv client next more (reaching goal link since) longer →
        Takes (stack_chain conv client) (IsChild conv client) next moment event more (reaching goal link since) prefix
    takes_to to = onward refl to.there to.gives

    -- nothing is said yet
    nothing_said : (after : UpstreamTunnel) (waits : KeptGoal) → HearsProxy kept.server kept.asked after event told.Nothing → IsGoal conv client goal link longer waits →
        next ≡ children.Reaching (record { asked = after; server = kept.server; closed_before = kept.closed_before; goal = waits }) → more ≡ [] → Arrives conv client next more (reaching goal link since) longer
    nothing_said after waits hears waiting same none =
        let there = there_says after told.Nothing hears in
        let awaits : granting (text ++ piece) shut ≡ awaited = says_nothing (granting (text ++ piece) shut) shut there.says_is in
        let unshut : shut ≡ false = awaits_open text piece shut at.heard.awaits closing awaits in
        let size = length-append prefix (now ∷ []) in
        let opened = at.opened in
        let come = at.come in
        let P : List ℕ → Type 0 = λ t. HasHeard after t in
        stays_there conv client next more goal link since longer (answer_more link prefix now at.opened at.unshut ∙ awaits)
        (record {
          kept = record { asked = after; server = kept.server; closed_before = kept.closed_before; goal = waits };
          is = same;
          server = at.same;
          before = at.before ∙ sym before_more;
          opened = omega arith;
          come = omega arith;
          heard = subst P (sym (heard_more link prefix now at.opened at.unshut)) (there.nothing refl);
          unshut = closed_more link prefix now at.opened at.unshut ∙ unshut;
          waiting = waiting;
        }) none

-- ---- what it says

module _ (conv : ℕ) (client : Visitor) (kept : Reaching) (moment : ℕ) (event : Event) (next : Child) (more : List Command) where
  module _ (waits : KeptGoal) (after : UpstreamTunnel) (hears : (conv : ℕ) (client : Visitor) (moment : ℕ) → HearsGoal conv client kept.goal waits moment event) where
    pub takes_nothing : HearsProxy kept.server kept.asked after event told.Nothing → next ≡ children.Reaching (record { asked = after; server = kept.server; closed_before = kept.closed_before; goal = waits }) →
        more ≡ [] → TakesChild conv client (children.Reaching kept) next moment event more
    takes_nothing says same none stage prefix there =
        at_reaching conv client kept (λ s. Takes (stack_chain conv client) (IsChild conv client) next moment event more s prefix) stage prefix there
        (λ goal link since at. takes_to conv client goal link since prefix kept at moment event next more
        (nothing_said conv client goal link since prefix kept at moment event next more after waits says (hears conv client moment goal link prefix at.waiting) same none))

    pub takes_yes : (rest : List ℕ) → HearsProxy kept.server kept.asked after event told.Yes → rest ≡ rest_of after →
        LetsThrough conv client kept.server waits rest moment next more → TakesChild conv client (children.Reaching kept) next moment event more
    takes_yes rest says left lets stage prefix there =
        at_reaching conv client kept (λ s. Takes (stack_chain conv client) (IsChild conv client) next moment event more s prefix) stage prefix there
        (λ goal link since at. takes_to conv client goal link since prefix kept at moment event next more
        (lets goal link since (prefix ++ record { moment = moment; value = event } ∷ [])
        (may_go_on conv client goal link since prefix kept at moment event waits (hears conv client moment goal link prefix at.waiting))
        (let_through conv client goal link since prefix kept at moment event after rest says left)))

    pub takes_no : (said : Bool) → HearsProxy kept.server kept.asked after event (told.No said) →
        TurnsAway conv client kept.server waits said kept.closed_before moment next more → TakesChild conv client (children.Reaching kept) next moment event more
    takes_no said says turns stage prefix there =
        at_reaching conv client kept (λ s. Takes (stack_chain conv client) (IsChild conv client) next moment event more s prefix) stage prefix there
        (λ goal link since at. takes_to conv client goal link since prefix kept at moment event next more
        (turns goal link since (prefix ++ record { moment = moment; value = event } ∷ [])
        (may_go_on conv client goal link since prefix kept at moment event waits (hears conv client moment goal link prefix at.waiting))
        (turned_away conv client goal link since prefix kept at moment event after said says)))

-- ---- where it is so

module _ (conv : ℕ) (client : Visitor) (kept : Reaching) (somewhere : IsSomewhere conv client (children.Reaching kept)) where
  pub goal_somewhere : IsGoalSomewhere kept.goal
  goal_somewhere =
      let (stage, prefix, there) = somewhere in
      at_reaching conv client kept (λ s. IsGoalSomewhere kept.goal) stage prefix there
      (λ goal link since at. record { conv = conv; client = client; goal = goal; link = link; prefix = prefix; at = at.waiting })

  pub heard_somewhere : (text : List ℕ) × HasHeard kept.asked text
  heard_somewhere =
      let (stage, prefix, there) = somewhere in
      at_reaching conv client kept (λ s. (text : List ℕ) × HasHeard kept.asked text) stage prefix there
      (λ goal link since at. (text_of link.server (drop link.opened prefix), at.heard))

  module _ (moment : ℕ) (event : Event) (waits : KeptGoal) (after : UpstreamTunnel) (hears : (conv : ℕ) (client : Visitor) (moment : ℕ) → HearsGoal conv client kept.goal waits moment event) where
    pub can_go_on : (rest : List ℕ) → HearsProxy kept.server kept.asked after event told.Yes → rest ≡ rest_of after → CanGoOn kept.server waits rest moment
    can_go_on rest says left =
        let (stage, prefix, there) = somewhere in
        at_reaching conv client kept (λ s. CanGoOn kept.server waits rest moment) stage prefix there
        (λ goal link since at. record {
          conv = conv;
          client = client;
          goal = goal;
          link = link;
          since = since;
          prefix = prefix ++ record { moment = moment; value = event } ∷ [];
          may = may_go_on conv client goal link since prefix kept at moment event waits (hears conv client moment goal link prefix at.waiting);
          through = let_through conv client goal link since prefix kept at moment event after rest says left;
        })

    pub still_somewhere : IsGoalSomewhere waits
    still_somewhere =
        let there = goal_somewhere in
        record {
          conv = there.conv;
          client = there.client;
          goal = there.goal;
          link = there.link;
          prefix = there.prefix ++ record { moment = moment; value = event } ∷ [];
          at = hears there.conv there.client moment there.goal there.link there.prefix there.at;
        }

-- ---- what the functions give

module _ (conv : ℕ) (client : Visitor) (kept : Reaching) (moment : ℕ) (event : Event) (waits : KeptGoal) (after : UpstreamTunnel)
    (hears : (conv : ℕ) (client : Visitor) (moment : ℕ) → HearsGoal conv client kept.goal waits moment event) (says : ProxySays)
    (heard : HearsProxy kept.server kept.asked after event says) where
  heard_as : (known : ProxySays) → says ≡ known → HearsProxy kept.server kept.asked after event known
  heard_as known is = let P : ProxySays → Type 0 = λ s. HearsProxy kept.server kept.asked after event s in subst P is heard

  pub nothing_taken : (out : List Command) → says ≡ told.Nothing →
      Adds (TakesChild conv client (children.Reaching kept) (children.Reaching (record { asked = after; server = kept.server; closed_before = kept.closed_before; goal = waits })) moment event) out out
  nothing_taken out is = record {
    more = [];
    grown = sym (append-nil out);
    holds = takes_nothing conv client kept moment event (children.Reaching (record { asked = after; server = kept.server; closed_before = kept.closed_before; goal = waits })) [] waits after hears (heard_as told.Nothing is) refl refl;
  }

  pub yes_taken : {E : Type 0} (out given : List Command) (rest : List ℕ) → says ≡ told.Yes → rest ≡ rest_of after → (result : Result Child E) →
      IfOk result (λ next. Adds (LetsThrough conv client kept.server waits rest moment next) out given) →
      IfOk result (λ next. Adds (TakesChild conv client (children.Reaching kept) next moment event) out given)
  yes_taken out given rest is left (Ok next) lets = record {
    more = lets.more;
    grown = lets.grown;
    holds = takes_yes conv client kept moment event next lets.more waits after hears rest (heard_as told.Yes is) left lets.holds;
  }
  yes_taken out given rest is left (Err error) lets = tt

  pub no_taken : {E : Type 0} (out given : List Command) (said : Bool) → says ≡ told.No said → (result : Result Child E) →
      IfOk result (λ next. Adds (TurnsAway conv client kept.server waits said kept.closed_before moment next) out given) →
      IfOk result (λ next. Adds (TakesChild conv client (children.Reaching kept) next moment event) out given)
  no_taken out given said is (Ok next) turns = record {
    more = turns.more;
    grown = turns.grown;
    holds = takes_no conv client kept moment event next turns.more waits after hears said (heard_as (told.No said) is) turns.holds;
  }
  no_taken out given said is (Err error) turns = tt

  pub yes_somewhere : IsSomewhere conv client (children.Reaching kept) → (rest : List ℕ) → says ≡ told.Yes → rest ≡ rest_of after → CanGoOn kept.server waits rest moment
  yes_somewhere somewhere rest is left = can_go_on conv client kept somewhere moment event waits after hears rest (heard_as told.Yes is) left
