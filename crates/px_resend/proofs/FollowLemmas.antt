-- What a flow that goes on has come to: what is kept behind a call of its stream, and what is owed there, is what the chain says.
use Rattle.std.proofs.Common.{◌≡◌, ◌≤◌, ℕ, Bool, true, false, List, [], ◌∷◌, ◌++◌, drop, Option, Some, None, refl, ap, sym, ◌∙◌, subst, arith, append_assoc}
use Rattle.std.specs.Prelude.{option_to_list}
use Rattle.std.specs.Global.{Box}
use Rattle.std.specs.List.{flat_map}
use Rattle.std.proofs.lemmas.List.{append-nil}
use Rattle.std.proofs.Math.Seq.{drop-nil}
use Rattle.px_message.specs.declared.flow.Flow.{Flow}
use Rattle.px_message.specs.declared.request.Request.{Request}
use Rattle.px_event.specs.declared.command.Command.{Command}
use Rattle.px_event.specs.declared.command.Command.TheVariants as commands
use Rattle.px_event.specs.declared.event.Event.{Event}
use Rattle.px_event.specs.declared.side.Side.TheVariants.{Client}
use Rattle.px_event.specs.Chain.{Timed, Look, NotYet, Asks, Ends, found}
use Rattle.px_event.specs.Layer.{asks_in}
use Rattle.px_event.specs.View.{View, seen_of}
use Rattle.px_read.specs.Items.{missing, request_item}
use Rattle.px_exchange.specs.declared.ending.Used.{Used}
use Rattle.px_exchange.specs.declared.ending.Used.TheVariants.{NoServer, ByServer}
use Rattle.px_exchange.specs.declared.outcome.Outcome.{Outcome}
use Rattle.px_exchange.specs.declared.outcome.Outcome.TheVariants as outcomes
use Rattle.px_exchange.specs.declared.terms.Terms.{Terms}
use Rattle.px_exchange.specs.Endings.{shut_server}
use Rattle.px_exchange.specs.Finds.{look_head, or_leaves}
use Rattle.px_chain.specs.Chain.{look}
use Rattle.px_chain.specs.Keeping.{is_silent, unspoilt_at, unspoilt_by}
use Rattle.px_chain.specs.Sights.{Sight, Standing, request_in, server_in, server_parked, sight_over}
use Rattle.px_chain.specs.Stages.{At, Parked, busy, coming_down, connection, given_body, given_head, idle, next, request_body, response_body, response_head, upgraded}
use Rattle.px_chain.specs.Stages as flows
use Rattle.px_chain.specs.Streams.{bytes_of}
use Rattle.px_chain.proofs.KeepingLaws.{silent_nothing}
use Rattle.px_chain.proofs.Quiet.{IsAskOf, LooksQuiet, any_flow}
use Rattle.px_chain.proofs.QuietLemmas.{finds_quiet_end}
use Rattle.px_stream.specs.declared.link.Link.{Link}
use Rattle.px_stream.specs.declared.phase.Asked.{Asked}
use Rattle.px_stream.specs.declared.phase.Phase.{Phase}
use Rattle.px_stream.specs.declared.phase.Phase.TheVariants as phase
use Rattle.px_stream.specs.declared.phase.Wanted.{Wanted}
use Rattle.px_stream.specs.declared.phase.Wanted.TheVariants as ready
use Rattle.px_stream.specs.declared.stream.Stream.{Stream}
use Rattle.px_stream.specs.Heard.{shut_if}
use Rattle.px_stream.specs.Tells.{closed_in, is_idle, open_parked, outcome_in, phase_flow, sequence_left, unless_closed, upgraded_side}
use Rattle.px_stream.specs.Anywhere.{IsInSequence}
use Rattle.px_stream.specs.Goings.{sent_by, sent_of}
use Rattle.px_stream.specs.Stands.{HasSide, IsLast, IsOpen, LinkKeeps, PhaseAt, SentOn, awaited_in, parked_link, silent_link, stage_of}
use Rattle.px_resend.specs.declared.child.Child.{Child}
use Rattle.px_resend.specs.declared.child.Child.TheVariants as children
use Rattle.px_resend.specs.Chain.{flows_of, goes_on, look_by, resend_chain}
use Rattle.px_resend.specs.Found.{found_by}
use Rattle.px_resend.specs.Heard.{all_of_servers, to_servers}
use Rattle.px_resend.specs.Kept.{awaited_by, left_by}
use Rattle.px_resend.specs.Stands.{IsChild, IsUnparked, KeepsBy}
use Rattle.px_resend.specs.Steps.{Follows, FollowsAs, done_by, finished_by, shut_by}
use Rattle.px_resend.proofs.HeardLemmas.{never_closed, no_bytes}

-- ---- where no client is heard, no request comes

waits_by : (closed : Bool) (owed : List Command) → closed ≡ false → or_leaves closed owed NotYet ≡ NotYet
waits_by false owed is = refl
waits_by true owed is = absurd (let no : true ≡ false = is in cc)

pub idle_waits : (terms : Terms) (at : At) (seen : Sight) → seen.client ≡ [] → seen.closed ≡ false → look terms (idle at) seen ≡ NotYet
idle_waits terms at seen none unclosed =
    let empty : request_item [] ≡ missing = refl in
    let item : request_in seen ≡ missing = ap request_item none ∙ empty in
    let parked : Used = server_parked (unspoilt_at at seen).parked seen in
    ap (λ i. or_leaves seen.closed (shut_server parked) (look_head terms at.flow i seen.now parked seen.closed)) item ∙ waits_by seen.closed (shut_server parked) unclosed

-- the end is found at once
ends_at_once : (closed : Bool) (l : Look Command) → or_leaves closed [] (Ends []) ≡ l → l ≡ Ends []
ends_at_once true l is = sym is
ends_at_once false l is = sym is

never_waits : (closed : Bool) → or_leaves closed [] (Ends []) ≡ NotYet → ⊥
never_waits closed is = let no : NotYet ≡ Ends [] = ends_at_once closed NotYet is in cc

never_asks : (closed : Bool) (ask : Command) → or_leaves closed [] (Ends []) ≡ Asks ask → ⊥
never_asks closed ask is = let no : Asks ask ≡ Ends [] = ends_at_once closed (Asks ask) is in cc

-- the server's side that is open
used_open : (server : ℕ) (bytes : List ℕ) (shut : Bool) (side : Option Link) → IsOpen (LinkKeeps server bytes shut) side → ByServer server (closed_in side) ≡ ByServer server shut
used_open server bytes shut None keeps = absurd keeps
used_open server bytes shut (Some link) keeps = ap (ByServer server) keeps.closed

-- the side that is kept, unless something was heard of it: it is the one that is closed
parked_by : (silent : Bool) (parked : Parked) (seen : Sight) → is_silent seen.server seen.shut ≡ silent →
    shut_if (unless_closed parked (silent_link silent parked.server)) ≡ shut_server (server_parked (unspoilt_by silent (Some parked)) seen)
parked_by true parked seen is = ap (λ shut. shut_server (ByServer parked.server shut)) (sym (silent_nothing seen.server seen.shut is).is_open)
parked_by false parked seen is = refl

none_by : (silent : Bool) (seen : Sight) → [] ≡ shut_server (server_parked (unspoilt_by silent None) seen)
none_by true seen = refl
none_by false seen = refl

closes_parked : (parked : Option Parked) (seen : Sight) → shut_if (open_parked parked (parked_link parked seen)) ≡ shut_server (server_parked (unspoilt_by (is_silent seen.server seen.shut) parked) seen)
closes_parked None seen = none_by (is_silent seen.server seen.shut) seen
closes_parked (Some parked) seen = parked_by (is_silent seen.server seen.shut) parked seen refl

-- what is asked is said to no client
asked_of_none : (ask : Command) → IsAskOf any_flow ask → to_servers (ask ∷ []) ≡ ask ∷ []
asked_of_none (commands.Send side text) is = absurd is
asked_of_none (commands.Close side) is = absurd is
asked_of_none (commands.Dial server address inside) is = refl
asked_of_none (commands.Ask ask flow) is = refl
asked_of_none (commands.Done flow) is = absurd is

-- behind what is used nothing stands
unsent : (used : ℕ) (prefix : List (Timed Event)) → drop used (bytes_of Client (all_of_servers prefix)) ≡ []
unsent used prefix = ap (drop used) (no_bytes prefix) ∙ drop-nil used

-- ---- what is kept, and what is owed

module _ (terms : Terms) (recorded : Request) (boxed : Box Stream) (next_child : Child) (more : List Command) (place : Standing) (prefix : List (Timed Event)) where
  -- at this stage of the flow's chain, in this sight, where this is found
  record FollowsBy (stage : flows.Stage) (seen : Sight) (l : Look Command) : Type 0 where
    keeps : KeepsBy (look_by stage seen l) terms next_child (goes_on place) prefix
    gives : (view : View) → seen_of view (to_servers (found l)) ++ seen_of view more ≡ seen_of view (found (look_by stage seen l))

  -- by the phase
  abbrev Leads : Phase → Type 0
  Leads found = FollowsAs (is_idle found) (outcome_in found) boxed next_child more

  module _ (at : IsInSequence terms 0 boxed.value place (all_of_servers prefix)) (unparked : IsUnparked place.stage) (seen : Sight) where
    -- it waits still
    waits_on : (stage : flows.Stage) → look_by stage seen NotYet ≡ NotYet → (next_child ≡ children.GoesOn boxed) × (more ≡ []) → FollowsBy stage seen NotYet
    waits_on stage is (same, none) =
        let P : Look Command → Type 0 = λ l. KeepsBy l terms next_child (goes_on place) prefix in
        record {
          keeps = subst P (sym is) (record { stream = boxed; is = same; there = at; unparked = unparked });
          gives = λ view. ap (seen_of view) none ∙ ap (λ l. seen_of view (found l)) (sym is);
        }

    asks_on : (stage : flows.Stage) (ask : Command) → look_by stage seen (Asks ask) ≡ Asks ask → to_servers (ask ∷ []) ≡ ask ∷ [] →
        (next_child ≡ children.GoesOn boxed) × (more ≡ []) → FollowsBy stage seen (Asks ask)
    asks_on stage ask is asked (same, none) =
        let P : Look Command → Type 0 = λ l. KeepsBy l terms next_child (goes_on place) prefix in
        record {
          keeps = subst P (sym is) (record { stream = boxed; is = same; there = at; unparked = unparked });
          gives = λ view.
              ap (λ l. seen_of view (to_servers (ask ∷ [])) ++ seen_of view l) none
              ∙ (append-nil (seen_of view (to_servers (ask ∷ [])))
              ∙ (ap (seen_of view) asked ∙ ap (λ l. seen_of view (found l)) (sym is)));
        }

    ends_on : (stage : flows.Stage) (owed : List Command) → look_by stage seen (Ends owed) ≡ Ends (to_servers owed) → (next_child ≡ children.Over) × (more ≡ []) →
        FollowsBy stage seen (Ends owed)
    ends_on stage owed is (same, none) =
        let P : Look Command → Type 0 = λ l. KeepsBy l terms next_child (goes_on place) prefix in
        record {
          keeps = subst P (sym is) same;
          gives = λ view.
              ap (λ l. seen_of view (to_servers owed) ++ seen_of view l) none
              ∙ (append-nil (seen_of view (to_servers owed)) ∙ ap (λ l. seen_of view (found l)) (sym is));
        }

    -- where the next flow would begin this one is finished, and the side that is kept is closed
    idle_on : boxed.value.side ≡ parked_link boxed.value.at.parked seen → (next_child ≡ children.Over) × (more ≡ shut_if (open_parked boxed.value.at.parked boxed.value.side)) →
        FollowsBy (idle boxed.value.at) seen NotYet
    idle_on side (same, gave) = record {
      keeps = same;
      gives = λ view. ap (seen_of view) (gave ∙ (ap (λ s. shut_if (open_parked boxed.value.at.parked s)) side ∙ closes_parked boxed.value.at.parked seen));
    }

    -- a response of code 101 finishes it
    upgrades_on : (here : At) (flow : Flow) (server : ℕ) (owed : List Command) → owed ≡ [] →
        (next_child ≡ children.Over) × (more ≡ finished_by (Some flow) (Some (server_in server seen))) → FollowsBy (busy here flow (upgraded server)) seen (Ends owed)
    upgrades_on here flow server owed nothing (same, gave) = record {
      keeps = same;
      gives = λ view. ap (λ l. seen_of view (to_servers l) ++ seen_of view more) nothing ∙ ap (seen_of view) gave;
    }

    module _ (leads : Leads boxed.value.phase) where
      -- ---- it looks for something

      abbrev here : At
      here = boxed.value.at

      not_yet : (looked : Wanted) (told : SentOn) → boxed.value.phase ≡ phase.Ready looked → look terms (stage_of here looked) seen ≡ NotYet →
          HasSide (stage_of here looked) seen told looked boxed.value.side → FollowsBy (stage_of here looked) seen NotYet
      not_yet ready.Idle told same is side = idle_on side (subst Leads same leads)
      not_yet (ready.RequestBody flow given most body kept) told same is side = waits_on (busy here flow (request_body given most)) refl (subst Leads same leads)
      not_yet (ready.Connection flow up) told same is side = waits_on (busy here flow (connection (sent_by up))) refl (subst Leads same leads)
      not_yet (ready.ResponseHead flow server up) told same is side = waits_on (busy here flow (response_head server (sent_of up))) refl (subst Leads same leads)
      not_yet (ready.ResponseBody flow server up most body held) told same is side = waits_on (busy here flow (response_body server (sent_of up) most)) refl (subst Leads same leads)
      not_yet (ready.ComingDown flow server up sent) told same is side = waits_on (busy here flow (coming_down server (sent_of up))) refl (subst Leads same leads)
      not_yet (ready.Upgraded flow server) told same is side = absurd (never_waits seen.closed is)
      not_yet (ready.GivenHead flow) told same is side = waits_on (busy here flow given_head) refl (subst Leads same leads)
      not_yet (ready.GivenBody flow) told same is side = waits_on (busy here flow given_body) refl (subst Leads same leads)
      not_yet (ready.Connects address) told same is side = absurd (never_waits seen.closed is)
      not_yet ready.Over told same is side = absurd (never_waits seen.closed is)

      -- ---- it asks

      -- what is asked is asked of others
      quiet_ask : (stage : flows.Stage) (ask : Command) → look terms stage seen ≡ Asks ask → to_servers (ask ∷ []) ≡ ask ∷ []
      quiet_ask stage ask is = let P : Look Command → Type 0 = λ l. LooksQuiet any_flow l in asked_of_none ask (subst P is (finds_quiet_end terms stage seen))

      asks_it : (stage : flows.Stage) (ask : Command) (awaits : Asked) → seen.client ≡ [] → seen.closed ≡ false → boxed.value.phase ≡ phase.Asked awaits → look terms stage seen ≡ Asks ask →
          FollowsBy stage seen (Asks ask)
      asks_it stage ask awaits none unclosed same is =
          let P : Look Command → Type 0 = λ k. k ≡ Asks ask in
          let there : (s : flows.Stage) → stage ≡ s → look terms s seen ≡ Asks ask = λ s here. ap (λ k. look terms k seen) (sym here) ∙ is in
          let asks : look_by stage seen (Asks ask) ≡ Asks ask =
          found_by P stage seen (Asks ask) (λ here begins. absurd (let no : NotYet ≡ Asks ask = sym (idle_waits terms here seen none unclosed) ∙ there (idle here) begins in cc))
          (λ here flow server upgrades. absurd (never_asks seen.closed ask (there (busy here flow (upgraded server)) upgrades))) refl in
          asks_on stage ask asks (quiet_ask stage ask is) (subst Leads same leads)

      -- ---- it ends

      -- the flow and the side of one that a response of code 101 finished
      finished_as : (flow : Flow) (server : ℕ) → boxed.value.phase ≡ phase.Ready (ready.Upgraded flow server) → ByServer server (closed_in boxed.value.side) ≡ server_in server seen →
          more ≡ finished_by (phase_flow boxed.value.phase) (upgraded_side boxed.value.phase boxed.value.side) → more ≡ finished_by (Some flow) (Some (server_in server seen))
      finished_as flow server is_phase is_side gave =
          gave ∙ (ap (λ p. finished_by (phase_flow p) (upgraded_side p boxed.value.side)) is_phase ∙ ap (λ u. finished_by (Some flow) (Some u)) is_side)

      ends_as : (stage : flows.Stage) (owed : List Command) (last : Wanted) → boxed.value.phase ≡ phase.Ready last → look_by stage seen (Ends owed) ≡ Ends (to_servers owed) → last ≡ ready.Over →
          FollowsBy stage seen (Ends owed)
      ends_as stage owed last same goes over = ends_on stage owed goes (subst Leads (same ∙ ap phase.Ready over) leads)

      ends_it : (stage : flows.Stage) (owed : List Command) (last : Wanted) → seen.client ≡ [] → seen.closed ≡ false → boxed.value.phase ≡ phase.Ready last → look terms stage seen ≡ Ends owed →
          IsLast terms stage seen boxed.value.requests boxed.value.side last → FollowsBy stage seen (Ends owed)
      ends_it (idle here) owed last none unclosed same is over = absurd (let no : NotYet ≡ Ends owed = sym (idle_waits terms here seen none unclosed) ∙ is in cc)
      ends_it (busy here flow (request_body given most)) owed last none unclosed same is over = ends_as (busy here flow (request_body given most)) owed last same refl over
      ends_it (busy here flow (connection how)) owed last none unclosed same is over = ends_as (busy here flow (connection how)) owed last same refl over
      ends_it (busy here flow (response_head server sent)) owed last none unclosed same is over = ends_as (busy here flow (response_head server sent)) owed last same refl over
      ends_it (busy here flow (response_body server sent most)) owed last none unclosed same is over = ends_as (busy here flow (response_body server sent most)) owed last same refl over
      ends_it (busy here flow (coming_down server sent)) owed last none unclosed same is over = ends_as (busy here flow (coming_down server sent)) owed last same refl over
      ends_it (busy here flow (upgraded server)) owed last none unclosed same is over =
          let there = same ∙ ap phase.Ready over.phase in
          let led : Leads (phase.Ready (ready.Upgraded flow server)) = subst Leads there leads in
          let nothing : owed ≡ [] = (let e : Ends owed ≡ Ends [] = ends_at_once seen.closed (Ends owed) is in cc) in
          upgrades_on here flow server owed nothing (led.0, finished_as flow server there (used_open server seen.server seen.shut boxed.value.side over.is_open) led.1)
      ends_it (busy here flow given_head) owed last none unclosed same is over = ends_as (busy here flow given_head) owed last same refl over
      ends_it (busy here flow given_body) owed last none unclosed same is over = ends_as (busy here flow given_body) owed last same refl over
      ends_it (next here) owed last none unclosed same is over = ends_as (next here) owed last same refl over
      ends_it flows.over owed last none unclosed same is over = ends_as flows.over owed last same refl over

      follows_by : (stage : flows.Stage) (l : Look Command) → seen.client ≡ [] → seen.closed ≡ false → look terms stage seen ≡ l →
          PhaseAt l terms boxed.value.at boxed.value.requests boxed.value.side boxed.value.phase stage seen → FollowsBy stage seen l
      follows_by stage NotYet none unclosed is (looked, sent, same, wants, gave, rests) =
          let P : flows.Stage → Type 0 = λ s. look terms s seen ≡ NotYet → HasSide s seen sent looked boxed.value.side → FollowsBy s seen NotYet in
          subst P wants.is_stage (not_yet looked sent same) is wants.has_side
      follows_by stage (Asks ask) none unclosed is (awaits, same, asked) = asks_it stage ask awaits none unclosed same is
      follows_by stage (Ends owed) none unclosed is (last, same, over) = ends_it stage owed last none unclosed same is over

-- What follows at a place: what is kept, and what was given beside what the flow's chain owes.
pub record FollowsAt (terms : Terms) (recorded : Request) (next_child : Child) (more : List Command) (place : Standing) (prefix : List (Timed Event)) : Type 0 where
  pub there : IsChild terms recorded next_child (goes_on place) prefix
  pub gives : (view : View) → seen_of view (to_servers (found ((flows_of terms recorded).look place (all_of_servers prefix)))) ++ seen_of view more
      ≡ seen_of view (found ((resend_chain terms recorded).look (goes_on place) prefix))

pub follows_at : (terms : Terms) (recorded : Request) (boxed : Box Stream) (next_child : Child) (more : List Command) (place : Standing) (prefix : List (Timed Event)) →
    IsInSequence terms 0 boxed.value place (all_of_servers prefix) → IsUnparked place.stage → Follows boxed next_child more → FollowsAt terms recorded next_child more place prefix
follows_at terms recorded boxed next_child more place prefix at unparked follows =
    let seen : Sight = sight_over place (all_of_servers prefix) in
    let by = follows_by terms recorded boxed next_child more place prefix at unparked seen follows place.stage (look terms place.stage seen)
    (unsent place.used.client prefix) (never_closed prefix) refl at.is_at.is_in.phase in
    record { there = by.keeps; gives = by.gives }

-- ---- what is awaited then, and how many replies may still be asked for

-- its flow is finished, and its server's side closed
pub finishes_so : (out between longer : List Command) (flow known : Option Flow) (used side : Option Used) → flow ≡ known → used ≡ side → between ≡ out ++ done_by flow →
    longer ≡ between ++ shut_by used → longer ≡ out ++ finished_by known side
finishes_so out between longer flow known used side same_flow same_side first second =
    second
    ∙ (ap (λ l. l ++ shut_by used) first
    ∙ (append_assoc out (done_by flow) (shut_by used)
    ∙ (ap (λ f. out ++ (done_by f ++ shut_by used)) same_flow ∙ ap (λ u. out ++ (done_by known ++ shut_by u)) same_side)))

-- a flow that is finished asks nothing, nor does the close of a side that was kept
closes_asks : (parked : Option ℕ) → flat_map asks_in (shut_if parked) ≡ []
closes_asks None = refl
closes_asks (Some server) = refl

shut_asks : (used : Used) → flat_map asks_in (shut_server used) ≡ []
shut_asks NoServer = refl
shut_asks (ByServer number true) = refl
shut_asks (ByServer number false) = refl

finished_asks : (flow : Option Flow) (used : Option Used) → flat_map asks_in (finished_by flow used) ≡ []
finished_asks None None = refl
finished_asks None (Some used) = shut_asks used
finished_asks (Some flow) None = refl
finished_asks (Some flow) (Some used) = shut_asks used

module _ (boxed : Box Stream) (next_child : Child) (more : List Command) where
  -- it has ended, and nothing is asked
  over_asks : next_child ≡ children.Over → flat_map asks_in more ≡ [] → flat_map asks_in more ≡ option_to_list (awaited_by next_child)
  over_asks same none = none ∙ ap (λ child. option_to_list (awaited_by child)) (sym same)

  none_asked : more ≡ [] → flat_map asks_in more ≡ []
  none_asked none = ap (flat_map asks_in) none

  -- or it goes on, and what its stream awaits is awaited
  goes_asks : (is_here : Phase) → boxed.value.phase ≡ is_here → (next_child ≡ children.GoesOn boxed) × (more ≡ []) →
      option_to_list (awaited_in is_here) ++ flat_map asks_in more ≡ option_to_list (awaited_by next_child)
  goes_asks is_here its (same, none) =
      ap (λ l. option_to_list (awaited_in is_here) ++ l) (none_asked none)
      ∙ (append-nil (option_to_list (awaited_in is_here))
      ∙ (ap (λ p. option_to_list (awaited_in p)) (sym its) ∙ ap (λ child. option_to_list (awaited_by child)) (sym same)))

  asks_by : (is_here : Phase) → boxed.value.phase ≡ is_here → FollowsAs (is_idle is_here) (outcome_in is_here) boxed next_child more →
      option_to_list (awaited_in is_here) ++ flat_map asks_in more ≡ option_to_list (awaited_by next_child)
  asks_by (phase.Asked awaits) its leads = goes_asks (phase.Asked awaits) its leads
  asks_by (phase.Ready ready.Idle) its leads = over_asks leads.0 (ap (flat_map asks_in) leads.1 ∙ closes_asks (open_parked boxed.value.at.parked boxed.value.side))
  asks_by (phase.Ready (ready.RequestBody flow given most body kept)) its leads = goes_asks (phase.Ready (ready.RequestBody flow given most body kept)) its leads
  asks_by (phase.Ready (ready.Connection flow up)) its leads = goes_asks (phase.Ready (ready.Connection flow up)) its leads
  asks_by (phase.Ready (ready.ResponseHead flow server up)) its leads = goes_asks (phase.Ready (ready.ResponseHead flow server up)) its leads
  asks_by (phase.Ready (ready.ResponseBody flow server up most body held)) its leads = goes_asks (phase.Ready (ready.ResponseBody flow server up most body held)) its leads
  asks_by (phase.Ready (ready.ComingDown flow server up sent)) its leads = goes_asks (phase.Ready (ready.ComingDown flow server up sent)) its leads
  asks_by (phase.Ready (ready.GivenHead flow)) its leads = goes_asks (phase.Ready (ready.GivenHead flow)) its leads
  asks_by (phase.Ready (ready.GivenBody flow)) its leads = goes_asks (phase.Ready (ready.GivenBody flow)) its leads
  asks_by (phase.Ready (ready.Connects address)) its leads = over_asks leads.0 (none_asked leads.1)
  asks_by (phase.Ready (ready.Upgraded flow server)) its leads =
      over_asks leads.0 (ap (flat_map asks_in) leads.1 ∙ finished_asks (phase_flow boxed.value.phase) (upgraded_side boxed.value.phase boxed.value.side))
  asks_by (phase.Ready ready.Over) its leads = over_asks leads.0 (none_asked leads.1)

  pub follows_asks : Follows boxed next_child more →
      option_to_list (awaited_in boxed.value.phase) ++ flat_map asks_in more ≡ option_to_list (awaited_by next_child)
  follows_asks follows = asks_by boxed.value.phase refl follows

  over_left : next_child ≡ children.Over → left_by next_child ≤ sequence_left boxed.value
  over_left same = let none : left_by next_child ≡ 0 = ap left_by same in omega arith

  left_as : (idles : Bool) (outcome : Outcome) → FollowsAs idles outcome boxed next_child more → left_by next_child ≤ sequence_left boxed.value
  left_as true outcome leads = over_left leads.0
  left_as false outcomes.Going leads = let same : left_by next_child ≡ sequence_left boxed.value = ap left_by leads.0 in omega arith
  left_as false outcomes.Upgraded leads = over_left leads.0
  left_as false outcomes.Connects leads = over_left leads.0
  left_as false outcomes.Next leads = over_left leads.0
  left_as false outcomes.Over leads = over_left leads.0

  pub follows_left : Follows boxed next_child more → left_by next_child ≤ sequence_left boxed.value
  follows_left follows = left_as (is_idle boxed.value.phase) (outcome_in boxed.value.phase) follows
