-- The walk of a conversation whose replies go on: from one ask to the next, and all that is due is in closed form.
use Rattle.std.proofs.Common.{◌≡◌, ℕ, zero, suc, ◌+◌, Bool, true, false, List, [], ◌∷◌, ◌++◌, length, map, Some, None, refl, ap, sym, ◌∙◌, subst, append_assoc, length-append, arith}
use Rattle.std.proofs.lemmas.List.{append-nil, map-append}
use Rattle.px_text.specs.Prefix.{IsPrefixOf}
use Rattle.px_event.specs.declared.command.Command.{Command}
use Rattle.px_event.specs.declared.command.Command.TheVariants as commands
use Rattle.px_event.specs.declared.event.Event.{Event}
use Rattle.px_event.specs.declared.reply.Reply.{Reply}
use Rattle.px_event.specs.Chain.{Stamp, Stamped, Timed, Look, NotYet, Asks, Ends, Reached, Stop, Chain, Turn, worked_off, at_its_step, reach, reach_by, stop_at, walk, walk_by, found, found_at, found_with, owed_at}
use Rattle.px_event.specs.Laws.{seen_values, waiting_values}
use Rattle.px_event.proofs.Growth.{prefix_behind}
use Rattle.px_event.proofs.Reach.{reach_all, reach_values}
use Rattle.px_exchange.specs.EndOrder.{FoundInOrder, OnlyCloses}
use Rattle.px_exchange.specs.declared.terms.Terms.{Terms}
use Rattle.px_chain.specs.Behind.{dials_at, used_by_turn}
use Rattle.px_chain.specs.Chain.{behind, come_down, end_up, goes_to, http_chain, leaving, look, opened_by, pass, pass_going, pass_kept, sequence, sight_ended, so_far, turn, used_by_coming, used_by_end, used_by_kept, used_by_pass, waits_at}
use Rattle.px_chain.specs.Keeping.{strays, unspoilt, unspoilt_at}
use Rattle.px_said.specs.ClosedForm.{GoesOn, first_flows, flows_behind, said, said_of_flows}
use Rattle.px_chain.specs.Sights.{Sight, Standing, UsedBytes, answers_in, request_in, sight_of, sight_over}
use Rattle.px_chain.specs.Stages.{At, Stage, all_sent, busy, connection, given_body, given_head, going_up, idle, next, over, request_body, response_body, response_head, side_of, side_parked, upgraded, coming_down}
use Rattle.px_chain.specs.Streams.{Since, client_closed}
use Rattle.px_said.specs.Walks.{Walk, answered, due_from, heard, point_at}
use Rattle.px_said.proofs.ClosedExact.{stage_more, stage_stood}
use Rattle.px_said.proofs.ClosedFronts.{IsFront, IsSame, front_of, same_of, still_open}
use Rattle.px_said.proofs.ClosedLooks.{IsLast, behind_these, ends_ask}
use Rattle.px_said.proofs.ClosedQuiet.{Keeps, Skips, closes_said, end_said, goes_none, keep_both, said_join, says_interim, says_strays, says_waiting, skip_both, streams_none}
use Rattle.px_said.proofs.ClosedReturns.{answer_led, returned_led}
use Rattle.px_said.proofs.ClosedStages.{IsAt}
use Rattle.px_said.proofs.ClosedTurns.{Leads, Led, body_led, dial_led, goes_on, has_ended, idle_led}
use Rattle.px_said.proofs.WalkLemmas.{walk_behind}
use Rattle.px_chain.proofs.EndLemmas.{behind_closes, looks_in_order}
use Rattle.px_chain.specs.Coming.{came_in, streaming}
use Rattle.px_chain.specs.Going.{sends_going}
use Rattle.px_chain.proofs.ChainLaws.{behind_turn}

-- ---- a stage of the conversation

waits_skips : (terms : Terms) (stage : Stage) (seen : Sight) → Skips (waits_at terms stage seen)
waits_skips terms (idle at) seen may_wait rest replies goes = goes
waits_skips terms (busy at flow (request_body given most)) seen may_wait rest replies goes = goes
waits_skips terms (busy at flow (connection how)) seen may_wait rest replies goes = goes
waits_skips terms (busy at flow (response_head side all_sent)) seen may_wait rest replies goes = (says_interim flow.request (answers_in flow.request seen).interim).skips may_wait rest replies goes
waits_skips terms (busy at flow (response_head side going_up)) seen may_wait rest replies goes = (says_interim flow.request (answers_in flow.request seen).interim).skips may_wait rest replies goes
waits_skips terms (busy at flow (response_body side all_sent most)) seen may_wait rest replies goes = goes
waits_skips terms (busy at flow (response_body side going_up most)) seen may_wait rest replies goes = goes
waits_skips terms (busy at flow (coming_down side all_sent)) seen may_wait rest replies goes = goes
waits_skips terms (busy at flow (coming_down side going_up)) seen may_wait rest replies goes = goes
waits_skips terms (busy at flow (upgraded side)) seen may_wait rest replies goes = goes
waits_skips terms (busy at flow given_head) seen may_wait rest replies goes = goes
waits_skips terms (busy at flow given_body) seen may_wait rest replies goes = goes
waits_skips terms (next at) seen may_wait rest replies goes = goes
waits_skips terms over seen may_wait rest replies goes = goes

so_far_skips : (terms : Terms) (stage : Stage) (seen : Sight) → Skips (so_far terms stage seen)
so_far_skips terms stage seen = skip_both (strays stage seen) (waits_at terms stage seen) (says_strays stage seen).skips (waits_skips terms stage seen)

waits_keeps : (terms : Terms) (stage : Stage) (seen : Sight) → Keeps (waits_at terms stage seen)
waits_keeps terms (idle at) seen more rest = refl
waits_keeps terms (busy at flow (request_body given most)) seen more rest = refl
waits_keeps terms (busy at flow (connection how)) seen more rest = refl
waits_keeps terms (busy at flow (response_head side all_sent)) seen more rest = (says_interim flow.request (answers_in flow.request seen).interim).keeps more rest
waits_keeps terms (busy at flow (response_head side going_up)) seen more rest = ap (λ l. sends_going terms.place flow side seen ++ l) ((says_interim flow.request (answers_in flow.request seen).interim).keeps more rest)
waits_keeps terms (busy at flow (response_body side all_sent most)) seen more rest = refl
waits_keeps terms (busy at flow (response_body side going_up most)) seen more rest = refl
waits_keeps terms (busy at flow (coming_down side all_sent)) seen more rest = refl
waits_keeps terms (busy at flow (coming_down side going_up)) seen more rest = refl
waits_keeps terms (busy at flow (upgraded side)) seen more rest = refl
waits_keeps terms (busy at flow given_head) seen more rest = refl
waits_keeps terms (busy at flow given_body) seen more rest = refl
waits_keeps terms (next at) seen more rest = refl
waits_keeps terms over seen more rest = refl

so_far_keeps : (terms : Terms) (stage : Stage) (seen : Sight) → Keeps (so_far terms stage seen)
so_far_keeps terms stage seen = keep_both (strays stage seen) (waits_at terms stage seen) (says_strays stage seen).keeps (waits_keeps terms stage seen)

-- what is found says the same up to the end of a flow, and the closes behind an ask say nothing
found_said : (more : ℕ) (parts : List Command) (l : Look Command) → OnlyCloses parts → FoundInOrder l → said (first_flows (suc more) (found_with parts l)) ≡ said (found l)
found_said more parts NotYet closes is = refl
found_said more parts (Asks ask) closes is =
    said_join (ask ∷ []) (first_flows (flows_behind more ask) parts)
    ∙ (ap (λ l. said (ask ∷ []) ++ l) (closes_said (flows_behind more ask) parts closes) ∙ append-nil (said (ask ∷ [])))
found_said more parts (Ends owed) closes is = end_said more owed is

-- a question that waits does so whatever is owed behind it
waits_alone : (ask : Command) (more : List Command) → GoesOn false (ask ∷ more) [] → GoesOn false (ask ∷ []) []
waits_alone (commands.Ask asked flow) more goes = goes
waits_alone (commands.Dial server address inside) more goes = goes
waits_alone (commands.Send side text) more goes = tt
waits_alone (commands.Close side) more goes = tt
waits_alone (commands.Done flow) more goes = tt

module _ (terms : Terms) (events : List (Timed Event)) (all : List Command) where
  module _ (flows : ℕ) where
    -- a stage at which it may stand does not pass
    record Stays (stage : Stage) (seen : Sight) : Type 0 where
      goes : pass terms stage seen ≡ goes_to stage
      uses : (used : UsedBytes) → used_by_pass terms stage seen used ≡ used
      onward : sequence stage ≡ stage

    -- what passes behind where a request began to go up, and what is used then
    abbrev behind_begun : Stage → Sight → Turn Stage Command
    behind_begun to seen = behind_turn (end_up terms to seen) (come_down terms (end_up terms to seen).stage (sight_ended to seen))

    abbrev used_behind_begun : Stage → Sight → UsedBytes → UsedBytes
    used_behind_begun to seen used = used_by_coming (end_up terms to seen).stage (sight_ended to seen) (used_by_end to seen used)

    stays_at : (stage : Stage) (seen : Sight) (opened : ℕ) (used : UsedBytes) (come : ℕ) (sent : List Command) (left : List Reply) → IsAt terms events all flows stage opened used come sent left → Stays stage seen
    stays_at (idle at) seen opened used come sent left is = record { goes = refl; uses = λ used. refl; onward = refl }
    stays_at (busy at flow (request_body None None)) seen opened used come sent left is = record {
      goes = ap (λ b. behind_begun (pass_going b terms.place at flow None seen) seen) (goes_none seen);
      uses = λ used. ap (λ b. used_behind_begun (pass_going b terms.place at flow None seen) seen used) (goes_none seen);
      onward = refl;
    }
    stays_at (busy at flow (request_body None (Some most))) seen opened used come sent left is = absurd is
    stays_at (busy at flow (request_body (Some response) most)) seen opened used come sent left is = absurd is
    stays_at (busy at flow (connection all_sent)) seen opened used come sent left is = record { goes = refl; uses = λ used. refl; onward = refl }
    stays_at (busy at flow (connection going_up)) seen opened used come sent left is = absurd is
    stays_at (busy at flow (response_head side all_sent)) seen opened used come sent left is = record { goes = refl; uses = λ used. refl; onward = refl }
    stays_at (busy at flow (response_head side going_up)) seen opened used come sent left is = absurd is
    stays_at (busy at flow (response_body side all_sent None)) seen opened used come sent left is = record {
      goes = ap (λ b. behind_turn (goes_to (busy at flow (response_body side all_sent None))) (pass_kept b terms.place at flow side all_sent None seen)) (streams_none flow seen);
      uses = λ used. ap (λ b. used_by_kept b at (streaming flow) all_sent seen (came_in (streaming flow) seen) used) (streams_none flow seen);
      onward = refl;
    }
    stays_at (busy at flow (response_body side all_sent (Some most))) seen opened used come sent left is = absurd is
    stays_at (busy at flow (response_body side going_up most)) seen opened used come sent left is = absurd is
    stays_at (busy at flow (coming_down side how)) seen opened used come sent left is = absurd is
    stays_at (busy at flow (upgraded side)) seen opened used come sent left is = record { goes = refl; uses = λ used. refl; onward = refl }
    stays_at (busy at flow given_head) seen opened used come sent left is = absurd is
    stays_at (busy at flow given_body) seen opened used come sent left is = absurd is
    stays_at (next at) seen opened used come sent left is = absurd is
    stays_at over seen opened used come sent left is = record { goes = refl; uses = λ used. refl; onward = refl }

    stage_led : (stage : Stage) (since : Since) (opened : ℕ) (used : UsedBytes) (up : ℕ) (prefix : List (Timed Event)) → IsFront prefix events → (sent : List Command) (replies : List Reply) (value : Reply) →
        IsAt terms events all flows stage opened used (length prefix) sent (value ∷ replies) → (moment : ℕ) (ask : Command) (may_wait : Bool) (rest : List Command) →
        let seen = sight_of (side_of stage) since opened used up prefix in
        look terms stage seen ≡ Asks ask →
        let turned = turn terms stage seen (record { moment = moment; value = value }) in
        Leads terms events all flows (behind_these (behind stage seen) turned) (opened_by (dials_at stage) opened (length prefix)) (used_by_turn stage seen used) (length prefix) sent (so_far terms stage seen) ask
        may_wait rest value replies
    stage_led (idle at) since opened used up prefix is sent replies value stands moment ask may_wait rest asks =
        let seen = sight_of (side_parked at.parked) since opened used up prefix in
        idle_led terms events all flows sent moment value may_wait rest replies since opened used up prefix is ask (leaving (unspoilt (idle at) seen) seen) (so_far terms (idle at) seen)
        (says_waiting (idle at) seen) at (request_in seen) refl stands asks
    stage_led (busy at flow (request_body None (Some most))) since opened used up prefix is sent replies value stands moment ask may_wait rest asks = absurd stands
    stage_led (busy at flow (request_body None None)) since opened used up prefix is sent replies value stands moment ask may_wait rest asks =
        let seen = sight_of (side_parked at.parked) since opened used up prefix in
        let body : Stage = busy at flow (request_body None None) in
        body_led terms events all flows sent moment value may_wait rest replies since opened used up prefix is ask (leaving (unspoilt body seen) seen) (so_far terms body seen)
        (says_waiting body seen) at flow (request_in seen) refl stands asks
    stage_led (busy at flow (request_body (Some response) most)) since opened used up prefix is sent replies value stands moment ask may_wait rest asks = absurd stands
    stage_led (busy at flow (connection going_up)) since opened used up prefix is sent replies value stands moment ask may_wait rest asks = absurd stands
    stage_led (busy at flow (connection all_sent)) since opened used up prefix is sent replies value stands moment ask may_wait rest asks =
        let seen = sight_of (side_parked at.parked) since opened used up prefix in
        let dialling : Stage = busy at flow (connection all_sent) in
        dial_led terms events all flows sent moment value may_wait rest replies since opened used up prefix is ask [] (so_far terms dialling seen) (says_waiting dialling seen) at flow stands asks
    stage_led (busy at flow (response_head side going_up)) since opened used up prefix is sent replies value stands moment ask may_wait rest asks = absurd stands
    stage_led (busy at flow (response_head side all_sent)) since opened used up prefix is sent replies value stands moment ask may_wait rest asks =
        let seen = sight_of (Some side) since opened used up prefix in
        answer_led terms events all flows sent moment value may_wait rest replies since opened used up prefix is ask (unspoilt_at at seen) flow side
        (record { went = stands.went; onward = stands.onward; from = stands.from; rest = stands.rest }) (answers_in flow.request seen).final refl asks
    stage_led (busy at flow (response_body side going_up most)) since opened used up prefix is sent replies value stands moment ask may_wait rest asks = absurd stands
    stage_led (busy at flow (response_body side all_sent None)) since opened used up prefix is sent replies value stands moment ask may_wait rest asks =
        let seen = sight_of (Some side) since opened used up prefix in
        returned_led terms events all flows sent moment value may_wait rest replies since opened used up prefix is ask (unspoilt_at at seen) flow side
        (record { went = stands.went; onward = stands.onward; from = stands.from; head = stands.head; final = stands.final; response = stands.response; rest = stands.rest })
        (answers_in flow.request seen).final refl asks
    stage_led (busy at flow (response_body side all_sent (Some most))) since opened used up prefix is sent replies value stands moment ask may_wait rest asks = absurd stands
    stage_led (busy at flow (coming_down side how)) since opened used up prefix is sent replies value stands moment ask may_wait rest asks = absurd stands
    stage_led (busy at flow (upgraded side)) since opened used up prefix is sent replies value stands moment ask may_wait rest asks = absurd (ends_ask [] ask asks)
    stage_led (busy at flow given_head) since opened used up prefix is sent replies value stands moment ask may_wait rest asks = absurd stands
    stage_led (busy at flow given_body) since opened used up prefix is sent replies value stands moment ask may_wait rest asks = absurd stands
    stage_led (next at) since opened used up prefix is sent replies value stands moment ask may_wait rest asks = absurd (ends_ask [] ask asks)
    stage_led over since opened used up prefix is sent replies value stands moment ask may_wait rest asks = absurd (ends_ask [] ask asks)

  -- ---- the walk

  abbrev chain : Chain Standing Event Reply Command
  chain = http_chain sequence terms

  -- a place of the walk, with so many flows behind the one that stands there
  abbrev Stands : ℕ → Standing → ℕ → List Command → List Reply → Type 0
  Stands flows place come sent left = IsAt terms events all flows place.stage place.opened place.used come sent left

  -- all events are those of the prefix and those that wait
  abbrev IsAll : List (Timed Event) → List (Stamped Event) → Type 0
  IsAll f es = seen_values f ++ waiting_values es ≡ seen_values events

  front_in : (f : List (Timed Event)) (es : List (Stamped Event)) → IsAll f es → IsFront f events
  front_in f es whole = front_of f events (waiting_values es) whole

  all_on : (last : Stamp) (f : List (Timed Event)) (e : Stamped Event) (es : List (Stamped Event)) → IsAll f (e ∷ es) → IsAll (f ++ worked_off last e ∷ []) es
  all_on last f e es whole =
      ap (λ l. l ++ waiting_values es) (map-append (λ (t : Timed Event). t.value) f (worked_off last e ∷ []))
      ∙ (append_assoc (seen_values f) (e.value ∷ []) (waiting_values es) ∙ whole)

  -- a search that owes nothing, and stops where it may stand
  record Kept (flows : ℕ) (here : Reached Standing Event Command) (sent : List Command) (left : List Reply) : Type 0 where
    pub none : here.before ≡ []
    pub place : Stands flows here.stage (length here.prefix) sent left

  reach_by_kept : (flows : ℕ) (l : Look Command) (further here : Reached Standing Event Command) (sent : List Command) (left : List Reply) →
      (l ≡ NotYet → Kept flows further sent left) → Kept flows here sent left → Kept flows (reach_by l further here) sent left
  reach_by_kept flows NotYet further here sent left on at = on refl
  reach_by_kept flows (Asks ask) further here sent left on at = at
  reach_by_kept flows (Ends owed) further here sent left on at = at

  -- a place of the walk stays, and owes nothing where it passes
  record NotPassed (s : Standing) (f : List (Timed Event)) : Type 0 where
    same : (chain.pass s f).stage ≡ s
    owes : (chain.pass s f).owed ≡ []

  not_passed : (flows : ℕ) (s : Standing) (f : List (Timed Event)) (come : ℕ) (sent : List Command) (left : List Reply) → Stands flows s come sent left → NotPassed s f
  not_passed flows s f come sent left is =
      let seen : Sight = sight_over s f in
      let used : UsedBytes = used_by_pass terms s.stage seen s.used in
      let stays = stays_at flows s.stage seen s.opened s.used come sent left is in
      let first = ap (λ t. sequence t.stage) stays.goes ∙ stays.onward in
      let more = stays.uses s.used in
      record {
        same = λ i. record { stage = first i; since = s.since; opened = s.opened; used = more i; told = s.told };
        owes = ap (λ t. t.owed) stays.goes;
      }

  reach_kept : (flows : ℕ) (last : Stamp) (before : List Command) (s : Standing) (f : List (Timed Event)) (es : List (Stamped Event)) (sent : List Command) (left : List Reply) →
      before ≡ [] → IsAll f es → Stands flows s (length f) sent left → Kept flows (reach chain last before s f es) sent left
  reach_kept flows last before s f [] sent left none whole is =
      let passes = not_passed flows s f (length f) sent left is in
      record {
        none = ap (λ l. before ++ l) passes.owes ∙ (append-nil before ∙ none);
        place = subst (λ p. Stands flows p (length f) sent left) (sym passes.same) is;
      }
  reach_kept flows last before s f (e ∷ es) sent left none whole is =
      let passes = not_passed flows s f (length f) sent left is in
      let still = ap (λ l. before ++ l) passes.owes ∙ (append-nil before ∙ none) in
      let on = (chain.pass s f).stage in
      let passed : Stands flows on (length f) sent left = subst (λ p. Stands flows p (length f) sent left) (sym passes.same) is in
      let longer : length f + 1 ≡ length (f ++ worked_off last e ∷ []) = sym (length-append f (worked_off last e ∷ [])) in
      let P : ℕ → Type 0 = λ n. Stands flows on n sent left in
      reach_by_kept flows (chain.look on f) _ _ sent left
      (λ found_none. reach_kept flows last (before ++ (chain.pass s f).owed) on (f ++ worked_off last e ∷ []) es sent left still (all_on last f e es whole)
      (subst P longer (stage_more terms events all flows on.stage on.since on.opened on.used on.told sent left f (front_in f (e ∷ es) whole) found_none passed)))
      (record { none = still; place = passed })

  -- what is said there begins all that is said, and is all of it where nothing more can come
  record Result (may_wait : Bool) (now : List Command) : Type 0 where
    pub begins : IsPrefixOf (said now) all
    pub exact : may_wait ≡ false → client_closed events ≡ false → said now ≡ all

  last_there : (may_wait : Bool) (here : Reached Standing Event Command) (l : Look Command) → IsAll here.prefix here.rest → (l ≡ NotYet → here.rest ≡ []) →
      ((ask : Command) → l ≡ Asks ask → may_wait ≡ false → ⊥) → may_wait ≡ false → IsLast (IsSame here.prefix events) l
  last_there may_wait here NotYet whole none asked strict =
      same_of here.prefix events
      (sym (append-nil (seen_values here.prefix)) ∙ (ap (λ es. seen_values here.prefix ++ waiting_values es) (sym (none refl)) ∙ whole))
  last_there may_wait here (Asks ask) whole none asked strict = asked ask refl strict
  last_there may_wait here (Ends owed) whole none asked strict = tt

  -- what a stage owes says the same up to the end of a flow
  owed_said : (flows : ℕ) (stage : Stage) (seen : Sight) →
      said (first_flows (suc flows) (so_far terms stage seen ++ found_with (behind stage seen) (look terms stage seen))) ≡ said (so_far terms stage seen ++ found (look terms stage seen))
  owed_said flows stage seen =
      let waits = so_far terms stage seen in
      let finds = found_with (behind stage seen) (look terms stage seen) in
      ap said (so_far_keeps terms stage seen flows finds)
      ∙ (said_join waits (first_flows (suc flows) finds)
      ∙ (ap (λ l. said waits ++ l) (found_said flows (behind stage seen) (look terms stage seen) (behind_closes stage seen) (looks_in_order terms stage seen))
      ∙ sym (said_join waits (found (look terms stage seen)))))

  there_sent : (flows : ℕ) (may_wait : Bool) (last : Stamp) (here : Reached Standing Event Command) (unused : List (Stamped Reply)) (sent : List Command) (left : List Reply) →
      Kept flows here sent left → IsAll here.prefix here.rest → (chain.look here.stage here.prefix ≡ NotYet → here.rest ≡ []) →
      ((ask : Command) → chain.look here.stage here.prefix ≡ Asks ask → may_wait ≡ false → ⊥) →
      Result may_wait (sent ++ first_flows (suc flows) (owed_at chain (stop_at last here unused)))
  there_sent flows may_wait last here unused sent left kept whole none asked =
      let place = here.stage in
      let front = front_in here.prefix here.rest whole in
      let stood = stage_stood terms events all flows place.stage place.since place.opened place.used place.told (length here.prefix) sent left here.prefix kept.place front in
      let owed = chain.so_far place here.prefix ++ found_at chain place here.prefix in
      let says = said (chain.so_far place here.prefix ++ found (chain.look place here.prefix)) in
      let joined : said (sent ++ first_flows (suc flows) owed) ≡ said sent ++ says =
      said_join sent (first_flows (suc flows) owed) ∙ ap (λ l. said sent ++ l) (owed_said flows place.stage (sight_over place here.prefix)) in
      let P : List Command → Type 0 = λ b. Result may_wait (sent ++ first_flows (suc flows) (b ++ owed)) in
      let B : List Command → Type 0 = λ l. IsPrefixOf l all in
      let A : List Command → Type 0 = λ l. IsPrefixOf (said sent ++ says) l in
      subst P (sym kept.none) (record {
        begins = subst B (sym joined) (subst A (sym stood.is) (prefix_behind (said sent) says stood.left stood.here.begins));
        exact = λ strict never. joined
            ∙ (ap (λ l. said sent ++ l)
            (stood.here.is_all (still_open here.prefix events front never) (last_there may_wait here (chain.look place here.prefix) whole none asked strict))
            ∙ sym stood.is);
      })

  walk_by_sent : (flows : ℕ) (may_wait : Bool) (l : Look Command) (onward : Command → Stop Standing Event Reply Command) (stop : Stop Standing Event Reply Command)
      (sent : List Command) (replies : List Reply) →
      ((ask : Command) → l ≡ Asks ask → GoesOn may_wait (first_flows (suc flows) (owed_at chain (onward ask))) replies →
      Result may_wait (sent ++ first_flows (suc flows) (owed_at chain (onward ask)))) →
      (((ask : Command) → l ≡ Asks ask → ⊥) → Result may_wait (sent ++ first_flows (suc flows) (owed_at chain stop))) →
      GoesOn may_wait (first_flows (suc flows) (owed_at chain (walk_by l onward stop))) replies →
      Result may_wait (sent ++ first_flows (suc flows) (owed_at chain (walk_by l onward stop)))
  walk_by_sent flows may_wait NotYet onward stop sent replies asked here goes = here (λ ask no. cc)
  walk_by_sent flows may_wait (Asks ask) onward stop sent replies asked here goes = asked ask refl goes
  walk_by_sent flows may_wait (Ends owed) onward stop sent replies asked here goes = here (λ ask no. cc)

  -- where the replies have ended, a question that is found waits
  last_asked : (flows : ℕ) (may_wait : Bool) (last : Stamp) (here : Reached Standing Event Command) (sent : List Command) (left : List Reply) → Kept flows here sent left →
      IsFront here.prefix events → GoesOn may_wait (first_flows (suc flows) (owed_at chain (stop_at last here []))) [] →
      (ask : Command) → chain.look here.stage here.prefix ≡ Asks ask → may_wait ≡ false → ⊥
  last_asked flows may_wait last here sent left kept front goes ask asks strict =
      let place = here.stage in
      let seen = sight_over place here.prefix in
      let so_far_there = chain.so_far place here.prefix in
      let parts = chain.behind place here.prefix in
      let P : Bool → List Command → Look Command → Type 0 = λ b before l. GoesOn b (first_flows (suc flows) (before ++ (so_far_there ++ found_with parts l))) [] in
      let B : Bool → Type 0 = λ b. P b here.before (chain.look place here.prefix) in
      let N : List Command → Type 0 = λ before. P false before (chain.look place here.prefix) in
      let L : Look Command → Type 0 = λ l. P false [] l in
      let G : List Command → Type 0 = λ l. GoesOn false l [] in
      let tail = first_flows (flows_behind flows ask) parts in
      let question : GoesOn false (so_far_there ++ (ask ∷ tail)) [] = subst G (so_far_keeps terms place.stage seen flows (ask ∷ parts)) (subst L asks (subst N kept.none (subst B strict goes))) in
      (stage_stood terms events all flows place.stage place.since place.opened place.used place.told (length here.prefix) sent left here.prefix kept.place front).here.asks ask asks
      (waits_alone ask tail (so_far_skips terms place.stage seen false (ask ∷ tail) [] question))

  -- where a reply led
  led_result : (flows : ℕ) (turned : Turn Stage Command) (opened : ℕ) (used : Stage → UsedBytes) (come : ℕ) (sent so_far : List Command) (ask : Command) (may_wait : Bool) (rest : List Command)
      (replies : List Reply) → Led terms events all flows turned opened used come sent so_far ask may_wait rest replies →
      ((more : ℕ) → IsAt terms events all more (sequence turned.stage) opened (used (sequence turned.stage)) come (sent ++ (so_far ++ ask ∷ turned.owed)) replies →
      GoesOn may_wait (first_flows (suc more) rest) replies → Result may_wait ((sent ++ (so_far ++ ask ∷ turned.owed)) ++ first_flows (suc more) rest)) →
      Result may_wait (sent ++ (so_far ++ ask ∷ first_flows (flows_behind flows ask) (turned.owed ++ rest)))
  led_result flows turned opened used come sent so_far ask may_wait rest replies (goes_on more place cut goes) further =
      let tail = first_flows (suc more) rest in
      let P : List Command → Type 0 = Result may_wait in
      subst P
      (append_assoc sent (so_far ++ ask ∷ turned.owed) tail
      ∙ (ap (λ l. sent ++ l) (append_assoc so_far (ask ∷ turned.owed) tail) ∙ ap (λ l. sent ++ (so_far ++ ask ∷ l)) (sym cut)))
      (further more place goes)
  led_result flows turned opened used come sent so_far ask may_wait rest replies (has_ended is) further =
      record { begins = ([], sym is ∙ sym (append-nil _)); exact = λ strict never. is }

  walk_sent : (flows : ℕ) (may_wait : Bool) (rs : List (Stamped Reply)) (last : Stamp) (s : Standing) (f : List (Timed Event)) (es : List (Stamped Event)) (sent : List Command) →
      Stands flows s (length f) sent (map (λ r. r.value) rs) → IsAll f es →
      GoesOn may_wait (first_flows (suc flows) (owed_at chain (walk chain rs last [] s f es))) (map (λ r. r.value) rs) →
      Result may_wait (sent ++ first_flows (suc flows) (owed_at chain (walk chain rs last [] s f es)))
  walk_sent flows may_wait [] last s f es sent is whole_there goes =
      let here = reach chain last [] s f es in
      let kept = reach_kept flows last [] s f es sent [] refl whole_there is in
      let whole = reach_values chain last [] s f es ∙ whole_there in
      there_sent flows may_wait last here [] sent [] kept whole (reach_all chain last [] s f es)
      (last_asked flows may_wait last here sent [] kept (front_in here.prefix here.rest whole) goes)
  walk_sent flows may_wait (r ∷ rs) last s f es sent is whole_there goes =
      let here = reach chain last [] s f es in
      let replies : List Reply = map (λ r. r.value) rs in
      let kept = reach_kept flows last [] s f es sent (r.value ∷ replies) refl whole_there is in
      let whole = reach_values chain last [] s f es ∙ whole_there in
      let on = chain.turn here.stage here.prefix (at_its_step r) in
      let so_far_there = chain.so_far here.stage here.prefix in
      let brought = chain.behind here.stage here.prefix ++ on.owed in
      walk_by_sent flows may_wait (chain.look here.stage here.prefix) _ _ sent (r.value ∷ replies)
      (λ ask asks goes_there.
      let more = so_far_there ++ ask ∷ brought in
      let tail = owed_at chain (walk chain rs r.stamp [] on.stage here.prefix here.rest) in
      let split : owed_at chain (walk chain rs r.stamp (here.before ++ more) on.stage here.prefix here.rest) ≡ more ++ tail =
      ap (λ b. owed_at chain (walk chain rs r.stamp (b ++ more) on.stage here.prefix here.rest)) kept.none
      ∙ (ap (λ b. owed_at chain (walk chain rs r.stamp b on.stage here.prefix here.rest)) (sym (append-nil more))
      ∙ walk_behind chain more rs r.stamp [] on.stage here.prefix here.rest) in
      let left_there = first_flows (flows_behind flows ask) (brought ++ tail) in
      let cut : first_flows (suc flows) (owed_at chain (walk chain rs r.stamp (here.before ++ more) on.stage here.prefix here.rest)) ≡ so_far_there ++ (ask ∷ left_there) =
      ap (first_flows (suc flows)) (split ∙ append_assoc so_far_there (ask ∷ brought) tail)
      ∙ so_far_keeps terms here.stage.stage (sight_over here.stage here.prefix) flows (ask ∷ (brought ++ tail)) in
      let G : List Command → Type 0 = λ l. GoesOn may_wait l (r.value ∷ replies) in
      let question : GoesOn may_wait (ask ∷ left_there) (r.value ∷ replies) =
      so_far_skips terms here.stage.stage (sight_over here.stage here.prefix) may_wait (ask ∷ left_there) (r.value ∷ replies) (subst G cut goes_there) in
      let place = here.stage in
      let led = stage_led flows place.stage place.since place.opened place.used place.told here.prefix (front_in here.prefix here.rest whole) sent replies r.value kept.place
      r.stamp.moment ask may_wait tail asks question in
      let P : List Command → Type 0 = λ l. Result may_wait (sent ++ l) in
      subst P (sym cut)
      (led_result flows (behind_these (behind place.stage (sight_over place here.prefix)) (turn terms place.stage (sight_over place here.prefix) (at_its_step r))) on.stage.opened
      (used_by_turn place.stage (sight_over place here.prefix) place.used) (length here.prefix) sent so_far_there ask may_wait tail
      replies led (λ n stands goes_further. walk_sent n may_wait rs r.stamp on.stage here.prefix here.rest (sent ++ more) stands whole goes_further)))
      (λ no_ask. there_sent flows may_wait last here (r ∷ rs) sent (r.value ∷ replies) kept whole (reach_all chain last [] s f es) (λ ask asks strict. no_ask ask asks))
      goes

-- ---- from any place on

values_heard : (es : List (Stamped Event)) → waiting_values es ≡ seen_values (map at_its_step es)
values_heard [] = refl
values_heard (e ∷ es) = ap (λ l. e.value ∷ l) (values_heard es)

result_from : (may_wait : Bool) (terms : Terms) (here : Walk) (at : At) (flows : ℕ) → here.place.stage ≡ idle at →
    GoesOn may_wait (first_flows flows (due_from terms here)) (answered here) →
    Result terms (heard here) (said_of_flows terms (heard here) (point_at at here) flows) may_wait (first_flows flows (due_from terms here))
result_from may_wait terms here at zero is goes = record { begins = ([], refl); exact = λ strict never. refl }
result_from may_wait terms here at (suc flows) is goes =
    let events = heard here in
    let all = said_of_flows terms events (point_at at here) (suc flows) in
    let P : Stage → Type 0 = λ stage. IsAt terms events all flows stage here.place.opened here.place.used (length here.prefix) [] (answered here) in
    let stands : P (idle at) = record {
      from = length here.prefix;
      within = omega arith;
      waits = λ k low high. absurd (omega arith);
      rest = refl;
    } in
    walk_sent terms events all flows may_wait here.replies here.last here.place here.prefix here.coming [] (subst P (sym is) stands)
    (ap (λ l. seen_values here.prefix ++ l) (values_heard here.coming)
    ∙ sym (map-append (λ (t : Timed Event). t.value) here.prefix (map at_its_step here.coming))) goes

pub said_begins : (terms : Terms) (here : Walk) (at : At) (flows : ℕ) → here.place.stage ≡ idle at →
    GoesOn true (first_flows flows (due_from terms here)) (answered here) →
    IsPrefixOf (said (first_flows flows (due_from terms here))) (said_of_flows terms (heard here) (point_at at here) flows)
said_begins terms here at flows is goes = (result_from true terms here at flows is goes).begins

pub said_exactly : (terms : Terms) (here : Walk) (at : At) (flows : ℕ) → here.place.stage ≡ idle at →
    GoesOn false (first_flows flows (due_from terms here)) (answered here) → client_closed (heard here) ≡ false →
    said (first_flows flows (due_from terms here)) ≡ said_of_flows terms (heard here) (point_at at here) flows
said_exactly terms here at flows is goes never = (result_from false terms here at flows is goes).exact refl never
