-- The walk of a conversation whose replies go on over any size: in each view all that is due begins what is said of its requests, or is it.
use Rattle.std.proofs.Common.{◌≡◌, ℕ, zero, suc, Bool, true, false, List, [], ◌∷◌, ◌++◌, length, map, Some, None, refl, ap, sym, ◌∙◌, subst, append_assoc, arith}
use Rattle.std.proofs.lemmas.List.{append-nil, map-append}
use Rattle.px_text.specs.Prefix.{IsPrefixOf}
use Rattle.px_event.specs.declared.command.Command.{Command}
use Rattle.px_event.specs.declared.command.Command.TheVariants as commands
use Rattle.px_event.specs.declared.event.Event.{Event}
use Rattle.px_event.specs.declared.reply.Reply.{Reply}
use Rattle.px_event.specs.Chain.{Stamp, Stamped, Timed, Look, NotYet, Asks, Ends, Reached, Stop, Chain, Turn, worked_off, at_its_step, reach, reach_by, stop_at, walk, walk_by, found, found_at, found_with, owed_at}
use Rattle.px_event.specs.Laws.{IsSettled, seen_values, waiting_values}
use Rattle.px_event.specs.View.{View, seen_of}
use Rattle.px_event.proofs.Growth.{prefix_behind}
use Rattle.px_event.proofs.Reach.{reach_all, reach_settled, reach_values}
use Rattle.px_event.proofs.Seen.{seen_append}
use Rattle.px_exchange.specs.EndOrder.{FoundInOrder, OnlyCloses}
use Rattle.px_exchange.specs.declared.terms.Terms.{Terms}
use Rattle.px_exchange.specs.Endings.{ends_by_fault}
use Rattle.px_exchange.specs.Finds.{look_answer, look_returned}
use Rattle.px_chain.specs.Behind.{dials_at, used_behind, used_by_turn}
use Rattle.px_chain.specs.Chain.{behind, http_chain, is_sequence, leaves, leaving, look, opened_by, pass, sequence, so_far, turn, used_by_pass}
use Rattle.px_chain.specs.Going.{told_behind}
use Rattle.px_chain.specs.Keeping.{unspoilt_at}
use Rattle.px_chain.specs.Sights.{Sight, Standing, UsedBytes, answers_in, request_in, server_in, sight_of, sight_over}
use Rattle.px_chain.specs.Stages.{At, Stage, busy, coming_down, connection, given_body, given_head, idle, next, over, request_body, response_body, response_head, side_of, side_parked, upgraded}
use Rattle.px_chain.specs.Streams.{Since, client_closed}
use Rattle.px_chain.proofs.ChainLaws.{settles}
use Rattle.px_chain.proofs.ComingLaws.{asks_nothing as coming_asks_nothing}
use Rattle.px_chain.proofs.EndLemmas.{behind_closes, looks_in_order, passes_in_order}
use Rattle.px_said.specs.ClosedForm.{first_flows, flows_behind, said}
use Rattle.px_said.specs.Lines.{AllGoOn, sent_of_flows}
use Rattle.px_said.specs.Walks.{Walk, answered, due_from, heard, start_at}
use Rattle.px_said.proofs.ClosedFronts.{IsFront, IsSame, front_of, same_of, still_open}
use Rattle.px_said.proofs.ClosedLooks.{IsLast, behind_these, ends_ask}
use Rattle.px_said.proofs.ClosedQuiet.{closes_said, end_said, said_join, says_waiting}
use Rattle.px_said.proofs.LineKept.{kept_first}
use Rattle.px_said.proofs.LineMore.{begun_settled, body_settled, stage_more, stage_stood}
use Rattle.px_said.proofs.LinePasses.{Passed, passed_on, passed_over, stage_passed}
use Rattle.px_said.proofs.LineQuiet.{NoQuestion, Rest, ends_none, none_both, skips, so_far_keeps, so_far_none}
use Rattle.px_said.proofs.LineReturns.{answer_led, returned_led, up_asked}
use Rattle.px_said.proofs.LineStages.{IsAt}
use Rattle.px_said.proofs.WalkLemmas.{reach_behind, walk_behind, with_these}
use Rattle.px_said.proofs.LineTurns.{Leads, Led, body_led, dial_led, goes_on, has_ended, idle_led}

-- what is found says the same up to the end of a flow, and the closes behind an ask say nothing
found_said : (more : ℕ) (parts : List Command) (l : Look Command) → OnlyCloses parts → FoundInOrder l → said (first_flows (suc more) (found_with parts l)) ≡ said (found l)
found_said more parts NotYet closes is = refl
found_said more parts (Asks ask) closes is =
    said_join (ask ∷ []) (first_flows (flows_behind more ask) parts)
    ∙ (ap (λ l. said (ask ∷ []) ++ l) (closes_said (flows_behind more ask) parts closes) ∙ append-nil (said (ask ∷ [])))
found_said more parts (Ends owed) closes is = end_said more owed is

-- a question that waits does so whatever is owed behind it
waits_alone : (ask : Command) (more : List Command) → AllGoOn false (ask ∷ more) [] → AllGoOn false (ask ∷ []) []
waits_alone (commands.Ask asked flow) more goes = goes
waits_alone (commands.Dial server address inside) more goes = goes
waits_alone (commands.Send side text) more goes = tt
waits_alone (commands.Close side) more goes = tt
waits_alone (commands.Done flow) more goes = tt

module _ (terms : Terms) (events : List (Timed Event)) (all : List Command) where
  stage_led : (flows : ℕ) (stage : Stage) (since : Since) (opened : ℕ) (used : UsedBytes) (up : ℕ) (prefix : List (Timed Event)) → IsFront prefix events → (sent : List Command) (replies : List Reply) (value : Reply) →
      let seen = sight_of (side_of stage) since opened used up prefix in
      sequence (pass terms stage seen).stage ≡ stage →
      IsAt terms events all flows stage opened used up prefix sent (value ∷ replies) → (moment : ℕ) (ask : Command) (may_wait : Bool) (rest : List Command) →
      look terms stage seen ≡ Asks ask →
      let turned = turn terms stage seen (record { moment = moment; value = value }) in
      Leads terms events all flows (behind_these (behind stage seen) turned) (opened_by (dials_at stage) opened (length prefix)) (used_by_turn stage seen used) (told_behind terms.place stage seen) prefix sent
      (so_far terms stage seen) ask may_wait rest value replies
  stage_led flows (idle at) since opened used up prefix is sent replies value settled stands moment ask may_wait rest asks =
      let seen = sight_of (side_parked at.parked) since opened used up prefix in
      idle_led terms events all flows sent moment value may_wait rest replies since opened used up prefix is ask (leaving (idle (unspoilt_at at seen)) seen) at
      (so_far terms (idle at) seen) (says_waiting (idle at) seen).is (request_in seen) refl stands asks
  stage_led flows (busy at flow (request_body None most)) since opened used up prefix is sent replies value settled stands moment ask may_wait rest asks =
      let seen = sight_of (side_parked at.parked) since opened used up prefix in
      body_led terms events all flows sent moment value may_wait rest replies since opened used up prefix is ask
      (leaving (busy (unspoilt_at at seen) flow (request_body None most)) seen) at (so_far terms (busy at flow (request_body None most)) seen) (says_waiting (busy at flow (request_body None most)) seen).is flow most
      (begun_settled terms at flow most seen settled) stands (request_in seen) refl asks
  stage_led flows (busy at flow (request_body (Some response) most)) since opened used up prefix is sent replies value settled stands moment ask may_wait rest asks = absurd stands
  stage_led flows (busy at flow (connection how)) since opened used up prefix is sent replies value settled stands moment ask may_wait rest asks =
      let seen = sight_of (side_parked at.parked) since opened used up prefix in
      dial_led terms events all flows sent moment value may_wait rest replies since opened used up prefix is ask [] at (so_far terms (busy at flow (connection how)) seen)
      (says_waiting (busy at flow (connection how)) seen).is how flow stands asks
  stage_led flows (busy at flow (response_head side how)) since opened used up prefix is sent replies value settled stands moment ask may_wait rest asks =
      let seen = sight_of (Some side) since opened used up prefix in
      let both = up_asked terms events all flows how flow.request side opened used up 0 since prefix seen.closed (leaves at flow (response_head side how) seen)
      (λ fault. ends_by_fault flow fault seen.now (server_in side seen) seen.closed) (look_answer flow (answers_in flow.request seen).final seen.now (server_in side seen) seen.closed) ask asks in
      answer_led terms events all flows sent moment value may_wait rest replies since opened used up prefix is ask (leaves at flow (response_head side how) seen) at flow side how stands
      (answers_in flow.request seen).final refl both.1
  stage_led flows (busy at flow (response_body side how most)) since opened used up prefix is sent replies value settled stands moment ask may_wait rest asks =
      let seen = sight_of (Some side) since opened used up prefix in
      let stays = body_settled terms at flow side how most since opened used up prefix settled in
      let both = up_asked terms events all flows how flow.request side opened used up stands.went since prefix seen.closed (leaves at flow (response_body side how most) seen)
      (λ fault. ends_by_fault flow fault seen.now (server_in side seen) seen.closed) (look_returned flow (answers_in flow.request seen).final seen.now (server_in side seen) seen.closed) ask asks in
      returned_led terms events all flows sent moment value may_wait rest replies since opened used up prefix is ask (leaves at flow (response_body side how most) seen) at flow side how most stands
      stays.0 stays.1 both.0 (answers_in flow.request seen).final refl both.1
  stage_led flows (busy at flow (coming_down side how)) since opened used up prefix is sent replies value settled stands moment ask may_wait rest asks =
      absurd (coming_asks_nothing terms at flow side how (sight_of (Some side) since opened used up prefix) ask asks)
  stage_led flows (busy at flow (upgraded side)) since opened used up prefix is sent replies value settled stands moment ask may_wait rest asks = absurd (ends_ask [] ask asks)
  stage_led flows (busy at flow given_head) since opened used up prefix is sent replies value settled stands moment ask may_wait rest asks = absurd stands
  stage_led flows (busy at flow given_body) since opened used up prefix is sent replies value settled stands moment ask may_wait rest asks = absurd stands
  stage_led flows (next at) since opened used up prefix is sent replies value settled stands moment ask may_wait rest asks = absurd (ends_ask [] ask asks)
  stage_led flows over since opened used up prefix is sent replies value settled stands moment ask may_wait rest asks = absurd (ends_ask [] ask asks)

  -- ---- the walk

  abbrev chain : Chain Standing Event Reply Command
  chain = http_chain sequence terms

  -- a place of the walk, with so many flows behind the one that stands there
  abbrev Stands : ℕ → Standing → List (Timed Event) → List Command → List Reply → Type 0
  Stands flows place prefix sent left = IsAt terms events all flows place.stage place.opened place.used place.told prefix sent left

  -- all events are those of the prefix and those that wait
  abbrev IsAll : List (Timed Event) → List (Stamped Event) → Type 0
  IsAll f es = seen_values f ++ waiting_values es ≡ seen_values events

  front_in : (f : List (Timed Event)) (es : List (Stamped Event)) → IsAll f es → IsFront f events
  front_in f es whole = front_of f events (waiting_values es) whole

  all_on : (last : Stamp) (f : List (Timed Event)) (e : Stamped Event) (es : List (Stamped Event)) → IsAll f (e ∷ es) → IsAll (f ++ worked_off last e ∷ []) es
  all_on last f e es whole =
      ap (λ l. l ++ waiting_values es) (map-append (λ (t : Timed Event). t.value) f (worked_off last e ∷ []))
      ∙ (append_assoc (seen_values f) (e.value ∷ []) (waiting_values es) ∙ whole)

  -- a place that was passed to stays
  settled_stage : (s : Standing) (f : List (Timed Event)) → IsSettled chain s f → sequence (pass terms s.stage (sight_over s f)).stage ≡ s.stage
  settled_stage s f settled = ap (λ (p : Standing). p.stage) settled.stays

  -- Where a search stops, with so many flows behind that; or the last of these flows has ended.
  data Searched (flows : ℕ) (here : Reached Standing Event Command) (sent : List Command) (left : List Reply) : Type 0 where
    stopped_at : (more : ℕ) → Stands more here.stage here.prefix (sent ++ here.before) left →
        ((rest : List Command) → first_flows (suc flows) (here.before ++ rest) ≡ here.before ++ first_flows (suc more) rest) → NoQuestion here.before → Searched flows here sent left
    ended_before : ((rest : List Command) → Rest all (sent ++ first_flows (suc flows) (here.before ++ rest)) []) → Searched flows here sent left

  searched_behind : (flows more : ℕ) (owed : List Command) (here : Reached Standing Event Command) (sent : List Command) (left : List Reply) →
      ((rest : List Command) → first_flows (suc flows) (owed ++ rest) ≡ owed ++ first_flows (suc more) rest) → NoQuestion owed → Searched more here (sent ++ owed) left →
      Searched flows (with_these chain owed here) sent left
  searched_behind flows more owed here sent left first quiet (stopped_at most stands keeps none) =
      let P : List Command → Type 0 = λ l. Stands most here.stage here.prefix l left in
      stopped_at most (subst P (append_assoc sent owed here.before) stands)
      (λ rest. ap (first_flows (suc flows)) (append_assoc owed here.before rest)
      ∙ (first (here.before ++ rest) ∙ (ap (λ l. owed ++ l) (keeps rest) ∙ sym (append_assoc owed here.before (first_flows (suc most) rest)))))
      (none_both owed here.before quiet none)
  searched_behind flows more owed here sent left first quiet (ended_before is) =
      let P : List Command → Type 0 = λ l. Rest all l [] in
      ended_before (λ rest. subst P
      (append_assoc sent owed (first_flows (suc more) (here.before ++ rest))
      ∙ ap (λ l. sent ++ l) (sym (ap (first_flows (suc flows)) (append_assoc owed here.before rest) ∙ first (here.before ++ rest)))) (is rest))

  ended_behind : (flows : ℕ) (owed : List Command) (here : Reached Standing Event Command) (sent : List Command) (left : List Reply) →
      ((rest : List Command) → Rest all (sent ++ first_flows (suc flows) (owed ++ rest)) []) → Searched flows (with_these chain owed here) sent left
  ended_behind flows owed here sent left is =
      let P : List Command → Type 0 = λ l. Rest all (sent ++ first_flows (suc flows) l) [] in
      ended_before (λ rest. subst P (sym (append_assoc owed here.before rest)) (is (here.before ++ rest)))

  by_look : (l : Look Command) (flows : ℕ) (further here : Reached Standing Event Command) (sent : List Command) (left : List Reply) →
      (l ≡ NotYet → Searched flows further sent left) → Searched flows here sent left → Searched flows (reach_by l further here) sent left
  by_look NotYet flows further here sent left on at = on refl
  by_look (Asks ask) flows further here sent left on at = at
  by_look (Ends owed) flows further here sent left on at = at

  -- what was owed stands in front of what a search owes
  reach_from : (last : Stamp) (owed : List Command) (s : Standing) (f : List (Timed Event)) (es : List (Stamped Event)) →
      reach chain last owed s f es ≡ with_these chain owed (reach chain last [] s f es)
  reach_from last owed s f es = ap (λ b. reach chain last b s f es) (sym (append-nil owed)) ∙ reach_behind chain owed last [] s f es

  passed_here : (flows : ℕ) (s : Standing) (f : List (Timed Event)) (es : List (Stamped Event)) (sent : List Command) (left : List Reply) →
      Passed terms events all flows (pass terms s.stage (sight_over s f)) s.opened (used_by_pass terms s.stage (sight_over s f) s.used) s.told f sent left →
      Searched flows (record { before = (chain.pass s f).owed; stage = (chain.pass s f).stage; prefix = f; rest = es }) sent left
  passed_here flows s f es sent left (passed_on more is keeps) = stopped_at more is keeps (ends_none (pass terms s.stage (sight_over s f)).owed (passes_in_order terms s.stage (sight_over s f)))
  passed_here flows s f es sent left (passed_over is) = ended_before is

  -- where nothing is found, with one event more
  search_on : (flows : ℕ) (last : Stamp) (s : Standing) (f : List (Timed Event)) (e : Stamped Event) (es : List (Stamped Event)) (sent : List Command) (left : List Reply) → IsAll f (e ∷ es) →
      let on = chain.pass s f in
      let later = f ++ worked_off last e ∷ [] in
      ((more : ℕ) (told : List Command) → Stands more on.stage later told left → Searched more (reach chain last [] on.stage later es) told left) →
      Passed terms events all flows (pass terms s.stage (sight_over s f)) s.opened (used_by_pass terms s.stage (sight_over s f) s.used) s.told f sent left →
      chain.look on.stage f ≡ NotYet → Searched flows (reach chain last on.owed on.stage later es) sent left
  search_on flows last s f e es sent left whole further (passed_on more stands keeps) none =
      let on = chain.pass s f in
      let P : Reached Standing Event Command → Type 0 = λ r. Searched flows r sent left in
      let settled = settled_stage on.stage f ((settles sequence (is_sequence refl) terms).at s f) in
      let there = stage_more terms events all more f (front_in f (e ∷ es) whole) (worked_off last e) on.stage.opened on.stage.used on.stage.told (sent ++ on.owed) left on.stage.since on.stage.stage stands settled none in
      subst P (sym (reach_from last on.owed on.stage (f ++ worked_off last e ∷ []) es))
      (searched_behind flows more on.owed _ sent left keeps (ends_none on.owed (passes_in_order terms s.stage (sight_over s f))) (further more (sent ++ on.owed) there))
  search_on flows last s f e es sent left whole further (passed_over ended) none =
      let on = chain.pass s f in
      let P : Reached Standing Event Command → Type 0 = λ r. Searched flows r sent left in
      subst P (sym (reach_from last on.owed on.stage (f ++ worked_off last e ∷ []) es)) (ended_behind flows on.owed _ sent left ended)

  searched : (flows : ℕ) (last : Stamp) (s : Standing) (f : List (Timed Event)) (es : List (Stamped Event)) (sent : List Command) (left : List Reply) →
      IsAll f es → Stands flows s f sent left → Searched flows (reach chain last [] s f es) sent left
  searched flows last s f [] sent left whole is =
      passed_here flows s f [] sent left (stage_passed terms events all flows f (front_in f [] whole) s.opened s.used s.told sent left s.since s.stage is)
  searched flows last s f (e ∷ es) sent left whole is =
      let passes = stage_passed terms events all flows f (front_in f (e ∷ es) whole) s.opened s.used s.told sent left s.since s.stage is in
      let on = chain.pass s f in
      by_look (chain.look on.stage f) flows _ _ sent left
      (λ found_none. search_on flows last s f e es sent left whole
      (λ more told stands. searched more last on.stage (f ++ worked_off last e ∷ []) es told left (all_on last f e es whole) stands) passes found_none)
      (passed_here flows s f (e ∷ es) sent left passes)

  -- In each view what is said there begins all that is said, and is all of it where nothing more can come.
  record Result (may_wait : Bool) (now : List Command) : Type 0 where
    pub begins : (view : View) → IsPrefixOf (seen_of view (said now)) (seen_of view all)
    pub exact : may_wait ≡ false → client_closed events ≡ false → (view : View) → seen_of view (said now) ≡ seen_of view all

  ended_result : (may_wait : Bool) (now : List Command) → Rest all now [] → Result may_wait now
  ended_result may_wait now rest = record {
    begins = λ view. ([], rest.seen view);
    exact = λ strict never view. sym (rest.seen view ∙ append-nil (seen_of view (said now)));
  }

  last_there : (may_wait : Bool) (here : Reached Standing Event Command) (l : Look Command) → IsAll here.prefix here.rest → (l ≡ NotYet → here.rest ≡ []) →
      ((ask : Command) → l ≡ Asks ask → may_wait ≡ false → ⊥) → may_wait ≡ false → IsLast (IsSame here.prefix events) l
  last_there may_wait here NotYet whole none asked strict =
      same_of here.prefix events
      (sym (append-nil (seen_values here.prefix)) ∙ (ap (λ es. seen_values here.prefix ++ waiting_values es) (sym (none refl)) ∙ whole))
  last_there may_wait here (Asks ask) whole none asked strict = asked ask refl strict
  last_there may_wait here (Ends owed) whole none asked strict = tt

  -- what a stage owes says the same up to the end of a flow
  owed_said : (flows : ℕ) (stage : Stage) (seen : Sight) →
      said (first_flows (suc flows) (so_far terms stage seen ++ found_with (behind stage seen) (look terms stage seen))) ≡ said (so_far terms stage seen ++ found (look terms stage seen))
  owed_said flows stage seen =
      let waits = so_far terms stage seen in
      let finds = found_with (behind stage seen) (look terms stage seen) in
      ap said (so_far_keeps terms stage seen flows finds)
      ∙ (said_join waits (first_flows (suc flows) finds)
      ∙ (ap (λ l. said waits ++ l) (found_said flows (behind stage seen) (look terms stage seen) (behind_closes stage seen) (looks_in_order terms stage seen))
      ∙ sym (said_join waits (found (look terms stage seen)))))

  there_sent : (flows more : ℕ) (may_wait : Bool) (last : Stamp) (here : Reached Standing Event Command) (unused : List (Stamped Reply)) (sent : List Command) (left : List Reply) →
      Stands more here.stage here.prefix (sent ++ here.before) left → ((rest : List Command) → first_flows (suc flows) (here.before ++ rest) ≡ here.before ++ first_flows (suc more) rest) →
      IsSettled chain here.stage here.prefix → IsAll here.prefix here.rest → (chain.look here.stage here.prefix ≡ NotYet → here.rest ≡ []) →
      ((ask : Command) → chain.look here.stage here.prefix ≡ Asks ask → may_wait ≡ false → ⊥) →
      Result may_wait (sent ++ first_flows (suc flows) (owed_at chain (stop_at last here unused)))
  there_sent flows more may_wait last here unused sent left stands keeps settled whole none asked =
      let place = here.stage in
      let front = front_in here.prefix here.rest whole in
      let before = sent ++ here.before in
      let stood = stage_stood terms events all more here.prefix front place.stage place.since place.opened place.used place.told before left stands (settled_stage place here.prefix settled) in
      let owed = chain.so_far place here.prefix ++ found_at chain place here.prefix in
      let says = said (chain.so_far place here.prefix ++ found (chain.look place here.prefix)) in
      let joined : said (sent ++ first_flows (suc flows) (here.before ++ owed)) ≡ said before ++ says =
      ap (λ l. said (sent ++ l)) (keeps owed)
      ∙ (ap said (sym (append_assoc sent here.before (first_flows (suc more) owed)))
      ∙ (said_join before (first_flows (suc more) owed) ∙ ap (λ l. said before ++ l) (owed_said more place.stage (sight_over place here.prefix)))) in
      let seen_joined : (view : View) → seen_of view (said (sent ++ first_flows (suc flows) (here.before ++ owed))) ≡ seen_of view (said before) ++ seen_of view says = λ view.
      ap (seen_of view) joined ∙ seen_append view (said before) says in
      record {
        begins = λ view.
            (let front_says = prefix_behind (seen_of view (said before)) (seen_of view says) (seen_of view stood.left) (stood.here.begins view) in
            (front_says.0, stood.is.seen view ∙ (front_says.1 ∙ ap (λ l. l ++ front_says.0) (sym (seen_joined view)))));
        exact = λ strict never view.
            seen_joined view
            ∙ (ap (λ l. seen_of view (said before) ++ l)
            (stood.here.is_all (still_open here.prefix events front never) (last_there may_wait here (chain.look place here.prefix) whole none asked strict) view)
            ∙ sym (stood.is.seen view));
      }

  walk_by_sent : (flows : ℕ) (may_wait : Bool) (l : Look Command) (onward : Command → Stop Standing Event Reply Command) (stop : Stop Standing Event Reply Command)
      (sent : List Command) (replies : List Reply) →
      ((ask : Command) → l ≡ Asks ask → AllGoOn may_wait (first_flows (suc flows) (owed_at chain (onward ask))) replies →
      Result may_wait (sent ++ first_flows (suc flows) (owed_at chain (onward ask)))) →
      (((ask : Command) → l ≡ Asks ask → ⊥) → Result may_wait (sent ++ first_flows (suc flows) (owed_at chain stop))) →
      AllGoOn may_wait (first_flows (suc flows) (owed_at chain (walk_by l onward stop))) replies →
      Result may_wait (sent ++ first_flows (suc flows) (owed_at chain (walk_by l onward stop)))
  walk_by_sent flows may_wait NotYet onward stop sent replies asked here goes = here (λ ask no. cc)
  walk_by_sent flows may_wait (Asks ask) onward stop sent replies asked here goes = asked ask refl goes
  walk_by_sent flows may_wait (Ends owed) onward stop sent replies asked here goes = here (λ ask no. cc)

  -- where the replies have ended, a question that is found waits
  last_asked : (flows more : ℕ) (may_wait : Bool) (last : Stamp) (here : Reached Standing Event Command) (sent : List Command) (left : List Reply) →
      Stands more here.stage here.prefix (sent ++ here.before) left → ((rest : List Command) → first_flows (suc flows) (here.before ++ rest) ≡ here.before ++ first_flows (suc more) rest) →
      NoQuestion here.before → IsSettled chain here.stage here.prefix → IsFront here.prefix events → AllGoOn may_wait (first_flows (suc flows) (owed_at chain (stop_at last here []))) [] →
      (ask : Command) → chain.look here.stage here.prefix ≡ Asks ask → may_wait ≡ false → ⊥
  last_asked flows more may_wait last here sent left stands keeps quiet settled front goes ask asks strict =
      let place = here.stage in
      let seen = sight_over place here.prefix in
      let so_far_there = chain.so_far place here.prefix in
      let parts = chain.behind place here.prefix in
      let tail = first_flows (flows_behind more ask) parts in
      let cut : first_flows (suc flows) (here.before ++ (so_far_there ++ (ask ∷ parts))) ≡ here.before ++ (so_far_there ++ (ask ∷ tail)) =
      keeps (so_far_there ++ (ask ∷ parts)) ∙ ap (λ l. here.before ++ l) (so_far_keeps terms place.stage seen more (ask ∷ parts)) in
      let B : Bool → Type 0 = λ b. AllGoOn b (first_flows (suc flows) (here.before ++ (so_far_there ++ found_with parts (chain.look place here.prefix)))) [] in
      let L : Look Command → Type 0 = λ l. AllGoOn false (first_flows (suc flows) (here.before ++ (so_far_there ++ found_with parts l))) [] in
      let G : List Command → Type 0 = λ l. AllGoOn false l [] in
      let question : AllGoOn false (here.before ++ (so_far_there ++ (ask ∷ tail))) [] = subst G cut (subst L asks (subst B strict goes)) in
      (stage_stood terms events all more here.prefix front place.stage place.since place.opened place.used place.told (sent ++ here.before) left stands (settled_stage place here.prefix settled)).here.asks ask asks
      (waits_alone ask tail
      (skips so_far_there (so_far_none terms place.stage seen) false (ask ∷ tail) [] (skips here.before quiet false (so_far_there ++ (ask ∷ tail)) [] question)))

  -- where a reply led
  led_result : (flows : ℕ) (turned : Turn Stage Command) (opened : ℕ) (used : Stage → UsedBytes) (up : ℕ) (prefix : List (Timed Event)) (sent so_far : List Command) (ask : Command) (may_wait : Bool)
      (rest : List Command) (replies : List Reply) → Led terms events all flows turned opened used up prefix sent so_far ask may_wait rest replies →
      ((more : ℕ) → IsAt terms events all more (sequence turned.stage) opened (used (sequence turned.stage)) up prefix (sent ++ (so_far ++ ask ∷ turned.owed)) replies →
      AllGoOn may_wait (first_flows (suc more) rest) replies → Result may_wait ((sent ++ (so_far ++ ask ∷ turned.owed)) ++ first_flows (suc more) rest)) →
      Result may_wait (sent ++ (so_far ++ ask ∷ first_flows (flows_behind flows ask) (turned.owed ++ rest)))
  led_result flows turned opened used up prefix sent so_far ask may_wait rest replies (goes_on more place cut goes) further =
      let tail = first_flows (suc more) rest in
      let P : List Command → Type 0 = Result may_wait in
      subst P
      (append_assoc sent (so_far ++ ask ∷ turned.owed) tail
      ∙ (ap (λ l. sent ++ l) (append_assoc so_far (ask ∷ turned.owed) tail) ∙ ap (λ l. sent ++ (so_far ++ ask ∷ l)) (sym cut)))
      (further more place goes)
  led_result flows turned opened used up prefix sent so_far ask may_wait rest replies (has_ended is) further = ended_result may_wait _ is

  -- what was owed by a search stands in front
  walk_from_here : (rs : List (Stamped Reply)) (last : Stamp) (before more : List Command) (s : Standing) (f : List (Timed Event)) (es : List (Stamped Event)) →
      owed_at chain (walk chain rs last (before ++ more) s f es) ≡ before ++ (more ++ owed_at chain (walk chain rs last [] s f es))
  walk_from_here rs last before more s f es =
      walk_behind chain before rs last more s f es
      ∙ ap (λ l. before ++ l) (ap (λ b. owed_at chain (walk chain rs last b s f es)) (sym (append-nil more)) ∙ walk_behind chain more rs last [] s f es)

  -- where no reply is left
  stop_sent : (flows : ℕ) (may_wait : Bool) (last : Stamp) (s : Standing) (f : List (Timed Event)) (es : List (Stamped Event)) (sent : List Command) → IsAll f es →
      AllGoOn may_wait (first_flows (suc flows) (owed_at chain (walk chain [] last [] s f es))) [] → Searched flows (reach chain last [] s f es) sent [] →
      Result may_wait (sent ++ first_flows (suc flows) (owed_at chain (walk chain [] last [] s f es)))
  stop_sent flows may_wait last s f es sent whole_there goes (stopped_at more stands keeps quiet) =
      let here = reach chain last [] s f es in
      let whole = reach_values chain last [] s f es ∙ whole_there in
      let settled = reach_settled chain (settles sequence (is_sequence refl) terms) last [] s f es in
      there_sent flows more may_wait last here [] sent [] stands keeps settled whole (reach_all chain last [] s f es)
      (last_asked flows more may_wait last here sent [] stands keeps quiet settled (front_in here.prefix here.rest whole) goes)
  stop_sent flows may_wait last s f es sent whole_there goes (ended_before ended) =
      let here = reach chain last [] s f es in ended_result may_wait _ (ended (chain.so_far here.stage here.prefix ++ found_at chain here.stage here.prefix))

  -- and where one is
  reply_sent : (flows : ℕ) (may_wait : Bool) (r : Stamped Reply) (rs : List (Stamped Reply)) (last : Stamp) (s : Standing) (f : List (Timed Event)) (es : List (Stamped Event)) (sent : List Command) → IsAll f es →
      let replies : List Reply = map (λ r. r.value) rs in
      ((n : ℕ) (there : Standing) (prefix : List (Timed Event)) (rest : List (Stamped Event)) (told : List Command) → Stands n there prefix told replies → IsAll prefix rest →
      AllGoOn may_wait (first_flows (suc n) (owed_at chain (walk chain rs r.stamp [] there prefix rest))) replies →
      Result may_wait (told ++ first_flows (suc n) (owed_at chain (walk chain rs r.stamp [] there prefix rest)))) →
      AllGoOn may_wait (first_flows (suc flows) (owed_at chain (walk chain (r ∷ rs) last [] s f es))) (r.value ∷ replies) → Searched flows (reach chain last [] s f es) sent (r.value ∷ replies) →
      Result may_wait (sent ++ first_flows (suc flows) (owed_at chain (walk chain (r ∷ rs) last [] s f es)))
  reply_sent flows may_wait r rs last s f es sent whole_there further goes (stopped_at more stands keeps quiet) =
      let here = reach chain last [] s f es in
      let replies : List Reply = map (λ r. r.value) rs in
      let whole = reach_values chain last [] s f es ∙ whole_there in
      let settled = reach_settled chain (settles sequence (is_sequence refl) terms) last [] s f es in
      let place = here.stage in
      let seen = sight_over place here.prefix in
      let on = chain.turn place here.prefix (at_its_step r) in
      let so_far_there = chain.so_far place here.prefix in
      let brought = chain.behind place here.prefix ++ on.owed in
      let before = sent ++ here.before in
      walk_by_sent flows may_wait (chain.look place here.prefix) _ _ sent (r.value ∷ replies)
      (λ ask asks goes_there.
      let more_due = so_far_there ++ ask ∷ brought in
      let tail = owed_at chain (walk chain rs r.stamp [] on.stage here.prefix here.rest) in
      let split : owed_at chain (walk chain rs r.stamp (here.before ++ more_due) on.stage here.prefix here.rest) ≡ here.before ++ (more_due ++ tail) =
      walk_from_here rs r.stamp here.before more_due on.stage here.prefix here.rest in
      let left_there = first_flows (flows_behind more ask) (brought ++ tail) in
      let cut : first_flows (suc flows) (owed_at chain (walk chain rs r.stamp (here.before ++ more_due) on.stage here.prefix here.rest)) ≡ here.before ++ (so_far_there ++ (ask ∷ left_there)) =
      ap (first_flows (suc flows)) split
      ∙ (keeps (more_due ++ tail)
      ∙ ap (λ l. here.before ++ l) (ap (first_flows (suc more)) (append_assoc so_far_there (ask ∷ brought) tail) ∙ so_far_keeps terms place.stage seen more (ask ∷ (brought ++ tail)))) in
      let G : List Command → Type 0 = λ l. AllGoOn may_wait l (r.value ∷ replies) in
      let question : AllGoOn may_wait (ask ∷ left_there) (r.value ∷ replies) =
      skips so_far_there (so_far_none terms place.stage seen) may_wait (ask ∷ left_there) (r.value ∷ replies)
      (skips here.before quiet may_wait (so_far_there ++ (ask ∷ left_there)) (r.value ∷ replies) (subst G cut goes_there)) in
      let led = stage_led more place.stage place.since place.opened place.used place.told here.prefix (front_in here.prefix here.rest whole) before replies r.value
      (settled_stage place here.prefix settled) stands r.stamp.moment ask may_wait tail asks question in
      let P : List Command → Type 0 = λ l. Result may_wait l in
      subst P (append_assoc sent here.before (so_far_there ++ (ask ∷ left_there)) ∙ ap (λ l. sent ++ l) (sym cut))
      (led_result more (behind_these (behind place.stage seen) (turn terms place.stage seen (at_its_step r))) on.stage.opened
      (used_by_turn place.stage seen place.used) on.stage.told here.prefix before so_far_there ask may_wait tail
      replies led (λ n stands goes_further. further n on.stage here.prefix here.rest (before ++ more_due) stands whole goes_further)))
      (λ no_ask. there_sent flows more may_wait last here (r ∷ rs) sent (r.value ∷ replies) stands keeps settled whole (reach_all chain last [] s f es) (λ ask asks strict. no_ask ask asks))
      goes
  reply_sent flows may_wait r rs last s f es sent whole_there further goes (ended_before ended) =
      let here = reach chain last [] s f es in
      let on = chain.turn here.stage here.prefix (at_its_step r) in
      let P : List Command → Type 0 = λ l. Result may_wait (sent ++ first_flows (suc flows) l) in
      walk_by_sent flows may_wait (chain.look here.stage here.prefix) _ _ sent (r.value ∷ map (λ r. r.value) rs)
      (λ ask asks goes_there.
      let more_due = chain.so_far here.stage here.prefix ++ ask ∷ (chain.behind here.stage here.prefix ++ on.owed) in
      let tail = owed_at chain (walk chain rs r.stamp [] on.stage here.prefix here.rest) in
      subst P (sym (walk_from_here rs r.stamp here.before more_due on.stage here.prefix here.rest)) (ended_result may_wait _ (ended (more_due ++ tail))))
      (λ no_ask. ended_result may_wait _ (ended (chain.so_far here.stage here.prefix ++ found_at chain here.stage here.prefix)))
      goes

  walk_sent : (flows : ℕ) (may_wait : Bool) (rs : List (Stamped Reply)) (last : Stamp) (s : Standing) (f : List (Timed Event)) (es : List (Stamped Event)) (sent : List Command) →
      Stands flows s f sent (map (λ r. r.value) rs) → IsAll f es →
      AllGoOn may_wait (first_flows (suc flows) (owed_at chain (walk chain rs last [] s f es))) (map (λ r. r.value) rs) →
      Result may_wait (sent ++ first_flows (suc flows) (owed_at chain (walk chain rs last [] s f es)))
  walk_sent flows may_wait [] last s f es sent is whole goes = stop_sent flows may_wait last s f es sent whole goes (searched flows last s f es sent [] whole is)
  walk_sent flows may_wait (r ∷ rs) last s f es sent is whole goes =
      reply_sent flows may_wait r rs last s f es sent whole (λ n there prefix rest told stands all_there goes_there. walk_sent n may_wait rs r.stamp there prefix rest told stands all_there goes_there) goes
      (searched flows last s f es sent (r.value ∷ map (λ r. r.value) rs) whole is)

-- ---- from any place on

values_heard : (es : List (Stamped Event)) → waiting_values es ≡ seen_values (map at_its_step es)
values_heard [] = refl
values_heard (e ∷ es) = ap (λ l. e.value ∷ l) (values_heard es)

result_from : (may_wait : Bool) (terms : Terms) (here : Walk) (at : At) (flows : ℕ) → here.place.stage ≡ idle at →
    AllGoOn may_wait (first_flows flows (due_from terms here)) (answered here) →
    Result terms (heard here) (sent_of_flows terms (heard here) (start_at at here) flows) may_wait (first_flows flows (due_from terms here))
result_from may_wait terms here at zero is goes = record { begins = λ view. ([], refl); exact = λ strict never view. refl }
result_from may_wait terms here at (suc flows) is goes =
    let events = heard here in
    let all = sent_of_flows terms events (start_at at here) (suc flows) in
    let P : Stage → Type 0 = λ stage. IsAt terms events all flows stage here.place.opened here.place.used here.place.told here.prefix [] (answered here) in
    let stands : P (idle at) = record {
      from = length here.prefix;
      waiting = record { parked = at.parked; opened = here.place.opened; used = used_behind false (side_parked at.parked) here.place.used.server };
      keeps = kept_first at.parked here.place.opened here.place.used.server here.prefix;
      within = omega arith;
      waits = λ k low high. absurd (omega arith);
      rest = record { seen = λ view. refl };
    } in
    walk_sent terms events all flows may_wait here.replies here.last here.place here.prefix here.coming [] (subst P (sym is) stands)
    (ap (λ l. seen_values here.prefix ++ l) (values_heard here.coming)
    ∙ sym (map-append (λ (t : Timed Event). t.value) here.prefix (map at_its_step here.coming))) goes

pub sent_begins : (terms : Terms) (here : Walk) (at : At) (flows : ℕ) (view : View) → here.place.stage ≡ idle at →
    AllGoOn true (first_flows flows (due_from terms here)) (answered here) →
    IsPrefixOf (seen_of view (said (first_flows flows (due_from terms here)))) (seen_of view (sent_of_flows terms (heard here) (start_at at here) flows))
sent_begins terms here at flows view is goes = (result_from true terms here at flows is goes).begins view

pub sent_exactly : (terms : Terms) (here : Walk) (at : At) (flows : ℕ) (view : View) → here.place.stage ≡ idle at →
    AllGoOn false (first_flows flows (due_from terms here)) (answered here) → client_closed (heard here) ≡ false →
    seen_of view (said (first_flows flows (due_from terms here))) ≡ seen_of view (sent_of_flows terms (heard here) (start_at at here) flows)
sent_exactly terms here at flows view is goes never = (result_from false terms here at flows is goes).exact refl never view
