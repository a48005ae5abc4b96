-- Where a conversation stands whose replies go on: what is due there begins what is left of all that is said; and one event more.
use Rattle.std.proofs.Common.{◌≡◌, ℕ, ◌+◌, Bool, true, false, List, [], ◌++◌, length, drop, Some, None, suc, refl, ap, sym, ◌∙◌, subst, append_assoc, arith}
use Rattle.std.specs.Prelude.{map, take}
use Rattle.std.proofs.lemmas.List.{append-nil, map-append}
use Rattle.px_text.specs.Prefix.{IsPrefixOf}
use Rattle.px_message.specs.declared.flow.Flow.{Flow}
use Rattle.px_message.specs.declared.request.Request.{Request}
use Rattle.px_event.specs.declared.command.Command.{Command}
use Rattle.px_event.specs.declared.event.Event.{Event}
use Rattle.px_event.specs.declared.reply.Reply.{Reply}
use Rattle.px_event.specs.declared.side.Side.TheVariants.{Client}
use Rattle.px_event.specs.Chain.{Timed, NotYet, Asks, Ends}
use Rattle.px_read.specs.Items.{Answers, Item, missing, part, complete, bad_head, bad_body, request_item}
use Rattle.px_read.specs.Laws.{is_begun}
use Rattle.px_read.specs.declared.head.ResponseHead.{ResponseHead as ReadResponse}
use Rattle.px_read.proofs.ItemLemmas.{Carries}
use Rattle.px_exchange.specs.declared.terms.Terms.{Terms}
use Rattle.px_exchange.specs.Endings.{closed_message, ends_early, without_response}
use Rattle.px_exchange.specs.Finds.{look_answer, look_head, or_leaves}
use Rattle.px_exchange.specs.Requests.{is_http11}
use Rattle.px_exchange.specs.Texts.{interim_command, interim_commands, sends_on}
use Rattle.px_chain.specs.Chain.{finds, leaves, leaving, look, so_far}
use Rattle.px_chain.specs.Keeping.{unspoilt, unspoilt_at}
use Rattle.px_said.specs.ClosedForm.{Point, dial_answers, is_whole, request_is_whole, said, said_final, said_from, said_item}
use Rattle.px_chain.specs.Sights.{Sight, UsedBytes, answers_in, request_in, server_in, server_parked, sight_of}
use Rattle.px_chain.specs.Stages.{At, Doing, Stage, all_sent, busy, connection, going_up, given_body, given_head, idle, next, over, request_body, response_body, response_head, side_of, side_parked, upgraded, coming_down}
use Rattle.px_chain.specs.Streams.{Since, bytes_of}
use Rattle.px_said.proofs.ClosedFronts.{IsFront, IsSame, same_bytes, same_taken, waits_more}
use Rattle.px_said.proofs.ClosedItems.{items_after, items_split}
use Rattle.px_said.proofs.ClosedLooks.{Here, answer_tells, body_tells, head_tells, here_waiting, here_with, no_answer, no_body, no_request, no_return, none_found, returned_tells}
use Rattle.px_said.proofs.ClosedQuiet.{early_said, says_interim, says_server, says_waiting}
use Rattle.px_said.proofs.ClosedReturns.{answers_carried, answers_same}
use Rattle.px_said.proofs.ClosedStages.{Answering, IsAt, IsDoing, Onward, all_bytes, behind_answer, further_after, standing, told}
use Rattle.px_said.proofs.ClosedTurns.{client_carried}

-- of interim responses that come, those that came go to the client first
interim_more : (knows : Bool) (heads more : List ReadResponse) → IsPrefixOf heads more → IsPrefixOf (sends_on knows heads) (sends_on knows more)
interim_more true heads more (rest, is) = (map interim_command rest, ap (map interim_command) is ∙ map-append interim_command heads rest)
interim_more false heads more begins = ([], refl)

prefix_more : (a b c : List Command) → IsPrefixOf a b → IsPrefixOf a (b ++ c)
prefix_more a b c (rest, is) = (rest ++ c, ap (λ l. l ++ c) is ∙ append_assoc a rest c)

module _ (terms : Terms) (events : List (Timed Event)) (all : List Command) where
  -- what is left of all that is said, and what is due there
  pub record Stood (stage : Stage) (seen : Sight) (sent : List Command) (prefix : List (Timed Event)) : Type 0 where
    pub left : List Command
    pub is : all ≡ said sent ++ left
    pub here : Here (IsSame prefix events) seen.closed (look terms stage seen) (so_far terms stage seen) left

  -- the request over all events, where those of the prefix are all
  request_same : (used : ℕ) (prefix : List (Timed Event)) → IsSame prefix events →
      request_item (drop used (all_bytes terms events all)) ≡ request_item (drop used (bytes_of Client prefix))
  request_same used prefix same = ap (λ l. request_item (drop used l)) (sym (same_bytes Client prefix events same))

  -- with so many flows behind the one that it stands at
  module _ (flows : ℕ) where
    idle_stood : (at : At) (since : Since) (opened : ℕ) (used : UsedBytes) (up : ℕ) (come : ℕ) (sent : List Command) (replies : List Reply) (prefix : List (Timed Event)) →
        IsAt terms events all flows (idle at) opened used come sent replies → IsFront prefix events → Stood (idle at) (sight_of (side_parked at.parked) since opened used up prefix) sent prefix
    idle_stood at since opened used up come sent replies prefix b is =
        let seen = sight_of (side_parked at.parked) since opened used up prefix in
        let parked = server_parked (unspoilt_at at seen).parked seen in
        let bytes = drop used.client (all_bytes terms events all) in
        let point = standing at opened used b.from (dial_answers replies) in
        let further : Point → List Command = λ there. said_from terms events there (take flows (items_after bytes)) in
        record {
          left = said_item terms events point (request_item bytes) further;
          is = b.rest ∙ ap (λ l. said sent ++ said_from terms events point (take (suc flows) l)) (items_split bytes);
          here = here_with (IsSame prefix events) seen.closed (leaving (unspoilt (idle at) seen) seen) (look_head terms at.flow (request_in seen) seen.now parked seen.closed)
              (so_far terms (idle at) seen) [] _ (says_waiting (idle at) seen).is
              (says_server parked).is
              (head_tells (IsSame prefix events) terms events point further at.flow (request_in seen) (request_item bytes) seen.now parked seen.closed
              (client_carried terms events all used.client prefix is) (request_same used.client prefix));
        }

    body_stood : (at : At) (flow : Flow) (since : Since) (opened : ℕ) (used : UsedBytes) (up : ℕ) (come : ℕ) (sent : List Command) (replies : List Reply) (prefix : List (Timed Event)) →
        IsDoing terms events all flows at flow (request_body None None) opened used come sent replies → IsFront prefix events →
        Stood (busy at flow (request_body None None)) (sight_of (side_parked at.parked) since opened used up prefix) sent prefix
    body_stood at flow since opened used up come sent replies prefix b is =
        let seen = sight_of (side_parked at.parked) since opened used up prefix in
        let there = unspoilt_at at seen in
        let parked = server_parked there.parked seen in
        let body : Stage = busy at flow (request_body None None) in
        let bytes = drop used.client (all_bytes terms events all) in
        let point = standing at opened used b.from (dial_answers replies) in
        record {
          left = _;
          is = b.rest;
          here = here_with (IsSame prefix events) seen.closed (leaves there flow (request_body None None) seen) (finds terms.place there flow (request_body None None) seen)
              (so_far terms body seen) [] _ (says_waiting body seen).is
              (early_said flow closed_message seen.now parked true)
              (body_tells (IsSame prefix events) terms events point (further_after terms events all flows used.client) flow (request_in seen) (request_item bytes) seen.now parked seen.closed
              (client_carried terms events all used.client prefix is) (request_same used.client prefix));
        }

    connecting_stood : (at : At) (flow : Flow) (since : Since) (opened : ℕ) (used : UsedBytes) (up : ℕ) (come : ℕ) (sent : List Command) (replies : List Reply) (prefix : List (Timed Event)) →
        IsDoing terms events all flows at flow (connection all_sent) opened used come sent replies → Stood (busy at flow (connection all_sent)) (sight_of (side_parked at.parked) since opened used up prefix) sent prefix
    connecting_stood at flow since opened used up come sent replies prefix c =
        let seen = sight_of (side_parked at.parked) since opened used up prefix in
        let dialling : Stage = busy at flow (connection all_sent) in
        record {
          left = _;
          is = c.rest;
          here = here_with (IsSame prefix events) seen.closed [] (finds terms.place (unspoilt_at at seen) flow (connection all_sent) seen) (so_far terms dialling seen) [] _
              (says_waiting dialling seen).is refl ((_, refl), λ goes. goes);
        }

    -- over all events the responses that are seen are all
    told_same : (asked : Request) (side : ℕ) (since : Since) (opened : ℕ) (used : UsedBytes) (up : ℕ) (prefix : List (Timed Event)) → IsSame prefix events →
        told terms events all side opened used.server asked ≡ answers_in asked (sight_of (Some side) since opened used up prefix)
    told_same asked side since opened used up prefix same = sym (answers_same terms events all flows asked side opened used since up prefix events same)

    module _ (at : At) (flow : Flow) (side : ℕ) (since : Since) (opened : ℕ) (used : UsedBytes) (up : ℕ) (come : ℕ) (sent : List Command) (replies : List Reply) (prefix : List (Timed Event))
        (is_front : IsFront prefix events) where
      abbrev seen : Sight
      seen = sight_of (Some side) since opened used up prefix

      abbrev found_answers : Answers
      found_answers = answers_in flow.request seen

      abbrev all_answers : Answers
      all_answers = told terms events all side opened used.server flow.request

      returned_stood : IsDoing terms events all flows at flow (response_body side all_sent None) opened used come sent replies → Stood (busy at flow (response_body side all_sent None)) seen sent prefix
      returned_stood s =
          let carried = answers_carried terms events all flows flow.request side opened used since up prefix is_front in
          record {
            left = _;
            is = s.rest;
            here = here_with (IsSame prefix events) seen.closed (leaves at flow (response_body side all_sent None) seen) (finds terms.place at flow (response_body side all_sent None) seen) [] [] _ refl
                (early_said (without_response flow) closed_message seen.now (server_in side seen) true)
                (returned_tells (IsSame prefix events) flow (server_in side seen) (behind_answer terms events all flows at side opened used s.went s.from flow.request replies)
                found_answers.final all_answers.final seen.now seen.closed carried.final
                (λ same. ap (λ (answers : Answers). answers.final) (told_same flow.request side since opened used up prefix same)));
          }

      module _ (s : Answering terms events all flows at flow.request side opened used come sent replies) where
        abbrev interim : List Command
        interim = interim_commands flow.request found_answers.interim

        -- what is said behind the interim responses, and with them
        abbrev final_left : List Command
        final_left = said_final flow.request all_answers.final (behind_answer terms events all flows at side opened used s.went s.from flow.request replies)

        abbrev left_there : List Command
        left_there = interim_commands flow.request all_answers.interim ++ final_left

        abbrev leaving_there : List Command
        leaving_there = ends_early flow closed_message seen.now (server_in side seen) true

        abbrev HereFor : Item ReadResponse → Type 0
        HereFor item = Here (IsSame prefix events) seen.closed
            (or_leaves seen.closed leaving_there (look_answer flow item seen.now (server_in side seen) seen.closed)) interim left_there

        -- where the final response has begun, its interim responses are all there
        begun_here : (item : Item ReadResponse) → found_answers.final ≡ item → is_begun item ≡ true → HereFor item
        begun_here item is begun =
            let carried = answers_carried terms events all flows flow.request side opened used since up prefix is_front in
            let all_there = carried.begun (ap is_begun is ∙ begun) in
            let C : Item ReadResponse → Type 0 = λ i. Carries i all_answers.final in
            here_with (IsSame prefix events) seen.closed leaving_there (look_answer flow item seen.now (server_in side seen) seen.closed)
            interim (interim_commands flow.request all_answers.interim) final_left
            ((says_interim flow.request found_answers.interim).is ∙ ap (interim_commands flow.request) (sym all_there.0))
            (early_said flow closed_message seen.now (server_in side seen) true)
            (answer_tells (IsSame prefix events) flow (server_in side seen) (behind_answer terms events all flows at side opened used s.went s.from flow.request replies)
            item all_answers.final seen.now seen.closed (subst C is carried.final)
            (λ same. ap (λ (answers : Answers). answers.final) (told_same flow.request side since opened used up prefix same) ∙ is))

        here_for : (item : Item ReadResponse) → found_answers.final ≡ item → HereFor item
        here_for missing is =
            let carried = answers_carried terms events all flows flow.request side opened used since up prefix is_front in
            here_waiting (IsSame prefix events) seen.closed leaving_there interim interim left_there
            (says_interim flow.request found_answers.interim).is (early_said flow closed_message seen.now (server_in side seen) true)
            (prefix_more interim (interim_commands flow.request all_answers.interim) final_left
            (interim_more (is_http11 flow.request.version) found_answers.interim all_answers.interim carried.interim))
            (λ same.
            let told_is = told_same flow.request side since opened used up prefix same in
            let final : all_answers.final ≡ missing = ap (λ (answers : Answers). answers.final) told_is ∙ is in
            ap (λ (answers : Answers). interim_commands flow.request answers.interim ++ final_left) told_is
            ∙ (ap (λ (i : Item ReadResponse). interim ++ said_final flow.request i (behind_answer terms events all flows at side opened used s.went s.from flow.request replies)) final
            ∙ append-nil interim))
        here_for (part head body) is = begun_here (part head body) is refl
        here_for (complete head body trailers size) is = begun_here (complete head body trailers size) is refl
        here_for (bad_head fault) is = begun_here (bad_head fault) is refl
        here_for (bad_body fault head body) is = begun_here (bad_body fault head body) is refl

        answering_stood : Stood (busy at flow (response_head side all_sent)) seen sent prefix
        answering_stood = record { left = left_there; is = s.rest; here = here_for found_answers.final refl }

    -- an end where nothing is owed
    over_here : (over_all : Type 0) (closed : Bool) → Here over_all closed (Ends []) [] []
    over_here over_all closed = record { begins = ([], refl); is_all = λ no last. refl; asks = λ ask no. absurd (let e : Ends [] ≡ Asks ask = no in cc) }

    doing_stood : (at : At) (flow : Flow) (doing : Doing) (since : Since) (opened : ℕ) (used : UsedBytes) (up : ℕ) (come : ℕ) (sent : List Command) (replies : List Reply) (prefix : List (Timed Event)) →
        IsDoing terms events all flows at flow doing opened used come sent replies → IsFront prefix events →
        Stood (busy at flow doing) (sight_of (side_of (busy at flow doing)) since opened used up prefix) sent prefix
    doing_stood at flow (request_body None None) since opened used up come sent replies prefix stands is = body_stood at flow since opened used up come sent replies prefix stands is
    doing_stood at flow (request_body None (Some most)) since opened used up come sent replies prefix stands is = absurd stands
    doing_stood at flow (request_body (Some response) most) since opened used up come sent replies prefix stands is = absurd stands
    doing_stood at flow (connection going_up) since opened used up come sent replies prefix stands is = absurd stands
    doing_stood at flow (connection all_sent) since opened used up come sent replies prefix stands is = connecting_stood at flow since opened used up come sent replies prefix stands
    doing_stood at flow (response_head side going_up) since opened used up come sent replies prefix stands is = absurd stands
    doing_stood at flow (response_head side all_sent) since opened used up come sent replies prefix stands is =
        answering_stood at flow side since opened used up come sent replies prefix is stands
    doing_stood at flow (response_body side going_up most) since opened used up come sent replies prefix stands is = absurd stands
    doing_stood at flow (response_body side all_sent None) since opened used up come sent replies prefix stands is =
        returned_stood at flow side since opened used up come sent replies prefix is stands
    doing_stood at flow (response_body side all_sent (Some most)) since opened used up come sent replies prefix stands is = absurd stands
    doing_stood at flow (coming_down side how) since opened used up come sent replies prefix stands is = absurd stands
    doing_stood at flow (upgraded side) since opened used up come sent replies prefix stands is =
        record { left = []; is = stands.is_all ∙ sym (append-nil (said sent)); here = over_here (IsSame prefix events) _ }
    doing_stood at flow given_head since opened used up come sent replies prefix stands is = absurd stands
    doing_stood at flow given_body since opened used up come sent replies prefix stands is = absurd stands

    pub stage_stood : (stage : Stage) (since : Since) (opened : ℕ) (used : UsedBytes) (up : ℕ) (come : ℕ) (sent : List Command) (replies : List Reply) (prefix : List (Timed Event)) →
        IsAt terms events all flows stage opened used come sent replies → IsFront prefix events → Stood stage (sight_of (side_of stage) since opened used up prefix) sent prefix
    stage_stood (idle at) since opened used up come sent replies prefix stands is = idle_stood at since opened used up come sent replies prefix stands is
    stage_stood (busy at flow doing) since opened used up come sent replies prefix stands is = doing_stood at flow doing since opened used up come sent replies prefix stands is
    stage_stood (next at) since opened used up come sent replies prefix stands is = absurd stands
    stage_stood over since opened used up come sent replies prefix stands is =
        record { left = []; is = stands.is_all ∙ sym (append-nil (said sent)); here = over_here (IsSame prefix events) _ }

    -- ---- one event more

    asks_here : (bytes : ℕ) (prefix : List (Timed Event)) → IsFront prefix events → is_whole (request_item (drop bytes (bytes_of Client prefix))) ≡ false →
        request_is_whole events bytes (length prefix) ≡ false
    asks_here bytes prefix is not_whole =
        ap (λ l. is_whole (request_item (drop bytes l))) (sym (same_bytes Client prefix _ (same_taken prefix events is))) ∙ not_whole

    onward_more : (asked : Request) (side : ℕ) (since : Since) (opened : ℕ) (used : UsedBytes) (up : ℕ) (went : ℕ) (prefix : List (Timed Event)) →
        IsFront prefix events → is_whole (answers_in asked (sight_of (Some side) since opened used up prefix)).final ≡ false →
        Onward terms events all flows asked side opened used.server went (length prefix) → Onward terms events all flows asked side opened used.server went (length prefix + 1)
    onward_more asked side since opened used up went prefix is not_whole o = record {
      within = let so_many = o.within in omega arith;
      waits = waits_more _ went (length prefix) o.waits
          (ap (λ (answers : Answers). is_whole answers.final)
          (sym (answers_same terms events all flows asked side opened used since up prefix _ (same_taken prefix events is))) ∙ not_whole);
    }

    doing_more : (at : At) (flow : Flow) (doing : Doing) (since : Since) (opened : ℕ) (used : UsedBytes) (up : ℕ) (sent : List Command) (replies : List Reply) (prefix : List (Timed Event)) → IsFront prefix events →
        let seen = sight_of (side_of (busy at flow doing)) since opened used up prefix in
        finds terms.place (unspoilt_at at seen) flow doing seen ≡ NotYet → IsDoing terms events all flows at flow doing opened used (length prefix) sent replies →
        IsDoing terms events all flows at flow doing opened used (length prefix + 1) sent replies
    doing_more at flow (request_body None None) since opened used up sent replies prefix is none b =
        let seen = sight_of (side_parked at.parked) since opened used up prefix in
        record {
          from = b.from;
          within = let so_many = b.within in omega arith;
          waits = waits_more (request_is_whole events used.client) b.from (length prefix) b.waits
              (asks_here used.client prefix is (no_body flow (request_in seen) seen.now (server_parked (unspoilt_at at seen).parked seen) seen.closed none));
          head = b.head;
          there = b.there;
          accepted = b.accepted;
          rest = b.rest;
        }
    doing_more at flow (request_body None (Some most)) since opened used up sent replies prefix is none stands = absurd stands
    doing_more at flow (request_body (Some response) most) since opened used up sent replies prefix is none stands = absurd stands
    doing_more at flow (connection all_sent) since opened used up sent replies prefix is none stands = absurd (cc)
    doing_more at flow (connection going_up) since opened used up sent replies prefix is none stands = absurd stands
    doing_more at flow (response_head side going_up) since opened used up sent replies prefix is none stands = absurd stands
    doing_more at flow (response_head side all_sent) since opened used up sent replies prefix is none s =
        let seen = sight_of (Some side) since opened used up prefix in
        record {
          went = s.went;
          onward = onward_more flow.request side since opened used up s.went prefix is
              (no_answer flow (answers_in flow.request seen).final seen.now (server_in side seen) seen.closed none) s.onward;
          from = s.from;
          rest = s.rest;
        }
    doing_more at flow (response_body side going_up most) since opened used up sent replies prefix is none stands = absurd stands
    doing_more at flow (response_body side all_sent None) since opened used up sent replies prefix is none s =
        let seen = sight_of (Some side) since opened used up prefix in
        record {
          went = s.went;
          onward = onward_more flow.request side since opened used up s.went prefix is
              (no_return flow (answers_in flow.request seen).final seen.now (server_in side seen) seen.closed none) s.onward;
          from = s.from;
          head = s.head;
          final = s.final;
          response = s.response;
          rest = s.rest;
        }
    doing_more at flow (response_body side all_sent (Some most)) since opened used up sent replies prefix is none stands = absurd stands
    doing_more at flow (coming_down side how) since opened used up sent replies prefix is none stands = absurd stands
    doing_more at flow (upgraded side) since opened used up sent replies prefix is none stands = stands
    doing_more at flow given_head since opened used up sent replies prefix is none stands = absurd stands
    doing_more at flow given_body since opened used up sent replies prefix is none stands = absurd stands

    pub stage_more : (stage : Stage) (since : Since) (opened : ℕ) (used : UsedBytes) (up : ℕ) (sent : List Command) (replies : List Reply) (prefix : List (Timed Event)) → IsFront prefix events →
        look terms stage (sight_of (side_of stage) since opened used up prefix) ≡ NotYet → IsAt terms events all flows stage opened used (length prefix) sent replies →
        IsAt terms events all flows stage opened used (length prefix + 1) sent replies
    stage_more (idle at) since opened used up sent replies prefix is none b =
        let seen = sight_of (side_parked at.parked) since opened used up prefix in
        record {
          from = b.from;
          within = let so_many = b.within in omega arith;
          waits = waits_more (request_is_whole events used.client) b.from (length prefix) b.waits
              (asks_here used.client prefix is (no_request terms at.flow (request_in seen) seen.now (server_parked (unspoilt_at at seen).parked seen) seen.closed
              (none_found seen.closed (leaving (unspoilt (idle at) seen) seen) _ none)));
          rest = b.rest;
        }
    stage_more (busy at flow doing) since opened used up sent replies prefix is none stands =
        let seen = sight_of (side_of (busy at flow doing)) since opened used up prefix in
        let there = unspoilt_at at seen in
        doing_more at flow doing since opened used up sent replies prefix is (none_found seen.closed (leaves there flow doing seen) (finds terms.place there flow doing seen) none) stands
    stage_more (next at) since opened used up sent replies prefix is none stands = absurd stands
    stage_more over since opened used up sent replies prefix is none stands = stands
