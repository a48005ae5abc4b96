-- Where a reply that goes on leads: behind a request that was sent on.
use Rattle.std.proofs.Common.{◌≡◌, ℕ, ◌+◌, Bool, true, false, ◌==◌, List, [], ◌∷◌, ◌++◌, length, Option, Some, suc, refl, ap, sym, ◌∙◌, subst, arith, None}
use Rattle.std.specs.Prelude.{◌||◌, ◌&&◌, if◌then◌else◌, not, is_some, take}
use Rattle.std.proofs.lemmas.List.{append-nil}
use Rattle.px_message.specs.declared.fault.Fault.{Fault}
use Rattle.px_message.specs.declared.fault.Fault.TheVariants.{BadResponse}
use Rattle.px_message.specs.declared.flow.Flow.{Flow}
use Rattle.px_message.specs.declared.request.Request.{Request}
use Rattle.px_message.specs.declared.response.Response.{Response}
use Rattle.px_event.specs.declared.ask.Hook.TheVariants.{ResponseHead, ResponseBody}
use Rattle.px_event.specs.declared.command.Command.{Command}
use Rattle.px_event.specs.declared.command.Command.TheVariants as commands
use Rattle.px_event.specs.declared.event.Event.{Event}
use Rattle.px_event.specs.declared.reply.Reply.{Reply}
use Rattle.px_event.specs.declared.side.Side.TheVariants.{Client}
use Rattle.px_event.specs.Chain.{Timed, Asks, Ends, Turn}
use Rattle.px_read.specs.Items.{Answers, Body, Item, missing, part, complete, bad_head, bad_body}
use Rattle.px_read.specs.Laws.{head_in, is_begun, is_decided}
use Rattle.px_read.specs.declared.head.ResponseHead.{ResponseHead as ReadResponse}
use Rattle.px_read.proofs.AnswerLemmas.{AnswersCarry}
use Rattle.px_exchange.specs.declared.ending.Used.{Used}
use Rattle.px_exchange.specs.declared.ending.Used.TheVariants.{NoServer}
use Rattle.px_exchange.specs.declared.taken.Taken.{Taken}
use Rattle.px_exchange.specs.declared.taken.Taken.TheVariants as taken
use Rattle.px_exchange.specs.declared.terms.Terms.{Terms}
use Rattle.px_exchange.specs.Endings.{closed_message, connection_goes_on, ends_by_fault, ends_early, finished, shut_unless, unless_kept, without_response}
use Rattle.px_exchange.specs.Finds.{is_relayed, look_answer, look_answer_head, look_returned, or_leaves}
use Rattle.px_exchange.specs.Flows.{ask_of, filled, response_of, with_answer, with_returned}
use Rattle.px_exchange.specs.Replies.{taken_at_response_body, taken_at_response_head}
use Rattle.px_exchange.specs.Requests.{is_head}
use Rattle.px_exchange.specs.Texts.{interim_commands, returned_text}
use Rattle.px_chain.specs.Chain.{behind_flow, finish_by, sequence, turn_answer, turn_answer_head, turn_read_whole, turn_response, turn_returned, turn_taken_answer, turn_taken_whole}
use Rattle.px_said.specs.ClosedForm.{Point, answers_at, dial_answers, ended_at, is_whole, next_point, response_is_whole, said, said_answers, said_behind, said_final, said_headed, said_on, said_relayed, said_returned, whole_response}
use Rattle.px_chain.specs.Behind.{used_behind}
use Rattle.px_chain.specs.Keeping.{keeps_side, parks}
use Rattle.px_chain.specs.Sights.{Sight, UsedBytes, answers_in, server_in, sight_of, used_by_answers}
use Rattle.px_chain.specs.Stages.{At, Stage, all_sent, side_of, unparked}
use Rattle.px_chain.specs.Streams.{Since}
use Rattle.px_said.proofs.ClosedFronts.{IsFront, IsSame, answers_grow, front_length, least_at, same_answers, same_taken}
use Rattle.px_said.proofs.ClosedQuiet.{no_dial, said_join, says_finished, says_interim, takes_response_body, takes_response_head, allows_none}
use Rattle.px_said.proofs.ClosedParked.{all_there, parks_said}
use Rattle.px_said.proofs.ClosedStages.{Answering, IsAt, Returning, further_behind, goes_further, items_behind, standing, told}
use Rattle.px_said.proofs.ClosedLooks.{asks_nothing, asks_same, ends_ask}
use Rattle.px_said.proofs.ClosedTurns.{Leads, ending_led, goes_on}

begun_by : (item : Item ReadResponse) (head : ReadResponse) → head_in item ≡ Some head → is_begun item ≡ true
begun_by item head is = ap (λ (o : Option ReadResponse). is_some o || is_decided item) is

-- what is owed where the client leaves
abbrev early : Flow → Sight → Used → List Command
early flow seen used = ends_early flow closed_message seen.now used true

module _ (terms : Terms) (events : List (Timed Event)) (all : List Command) (flows : ℕ) where
  -- the responses that were seen, and those of all events
  pub answers_carried : (asked : Request) (side opened : ℕ) (used : UsedBytes) (since : Since) (up : ℕ) (prefix : List (Timed Event)) → IsFront prefix events →
      AnswersCarry (answers_in asked (sight_of (Some side) since opened used up prefix)) (told terms events all side opened used.server asked)
  answers_carried asked side opened used since up prefix is = answers_grow (is_head asked.method) side opened used.server prefix events is

  -- over the same events they are the same
  pub answers_same : (asked : Request) (side opened : ℕ) (used : UsedBytes) (since : Since) (up : ℕ) (prefix others : List (Timed Event)) → IsSame prefix others →
      answers_in asked (sight_of (Some side) since opened used up prefix) ≡ answers_at others side opened used.server (is_head asked.method)
  answers_same asked side opened used since up prefix others is = same_answers (is_head asked.method) side opened used.server prefix others is

  -- what is left behind a flow, with its side parked or none: of the flows that are to come
  by_stays : (more : ℕ) (stays : Bool) (kept : At) (used : ℕ) (served : Stage → ℕ) (opened come : ℕ) (sent : List Command) (left : List Reply) (further : ℕ → List Command) →
      all ≡ said sent ++ said_behind stays (Some come) further → let there = sequence (behind_flow stays kept) in
      let had : UsedBytes = record { client = used; server = served there } in
      (stays ≡ true → further come ≡ further_behind terms events all (suc more) used (standing (record kept { flow = kept.flow + 1 }) opened had come (dial_answers left))) →
      IsAt terms events all more there opened had come sent left
  by_stays more true kept used served opened come sent left further is same = record {
    from = come;
    within = omega arith;
    waits = λ k low high. absurd (omega arith);
    rest = is ∙ ap (λ l. said sent ++ l) (same refl);
  }
  by_stays more false kept used served opened come sent left further is same = record { is_all = is ∙ append-nil (said sent) }

  -- and behind the last one nothing
  by_last : (stays : Bool) (sent : List Command) (come : ℕ) (further : ℕ → List Command) → further come ≡ [] → all ≡ said sent ++ said_behind stays (Some come) further → all ≡ said sent
  by_last true sent come further none is = is ∙ (ap (λ l. said sent ++ l) none ∙ append-nil (said sent))
  by_last false sent come further none is = is ∙ append-nil (said sent)

  module _ (sent : List Command) (moment : ℕ) (value : Reply) (waits : Bool) (rest : List Command) (replies : List Reply)
      (since : Since) (opened : ℕ) (used : UsedBytes) (up : ℕ) (prefix : List (Timed Event)) (is_front : IsFront prefix events) (ask : Command) (at : At) (flow : Flow) (side : ℕ) where
    -- so many events have come
    abbrev come : ℕ
    come = length prefix

    abbrev answer : Timed Reply
    answer = record { moment = moment; value = value }

    abbrev seen : Sight
    seen = sight_of (Some side) since opened used up prefix

    abbrev found_answers : Answers
    found_answers = answers_in flow.request seen

    abbrev all_answers : Answers
    all_answers = told terms events all side opened used.server flow.request

    -- the replies that are left before this one
    abbrev left : List Reply
    left = value ∷ replies

    -- what is said behind the response, where the request went to its server over so many events, and these dials are answered
    abbrev behind : ℕ → ℕ → List (Option Fault) → Response → List Command
    behind went from dials =
        said_on terms.place events (standing (unparked at) opened used from dials) (record { server = side; opened = opened; used = used.server; went = went })
        (further_behind terms events all flows used.client) flow.request

    -- how many events its response has used
    abbrev ended_there : ℕ → Option ℕ
    ended_there went = ended_at events (record { server = side; opened = opened; used = used.server; went = went }) (is_head flow.request.method)

    -- behind the answer about a head nothing more is used
    abbrev leads_head : Stage → UsedBytes
    leads_head stage = record { client = used.client; server = used_behind false (side_of stage) used.server }

    -- and behind the answer about a whole response its bytes are
    abbrev leads_body : Stage → UsedBytes
    leads_body stage = record {
      client = used.client;
      server = used_behind false (side_of stage) (used_by_answers found_answers used.server);
    }

    -- ---- the head of the final response

    module _ (s : Answering terms events all flows at flow.request side opened used come sent left) where
      abbrev interim : List Command
      interim = interim_commands flow.request found_answers.interim

      relayed_led : (head : ReadResponse) → head_in found_answers.final ≡ Some head → is_relayed head.code ≡ true →
          Leads terms events all flows (turn_answer_head terms at flow side all_sent head seen answer) opened leads_head come sent interim
          (ask_of (with_answer flow (response_of head) seen.now) ResponseHead) waits rest value replies
      relayed_led head is relays goes =
          let whole = with_answer flow (response_of head) seen.now in
          let asked = ask_of whole ResponseHead in
          let carried = answers_carried flow.request side opened used since up prefix is_front in
          let begun = carried.begun (begun_by found_answers.final head is) in
          let there : head_in all_answers.final ≡ Some head = carried.final.head head is in
          let says = says_interim flow.request found_answers.interim in
          let more_is : said (interim ++ asked ∷ []) ≡ interim = said_join interim (asked ∷ []) ∙ (append-nil (said interim) ∙ says.is) in
          let ends_here : List Command = said_returned flow.request all_answers.final (behind s.went s.from (dial_answers replies)) in
          let on : dial_answers left ≡ dial_answers replies →
          said_answers flow.request all_answers (behind s.went s.from (dial_answers left)) ≡ interim ++ ends_here = λ same.
          ap (λ d. said_answers flow.request all_answers (behind s.went s.from d)) same
          ∙ (ap (λ l. interim_commands flow.request l ++ said_final flow.request all_answers.final (behind s.went s.from (dial_answers replies))) begun.0
          ∙ (ap (λ (o : Option ReadResponse). interim ++ said_headed flow.request o all_answers.final (behind s.went s.from (dial_answers replies))) there
          ∙ ap (λ b. interim ++ said_relayed b flow.request ends_here) relays)) in
          let P : Option ℕ → Taken Response → Type 0 = λ m t. Leads terms events all flows
          (turn_taken_answer at whole side all_sent m t moment (server_in side seen) seen.closed) opened leads_head come sent interim asked waits rest value replies in
          let led : P None (taken.GoesOn (response_of head)) = λ on_it.
          goes_on flows
          (record {
            went = s.went;
            onward = s.onward;
            from = s.from;
            head = head;
            final = there;
            response = refl;
            rest = goes_further all sent (interim ++ asked ∷ []) interim _ ends_here s.rest more_is (on (no_dial whole value replies on_it.0));
          })
          refl on_it.1 in
          let taken_so : P None (taken_at_response_head (response_of head) value) = subst (λ t. P None t) (sym (takes_response_head whole (response_of head) value refl goes.0)) led in
          subst (λ m. P m (taken_at_response_head (response_of head) value)) (sym (allows_none terms.streams whole value goes.0)) taken_so goes

      head_led : (head : ReadResponse) (relays : Bool) → is_relayed head.code ≡ relays → head_in found_answers.final ≡ Some head →
          or_leaves seen.closed (early flow seen (server_in side seen)) (look_answer_head flow head seen.now (server_in side seen) seen.closed) ≡ Asks ask →
          Leads terms events all flows (turn_answer_head terms at flow side all_sent head seen answer) opened leads_head come sent interim ask waits rest value replies
      head_led head false relays is asks =
          let P : Bool → Type 0 = λ b. or_leaves seen.closed (early flow seen (server_in side seen))
          (if not b then Ends (ends_by_fault flow BadResponse seen.now (server_in side seen) seen.closed)
          else Asks (ask_of (with_answer flow (response_of head) seen.now) ResponseHead)) ≡ Asks ask in
          absurd (ends_ask _ ask (subst P relays asks))
      head_led head true relays is asks =
          let P : Bool → Type 0 = λ b. or_leaves seen.closed (early flow seen (server_in side seen))
          (if not b then Ends (ends_by_fault flow BadResponse seen.now (server_in side seen) seen.closed)
          else Asks (ask_of (with_answer flow (response_of head) seen.now) ResponseHead)) ≡ Asks ask in
          let Q : Command → Type 0 = λ c. Leads terms events all flows (turn_answer_head terms at flow side all_sent head seen answer) opened leads_head come sent interim c waits rest value replies in
          subst Q (asks_same _ ask (subst P relays asks)) (relayed_led head is relays)

      pub answer_led : (item : Item ReadResponse) → found_answers.final ≡ item →
          or_leaves seen.closed (early flow seen (server_in side seen)) (look_answer flow item seen.now (server_in side seen) seen.closed) ≡ Asks ask →
          Leads terms events all flows (turn_answer terms at flow side all_sent item seen answer) opened leads_head come sent interim ask waits rest value replies
      answer_led missing is asks = absurd (asks_nothing seen.closed _ ask asks)
      answer_led (part head body) is asks = head_led head (is_relayed head.code) refl (ap head_in is) asks
      answer_led (complete head body trailers size) is asks = head_led head (is_relayed head.code) refl (ap head_in is) asks
      answer_led (bad_head fault) is asks = absurd (ends_ask _ ask asks)
      answer_led (bad_body fault head body) is asks = head_led head (is_relayed head.code) refl (ap head_in is) asks

    -- ---- the response's body

    module _ (s : Returning terms events all flows at flow side opened used come sent left) where
      -- where the next request stands behind this response, if the connection goes on
      abbrev next_from : Response → ℕ → Point
      next_from response ended =
          next_point terms.place (standing (unparked at) opened used s.from (dial_answers replies)) (record { server = side; opened = opened; used = used.server; went = s.went })
          flow.request all_answers ended

      module _ (head : ReadResponse) (body : Body) (trailers : List (List ℕ × List ℕ)) (size : ℕ) (is_final : found_answers.final ≡ complete head body trailers size) where
        -- the side may be kept
        abbrev keeps : Bool
        keeps = keeps_side flow.request seen head

        -- the place behind it, where the connection goes on or not, and the request was this one
        abbrev kept_at : Bool → Request → At
        kept_at stays asked = parks (stays && keeps) terms.place at asked side

        abbrev next_kept : Bool → Request → Point
        next_kept stays asked =
            let kept = kept_at stays asked in
            let had : UsedBytes = record { client = used.client; server = (leads_body (sequence (behind_flow stays kept))).server } in
            standing (record kept { flow = kept.flow + 1 }) opened had come (dial_answers replies)

        -- there the next request stands
        further_kept : (n : ℕ) (response : Response) (stays : Bool) (asked : Request) → stays ≡ true → asked ≡ flow.request → all_answers ≡ found_answers →
            further_behind terms events all n used.client (next_from response come) ≡ further_behind terms events all n used.client (next_kept stays asked)
        further_kept n response stays asked on request same =
            let P : Bool → Request → Type 0 = λ b r.
            further_behind terms events all n used.client (next_from response come) ≡ further_behind terms events all n used.client (next_kept b r) in
            let B : Bool → Type 0 = λ b. P b asked in
            subst B (sym on)
            (subst (P true) (sym request)
            (parks_said terms events since opened used up prefix is_front at s.from (dial_answers replies) flow.request side s.went (take n (items_behind terms events all used.client))
            all_answers head body trailers size same is_final))

        -- A response that switches protocols is the last thing that is said; behind another one it may go on.
        finished_led : (switches : Bool) (whole : Flow) (response : Response) → (response.status == 101) ≡ switches → whole.request ≡ flow.request →
            ended_there s.went ≡ Some come →
            all ≡ said sent ++ commands.Send Client (returned_text flow.request response) ∷ behind s.went s.from (dial_answers replies) response →
            Leads terms events all flows (finish_by switches terms.place at whole all_sent response keeps side (server_in side seen) seen.closed) opened leads_body come sent []
            (ask_of whole ResponseBody) waits rest value replies
        finished_led true whole response switches request ends is goes =
            let text : Request → Command = λ r. commands.Send Client (returned_text r response) in
            let more : List Command = ask_of whole ResponseBody ∷ text whole.request ∷ [] in
            let F = further_behind terms events all flows used.client in
            let last : behind s.went s.from (dial_answers replies) response ≡ [] =
            ap (λ b. said_behind (not b && connection_goes_on at.flow flow.request response) (ended_there s.went) (λ ended. F (next_from response ended))) switches in
            goes_on flows
            (record {
              is_all = goes_further all sent more (text flow.request ∷ []) _ [] is (ap (λ r. text r ∷ []) request) (ap (λ l. text flow.request ∷ l) last) ∙ append-nil _;
            })
            refl goes.1
        finished_led false whole response switches request ends is goes =
            let text : Request → Command = λ r. commands.Send Client (returned_text r response) in
            let stays = connection_goes_on at.flow whole.request response in
            let used_side = unless_kept (stays && keeps) (server_in side seen) in
            let closes = says_finished whole response used_side NoServer stays seen.closed in
            let more : List Command = ask_of whole ResponseBody ∷ (finished whole response used_side ++ shut_unless stays NoServer seen.closed) in
            let F : ℕ → ℕ → List Command = λ n ended. further_behind terms events all n used.client (next_from response ended) in
            let left_there : List Command = said_behind stays (Some come) (F flows) in
            let last : behind s.went s.from (dial_answers replies) response ≡ left_there =
            ap (λ b. said_behind (not b && connection_goes_on at.flow flow.request response) (ended_there s.went) (F flows)) switches
            ∙ (ap (λ (r : Request). said_behind (connection_goes_on at.flow r response) (ended_there s.went) (F flows)) (sym request)
            ∙ ap (λ o. said_behind stays o (F flows)) ends) in
            let there : all ≡ said (sent ++ more) ++ left_there =
            goes_further all sent more (text flow.request ∷ []) _ left_there is (closes.is ∙ ap (λ r. text r ∷ []) request) (ap (λ l. text flow.request ∷ l) last) in
            let P : ℕ → Type 0 = λ n. all ≡ said (sent ++ more) ++ said_behind stays (Some come) (F n) in
            let carried = answers_carried flow.request side opened used since up prefix is_front in
            let same : all_answers ≡ found_answers = all_there found_answers all_answers head body trailers size carried is_final in
            ending_led terms events all flows (finish_by false terms.place at whole all_sent response keeps side (server_in side seen) seen.closed) opened leads_body come sent [] (ask_of whole ResponseBody)
            waits rest replies _ refl closes
            (λ none. by_last stays (sent ++ more) come (F 0) refl (subst P none there))
            (λ n is. by_stays n stays (parks (stays && keeps) terms.place at whole.request side) used.client (λ stage. (leads_body stage).server) opened come (sent ++ more) replies (F (suc n))
            (subst P is there) (λ on. further_kept (suc n) response stays whole.request on request same)) goes.1

        whole_led : Leads terms events all flows (turn_returned terms.place at flow side all_sent (complete head body trailers size) seen answer) opened leads_body come sent []
            (ask_of (with_returned flow body.content trailers seen.now) ResponseBody) waits rest value replies
        whole_led goes =
            let whole = with_returned flow body.content trailers seen.now in
            let served = server_in side seen in
            let response = whole_response s.head body trailers in
            let carried = answers_carried flow.request side opened used since up prefix is_front in
            let final : all_answers.final ≡ complete head body trailers size = carried.final.stays (rw is_final refl) ∙ is_final in
            let same : Some head ≡ Some s.head = sym (ap head_in final) ∙ s.final in
            let heads : head ≡ s.head = cc in
            let there : whole.response ≡ Some response = ap (λ o. filled o body.content trailers) s.response in
            let takes = takes_response_body whole response value there goes.0 in
            let one : turn_read_whole terms.place at whole side all_sent keeps answer served seen.closed
            ≡ turn_taken_whole terms.place at whole side all_sent keeps (taken_at_response_body response value) moment served seen.closed =
            ap (λ o. turn_response o (λ r. taken_at_response_body r value) (λ t. turn_taken_whole terms.place at whole side all_sent keeps t moment served seen.closed)) there in
            let two : turn_taken_whole terms.place at whole side all_sent keeps (taken_at_response_body response value) moment served seen.closed
            ≡ finish_by (response.status == 101) terms.place at whole all_sent response keeps side served seen.closed =
            ap (λ t. turn_taken_whole terms.place at whole side all_sent keeps t moment served seen.closed) takes in
            let P : Turn Stage Command → Type 0 = λ t. Leads terms events all flows t opened leads_body come sent [] (ask_of whole ResponseBody) waits rest value replies in
            let test = response_is_whole events side opened used.server (is_head flow.request.method) in
            let here : test come ≡ true =
            ap (λ (answers : Answers). is_whole answers.final)
            (sym (answers_same flow.request side opened used since up prefix (take (length prefix) events) (same_taken prefix events is_front)))
            ∙ ap is_whole is_final in
            let ends = least_at test s.went come (length events) s.onward.within (front_length prefix events is_front) s.onward.waits here in
            let rest_is : all ≡ said sent ++ commands.Send Client (returned_text flow.request response) ∷ behind s.went s.from (dial_answers replies) response =
            s.rest ∙ (ap (λ d. said sent ++ said_returned flow.request all_answers.final (behind s.went s.from d)) (no_dial whole value replies goes.0)
            ∙ ap (λ (i : Item ReadResponse). said sent ++ said_returned flow.request i (behind s.went s.from (dial_answers replies)))
            (final ∙ ap (λ h. complete h body trailers size) heads)) in
            subst P (sym (one ∙ two)) (finished_led (response.status == 101) whole response refl refl ends rest_is) goes

      pub returned_led : (item : Item ReadResponse) → found_answers.final ≡ item →
          or_leaves seen.closed (early (without_response flow) seen (server_in side seen)) (look_returned flow item seen.now (server_in side seen) seen.closed) ≡ Asks ask →
          Leads terms events all flows (turn_returned terms.place at flow side all_sent item seen answer) opened leads_body come sent [] ask waits rest value replies
      returned_led missing is asks = absurd (asks_nothing seen.closed _ ask asks)
      returned_led (part head body) is asks = absurd (asks_nothing seen.closed _ ask asks)
      returned_led (complete head body trailers size) is asks =
          let P : Command → Type 0 = λ c. Leads terms events all flows (turn_returned terms.place at flow side all_sent (complete head body trailers size) seen answer) opened leads_body come sent [] c waits rest value replies in
          subst P (asks_same _ ask asks) (whole_led head body trailers size is)
      returned_led (bad_head fault) is asks = absurd (asks_nothing seen.closed _ ask asks)
      returned_led (bad_body fault head body) is asks = absurd (ends_ask _ ask asks)
