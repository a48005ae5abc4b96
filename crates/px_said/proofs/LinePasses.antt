-- Where a conversation whose replies go on goes on without a reply: a request begins to go up, it is whole, or a response comes down.
use Rattle.std.proofs.Common.{◌≡◌, ℕ, zero, suc, ◌+◌, ◌≤◌, ◌<◌, Bool, true, false, List, [], ◌∷◌, ◌++◌, length, drop, Option, Some, None, refl, ap, sym, ◌∙◌, subst, append_assoc, arith, inl, inr}
use Rattle.std.specs.Prelude.{◌&&◌, ◌||◌, is_some, take}
use Rattle.std.proofs.lemmas.Bool.Decides.{leb_tells}
use Rattle.std.proofs.lemmas.List.{append-nil, drop-drop}
use Rattle.px_text.specs.Prefix.{IsPrefixOf}
use Rattle.px_text.proofs.LeastLemmas.{least_same}
use Rattle.px_message.specs.declared.flow.Flow.{Flow}
use Rattle.px_message.specs.declared.request.Request.{Request}
use Rattle.px_message.specs.declared.response.Response.{Response}
use Rattle.px_event.specs.declared.command.Command.{Command}
use Rattle.px_event.specs.declared.command.Command.TheVariants as commands
use Rattle.px_event.specs.declared.event.Event.{Event}
use Rattle.px_event.specs.declared.reply.Reply.{Reply}
use Rattle.px_event.specs.declared.side.Side.TheVariants.{Client, Server}
use Rattle.px_event.specs.Chain.{Timed, Turn}
use Rattle.px_read.specs.Items.{Answers, Body, Item, missing, part, complete, bad_head, bad_body, request_item}
use Rattle.px_read.specs.Laws.{head_in, is_begun, is_decided}
use Rattle.px_read.specs.declared.head.RequestHead.{RequestHead as ReadRequest}
use Rattle.px_read.specs.declared.head.ResponseHead.{ResponseHead as ReadResponse}
use Rattle.px_exchange.specs.declared.ending.Used.TheVariants.{NoServer}
use Rattle.px_exchange.specs.declared.asked.Judged.TheVariants.{Accepted}
use Rattle.px_exchange.specs.declared.terms.Terms.{Terms}
use Rattle.px_exchange.specs.Endings.{read_persists, sent_persists, shut_server, shut_unless, unless_kept}
use Rattle.px_exchange.specs.Finds.{is_relayed}
use Rattle.px_exchange.specs.Flows.{response_of, with_end}
use Rattle.px_exchange.specs.Requests.{is_head, judged}
use Rattle.px_parts.specs.Texts.{left_of}
use Rattle.px_chain.specs.Chain.{behind_flow, end_by, end_up, goes_to, goes_up_by, going_at, gone_by, keeps_came, parked_for, pass, pass_came, pass_going, pass_kept, past_gone, reached, sequence, sight_ended, used_by_came, used_by_coming, used_by_end, used_by_gone, used_by_kept, used_by_pass, used_if}
use Rattle.px_chain.specs.Coming.{Came, as_streamed, came_by, came_in, coming_by, coming_text, goes_on_behind, streaming, streams_by, streams_in}
use Rattle.px_chain.specs.Going.{goes_up, is_sent, sending_on, sends_going, sends_up, whole_by, whole_in, with_whole}
use Rattle.px_chain.specs.Keeping.{is_silent, keeps_side, parks, unspoilt_at}
use Rattle.px_chain.specs.Sights.{Sight, UsedBytes, answers_in, left_by_answers, server_in, sight_of, used_by_answers, used_with}
use Rattle.px_chain.specs.Stages.{At, Doing, Sent, Stage, all_sent, busy, coming_down, connection, given_body, given_head, going_up, idle, next, over, request_body, response_body, response_head, side_of, side_parked, unparked, upgraded}
use Rattle.px_chain.proofs.ChainLaws.{passes_by}
use Rattle.px_chain.specs.Streams.{Since, bytes_of}
use Rattle.px_chain.proofs.GoingLaws.{going_text_stays}
use Rattle.px_chain.proofs.UpLaws.{goes_up_here, stays_here}
use Rattle.px_said.specs.ClosedForm.{Told, first_flows, is_whole, request_items, said, said_behind, told_by}
use Rattle.px_said.specs.Lines.{Exchange, Start, answers_to, client_bytes, comes_down, ends_at, ends_over, fault_in, fault_up, goes_on_at, goes_on_over, goes_on_streamed, goes_up_over, heard_of, is_ended, is_fault, is_sent_over, once_whole, said_down, said_request, said_to, said_way, sent_from, side_over, streamed_request, text_down, until, used_by}
use Rattle.px_said.proofs.ClosedFronts.{IsFront, IsSame, drop_on, front_length, least_at, same_taken, side_grows}
use Rattle.px_said.proofs.ClosedItems.{after_on}
use Rattle.px_said.proofs.ClosedQuiet.{said_join}
use Rattle.px_said.proofs.LineFronts.{answers_on, comes_on, front_until, same_ended, told_on}
use Rattle.px_said.proofs.ParkedFronts.{front_taken}
use Rattle.px_said.proofs.LineQuiet.{AllSends, Rest, SaysEnd, closes_both, done_said, end_behind, rest_is, rest_on, rest_said, sends_keep, server_closes, unless_closes}
use Rattle.px_said.proofs.LineSeen.{carried, ended_here, same_down, same_goes_up, same_text, silent_missing}
use Rattle.px_said.proofs.LineKept.{answers_there, behind_parks, kept_served, kept_side, kept_silent, server_kept, silent_behind, waits_behind}
use Rattle.px_said.proofs.LineStages.{Answering, Begun, Coming, Down, GoesUp, IsAt, IsKept, IsPlain, Onward, Returning, Waiting, after_kept, after_streamed, answers_left, bytes_behind, coming_left, down_of, down_over, ended_by, exchange_of, further_after, further_behind, further_of, further_on, heard_by, next_of, response_left, start_of, text_of, text_over, up_left}

-- ---- items

-- a whole request is not at fault, however much more is heard
whole_stays : {H : Type 0} (item all : Item H) (head : H) (body : Body) (trailers : List (List ℕ × List ℕ)) (size : ℕ) → item ≡ complete head body trailers size →
    (is_decided item ≡ true → all ≡ item) → all ≡ complete head body trailers size
whole_stays item all head body trailers size is stays = stays (ap is_decided is) ∙ is

or_right : (a b : Bool) → (a || b) ≡ false → b ≡ false
or_right true b is = absurd (let no : true ≡ false = is in cc)
or_right false b is = is

or_true : (a : Bool) → (a || true) ≡ true
or_true true = refl
or_true false = refl

begun_by : (item : Item ReadResponse) (head : ReadResponse) → head_in item ≡ Some head → is_begun item ≡ true
begun_by item head is = ap (λ (o : Option ReadResponse). is_some o || is_decided item) is

-- how the request stands shows in whether it was sent
pub sends_sent : (terms : Terms) (flow : Flow) (side : ℕ) (how : Sent) (seen : Sight) → AllSends (sends_up terms.place flow side how seen)
sends_sent terms flow side all_sent seen = tt
sends_sent terms flow side going_up seen = tt

module _ (terms : Terms) (events : List (Timed Event)) (all : List Command) where
  -- Where it stands behind that, with so many flows behind; or the last of these flows has ended.
  pub data Passed (flows : ℕ) (turned : Turn Stage Command) (opened : ℕ) (used : UsedBytes) (up : ℕ) (prefix : List (Timed Event)) (sent : List Command) (left : List Reply) : Type 0 where
    passed_on : (more : ℕ) → IsAt terms events all more (sequence turned.stage) opened used up prefix (sent ++ turned.owed) left →
        ((rest : List Command) → first_flows (suc flows) (turned.owed ++ rest) ≡ turned.owed ++ first_flows (suc more) rest) → Passed flows turned opened used up prefix sent left
    passed_over : ((rest : List Command) → Rest all (sent ++ first_flows (suc flows) (turned.owed ++ rest)) []) → Passed flows turned opened used up prefix sent left

  -- where it stays
  pub stays_there : (flows : ℕ) (stage : Stage) (opened : ℕ) (used : UsedBytes) (up : ℕ) (prefix : List (Timed Event)) (sent : List Command) (left : List Reply) →
      sequence stage ≡ stage → IsAt terms events all flows stage opened used up prefix sent left → Passed flows (goes_to stage) opened used up prefix sent left
  stays_there flows stage opened used up prefix sent left same is =
      let P : Stage → List Command → Type 0 = λ s l. IsAt terms events all flows s opened used up prefix l left in
      let Q : Stage → Type 0 = λ s. P s (sent ++ []) in
      passed_on flows (subst Q (sym same) (subst (P stage) (sym (append-nil sent)) is)) (λ rest. refl)

  -- behind texts
  pub passed_behind : (flows : ℕ) (first : List Command) (turned : Turn Stage Command) (opened : ℕ) (used : UsedBytes) (up : ℕ) (prefix : List (Timed Event)) (sent : List Command) (left : List Reply) →
      AllSends first → Passed flows turned opened used up prefix (sent ++ first) left →
      Passed flows (record { owed = first ++ turned.owed; stage = turned.stage }) opened used up prefix sent left
  passed_behind flows first turned opened used up prefix sent left sends (passed_on more is keeps) =
      let P : List Command → Type 0 = λ l. IsAt terms events all more (sequence turned.stage) opened used up prefix l left in
      passed_on more (subst P (append_assoc sent first turned.owed) is)
      (λ rest. ap (first_flows (suc flows)) (append_assoc first turned.owed rest)
      ∙ (sends_keep first sends flows (turned.owed ++ rest)
      ∙ (ap (λ l. first ++ l) (keeps rest) ∙ sym (append_assoc first turned.owed (first_flows (suc more) rest)))))
  passed_behind flows first turned opened used up prefix sent left sends (passed_over is) =
      let P : List Command → Type 0 = λ l. Rest all l [] in
      passed_over (λ rest. subst P
      (append_assoc sent first (first_flows (suc flows) (turned.owed ++ rest))
      ∙ ap (λ l. sent ++ l) (sym (ap (first_flows (suc flows)) (append_assoc first turned.owed rest) ∙ sends_keep first sends flows (turned.owed ++ rest)))) (is rest))

  -- ---- behind a flow

  module _ (at : At) (asked : Request) (side opened : ℕ) (used : UsedBytes) (waiting : Waiting) (prefix : List (Timed Event)) (left : List Reply) where
    -- where the next request stands
    abbrev pub next_there : ℕ → ℕ → Start
    next_there bytes ended = start_of (record at { flow = at.flow + 1 }) waiting bytes ended left

    -- the stage, where the side is kept or not, and so many of its bytes are used
    abbrev pub Stays : (more : ℕ) (stays kept : Bool) (server up : ℕ) → List Command → Type 0
    Stays more stays kept server up sent =
        IsAt terms events all more (sequence (behind_flow stays (parks kept terms.place at asked side))) opened (record { client = used.client; server = server }) up prefix sent left

    abbrev pub Keeps : (kept : Bool) (server : ℕ) → Type 0
    Keeps kept server = IsKept (parks kept terms.place at asked side).parked opened server waiting prefix

    -- the next request is awaited, or nothing more is said
    by_stays : (more : ℕ) (stays kept : Bool) (server up : ℕ) (sent : List Command) → (stays ≡ true → Keeps kept server) →
        Rest all sent (said_behind stays (Some (length prefix)) (λ ended. further_behind terms events all (suc more) used.client (next_there used.client ended))) → Stays more stays kept server up sent
    by_stays more true true server up sent keeps is = record {
      from = length prefix;
      waiting = waiting;
      keeps = keeps refl;
      within = omega arith;
      waits = λ k low high. absurd (omega arith);
      rest = is;
    }
    by_stays more true false server up sent keeps is = record {
      from = length prefix;
      waiting = waiting;
      keeps = keeps refl;
      within = omega arith;
      waits = λ k low high. absurd (omega arith);
      rest = is;
    }
    by_stays more false kept server up sent keeps is = record { is_all = is }

    -- and behind the last one nothing
    by_last : (stays : Bool) (come : ℕ) (sent : List Command) →
        Rest all sent (said_behind stays (Some come) (λ ended. further_behind terms events all 0 used.client (next_there used.client ended))) → Rest all sent []
    by_last true come sent is = is
    by_last false come sent is = is

    -- so it is behind a request that was sent, and behind one that was not whole nothing more is said
    pub behind_more : (how : Sent) (more : ℕ) (keeps kept : Bool) (server up : ℕ) (sent : List Command) → ((is_sent how && keeps) ≡ true → Keeps kept server) →
        Rest all sent (said_behind (is_sent how && keeps) (Some (length prefix))
        (λ ended. further_of terms events all how (suc more) used.client (next_there (bytes_behind terms events all how used.client) ended))) →
        Stays more (is_sent how && keeps) kept server up sent
    behind_more all_sent more keeps kept server up sent so is = by_stays more keeps kept server up sent so is
    behind_more going_up more keeps kept server up sent so is = record { is_all = is }

    pub behind_last : (how : Sent) (keeps : Bool) (come : ℕ) (sent : List Command) →
        Rest all sent (said_behind (is_sent how && keeps) (Some come) (λ ended. further_of terms events all how 0 used.client (next_there (bytes_behind terms events all how used.client) ended))) →
        Rest all sent []
    behind_last all_sent keeps come sent is = by_last keeps come sent is
    behind_last going_up keeps come sent is = is

    passed_ending : (flows : ℕ) (how : Sent) (keeps kept : Bool) (server up : ℕ) (sent owed texts : List Command) → SaysEnd owed texts → ((is_sent how && keeps) ≡ true → Keeps kept server) →
        Rest all (sent ++ owed) (said_behind (is_sent how && keeps) (Some (length prefix))
        (λ ended. further_of terms events all how flows used.client (next_there (bytes_behind terms events all how used.client) ended))) →
        Passed flows (record { owed = owed; stage = behind_flow (is_sent how && keeps) (parks kept terms.place at asked side) }) opened (record { client = used.client; server = server }) up prefix sent left
    passed_ending zero how keeps kept server up sent owed texts says so is =
        let ended = behind_last how keeps (length prefix) (sent ++ owed) is in
        passed_over (λ rest. rest_said all (sent ++ owed) (sent ++ first_flows 1 (owed ++ rest)) []
        (said_join sent owed ∙ (ap (λ l. said sent ++ l) (says.is ∙ sym (says.last rest)) ∙ sym (said_join sent (first_flows 1 (owed ++ rest))))) ended)
    passed_ending (suc more) how keeps kept server up sent owed texts says so is =
        passed_on more (behind_more how more keeps kept server up (sent ++ owed) so is) (says.keeps more)

  module _ (flows : ℕ) (prefix : List (Timed Event)) (front : IsFront prefix events) where
    -- ---- a request that goes up is whole

    module _ (flow : Flow) (side opened : ℕ) (used : UsedBytes) (up went : ℕ) (onward : Onward terms events all flows going_up flow.request side opened used went prefix)
        (goes : GoesUp terms events all flows flow.request side opened used up went prefix)
        (head : ReadRequest) (body : Body) (trailers : List (List ℕ × List ℕ)) (size : ℕ) (item : request_item (client_bytes prefix used.client) ≡ complete head body trailers size) where
      abbrev past : UsedBytes
      past = record used { client = used.client + size }

      abbrev upward : Exchange
      upward = exchange_of going_up flow.request side opened used went

      abbrev sent_on : Exchange
      sent_on = exchange_of all_sent flow.request side opened past went

      -- over each later front of the events
      whole_over : (later : List (Timed Event)) → IsFront prefix later → request_item (client_bytes later used.client) ≡ complete head body trailers size
      whole_over later is = whole_stays _ _ head body trailers size item (carried used.client prefix later is).stays

      alike : (k : ℕ) → went ≤ k → k < went + (length events + 1) → ends_over upward (take k events) ≡ ends_over sent_on (take k events)
      alike k low high = elim (leb_tells (length prefix) k) [
        | inl more ↦ ap (λ i. is_fault (fault_in i) || is_ended (answers_to flow.request (heard_of upward (take k events))).final) (whole_over (take k events) (front_taken prefix events k front more.1))
        | inr less ↦
            let none : ends_over upward (take k events) ≡ false = onward.waits k low less.1 in
            none ∙ sym (or_right (is_fault (fault_up upward (take k events))) _ none)
      ]

      ended_same : ends_at events upward ≡ ends_at events sent_on
      ended_same = least_same (λ k. ends_over upward (take k events)) (λ k. ends_over sent_on (take k events)) went (length events + 1) alike

      front_heard : IsFront prefix (until (ends_at events upward) events)
      front_heard = front_until (λ k. ends_over upward (take k events)) went prefix events onward.waits front

      down_same : down_of terms events all flows going_up flow.request side opened used went ≡ down_of terms events all flows all_sent flow.request side opened past went
      down_same =
          let heard = until (ends_at events upward) events in
          let there = whole_over heard front_heard in
          let everywhere = whole_over events front in
          let fault : fault_up upward heard ≡ None = ap fault_in there in
          let sent : is_whole (request_item (client_bytes heard used.client)) ≡ true = ap is_whole there in
          let bytes : used_by (request_item (client_bytes events used.client)) used.client ≡ used.client + size = ap (λ i. used_by i used.client) everywhere in
          let further : further_after terms events all flows used.client ≡ further_behind terms events all flows (used.client + size) =
          ap (λ l. λ next. sent_from terms events next (take flows l)) (goes.plain.after head body trailers size everywhere) in
          let told : heard_of upward heard ≡ heard_of sent_on (until (ends_at events sent_on) events) = ap (λ e. heard_of upward (until e events)) ended_same in
          λ i. record { served = upward.served; told = told i; fault = fault i; sent = sent i; ended = ended_same i; bytes = bytes i; further = further i }

      text_same : text_of terms events all flows going_up flow.request side opened used went ≡ text_over terms events all flows going_up flow.request side opened used went prefix
      text_same =
          let heard = until (ends_at events upward) events in
          let grows = side_grows Client prefix heard front_heard in
          let on = drop_on used.client (bytes_of Client prefix) grows.more in
          let begins : IsPrefixOf (client_bytes prefix used.client) (client_bytes heard used.client) = (on.0, ap (drop used.client) grows.grown ∙ on.1) in
          let sight : List ℕ → Sight = λ l. record { client = l; closed = false; server = []; shut = false; told = 0; now = 0 } in
          going_text_stays terms.place flow (sight (client_bytes prefix used.client)) (sight (client_bytes heard used.client)) begins (ap is_decided item)

      onward_sent : Onward terms events all flows all_sent flow.request side opened past went prefix
      onward_sent = record {
        within = onward.within;
        waits = λ k low high. or_right (is_fault (fault_up upward (take k events))) _ (onward.waits k low high);
      }

      -- the rest of its text is sent
      sends_rest : (sent : List Command) (left : Down → List Command) →
          Rest all sent (up_left going_up side up (text_of terms events all flows going_up flow.request side opened used went)
          ++ left (down_of terms events all flows going_up flow.request side opened used went)) →
          Rest all (sent ++ commands.Send (Server side) (left_of up (text_over terms events all flows going_up flow.request side opened used went prefix)) ∷ [])
          (left (down_of terms events all flows all_sent flow.request side opened past went))
      sends_rest sent left rest =
          let text : List ℕ → Command = λ t. commands.Send (Server side) (left_of up t) in
          let now : List ℕ = text_over terms events all flows going_up flow.request side opened used went prefix in
          rest_on all sent (text now ∷ []) (text now ∷ []) _ (left (down_of terms events all flows all_sent flow.request side opened past went)) rest refl
          (ap (λ t. text t ∷ left (down_of terms events all flows going_up flow.request side opened used went)) text_same ∙ ap (λ d. text now ∷ left d) down_same)

      pub answering_whole : (at : At) (sent : List Command) (left : List Reply) (now : ℕ) → (a : Answering terms events all flows going_up at flow.request side opened used up prefix sent left) → a.went ≡ went →
          Answering terms events all flows all_sent at flow.request side opened past up prefix
          (sent ++ commands.Send (Server side) (left_of up (text_over terms events all flows going_up flow.request side opened used went prefix)) ∷ []) left
      answering_whole at sent left now a same =
          let P : ℕ → Type 0 = λ n. Rest all sent (up_left going_up side up (text_of terms events all flows going_up flow.request side opened used n)
          ++ answers_left terms (down_of terms events all flows going_up flow.request side opened used n) at flow.request left) in
          record {
            went = went;
            onward = onward_sent;
            goes = tt;
            calm = inl refl;
            rest = sends_rest sent (λ d. answers_left terms d at flow.request left) (subst P same a.rest);
          }

      pub returning_whole : (at : At) (most : Option ℕ) (sent : List Command) (left : List Reply) (now : ℕ) →
          (r : Returning terms events all flows going_up at flow most side opened used up prefix sent left) → r.went ≡ went →
          Returning terms events all flows all_sent at (with_whole flow now) most side opened past up prefix
          (sent ++ commands.Send (Server side) (left_of up (text_over terms events all flows going_up flow.request side opened used went prefix)) ∷ []) left
      returning_whole at most sent left now r same =
          let P : ℕ → Type 0 = λ n. Rest all sent (up_left going_up side up (text_of terms events all flows going_up flow.request side opened used n)
          ++ response_left terms (down_of terms events all flows going_up flow.request side opened used n) at flow.request left most) in
          record {
            went = went;
            onward = onward_sent;
            goes = tt;
            head = r.head;
            there = r.there;
            relayed = r.relayed;
            response = r.response;
            rest = sends_rest sent (λ d. response_left terms d at flow.request left most) (subst P same r.rest);
          }

      pub coming_whole : (at : At) (sent : List Command) (left : List Reply) (now : ℕ) → (c : Coming terms events all flows going_up at flow side opened used up prefix sent left) → c.went ≡ went →
          Coming terms events all flows all_sent at (with_whole flow now) side opened past up prefix
          (sent ++ commands.Send (Server side) (left_of up (text_over terms events all flows going_up flow.request side opened used went prefix)) ∷ []) left
      coming_whole at sent left now c same =
          let P : ℕ → Type 0 = λ n. Rest all sent (up_left going_up side up (text_of terms events all flows going_up flow.request side opened used n)
          ++ coming_left terms (down_of terms events all flows going_up flow.request side opened used n) at flow.request left c.head) in
          record {
            went = went;
            onward = onward_sent;
            goes = tt;
            head = c.head;
            there = c.there;
            relayed = c.relayed;
            response = c.response;
            rest = sends_rest sent (λ d. coming_left terms d at flow.request left c.head) (subst P same c.rest);
          }

    -- ---- a response comes down

    module _ (how : Sent) (at : At) (side opened : ℕ) (used : UsedBytes) (up : ℕ) (sent : List Command) (left : List Reply) (seen : Sight) where
      -- what is seen is what was told, of both sides; a request that goes up is not whole
      pub record Sees (flow : Flow) (went : ℕ) : Type 0 where
        pub server : seen.server ≡ (heard_of (exchange_of how flow.request side opened used went) prefix).bytes
        pub shut : seen.shut ≡ (heard_of (exchange_of how flow.request side opened used went) prefix).shut
        pub ups : sends_up terms.place flow side how seen ≡ up_left how side up (text_over terms events all flows how flow.request side opened used went prefix)
        pub sents : is_sent how ≡ is_sent_over (exchange_of how flow.request side opened used went) prefix

      told_seen : (flow : Flow) (went : ℕ) → Sees flow went → (answers_in flow.request seen) ≡ answers_to flow.request (heard_of (exchange_of how flow.request side opened used went) prefix)
      told_seen flow went sees =
          ap (λ b. answers_to flow.request (record { bytes = b; shut = seen.shut })) sees.server
          ∙ ap (λ s. answers_to flow.request (record { bytes = (heard_of (exchange_of how flow.request side opened used went) prefix).bytes; shut = s })) sees.shut

      -- one that is streamed over the prefix is so over all that is heard
      pub to_coming : (flow : Flow) (most : Option ℕ) → (r : Returning terms events all flows how at flow most side opened used up prefix sent left) → Sees flow r.went → streams_in flow most seen ≡ true →
          Coming terms events all flows how at (streaming flow) side opened used up prefix sent left
      to_coming flow most r sees streams =
          let exchange = exchange_of how flow.request side opened used r.went in
          let heard = heard_by terms events all flows how flow.request side opened used r.went in
          let told = heard_of exchange prefix in
          let later = heard_of exchange heard in
          let asked_head = is_head flow.request.method in
          let front_heard : IsFront prefix heard = front_until (λ k. ends_over exchange (take k events)) r.went prefix events r.onward.waits front in
          let carry = answers_on flow.request side opened used.server prefix heard front_heard in
          let on = told_on side opened used.server prefix heard front_heard in
          let begun = begun_by (answers_to flow.request told).final r.head r.there in
          let there : head_in (answers_to flow.request later).final ≡ Some r.head = carry.final.head r.head r.there in
          let one : streams_by (Some (response_of r.head)) flow.request most told.shut told.bytes ≡ true =
          sym (ap (λ o. streams_by o flow.request most told.shut told.bytes) r.response)
          ∙ (sym (ap (λ s. streams_by flow.response flow.request most s told.bytes) sees.shut)
          ∙ (sym (ap (λ b. streams_by flow.response flow.request most seen.shut b) sees.server) ∙ streams)) in
          let now_comes : comes_down most asked_head told (Some r.head) ≡ true = both_are (is_relayed r.head.code) _ r.relayed one in
          let comes_so : comes_down most asked_head later (Some r.head) ≡ true = comes_on most asked_head told later r.head on carry begun now_comes in
          let down = down_of terms events all flows how flow.request side opened used r.went in
          let kept = after_kept terms down at flow.request left in
          let streamed = after_streamed terms down at flow.request left in
          let final = (answers_to flow.request later).final in
          let is : response_left terms down at flow.request left most ≡ coming_left terms down at flow.request left r.head =
          ap (λ o. said_down (comes_down most asked_head later o) flow.request later final down.fault streamed kept) there
          ∙ (ap (λ b. said_down b flow.request later final down.fault streamed kept) comes_so
          ∙ ap (λ o. commands.Send Client (text_down flow.request later o) ∷ once_whole final streamed) there) in
          record {
            went = r.went;
            onward = r.onward;
            goes = r.goes;
            head = r.head;
            there = r.there;
            relayed = r.relayed;
            response = ap as_streamed r.response;
            rest = rest_is all sent _ _ r.rest (ap (λ l. up_left how side up (text_of terms events all flows how flow.request side opened used r.went) ++ l) is);
          }
        where
          both_are : (a b : Bool) → a ≡ true → b ≡ true → (a && b) ≡ true
          both_are true b first second = second
          both_are false b first second = first

      -- its text, as far as it came
      pub text_seen : (flow : Flow) → (c : Coming terms events all flows how at flow side opened used up prefix sent left) → Sees flow c.went →
          coming_text flow seen ≡ text_down flow.request (heard_of (exchange_of how flow.request side opened used c.went) prefix) (Some c.head)
      text_seen flow c sees =
          let told = heard_of (exchange_of how flow.request side opened used c.went) prefix in
          ap (λ o. coming_by o (head_in (answers_in flow.request seen).final) flow.request seen.shut seen.server) c.response
          ∙ (ap (λ h. coming_by (Some (record (response_of c.head) { streamed = true })) h flow.request seen.shut seen.server)
          (ap (λ (a : Answers). head_in a.final) (told_seen flow c.went sees) ∙ c.there)
          ∙ (ap (λ s. coming_by (Some (record (response_of c.head) { streamed = true })) (Some c.head) flow.request s seen.server) sees.shut
          ∙ ap (λ b. coming_by (Some (record (response_of c.head) { streamed = true })) (Some c.head) flow.request told.shut b) sees.server))

      some_same : (a b : Response) → Some a ≡ Some b → a ≡ b
      some_same a b is = cc

      -- a response that is whole
      record CameThere (flow : Flow) (went : ℕ) (came : Came) : Type 0 where
        body : Body
        trailers : List (List ℕ × List ℕ)
        size : ℕ
        final : (answers_to flow.request (heard_of (exchange_of how flow.request side opened used went) prefix)).final ≡ complete came.head body trailers size
        response : flow.response ≡ Some came.response

      came_there : (flow : Flow) (went : ℕ) (came : Came) (given : Option Response) (item : Item ReadResponse) → flow.response ≡ given →
          (answers_to flow.request (heard_of (exchange_of how flow.request side opened used went) prefix)).final ≡ item → came_by given item ≡ Some came → CameThere flow went came
      came_there flow went came None item is final came_is = absurd (let no : None ≡ Some came = came_is in cc)
      came_there flow went came (Some response) missing is final came_is = absurd (let no : None ≡ Some came = came_is in cc)
      came_there flow went came (Some response) (part head body) is final came_is = absurd (let no : None ≡ Some came = came_is in cc)
      came_there flow went came (Some response) (complete head body trailers size) is final came_is =
          let this : Came = record { response = response; head = head } in
          let same : this ≡ came = came_same this came came_is in record {
            body = body;
            trailers = trailers;
            size = size;
            final = final ∙ ap (λ (c : Came). complete c.head body trailers size) same;
            response = is ∙ ap (λ (c : Came). Some c.response) same;
          }
        where
          came_same : (a b : Came) → Some a ≡ Some b → a ≡ b
          came_same a b is = cc
      came_there flow went came (Some response) (bad_head fault) is final came_is = absurd (let no : None ≡ Some came = came_is in cc)
      came_there flow went came (Some response) (bad_body fault head body) is final came_is = absurd (let no : None ≡ Some came = came_is in cc)

      -- whether its side is kept, and how many of its bytes are used then
      keeps_seen : (flow : Flow) (went : ℕ) (head : ReadResponse) → Sees flow went →
          keeps_side flow.request seen head
          ≡ (silent_behind terms.place flow.request side opened used.server prefix && (sent_persists flow.request && read_persists flow.request head))
      keeps_seen flow went head sees =
          let told = told_by prefix side opened used.server in
          let both = sent_persists flow.request && read_persists flow.request head in
          ap (λ b. is_silent (left_by_answers (answers_to flow.request (record { bytes = b; shut = seen.shut })) b) seen.shut && both) sees.server
          ∙ ap (λ s. is_silent (left_by_answers (answers_to flow.request (record { bytes = told.bytes; shut = s })) told.bytes) s && both) sees.shut

      used_so : (kept : Bool) (flow : Flow) → used_if kept flow seen used ≡ record used { server = server_kept kept (used_by_answers (answers_in flow.request seen) used.server) }
      used_so true flow = refl
      used_so false flow = refl

      -- it ends its flow
      came_passed : (flow : Flow) (came : Came) → (c : Coming terms events all flows how at flow side opened used up prefix sent left) → Sees flow c.went → CameThere flow c.went came →
          Passed flows (pass_came terms.place at flow side how seen (Some came)) opened (used_by_came at flow how seen (Some came) used) up prefix sent left
      came_passed flow came c sees there =
          let exchange = exchange_of how flow.request side opened used c.went in
          let told = heard_of exchange prefix in
          let final = (answers_to flow.request told).final in
          let come = length prefix in
          let ends : ends_over exchange prefix ≡ true = ap (λ i. is_fault (fault_up exchange prefix) || is_ended i) there.final ∙ or_true (is_fault (fault_up exchange prefix)) in
          let ended = ended_here terms events all flows how flow.request side opened used c.went prefix front c.onward ends in
          let heard = heard_by terms events all flows how flow.request side opened used c.went in
          let same : IsSame prefix heard = same_ended (λ k. ends_over exchange (take k events)) c.went prefix events c.onward.waits front ended in
          let now_down = down_over terms events all flows how flow.request side opened used c.went (Some come) prefix in
          let down_is : down_of terms events all flows how flow.request side opened used c.went ≡ now_down =
          sym (same_down prefix heard same terms events all flows how flow.request side opened used c.went (ended_by terms events all flows how flow.request side opened used c.went))
          ∙ ap (λ e. down_over terms events all flows how flow.request side opened used c.went e prefix) ended in
          let text_is : text_of terms events all flows how flow.request side opened used c.went ≡ text_over terms events all flows how flow.request side opened used c.went prefix =
          sym (same_text prefix heard same terms exchange) in
          let head_same : Some came.head ≡ Some c.head = sym (ap head_in there.final) ∙ c.there in
          let heads : came.head ≡ c.head = cc in
          let response_same : Some came.response ≡ Some (record (response_of c.head) { streamed = true }) = sym there.response ∙ c.response in
          let responses : came.response ≡ record (response_of c.head) { streamed = true } = some_same came.response _ response_same in
          let start = next_of now_down at left in
          let keeps : Bool = goes_on_behind at.flow flow.request came in
          let stays : Bool = is_sent how && keeps in
          let kept : Bool = keeps_came at flow how seen came in
          let on : ℕ → List Command = further_on terms now_down flow.request start in
          let served = unless_kept kept (server_in side seen) in
          let first = sends_up terms.place flow side how seen in
          let text : List Command = commands.Send Client (coming_text flow seen) ∷ [] in
          let closes : List Command = shut_server served ++ shut_unless stays NoServer seen.closed in
          let owed : List Command = commands.Send Client (coming_text flow seen) ∷ commands.Done (with_end flow seen.now) ∷ closes in
          let says = end_behind first owed text (sends_sent terms flow side how seen)
          (done_said Client (coming_text flow seen) (with_end flow seen.now) closes
          (closes_both (shut_server served) (shut_unless stays NoServer seen.closed) (server_closes served) (unless_closes stays NoServer seen.closed))) in
          let same_keeps : keeps ≡ goes_on_streamed start flow.request came.head =
          ap (λ (r : Response). goes_on_behind at.flow flow.request (record { response = r; head = came.head })) responses
          ∙ ap (λ (h : ReadResponse). goes_on_behind at.flow flow.request (record { response = record (response_of h) { streamed = true }; head = came.head })) (sym heads) in
          let goes_so : (now_down.sent && goes_on_streamed start flow.request came.head) ≡ stays =
          ap (λ b. b && goes_on_streamed start flow.request came.head) (sym sees.sents) ∙ ap (λ b. is_sent how && b) (sym same_keeps) in
          let behind_it : once_whole final (after_streamed terms now_down at flow.request left) ≡ said_behind stays (Some come) on =
          ap (λ i. once_whole i (after_streamed terms now_down at flow.request left)) there.final
          ∙ ap (λ b. said_behind b (Some come) on) goes_so in
          let before_is : up_left how side up (text_of terms events all flows how flow.request side opened used c.went)
          ++ coming_left terms (down_of terms events all flows how flow.request side opened used c.went) at flow.request left c.head
          ≡ (first ++ text) ++ said_behind stays (Some come) on =
          ap (λ t. up_left how side up t ++ coming_left terms (down_of terms events all flows how flow.request side opened used c.went) at flow.request left c.head) text_is
          ∙ (ap (λ d. up_left how side up (text_over terms events all flows how flow.request side opened used c.went prefix) ++ coming_left terms d at flow.request left c.head) down_is
          ∙ (ap (λ l. l ++ coming_left terms now_down at flow.request left c.head) (sym sees.ups)
          ∙ (ap (λ t. first ++ (commands.Send Client t ∷ once_whole final (after_streamed terms now_down at flow.request left))) (sym (text_seen flow c sees))
          ∙ (ap (λ l. first ++ (commands.Send Client (coming_text flow seen) ∷ l)) behind_it
          ∙ sym (append_assoc first text (said_behind stays (Some come) on)))))) in
          let whole = answers_there terms.place flow.request side opened used.server prefix in
          let server = server_kept kept (used_by_answers whole used.server) in
          let used_is : used_if kept flow seen used ≡ record used { server = server } =
          used_so kept flow ∙ ap (λ (a : Answers). record used { server = server_kept kept (used_by_answers a used.server) }) (told_seen flow c.went sees) in
          let P : UsedBytes → Type 0 = λ u. Passed flows (pass_came terms.place at flow side how seen (Some came)) opened u up prefix sent left in
          subst P (sym used_is)
          (passed_ending at flow.request side opened used (waits_behind terms.place flow.request side opened used.server prefix) prefix left flows how keeps kept server up sent (first ++ owed) (first ++ text) says
          (λ so. behind_parks terms.place flow.request side opened used.server prefix came.head there.body there.trailers there.size there.final at kept
          (sym (ap (λ b. b && keeps_side flow.request seen came.head) so ∙ keeps_seen flow c.went came.head sees)))
          (rest_on all sent (first ++ owed) (first ++ text) _ (said_behind stays (Some come) on) c.rest says.is before_is))

      -- or it goes on
      pub coming_passed : (flow : Flow) → (c : Coming terms events all flows how at flow side opened used up prefix sent left) → Sees flow c.went → (came : Option Came) → came_in flow seen ≡ came →
          Passed flows (pass_came terms.place at flow side how seen came) opened (used_by_came at flow how seen came used) up prefix sent left
      coming_passed flow c sees None is = stays_there flows (busy at flow (coming_down side how)) opened used up prefix sent left refl c
      coming_passed flow c sees (Some came) is =
          came_passed flow came c sees
          (came_there flow c.went came flow.response (answers_to flow.request (heard_of (exchange_of how flow.request side opened used c.went) prefix)).final refl refl
          (ap (λ (a : Answers). came_by flow.response a.final) (sym (told_seen flow c.went sees)) ∙ is))

      ups_streaming : (flow : Flow) (way : Sent) → sends_up terms.place (streaming flow) side way seen ≡ sends_up terms.place flow side way seen
      ups_streaming flow all_sent = refl
      ups_streaming flow going_up = refl

      -- one that is not streamed is kept
      pub body_passed : (flow : Flow) (most : Option ℕ) → (r : Returning terms events all flows how at flow most side opened used up prefix sent left) → Sees flow r.went →
          (streams : Bool) → streams_in flow most seen ≡ streams →
          Passed flows (pass_kept streams terms.place at flow side how most seen) opened (used_by_kept streams at (streaming flow) how seen (came_in (streaming flow) seen) used) up prefix sent left
      body_passed flow most r sees true is =
          coming_passed (streaming flow) (to_coming flow most r sees is)
          (record { server = sees.server; shut = sees.shut; ups = ups_streaming flow how ∙ sees.ups; sents = sees.sents }) (came_in (streaming flow) seen) refl
      body_passed flow most r sees false is = stays_there flows (busy at flow (response_body side how most)) opened used up prefix sent left refl r

    -- ---- a request begins to go up

    module _ (at : At) (flow : Flow) (most : Option ℕ) (opened : ℕ) (used : UsedBytes) (up : ℕ) (sent : List Command) (left : List Reply) (since : Since)
        (b : Begun terms events all flows at flow.request most opened used up prefix sent left) where
      abbrev here_seen : Sight
      here_seen = sight_of (side_parked at.parked) since opened used up prefix

      abbrev start : Start
      start = start_of at b.waiting used.client b.from left

      -- behind a request that is no CONNECT
      is_plain : IsPlain terms events all used.client
      is_plain = record {
        after = λ head body trailers size item.
            let same : Some b.head ≡ Some head = sym b.there ∙ ap head_in item in
            let heads : b.head ≡ head = cc in
            let accepted : judged terms.place head ≡ Accepted flow.request = ap (judged terms.place) (sym heads) ∙ b.accepted in
            after_on terms.place (client_bytes events used.client) head body trailers size flow.request item accepted
            ∙ ap (λ l. request_items l) (drop-drop size used.client (bytes_of Client events));
      }

      module _ (begins : goes_up most here_seen ≡ true) where
        -- the side that it goes to
        abbrev side_there : Option ℕ
        side_there = parked_for terms.place flow.request (unspoilt_at at here_seen).parked

        -- what is left is said of a request that is streamed
        rest_up : Rest all sent (said_to terms events (start_of at b.waiting (bytes_behind terms events all going_up used.client) b.from left) (Some used.client)
            (streamed_request flow.request) (length prefix) side_there (further_after terms events all flows used.client))
        rest_up =
            let come = length prefix in
            let taken = take come events in
            let alike = same_taken prefix events front in
            let way : goes_up_over start most taken ≡ true = sym (same_goes_up prefix taken alike start most) ∙ begins in
            let test : goes_on_over start most taken ≡ true =
            ap (λ u. is_decided (request_item (client_bytes taken used.client)) || u) way ∙ or_true (is_decided (request_item (client_bytes taken used.client))) in
            let found : goes_on_at events start most ≡ Some come =
            least_at (λ k. goes_on_over start most (take k events)) b.from come (length events) b.within (front_length prefix events front) b.waits test in
            let item = request_item (client_bytes events used.client) in
            let F = further_after terms events all flows used.client in
            let to : side_over terms.place start flow.request taken ≡ side_there =
            kept_side at.parked since opened used up prefix b.waiting terms.place at flow.request used.client b.from left taken alike b.keeps in
            rest_is all sent _ _ b.rest
            (ap (λ o. said_request terms events start flow.request most item o F) found
            ∙ (ap (λ w. said_way w terms events start flow.request item come F) way
            ∙ ap (λ o. said_to terms events (start_of at b.waiting (bytes_behind terms events all going_up used.client) b.from left) (Some used.client)
            (streamed_request flow.request) come o F) to))

        begins_at : (side : Option ℕ) → side_there ≡ side →
            IsAt terms events all flows (goes_up_by side terms.place at (sending_on flow)) opened used up prefix sent left
        begins_at None is = record {
          from = b.from;
          waiting = b.waiting;
          plain = is_plain;
          untold = b.untold;
          rest = rest_is all sent _ _ rest_up
              (ap (λ to. said_to terms events (start_of at b.waiting (bytes_behind terms events all going_up used.client) b.from left) (Some used.client)
              (streamed_request flow.request) (length prefix) to (further_after terms events all flows used.client)) is);
        }
        begins_at (Some server) is =
            let same = kept_served at.parked since opened used up prefix b.waiting terms.place flow.request server b.keeps is in
            let asked = streamed_request flow.request in
            let come = length prefix in
            let with_used : ℕ → UsedBytes = λ n. record { client = used.client; server = n } in
            let left_with : ℕ → ℕ → List Command = λ o n.
            commands.Send (Server server) (text_of terms events all flows going_up asked server o (with_used n) come)
            ∷ answers_left terms (down_of terms events all flows going_up asked server o (with_used n) come) (unparked at) asked left in
            record {
              went = come;
              onward = record {
                within = omega arith;
                waits = λ k low high. absurd (omega arith);
              };
              goes = record { told = let zero_up = b.untold in omega arith; plain = is_plain };
              calm = inr (silent_missing asked (told_by prefix server opened used.server)
                  (kept_silent at.parked since opened used up prefix terms.place flow.request server is));
              rest = rest_is all sent _ _ rest_up
                  (ap (λ to. said_to terms events (start_of at b.waiting (bytes_behind terms events all going_up used.client) b.from left) (Some used.client)
                  asked come to (further_after terms events all flows used.client)) is
                  ∙ (ap (λ o. left_with o b.waiting.used) same.0
                  ∙ (ap (λ n. left_with opened n) same.1
                  ∙ ap (λ n. commands.Send (Server server) (left_of n (text_of terms events all flows going_up asked server opened used come))
                  ∷ answers_left terms (down_of terms events all flows going_up asked server opened used come) (unparked at) asked left) (sym b.untold))));
            }

    -- ---- where it passes

    -- whether the request is whole, and how many bytes are used then
    abbrev uses_by : Option ℕ → At → Flow → Doing → Sight → UsedBytes → UsedBytes
    uses_by size at flow doing seen used =
        let going = gone_by (going_at doing) size in
        used_by_coming (end_by going terms.place at flow doing seen).stage (past_gone going seen) (used_by_gone going seen used)

    -- the item of a whole request
    record IsWholeOf (item : Item ReadRequest) (size : ℕ) : Type 0 where
      head : ReadRequest
      body : Body
      trailers : List (List ℕ × List ℕ)
      is : item ≡ complete head body trailers size

    whole_item : (item : Item ReadRequest) (size : ℕ) → whole_by item ≡ Some size → IsWholeOf item size
    whole_item missing size is = absurd (let no : None ≡ Some size = is in cc)
    whole_item (part head body) size is = absurd (let no : None ≡ Some size = is in cc)
    whole_item (complete head body trailers used) size is =
        let same : used ≡ size = cc in record { head = head; body = body; trailers = trailers; is = ap (λ n. complete head body trailers n) same }
    whole_item (bad_head fault) size is = absurd (let no : None ≡ Some size = is in cc)
    whole_item (bad_body fault head body) size is = absurd (let no : None ≡ Some size = is in cc)

    not_whole : (item : Item ReadRequest) → whole_by item ≡ None → is_whole item ≡ false
    not_whole missing is = refl
    not_whole (part head body) is = refl
    not_whole (complete head body trailers used) is = absurd (let no : Some used ≡ None = is in cc)
    not_whole (bad_head fault) is = refl
    not_whole (bad_body fault head body) is = refl

    module _ (at : At) (flow : Flow) (side opened : ℕ) (used : UsedBytes) (up : ℕ) (sent : List Command) (left : List Reply) (closed : Bool) (now : ℕ) where
      -- what is seen of the client is what came, and of the server's side anything or what was told
      abbrev sees_of : List ℕ → Bool → Sight
      sees_of server shut = record { client = client_bytes prefix used.client; closed = closed; server = server; shut = shut; told = up; now = now }

      abbrev told_here : Told
      told_here = told_by prefix side opened used.server

      abbrev there_seen : Sight
      there_seen = sees_of told_here.bytes told_here.shut

      abbrev sends : List ℕ → Bool → List Command
      sends server shut = sends_going terms.place flow side (sees_of server shut)

      uses_past : (size : ℕ) → (w : IsWholeOf (request_item (client_bytes prefix used.client)) size) → used_with (request_item (client_bytes prefix used.client)) used.client ≡ used.client + size
      uses_past size w = ap (λ i. used_with i used.client) w.is

      pub head_up : (server : List ℕ) (shut : Bool) → Answering terms events all flows going_up at flow.request side opened used up prefix sent left → (size : Option ℕ) →
          whole_in (sees_of server shut) ≡ size →
          Passed flows (passes_by size terms at flow (response_head side going_up) (sees_of server shut)) opened (uses_by size at flow (response_head side going_up) (sees_of server shut) used) up prefix sent left
      head_up server shut a None is = stays_there flows (busy at flow (response_head side going_up)) opened used up prefix sent left refl a
      head_up server shut a (Some size) is =
          let w = whole_item (request_item (client_bytes prefix used.client)) size is in
          let went_on = answering_whole flow side opened used up a.went a.onward a.goes w.head w.body w.trailers size w.is at sent left now a refl in
          let stage = busy at (with_whole flow now) (response_head side all_sent) in
          let P : ℕ → Type 0 = λ n.
          Passed flows (goes_to stage) opened (record used { client = n }) up prefix (sent ++ sends server shut) left in
          passed_behind flows (sends server shut) (goes_to stage) opened (uses_by (Some size) at flow (response_head side going_up) (sees_of server shut) used) up prefix sent left tt
          (subst P (sym (uses_past size w)) (stays_there flows stage opened (record used { client = used.client + size }) up prefix (sent ++ sends server shut) left refl went_on))

      pub body_up : (most : Option ℕ) → Returning terms events all flows going_up at flow most side opened used up prefix sent left → (size : Option ℕ) → whole_in there_seen ≡ size →
          Passed flows (passes_by size terms at flow (response_body side going_up most) there_seen) opened (uses_by size at flow (response_body side going_up most) there_seen used) up prefix sent left
      body_up most r None is =
          body_passed going_up at side opened used up sent left there_seen flow most r
          (record { server = refl; shut = refl; ups = refl; sents = sym (not_whole (request_item (client_bytes prefix used.client)) is) }) (streams_in flow most there_seen) refl
      body_up most r (Some size) is =
          let w = whole_item (request_item (client_bytes prefix used.client)) size is in
          let went_on = returning_whole flow side opened used up r.went r.onward r.goes w.head w.body w.trailers size w.is at most sent left now r refl in
          let past_seen = past_gone (Some side) there_seen in
          let whole = with_whole flow now in
          let streams = streams_in whole most past_seen in
          let more = sends told_here.bytes told_here.shut in
          let turned = pass_kept streams terms.place at whole side all_sent most past_seen in
          let P : ℕ → Type 0 = λ n. Passed flows turned opened (used_by_kept streams at (streaming whole) all_sent past_seen (came_in (streaming whole) past_seen) (record used { client = n })) up prefix (sent ++ more) left in
          passed_behind flows more turned opened (uses_by (Some size) at flow (response_body side going_up most) there_seen used) up prefix sent left tt
          (subst P (sym (uses_past size w))
          (body_passed all_sent at side opened (record used { client = used.client + size }) up (sent ++ more) left past_seen whole most went_on
          (record { server = refl; shut = refl; ups = refl; sents = refl }) streams refl))

      pub coming_up : Coming terms events all flows going_up at flow side opened used up prefix sent left → (size : Option ℕ) → whole_in there_seen ≡ size →
          Passed flows (passes_by size terms at flow (coming_down side going_up) there_seen) opened (uses_by size at flow (coming_down side going_up) there_seen used) up prefix sent left
      coming_up c None is =
          coming_passed going_up at side opened used up sent left there_seen flow c
          (record { server = refl; shut = refl; ups = refl; sents = sym (not_whole (request_item (client_bytes prefix used.client)) is) }) (came_in flow there_seen) refl
      coming_up c (Some size) is =
          let w = whole_item (request_item (client_bytes prefix used.client)) size is in
          let went_on = coming_whole flow side opened used up c.went c.onward c.goes w.head w.body w.trailers size w.is at sent left now c refl in
          let past_seen = past_gone (Some side) there_seen in
          let whole = with_whole flow now in
          let came = came_in whole past_seen in
          let more = sends told_here.bytes told_here.shut in
          let turned = pass_came terms.place at whole side all_sent past_seen came in
          let P : ℕ → Type 0 = λ n. Passed flows turned opened (used_by_came at whole all_sent past_seen came (record used { client = n })) up prefix (sent ++ more) left in
          passed_behind flows more turned opened (uses_by (Some size) at flow (coming_down side going_up) there_seen used) up prefix sent left tt
          (subst P (sym (uses_past size w))
          (coming_passed all_sent at side opened (record used { client = used.client + size }) up (sent ++ more) left past_seen whole went_on
          (record { server = refl; shut = refl; ups = refl; sents = refl }) came refl))

    -- each stage at which it may stand
    module _ (opened : ℕ) (used : UsedBytes) (up : ℕ) (sent : List Command) (left : List Reply) (since : Since) where
      -- from a stage at which a request goes up
      from_begun : (side : Option ℕ) (at : At) (flow : Flow) (seen : Sight) → seen.client ≡ client_bytes prefix used.client → seen.told ≡ up →
          IsAt terms events all flows (goes_up_by side terms.place at flow) opened used up prefix sent left →
          Passed flows (pass terms (goes_up_by side terms.place at flow) seen) opened (used_by_pass terms (goes_up_by side terms.place at flow) seen used) up prefix sent left
      from_begun None at flow seen client told is = stays_there flows (busy at flow (connection going_up)) opened used up prefix sent left refl is
      from_begun (Some server) at flow seen client told is =
          let stage = goes_up_by (Some server) terms.place at flow in
          let C : List ℕ → Type 0 = λ l. Passed flows (pass terms stage (record seen { client = l })) opened (used_by_pass terms stage (record seen { client = l }) used) up prefix sent left in
          let T : ℕ → Type 0 = λ n.
          Passed flows (pass terms stage (record seen { client = client_bytes prefix used.client; told = n })) opened
          (used_by_pass terms stage (record seen { client = client_bytes prefix used.client; told = n }) used) up prefix sent left in
          subst C (sym client) (subst T (sym told)
          (head_up (unparked at) (reached terms.place flow) server opened used up sent left seen.closed seen.now seen.server seen.shut is
          (whole_by (request_item (client_bytes prefix used.client))) refl))

      begun_passed : (at : At) (flow : Flow) (most : Option ℕ) → Begun terms events all flows at flow.request most opened used up prefix sent left → (begins : Bool) →
          let seen = sight_of (side_parked at.parked) since opened used up prefix in
          let stage = busy at flow (request_body None most) in
          goes_up most seen ≡ begins →
          Passed flows (pass terms stage seen) opened (used_by_pass terms stage seen used) up prefix sent left
      begun_passed at flow most b true is =
          let seen = sight_of (side_parked at.parked) since opened used up prefix in
          let to = parked_for terms.place flow.request (unspoilt_at at seen).parked in
          let there = goes_up_by to terms.place at (sending_on flow) in
          let P : Turn Stage Command → UsedBytes → Type 0 = λ t u. Passed flows t opened u up prefix sent left in
          let there_is : pass terms (busy at flow (request_body None most)) seen ≡ pass terms there seen = goes_up_here terms at flow most seen is in
          let uses : used_by_pass terms (busy at flow (request_body None most)) seen used ≡ used_by_pass terms there seen used =
          ap (λ b. used_from (pass_going b terms.place at flow most seen) seen) is ∙ used_same to at (sending_on flow) seen in
          let one : P (pass terms there seen) (used_by_pass terms there seen used) =
          from_begun to at (sending_on flow) seen refl refl (begins_at at flow most opened used up sent left since b is to refl) in
          subst (λ t. P t (used_by_pass terms (busy at flow (request_body None most)) seen used)) (sym there_is) (subst (P (pass terms there seen)) (sym uses) one)
        where
          used_from : Stage → Sight → UsedBytes
          used_from to seen = used_by_coming (end_up terms to seen).stage (sight_ended to seen) (used_by_end to seen used)

          used_same : (side : Option ℕ) (at : At) (flow : Flow) (seen : Sight) → used_from (goes_up_by side terms.place at flow) seen ≡ used_by_pass terms (goes_up_by side terms.place at flow) seen used
          used_same None at flow seen = refl
          used_same (Some server) at flow seen = refl
      begun_passed at flow most b false is =
          let seen = sight_of (side_parked at.parked) since opened used up prefix in
          let stage = busy at flow (request_body None most) in
          let P : Turn Stage Command → UsedBytes → Type 0 = λ t u. Passed flows t opened u up prefix sent left in
          let stays = stays_here terms at flow most seen is in
          let uses : used_by_pass terms stage seen used ≡ used =
          ap (λ b. used_by_coming (end_up terms (pass_going b terms.place at flow most seen) seen).stage (sight_ended (pass_going b terms.place at flow most seen) seen)
          (used_by_end (pass_going b terms.place at flow most seen) seen used)) is in
          subst (λ t. P t (used_by_pass terms stage seen used)) (sym stays) (subst (P (goes_to stage)) (sym uses) (stays_there flows stage opened used up prefix sent left refl b))

      pub stage_passed : (stage : Stage) → IsAt terms events all flows stage opened used up prefix sent left →
          let seen = sight_of (side_of stage) since opened used up prefix in
          Passed flows (pass terms stage seen) opened (used_by_pass terms stage seen used) up prefix sent left
      stage_passed (idle at) is = stays_there flows (idle at) opened used up prefix sent left refl is
      stage_passed (busy at flow (request_body None most)) is =
          begun_passed at flow most is (goes_up most (sight_of (side_parked at.parked) since opened used up prefix)) refl
      stage_passed (busy at flow (request_body (Some response) most)) is = absurd is
      stage_passed (busy at flow (connection how)) is = stays_there flows (busy at flow (connection how)) opened used up prefix sent left refl is
      stage_passed (busy at flow (response_head side all_sent)) is = stays_there flows (busy at flow (response_head side all_sent)) opened used up prefix sent left refl is
      stage_passed (busy at flow (response_head side going_up)) is =
          let seen = sight_of (Some side) since opened used up prefix in
          head_up at flow side opened used up sent left seen.closed seen.now seen.server seen.shut is (whole_in seen) refl
      stage_passed (busy at flow (response_body side all_sent most)) is =
          let seen = sight_of (Some side) since opened used up prefix in
          body_passed all_sent at side opened used up sent left seen flow most is (record { server = refl; shut = refl; ups = refl; sents = refl }) (streams_in flow most seen) refl
      stage_passed (busy at flow (response_body side going_up most)) is =
          let seen = sight_of (Some side) since opened used up prefix in body_up at flow side opened used up sent left seen.closed seen.now most is (whole_in seen) refl
      stage_passed (busy at flow (coming_down side all_sent)) is =
          let seen = sight_of (Some side) since opened used up prefix in
          coming_passed all_sent at side opened used up sent left seen flow is (record { server = refl; shut = refl; ups = refl; sents = refl }) (came_in flow seen) refl
      stage_passed (busy at flow (coming_down side going_up)) is =
          let seen = sight_of (Some side) since opened used up prefix in coming_up at flow side opened used up sent left seen.closed seen.now is (whole_in seen) refl
      stage_passed (busy at flow (upgraded side)) is = stays_there flows (busy at flow (upgraded side)) opened used up prefix sent left refl is
      stage_passed (busy at flow given_head) is = absurd is
      stage_passed (busy at flow given_body) is = absurd is
      stage_passed (next at) is = absurd is
      stage_passed over is = stays_there flows over opened used up prefix sent left refl is
