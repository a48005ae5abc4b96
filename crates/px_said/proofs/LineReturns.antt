-- Where a reply that goes on over any size leads: behind a request that went to its server.
use Rattle.std.proofs.Common.{◌≡◌, ℕ, ◌≤◌, Bool, true, false, ◌==◌, List, [], ◌∷◌, ◌++◌, length, drop, map, Option, Some, None, refl, ap, sym, ◌∙◌, subst, append_assoc, arith}
use Rattle.std.specs.Prelude.{◌||◌, ◌&&◌, if◌then◌else◌, not, is_some, take}
use Rattle.std.proofs.lemmas.List.{append-nil}
use Rattle.px_text.specs.Prefix.{IsPrefixOf}
use Rattle.px_message.specs.declared.fault.Fault.{Fault}
use Rattle.px_message.specs.declared.fault.Fault.TheVariants.{BadResponse}
use Rattle.px_message.specs.declared.flow.Flow.{Flow}
use Rattle.px_message.specs.declared.request.Request.{Request}
use Rattle.px_message.specs.declared.response.Response.{Response}
use Rattle.px_event.specs.declared.ask.Hook.TheVariants.{ResponseHead, ResponseBody}
use Rattle.px_event.specs.declared.command.Command.{Command}
use Rattle.px_event.specs.declared.command.Command.TheVariants as commands
use Rattle.px_event.specs.declared.event.Event.{Event}
use Rattle.px_event.specs.declared.reply.Reply.{Reply}
use Rattle.px_event.specs.declared.side.Side.TheVariants.{Client, Server}
use Rattle.px_event.specs.Chain.{Timed, Asks, Ends, Look, Turn}
use Rattle.px_event.specs.View.{Atom, View, byte, course, flows, line, order, questions, seen_of}
use Rattle.px_event.proofs.Seen.{seen_append}
use Rattle.px_read.specs.Items.{Answers, Body, Item, missing, part, complete, bad_head, bad_body, request_item}
use Rattle.px_read.specs.Laws.{head_in, is_begun, is_decided}
use Rattle.px_read.specs.declared.head.RequestHead.{RequestHead as ReadRequest}
use Rattle.px_read.specs.declared.head.ResponseHead.{ResponseHead as ReadResponse}
use Rattle.px_exchange.specs.declared.ending.Used.{Used}
use Rattle.px_exchange.specs.declared.ending.Used.TheVariants.{NoServer}
use Rattle.px_exchange.specs.declared.taken.Taken.{Taken}
use Rattle.px_exchange.specs.declared.taken.Taken.TheVariants as taken
use Rattle.px_exchange.specs.declared.terms.Terms.{Terms}
use Rattle.px_exchange.specs.EndOrder.{EndsInOrder}
use Rattle.px_exchange.specs.Endings.{connection_goes_on, ends_by_fault, finished, shut_server, shut_unless, unless_kept}
use Rattle.px_exchange.specs.Finds.{is_relayed, look_answer, look_answer_head, look_returned, or_leaves}
use Rattle.px_exchange.specs.Flows.{ask_of, filled, response_of, with_answer, with_returned}
use Rattle.px_exchange.specs.Replies.{taken_at_response_body, taken_at_response_head}
use Rattle.px_exchange.specs.Requests.{is_head, is_http11}
use Rattle.px_exchange.specs.Texts.{interim_commands, returned_text}
use Rattle.px_parts.specs.Texts.{left_of}
use Rattle.px_parts.proofs.TextLemmas.{left-added}
use Rattle.px_chain.specs.Behind.{used_behind}
use Rattle.px_chain.specs.Chain.{bad_or, behind_flow, finish_by, look_up, sequence, turn_answer, turn_answer_head, turn_read_whole, turn_response, turn_returned, turn_taken_answer, turn_taken_whole}
use Rattle.px_chain.specs.Coming.{streams_by, streams_in}
use Rattle.px_chain.specs.Going.{allowed_up_by, is_sent, sends_up, told_up}
use Rattle.px_chain.specs.Keeping.{keeps_side, parks, unspoilt_at}
use Rattle.px_chain.specs.Sights.{Sight, UsedBytes, answers_in, server_in, sight_of, used_by_answers}
use Rattle.px_chain.specs.Stages.{At, Sent, Stage, all_sent, going_up, side_of}
use Rattle.px_chain.specs.Streams.{Since, bytes_of}
use Rattle.px_chain.proofs.ChainLaws.{IsUnseen, interim_unseen}
use Rattle.px_chain.proofs.ComingLaws.{bytes_in_two}
use Rattle.px_chain.proofs.GoingLaws.{going_text_grows}
use Rattle.px_said.specs.ClosedForm.{said, said_behind, said_final, said_relayed, whole_response}
use Rattle.px_said.specs.Lines.{answers_to, client_bytes, comes_down, ends_over, fault_in, fault_up, heard_of, is_ended, is_fault, is_sent_over, said_down, unless_fault}
use Rattle.px_said.proofs.ClosedFronts.{IsFront, IsSame, drop_on, side_grows}
use Rattle.px_said.proofs.ClosedQuiet.{said_join, says_finished}
use Rattle.px_said.proofs.ClosedLooks.{asks_nothing, asks_same, ends_ask}
use Rattle.px_said.proofs.LineFronts.{answers_on, front_until, same_ended}
use Rattle.px_said.proofs.LineQuiet.{AllSends, Rest, allows_down, closes_both, end_of, ends_none, interim_if, rest_is, rest_on, rest_said, sends_said, server_closes, takes_response_body, takes_response_head, unless_closes}
use Rattle.px_said.proofs.LineKept.{behind_parks, server_kept, waits_behind}
use Rattle.px_said.proofs.LinePasses.{Keeps, behind_last, behind_more, next_there, sends_sent}
use Rattle.px_said.proofs.LineSeen.{ended_here, same_down, same_text}
use Rattle.px_said.proofs.LineStages.{Answering, Returning, UpTo, Waiting, after_kept, after_streamed, bytes_behind, down_of, down_over, ended_by, exchange_of, further_of, heard_by, response_left, text_of, text_over, up_left}
use Rattle.px_said.proofs.LineTurns.{Leads, ending_led, on_led}

begun_by : (item : Item ReadResponse) (head : ReadResponse) → head_in item ≡ Some head → is_begun item ≡ true
begun_by item head is = ap (λ (o : Option ReadResponse). is_some o || is_decided item) is

or_true : (a : Bool) → (a || true) ≡ true
or_true true = refl
or_true false = refl

false_right : (a b : Bool) → b ≡ false → (a && b) ≡ false
false_right true b is = is
false_right false b is = refl

-- ---- what goes to a server is in no order with what goes to the client

server_two : (same : Bool) (text more : List ℕ) (client down : List Atom) → client ≡ [] →
    (if same then map byte (text ++ more) else []) ++ (client ++ down) ≡ ((if same then map byte text else []) ++ client) ++ ((if same then map byte more else []) ++ down)
server_two true text more client down none =
    ap (λ c. map byte (text ++ more) ++ (c ++ down)) none
    ∙ (bytes_in_two text more down ∙ ap (λ c. (map byte text ++ c) ++ (map byte more ++ down)) (sym none))
server_two false text more client down none = refl

-- what comes to the client may stand within a text to a server
pub two_sends : (view : View) (side : ℕ) (text more : List ℕ) (client down : List Command) → IsUnseen client →
    seen_of view (commands.Send (Server side) (text ++ more) ∷ (client ++ down))
    ≡ seen_of view (commands.Send (Server side) text ∷ client) ++ seen_of view (commands.Send (Server side) more ∷ down)
two_sends (line Client) side text more client down unseen = seen_append (line Client) client down
two_sends (line (Server other)) side text more client down unseen =
    ap (λ l. (if side == other then map byte (text ++ more) else []) ++ l) (seen_append (line (Server other)) client down)
    ∙ server_two (side == other) text more (seen_of (line (Server other)) client) (seen_of (line (Server other)) down) (unseen other)
two_sends questions side text more client down unseen = seen_append questions client down
two_sends course side text more client down unseen = seen_append course client down
two_sends flows side text more client down unseen = seen_append flows client down
two_sends order side text more client down unseen = seen_append order client down

-- how many bytes of a text were sent by now
abbrev pub told_now : Sent → List ℕ → ℕ
told_now all_sent text = 0
told_now going_up text = length text

-- no more was sent than had come
abbrev pub Within : Sent → ℕ → List ℕ → Type 0
Within all_sent up text = Unit {0}
Within going_up up text = up ≤ length text

-- what was sent of the request, and of interim responses, with a question behind them
pub rest_asked : (all sent : List Command) (how : Sent) (side up : ℕ) (now heard : List ℕ) (client down : List Command) (asked : Command) → IsPrefixOf now heard → Within how up now →
    IsUnseen client → AllSends client → said (asked ∷ []) ≡ [] → Rest all sent (up_left how side up heard ++ (client ++ down)) →
    Rest all (sent ++ ((up_left how side up now ++ client) ++ asked ∷ [])) (up_left how side (told_now how now) heard ++ down)
rest_asked all sent all_sent side up now heard client down asked grows within unseen sends quiet rest =
    rest_on all sent (client ++ asked ∷ []) client (client ++ down) down rest
    (said_join client (asked ∷ []) ∙ (ap (λ l. said client ++ l) quiet ∙ (append-nil (said client) ∙ sends_said client sends))) refl
rest_asked all sent going_up side up now heard client down asked grows within unseen sends quiet rest =
    let first : List Command = commands.Send (Server side) (left_of up now) ∷ client in
    let more : List Command = commands.Send (Server side) (left_of (length now) heard) ∷ down in
    let says : said (first ++ asked ∷ []) ≡ first =
    ap (λ l. commands.Send (Server side) (left_of up now) ∷ l)
    (said_join client (asked ∷ []) ∙ (ap (λ l. said client ++ l) quiet ∙ (append-nil (said client) ∙ sends_said client sends))) in
    let all_said : said (sent ++ (first ++ asked ∷ [])) ≡ said sent ++ first = said_join sent (first ++ asked ∷ []) ∙ ap (λ l. said sent ++ l) says in
    record {
      seen = λ view.
          rest.seen view
          ∙ (ap (λ t. seen_of view (said sent) ++ seen_of view (commands.Send (Server side) t ∷ (client ++ down))) (sym (left-added up now heard grows within))
          ∙ (ap (λ l. seen_of view (said sent) ++ l) (two_sends view side (left_of up now) (left_of (length now) heard) client down unseen)
          ∙ (sym (append_assoc (seen_of view (said sent)) (seen_of view first) (seen_of view more))
          ∙ ap (λ l. l ++ seen_of view more) (sym (ap (seen_of view) all_said ∙ seen_append view (said sent) first)))));
    }

module _ (terms : Terms) (events : List (Timed Event)) (all : List Command) (number : ℕ) where
  -- a request that goes up grows
  pub text_longer : (how : Sent) (flow : Flow) (side opened : ℕ) (used : UsedBytes) (went : ℕ) (prefix later : List (Timed Event)) → IsFront prefix later →
      IsPrefixOf (text_over terms events all number how flow.request side opened used went prefix) (text_over terms events all number how flow.request side opened used went later)
  text_longer all_sent flow side opened used went prefix later is = ([], sym (append-nil _))
  text_longer going_up flow side opened used went prefix later is =
      let grows = side_grows Client prefix later is in
      let on = drop_on used.client (bytes_of Client prefix) grows.more in
      let sight : List ℕ → Sight = λ l. record { client = l; closed = false; server = []; shut = false; told = 0; now = 0 } in
      going_text_grows terms.place flow (sight (client_bytes prefix used.client)) (sight (client_bytes later used.client)) (on.0, ap (drop used.client) grows.grown ∙ on.1)

  -- what is owed of it
  pub ups_seen : (how : Sent) (flow : Flow) (side opened : ℕ) (used : UsedBytes) (up went : ℕ) (since : Since) (prefix : List (Timed Event)) →
      sends_up terms.place flow side how (sight_of (Some side) since opened used up prefix) ≡ up_left how side up (text_over terms events all number how flow.request side opened used went prefix)
  ups_seen all_sent flow side opened used up went since prefix = refl
  ups_seen going_up flow side opened used up went since prefix = refl

  pub told_seen : (how : Sent) (flow : Flow) (side opened : ℕ) (used : UsedBytes) (up went : ℕ) (since : Since) (prefix : List (Timed Event)) →
      told_up terms.place flow how (sight_of (Some side) since opened used up prefix) ≡ told_now how (text_over terms events all number how flow.request side opened used went prefix)
  told_seen all_sent flow side opened used up went since prefix = refl
  told_seen going_up flow side opened used up went since prefix = refl

  pub within_up : (how : Sent) (asked : Request) (side opened : ℕ) (used : UsedBytes) (up went : ℕ) (prefix : List (Timed Event)) →
      UpTo terms events all number how asked side opened used up went prefix → Within how up (text_over terms events all number how asked side opened used went prefix)
  within_up all_sent asked side opened used up went prefix goes = tt
  within_up going_up asked side opened used up went prefix goes = goes.told

  pub goes_now : (how : Sent) (asked : Request) (side opened : ℕ) (used : UsedBytes) (up went : ℕ) (prefix : List (Timed Event)) →
      UpTo terms events all number how asked side opened used up went prefix →
      UpTo terms events all number how asked side opened used (told_now how (text_over terms events all number how asked side opened used went prefix)) went prefix
  goes_now all_sent asked side opened used up went prefix goes = tt
  goes_now going_up asked side opened used up went prefix goes = record { told = omega arith; plain = goes.plain }

  -- ---- a question is found where the request is not at fault

  no_fault : (item : Item ReadRequest) (closed : Bool) (leaving : List Command) (ends : Fault → List Command) (found : Look Command) (ask : Command) →
      or_leaves closed leaving (bad_or item ends found) ≡ Asks ask → (fault_in item ≡ None) × (or_leaves closed leaving found ≡ Asks ask)
  no_fault missing closed leaving ends found ask is = (refl, is)
  no_fault (part head body) closed leaving ends found ask is = (refl, is)
  no_fault (complete head body trailers size) closed leaving ends found ask is = (refl, is)
  no_fault (bad_head fault) closed leaving ends found ask is = (refl, is)
  no_fault (bad_body fault head body) closed leaving ends found ask is = absurd (let no : Ends (ends fault) ≡ Asks ask = is in cc)

  pub up_asked : (how : Sent) (asked : Request) (side opened : ℕ) (used : UsedBytes) (up went : ℕ) (since : Since) (prefix : List (Timed Event)) (closed : Bool) (leaving : List Command)
      (ends : Fault → List Command) (found : Look Command) (ask : Command) →
      or_leaves closed leaving (look_up how (sight_of (Some side) since opened used up prefix) ends found) ≡ Asks ask →
      (fault_up (exchange_of how asked side opened used went) prefix ≡ None) × (or_leaves closed leaving found ≡ Asks ask)
  up_asked all_sent asked side opened used up went since prefix closed leaving ends found ask is = (refl, is)
  up_asked going_up asked side opened used up went since prefix closed leaving ends found ask is =
      no_fault (request_item (client_bytes prefix used.client)) closed leaving ends found ask is

  module _ (sent : List Command) (moment : ℕ) (value : Reply) (waits : Bool) (rest : List Command) (replies : List Reply)
      (since : Since) (opened : ℕ) (used : UsedBytes) (up : ℕ) (prefix : List (Timed Event)) (front : IsFront prefix events) (ask : Command) (leaving : List Command)
      (at : At) (flow : Flow) (side : ℕ) (how : Sent) where
    abbrev answer : Timed Reply
    answer = record { moment = moment; value = value }

    abbrev seen : Sight
    seen = sight_of (Some side) since opened used up prefix

    -- where its flow stands behind the reply
    abbrev at_there : At
    at_there = unspoilt_at at seen

    abbrev found_answers : Answers
    found_answers = answers_in flow.request seen

    -- the replies that are left before this one
    abbrev left : List Reply
    left = value ∷ replies

    -- what is sent of the request now, and with interim responses
    abbrev first : List Command
    first = sends_up terms.place flow side how seen

    abbrev interim : List Command
    interim = interim_commands flow.request found_answers.interim

    abbrev behind_up : ℕ
    behind_up = told_up terms.place flow how seen

    -- behind the answer about a head nothing more is used
    abbrev leads_head : Stage → UsedBytes
    leads_head stage = record { client = used.client; server = used_behind false (side_of stage) used.server }

    -- and behind the answer about a whole response its bytes are
    abbrev leads_body : Stage → UsedBytes
    leads_body stage = record {
      client = used.client;
      server = used_behind false (side_of stage) (used_by_answers found_answers used.server);
    }

    -- ---- the head of the final response

    module _ (s : Answering terms events all number how at flow.request side opened used up prefix sent left) where
      relayed_led : (head : ReadResponse) → head_in found_answers.final ≡ Some head → is_relayed head.code ≡ true →
          Leads terms events all number (turn_answer_head terms at_there flow side how head seen answer) opened leads_head behind_up prefix sent (first ++ interim)
          (ask_of (with_answer flow (response_of head) seen.now) ResponseHead) waits rest value replies
      relayed_led head is relays goes =
          let whole = with_answer flow (response_of head) seen.now in
          let asked = ask_of whole ResponseHead in
          let exchange = exchange_of how flow.request side opened used s.went in
          let heard = heard_by terms events all number how flow.request side opened used s.went in
          let front_heard : IsFront prefix heard = front_until (λ k. ends_over exchange (take k events)) s.went prefix events s.onward.waits front in
          let carry = answers_on flow.request side opened used.server prefix heard front_heard in
          let begun = carry.begun (begun_by found_answers.final head is) in
          let down = down_of terms events all number how flow.request side opened used s.went in
          let most = allowed_up_by terms.streams value in
          let text = text_of terms events all number how flow.request side opened used s.went in
          let now = text_over terms events all number how flow.request side opened used s.went prefix in
          let longer = text_longer how flow side opened used s.went prefix heard front_heard in
          let ups = ups_seen how flow side opened used up s.went since prefix in
          let left_there = response_left terms down at flow.request replies most in
          let before : Rest all sent (up_left how side up text ++ (interim ++ left_there)) =
          rest_is all sent _ _ s.rest (ap (λ l. up_left how side up text ++ (interim_commands flow.request l ++ left_there)) begun.0) in
          let asked_rest = rest_asked all sent how side up now text interim left_there asked longer (within_up how flow.request side opened used up s.went prefix s.goes)
          (interim_unseen flow.request.version flow.request found_answers.interim refl) (interim_if (is_http11 flow.request.version) found_answers.interim) refl before in
          let U : List Command → Type 0 = λ l. Rest all (sent ++ ((l ++ interim) ++ asked ∷ [])) (up_left how side (told_now how now) text ++ left_there) in
          let there : Returning terms events all number how at_there (record whole { response = Some (response_of head) }) most side opened used (told_now how now) prefix
          (sent ++ ((first ++ interim) ++ asked ∷ [])) replies = record {
            went = s.went;
            onward = s.onward;
            goes = goes_now how flow.request side opened used up s.went prefix s.goes;
            head = head;
            there = is;
            relayed = relays;
            response = refl;
            rest = subst U (sym ups) asked_rest;
          } in
          let N : ℕ → Type 0 = λ n.
          Returning terms events all number how at_there (record whole { response = Some (response_of head) }) most side opened used n prefix (sent ++ ((first ++ interim) ++ asked ∷ [])) replies in
          let turned : Option ℕ → Taken Response → Turn Stage Command = λ m t. turn_taken_answer at_there whole side how m t moment (server_in side seen) seen.closed in
          let P : Option ℕ → Taken Response → Type 0 = λ m t. Leads terms events all number (turned m t) opened leads_head behind_up prefix sent (first ++ interim) asked waits rest value replies in
          let led : P most (taken.GoesOn (response_of head)) = λ on_it.
          on_led terms events all (turned most (taken.GoesOn (response_of head))) opened leads_head behind_up prefix sent (first ++ interim) asked waits rest replies number refl (λ more rest. refl) tt
          (subst N (sym (told_seen how flow side opened used up s.went since prefix)) there) on_it.1 in
          let taken_so : P most (taken_at_response_head (response_of head) value) = subst (P most) (sym (takes_response_head whole (response_of head) value refl goes.0)) led in
          subst (λ m. P m (taken_at_response_head (response_of head) value)) (sym (allows_down terms.streams whole (response_of head) value refl goes.0)) taken_so goes

      head_led : (head : ReadResponse) (relays : Bool) → is_relayed head.code ≡ relays → head_in found_answers.final ≡ Some head →
          or_leaves seen.closed leaving (look_answer_head flow head seen.now (server_in side seen) seen.closed) ≡ Asks ask →
          Leads terms events all number (turn_answer_head terms at_there flow side how head seen answer) opened leads_head behind_up prefix sent (first ++ interim) ask waits rest value replies
      head_led head false relays is asks =
          let P : Bool → Type 0 = λ b. or_leaves seen.closed leaving
          (if not b then Ends (ends_by_fault flow BadResponse seen.now (server_in side seen) seen.closed)
          else Asks (ask_of (with_answer flow (response_of head) seen.now) ResponseHead)) ≡ Asks ask in
          absurd (ends_ask _ ask (subst P relays asks))
      head_led head true relays is asks =
          let P : Bool → Type 0 = λ b. or_leaves seen.closed leaving
          (if not b then Ends (ends_by_fault flow BadResponse seen.now (server_in side seen) seen.closed)
          else Asks (ask_of (with_answer flow (response_of head) seen.now) ResponseHead)) ≡ Asks ask in
          let Q : Command → Type 0 = λ c.
          Leads terms events all number (turn_answer_head terms at_there flow side how head seen answer) opened leads_head behind_up prefix sent (first ++ interim) c waits rest value replies in
          subst Q (asks_same _ ask (subst P relays asks)) (relayed_led head is relays)

      pub answer_led : (item : Item ReadResponse) → found_answers.final ≡ item →
          or_leaves seen.closed leaving (look_answer flow item seen.now (server_in side seen) seen.closed) ≡ Asks ask →
          Leads terms events all number (turn_answer terms at_there flow side how item seen answer) opened leads_head behind_up prefix sent (first ++ interim) ask waits rest value replies
      answer_led missing is asks = absurd (asks_nothing seen.closed leaving ask asks)
      answer_led (part head body) is asks = head_led head (is_relayed head.code) refl (ap head_in is) asks
      answer_led (complete head body trailers size) is asks = head_led head (is_relayed head.code) refl (ap head_in is) asks
      answer_led (bad_head fault) is asks = absurd (ends_ask _ ask asks)
      answer_led (bad_body fault head body) is asks = head_led head (is_relayed head.code) refl (ap head_in is) asks

    -- ---- the response's body, where it is kept, and a request that goes up is neither whole nor at fault

    module _ (most : Option ℕ) (s : Returning terms events all number how at flow most side opened used up prefix sent left)
        (kept : streams_in flow most seen ≡ false) (sents : is_sent how ≡ is_sent_over (exchange_of how flow.request side opened used s.went) prefix)
        (good : fault_up (exchange_of how flow.request side opened used s.went) prefix ≡ None) where
      module _ (head : ReadResponse) (body : Body) (trailers : List (List ℕ × List ℕ)) (size : ℕ) (is : found_answers.final ≡ complete head body trailers size) where
        abbrev whole : Flow
        whole = with_returned flow body.content trailers seen.now

        abbrev asked : Command
        asked = ask_of whole ResponseBody

        abbrev response : Response
        response = whole_response head body trailers

        abbrev text : Command
        text = commands.Send Client (returned_text flow.request response)

        -- behind it
        abbrev waiting : Waiting
        waiting = waits_behind terms.place flow.request side opened used.server prefix

        abbrev on : ℕ → List Command
        on ended =
            further_of terms events all how number used.client
            (next_there terms events all at_there flow.request side opened used waiting prefix replies (bytes_behind terms events all how used.client) ended)

        abbrev keeps : Bool
        keeps = connection_goes_on at.flow flow.request response

        switches_by : (way : Sent) (switches : Bool) → (is_sent way && switches) ≡ false → (is_sent way && (not switches && keeps)) ≡ (is_sent way && keeps)
        switches_by all_sent switches is = ap (λ b. not b && keeps) is
        switches_by going_up switches is = refl

        -- where all was said up to here
        before : Rest all (sent ++ (first ++ asked ∷ text ∷ [])) (said_behind (is_sent how && (not (response.status == 101) && keeps)) (Some (length prefix)) on)
        before =
            let exchange = exchange_of how flow.request side opened used s.went in
            let told = heard_of exchange prefix in
            let final = (answers_to flow.request told).final in
            let come = length prefix in
            let ends : ends_over exchange prefix ≡ true = ap (λ i. is_fault (fault_up exchange prefix) || is_ended i) is ∙ or_true (is_fault (fault_up exchange prefix)) in
            let ended = ended_here terms events all number how flow.request side opened used s.went prefix front s.onward ends in
            let heard = heard_by terms events all number how flow.request side opened used s.went in
            let same : IsSame prefix heard = same_ended (λ k. ends_over exchange (take k events)) s.went prefix events s.onward.waits front ended in
            let now_down = down_over terms events all number how flow.request side opened used s.went (Some come) prefix in
            let down = down_of terms events all number how flow.request side opened used s.went in
            let down_is : down ≡ now_down =
            sym (same_down prefix heard same terms events all number how flow.request side opened used s.went (ended_by terms events all number how flow.request side opened used s.went))
            ∙ ap (λ e. down_over terms events all number how flow.request side opened used s.went e prefix) ended in
            let text_is : text_of terms events all number how flow.request side opened used s.went ≡ text_over terms events all number how flow.request side opened used s.went prefix =
            sym (same_text prefix heard same terms exchange) in
            let ups = ups_seen how flow side opened used up s.went since prefix in
            let head_same : Some head ≡ Some s.head = sym (ap head_in is) ∙ s.there in
            let heads : s.head ≡ head = cc in
            let relays : is_relayed head.code ≡ true = ap (λ (h : ReadResponse). is_relayed h.code) (sym heads) ∙ s.relayed in
            let asked_head = is_head flow.request.method in
            let streamed = after_streamed terms now_down at flow.request left in
            let kept_then = after_kept terms now_down at flow.request left in
            let not_streamed : streams_by (Some (response_of head)) flow.request most told.shut told.bytes ≡ false =
            ap (λ (h : ReadResponse). streams_by (Some (response_of h)) flow.request most told.shut told.bytes) (sym heads)
            ∙ (sym (ap (λ o. streams_by o flow.request most told.shut told.bytes) s.response) ∙ kept) in
            let stays : comes_down most asked_head told (Some head) ≡ false = false_right (is_relayed head.code) _ not_streamed in
            let said_so : response_left terms now_down at flow.request left most
            ≡ text ∷ said_behind (is_sent how && (not (response.status == 101) && keeps)) (Some come) on =
            ap (λ i. said_down (comes_down most asked_head told (head_in i)) flow.request told i now_down.fault streamed kept_then) is
            ∙ (ap (λ b. said_down b flow.request told (complete head body trailers size) now_down.fault streamed kept_then) stays
            ∙ (ap (λ f. unless_fault f asked_head (said_final flow.request (complete head body trailers size) kept_then)) good
            ∙ (ap (λ b. said_relayed b flow.request (text ∷ kept_then response)) relays
            ∙ ap (λ b. text ∷ said_behind (b && (not (response.status == 101) && keeps)) (Some come) on) (sym sents)))) in
            rest_on all sent (first ++ asked ∷ text ∷ []) (first ++ text ∷ []) _
            (said_behind (is_sent how && (not (response.status == 101) && keeps)) (Some come) on) s.rest
            (said_join first (asked ∷ text ∷ []) ∙ ap (λ l. l ++ text ∷ []) (sends_said first (sends_sent terms flow side how seen)))
            (ap (λ t. up_left how side up t ++ response_left terms down at flow.request left most) text_is
            ∙ (ap (λ d. up_left how side up (text_over terms events all number how flow.request side opened used s.went prefix) ++ response_left terms d at flow.request left most) down_is
            ∙ (ap (λ l. l ++ response_left terms now_down at flow.request left most) (sym ups)
            ∙ (ap (λ l. first ++ l) said_so
            ∙ sym (append_assoc first (text ∷ []) _)))))

        -- A response that switches protocols is the last thing that is said; behind another one it may go on.
        finished_led : (switches : Bool) → (is_sent how && (response.status == 101)) ≡ switches →
            Leads terms events all number (finish_by switches terms.place at_there whole how response (keeps_side flow.request seen head) side (server_in side seen) seen.closed) opened leads_body behind_up prefix sent first asked waits rest value replies
        finished_led true switches goes =
            let last = both_are how (response.status == 101) switches in
            let quiet : said_behind (is_sent how && (not (response.status == 101) && keeps)) (Some (length prefix)) on ≡ [] =
            ap (λ b. said_behind b (Some (length prefix)) on) (nothing_behind (is_sent how) (response.status == 101) keeps last) in
            on_led terms events all (finish_by true terms.place at_there whole how response (keeps_side flow.request seen head) side (server_in side seen) seen.closed) opened leads_body behind_up prefix sent first asked waits rest replies number refl
            (λ more rest. refl) tt (record { is_all = rest_is all (sent ++ (first ++ asked ∷ text ∷ [])) _ [] before quiet }) goes.1
          where
            both_are : (way : Sent) (switches : Bool) → (is_sent way && switches) ≡ true → switches ≡ true
            both_are all_sent switches is = is
            both_are going_up switches is = absurd (let no : false ≡ true = is in cc)

            nothing_behind : (a switches keeps : Bool) → switches ≡ true → (a && (not switches && keeps)) ≡ false
            nothing_behind a true keeps is = false_right a false refl
            nothing_behind a false keeps is = absurd (let no : false ≡ true = is in cc)
        finished_led false switches goes =
            let stays = is_sent how && keeps in
            let kept = stays && keeps_side flow.request seen head in
            let served = unless_kept kept (server_in side seen) in
            let turned = finish_by false terms.place at_there whole how response (keeps_side flow.request seen head) side (server_in side seen) seen.closed in
            let closes = says_finished whole response served NoServer stays seen.closed in
            let says = end_of turned.owed (text ∷ []) closes in
            let rest_so : Rest all (sent ++ (first ++ asked ∷ turned.owed)) (said_behind stays (Some (length prefix)) on) =
            rest_is all (sent ++ (first ++ asked ∷ turned.owed)) _ _
            (rest_said all (sent ++ (first ++ asked ∷ text ∷ [])) (sent ++ (first ++ asked ∷ turned.owed)) _
            (said_join sent (first ++ asked ∷ text ∷ []) ∙ (ap (λ l. said sent ++ l) (said_join first (asked ∷ text ∷ []) ∙ (ap (λ l. said first ++ l) (sym says.is) ∙ sym (said_join first (asked ∷ turned.owed))))
            ∙ sym (said_join sent (first ++ asked ∷ turned.owed)))) before)
            (ap (λ b. said_behind b (Some (length prefix)) on) (switches_by how (response.status == 101) switches)) in
            let P : ℕ → Type 0 = λ n. Rest all (sent ++ (first ++ asked ∷ turned.owed)) (said_behind stays (Some (length prefix)) (λ ended. further_of terms events all how n used.client
            (next_there terms events all at_there flow.request side opened used waiting prefix replies (bytes_behind terms events all how used.client) ended))) in
            let K : ℕ → Type 0 = λ m. Keeps terms events all at_there flow.request side opened used waiting prefix replies kept m in
            let so : stays ≡ true → K (leads_body (sequence turned.stage)).server = λ goes_on.
            subst K (sym (server_there stays kept (used_by_answers found_answers used.server) goes_on))
            (behind_parks terms.place flow.request side opened used.server prefix head body trailers size is at_there kept (sym (ap (λ b. b && keeps_side flow.request seen head) goes_on))) in
            ending_led terms events all turned opened leads_body behind_up prefix sent first asked waits rest replies number (text ∷ []) refl says
            (ends_none turned.owed (finish_ends how whole response served stays seen.closed))
            (λ none. behind_last terms events all at_there flow.request side opened used waiting prefix replies how keeps (length prefix) (sent ++ (first ++ asked ∷ turned.owed)) (subst P none rest_so))
            (λ n more. behind_more terms events all at_there flow.request side opened used waiting prefix replies how n keeps kept (leads_body (sequence turned.stage)).server behind_up
            (sent ++ (first ++ asked ∷ turned.owed)) so (subst P more rest_so))
            goes.1
          where
            server_there : (stays kept : Bool) (size : ℕ) → stays ≡ true →
                used_behind false (side_of (sequence (behind_flow stays (parks kept terms.place at_there flow.request side)))) size ≡ server_kept kept size
            server_there true true size is = refl
            server_there true false size is = refl
            server_there false kept size is = absurd (let no : false ≡ true = is in cc)

            finish_ends : (way : Sent) (whole : Flow) (response : Response) (served : Used) (stays closed : Bool) → EndsInOrder (finished whole response served ++ shut_unless stays NoServer closed)
            finish_ends way whole response served stays closed = closes_both (shut_server served) (shut_unless stays NoServer closed) (server_closes served) (unless_closes stays NoServer closed)

        whole_led : Leads terms events all number (turn_returned terms.place at_there flow side how (complete head body trailers size) seen answer) opened leads_body behind_up prefix sent first asked waits rest value replies
        whole_led goes =
            let served = server_in side seen in
            let head_same : Some head ≡ Some s.head = sym (ap head_in is) ∙ s.there in
            let heads : s.head ≡ head = cc in
            let there : whole.response ≡ Some response =
            ap (λ o. filled o body.content trailers) s.response ∙ ap (λ (h : ReadResponse). Some (whole_response h body trailers)) heads in
            let takes = takes_response_body whole response value there goes.0 in
            let one : turn_read_whole terms.place at_there whole side how (keeps_side flow.request seen head) answer served seen.closed ≡ turn_taken_whole terms.place at_there whole side how (keeps_side flow.request seen head) (taken_at_response_body response value) moment served seen.closed =
            ap (λ o. turn_response o (λ r. taken_at_response_body r value) (λ t. turn_taken_whole terms.place at_there whole side how (keeps_side flow.request seen head) t moment served seen.closed)) there in
            let two : turn_taken_whole terms.place at_there whole side how (keeps_side flow.request seen head) (taken_at_response_body response value) moment served seen.closed
            ≡ finish_by (is_sent how && (response.status == 101)) terms.place at_there whole how response (keeps_side flow.request seen head) side served seen.closed =
            ap (λ t. turn_taken_whole terms.place at_there whole side how (keeps_side flow.request seen head) t moment served seen.closed) takes in
            let P : Turn Stage Command → Type 0 = λ t. Leads terms events all number t opened leads_body behind_up prefix sent first asked waits rest value replies in
            subst P (sym (one ∙ two)) (finished_led (is_sent how && (response.status == 101)) refl) goes

      pub returned_led : (item : Item ReadResponse) → found_answers.final ≡ item →
          or_leaves seen.closed leaving (look_returned flow item seen.now (server_in side seen) seen.closed) ≡ Asks ask →
          Leads terms events all number (turn_returned terms.place at_there flow side how item seen answer) opened leads_body behind_up prefix sent first ask waits rest value replies
      returned_led missing is asks = absurd (asks_nothing seen.closed leaving ask asks)
      returned_led (part head body) is asks = absurd (asks_nothing seen.closed leaving ask asks)
      returned_led (complete head body trailers size) is asks =
          let P : Command → Type 0 = λ c.
          Leads terms events all number (turn_returned terms.place at_there flow side how (complete head body trailers size) seen answer) opened leads_body behind_up prefix sent first c waits rest value replies in
          subst P (asks_same _ ask asks) (whole_led head body trailers size is)
      returned_led (bad_head fault) is asks = absurd (asks_nothing seen.closed leaving ask asks)
      returned_led (bad_body fault head body) is asks = absurd (ends_ask _ ask asks)
