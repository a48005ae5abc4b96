-- What is sent over any size that is allowed says what was read, one message behind the other.
use Rattle.std.proofs.Common.{◌≡◌, ℕ, zero, suc, ◌+◌, ◌≤◌, Bool, true, false, List, [], ◌∷◌, ◌++◌, length, map, drop, Option, Some, None, refl, ap, sym, ◌∙◌, subst, arith, inl, inr}
use Rattle.std.specs.Prelude.{All, ◌&&◌, ⊤, take}
use Rattle.std.proofs.lemmas.List.{drop-drop}
use Rattle.std.proofs.lemmas.List.Elements.{All-head, All-tail}
use Rattle.px_text.specs.Least.{least}
use Rattle.px_text.proofs.LeastLemmas.{least-Some}
use Rattle.px_message.specs.Settle.{StreamedStays}
use Rattle.px_message.specs.declared.fault.Fault.{Fault}
use Rattle.px_message.specs.declared.request.Request.{Request}
use Rattle.px_message.specs.declared.response.Response.{Response}
use Rattle.px_message.specs.declared.version.Version.{Version}
use Rattle.px_message.specs.declared.version.Version.TheVariants.{Http10, Http11}
use Rattle.px_event.specs.declared.command.Command.{Command}
use Rattle.px_event.specs.declared.command.Command.TheVariants as commands
use Rattle.px_event.specs.declared.event.Event.{Event}
use Rattle.px_event.specs.declared.reply.Reply.{Reply}
use Rattle.px_event.specs.declared.reply.Reply.TheVariants as reply
use Rattle.px_event.specs.declared.side.Side.TheVariants.{Client, Server}
use Rattle.px_event.specs.Chain.{Timed}
use Rattle.px_read.specs.Items.{Item, bad_body, bad_head, complete, missing, part, request_item, response_item}
use Rattle.px_read.specs.Laws.{head_in, is_decided}
use Rattle.px_read.specs.declared.head.RequestHead.{RequestHead}
use Rattle.px_read.specs.declared.head.ResponseHead.{ResponseHead}
use Rattle.px_read.proofs.WholeLemmas.{final-behind}
use Rattle.px_exchange.specs.Finds.{is_relayed}
use Rattle.px_exchange.specs.Places.{form_at}
use Rattle.px_exchange.specs.Requests.{expects, is_head, is_http11, judged}
use Rattle.px_exchange.specs.Texts.{interim_command, meets_expectation, onward_text, sends_on}
use Rattle.px_exchange.specs.declared.asked.Judged.{Judged}
use Rattle.px_exchange.specs.declared.asked.Judged.TheVariants.{Refused, Accepted, Connects}
use Rattle.px_exchange.specs.declared.place.Place.{Place}
use Rattle.px_exchange.specs.declared.terms.Terms.{Terms}
use Rattle.px_parts.specs.Streamed.{request_says, streams_behind}
use Rattle.px_chain.specs.Streams.{bytes_of}
use Rattle.px_said.specs.ClosedForm.{Told, fault_said, is_whole, request_items, said_behind, said_final, said_relayed, said_returned, whole_request}
use Rattle.px_said.specs.Lines.{Exchange, Start, answers_to, behind_reply, client_bytes, comes_down, ends_at, ends_over, fault_up, goes_on_kept, goes_on_streamed, goes_up_over, heard_of, is_sent_over, next_allows, next_start, said_answered, said_down, said_exchange, said_head, said_request, said_start, said_to, said_way, sent_by, sent_from, sent_of_flows, side_over, streamed_request, text_by, text_up, unless_fault, until, used_by}
use Rattle.px_said.specs.WhatCame.{Came, SayWhatCame, SaysCame, a_request_coming, came_answered, came_exchange, came_final, came_from, came_judged, came_next, came_request, came_start, came_to, came_way, messages_came, whole}
use Rattle.px_said.specs.WhatWasRead.{IsOwn, a_final_response, a_request, an_interim_response, final_read, interim_known}
use Rattle.px_said.proofs.ClosedFronts.{IsFront}
use Rattle.px_said.proofs.ClosedItems.{after_on, items_after, items_split}
use Rattle.px_said.proofs.ParkedFronts.{front_taken}
use Rattle.px_said.proofs.LineSeen.{carried}
use Rattle.px_said.proofs.PartsRead.{IsInterimRead, interim_read}
use Rattle.px_said.proofs.SaysRequests.{accepted, says_made}
use Rattle.px_said.proofs.SaysResponses.{final_says, interim_says}
use Rattle.px_said.proofs.SaysStreams.{streams_request, streams_response}

-- ---- texts of the proxy's own

abbrev AllOwn : List Command → Type 0
AllOwn [] = ⊤
AllOwn (command ∷ due) = IsOwn command × AllOwn due

fault_own : (fault : Fault) (asked_head : Bool) → AllOwn (fault_said fault asked_head)
fault_own fault asked_head = (inr (fault, asked_head, refl), tt)

expectation_own : (expected : Bool) → AllOwn (meets_expectation expected)
expectation_own true = (inl refl, tt)
expectation_own false = tt

module _ (place : Place) where
  -- they may stand in front of what says a message
  own_before : (own due : List Command) (messages : List Came) → AllOwn own → SayWhatCame place due messages → SayWhatCame place (own ++ due) messages
  own_before [] due messages all say = say
  own_before (command ∷ own) due [] all say = (all.0, own_before own due [] all.1 say)
  own_before (command ∷ own) due (message ∷ messages) all say = inl (all.0, own_before own due (message ∷ messages) all.1 say)

  -- and behind all that is said
  own_say : (own : List Command) (messages : List Came) → AllOwn own → SayWhatCame place own messages
  own_say [] messages all = tt
  own_say (command ∷ own) [] all = (all.0, own_say own [] all.1)
  own_say (command ∷ own) (message ∷ messages) all = inl (all.0, own_say own (message ∷ messages) all.1)

  fault_say : (fault : Fault) (asked_head : Bool) (messages : List Came) → SayWhatCame place (fault_said fault asked_head) messages
  fault_say fault asked_head messages = own_say (fault_said fault asked_head) messages (fault_own fault asked_head)

  -- ---- responses

  abbrev interim_came : List ResponseHead → List Came
  interim_came heads = map (λ head. whole (an_interim_response head)) heads

  interim_say : (heads : List ResponseHead) → All IsInterimRead heads → (due : List Command) (messages : List Came) → SayWhatCame place due messages
      → SayWhatCame place (map interim_command heads ++ due) (interim_came heads ++ messages)
  interim_say [] all due messages say = say
  interim_say (head ∷ heads) all due messages say = inr (
    interim_says head (All-head IsInterimRead head heads all),
    interim_say heads (All-tail IsInterimRead head heads all) due messages say,
  )

  known_say : (version : Version) (heads : List ResponseHead) → All IsInterimRead heads → (due : List Command) (messages : List Came) → SayWhatCame place due messages
      → SayWhatCame place (sends_on (is_http11 version) heads ++ due) (interim_came (interim_known version heads) ++ messages)
  known_say Http10 heads all due messages say = say
  known_say Http11 heads all due messages say = interim_say heads all due messages say

  relayed_say : (relays : Bool) (request : Request) (returned : List Command) (messages : List Came) → SayWhatCame place returned messages
      → SayWhatCame place (said_relayed relays request returned) messages
  relayed_say true request returned messages say = say
  relayed_say false request returned messages say = fault_say _ (is_head request.method) messages

  -- one that is kept
  kept_say : (request : Request) (told : Told) (item : Item ResponseHead) → response_item (is_head request.method) told.shut (drop (answers_to request told).used told.bytes) ≡ item
      → (behind : Response → List Command) (messages : List Came) → ((response : Response) → SayWhatCame place (behind response) messages)
      → SayWhatCame place (said_final request item behind) (map whole (final_read (is_head request.method) item) ++ messages)
  kept_say request told missing is behind messages say = tt
  kept_say request told (part head body) is behind messages say = relayed_say (is_relayed head.code) request [] messages tt
  kept_say request told (complete head body trailers used) is behind messages say =
      relayed_say (is_relayed head.code) request (said_returned request (complete head body trailers used) behind)
      (whole (a_final_response (is_head request.method) head body trailers) ∷ messages)
      (inr (final_says (is_head request.method) told.shut (drop (answers_to request told).used told.bytes) head body trailers used is, say _))
  kept_say request told (bad_head fault) is behind messages say = fault_say fault (is_head request.method) messages
  kept_say request told (bad_body fault head body) is behind messages say =
      relayed_say (is_relayed head.code) request (fault_said fault (is_head request.method)) messages (fault_say fault (is_head request.method) messages)

  unless_say : (fault : Option Fault) (asked_head : Bool) (due : List Command) (messages : List Came) → SayWhatCame place due messages → SayWhatCame place (unless_fault fault asked_head due) messages
  unless_say None asked_head due messages say = say
  unless_say (Some fault) asked_head due messages say = fault_say fault asked_head messages

  -- or is streamed
  down_say : StreamedStays → (streams : Bool) (allowed : Option ℕ) (request : Request) (told : Told) (item : Item ResponseHead) → (answers_to request told).final ≡ item →
      comes_down allowed (is_head request.method) told (head_in item) ≡ streams → (fault : Option Fault) (streamed : ResponseHead → List Command) (kept : Response → List Command)
      (coming after : List Came) → ((head : ResponseHead) → SayWhatCame place (streamed head) coming) → ((response : Response) → SayWhatCame place (kept response) after) →
      SayWhatCame place (said_down streams request told item fault streamed kept) (came_final streams (is_head request.method) told item coming after)
  down_say stays true allowed request told missing is streams fault streamed kept coming after on then_on = absurd (let no : false ≡ true = streams in cc)
  down_say stays true allowed request told (part head body) is streams fault streamed kept coming after on then_on = inr (streams_response stays head request told, tt)
  down_say stays true allowed request told (complete head body trailers used) is streams fault streamed kept coming after on then_on = inr (streams_response stays head request told, on head)
  down_say stays true allowed request told (bad_head bad) is streams fault streamed kept coming after on then_on = absurd (let no : false ≡ true = streams in cc)
  down_say stays true allowed request told (bad_body bad head body) is streams fault streamed kept coming after on then_on = inr (streams_response stays head request told, tt)
  down_say stays false allowed request told item is streams fault streamed kept coming after on then_on =
      unless_say fault (is_head request.method) (said_final request item kept) (map whole (final_read (is_head request.method) item) ++ after)
      (kept_say request told item (sym (final-behind (is_head request.method) told.shut told.bytes) ∙ is) kept after then_on)

-- ---- an exchange

-- over no fewer events than those over which the request went
front_of_more : (n : ℕ) (events : List (Timed Event)) → IsFront (take n events) events
front_of_more zero events = tt
front_of_more (suc n) [] = tt
front_of_more (suc n) (e ∷ events) = (refl, front_of_more n events)

length_taken : (n : ℕ) (events : List (Timed Event)) → length (take n events) ≤ n
length_taken zero events = omega arith
length_taken (suc n) [] = omega arith
length_taken (suc n) (e ∷ events) = let less = length_taken n events in omega arith

front_by : (test : ℕ → Bool) (went size : ℕ) (events : List (Timed Event)) (found : Option ℕ) → least test went size ≡ found → IsFront (take went events) (until found events)
front_by test went size events None is = front_of_more went events
front_by test went size events (Some k) is =
    let it = least-Some test went size k is in
    let low = it.from in
    let less = length_taken went events in
    front_taken (take went events) events k (front_of_more went events) (omega arith)

until_front : (found : Option ℕ) (events : List (Timed Event)) → IsFront (until found events) events
until_front None events = front_self events
  where
    front_self : (events : List (Timed Event)) → IsFront events events
    front_self [] = tt
    front_self (e ∷ events) = (refl, front_self events)
until_front (Some k) events = front_of_more k events

module _ (stays : StreamedStays) (terms : Terms) (events : List (Timed Event)) where
  abbrev Say : List Command → List Came → Type 0
  Say due messages = SayWhatCame terms.place due messages

  -- behind a response
  next_say : (sent keeps : Bool) (bytes : ℕ) (next : ℕ → Start) (ended : Option ℕ) (further : Start → List Command) (messages : Start → List Came) → ((so_many : ℕ) → (next so_many).bytes ≡ bytes) →
      ((there : Start) → sent ≡ true → there.bytes ≡ bytes → Say (further there) (messages there)) →
      Say (said_behind (sent && keeps) ended (λ so_many. further (next so_many))) (came_next ended (λ so_many. messages (next so_many)))
  next_say true true bytes next (Some ended) further messages same on = on (next ended) refl (same ended)
  next_say true true bytes next None further messages same on = tt
  next_say true false bytes next ended further messages same on = tt
  next_say false keeps bytes next ended further messages same on = tt

  exchange_say : (start : Start) (exchange : Exchange) (message : List (Timed Event) → Came) (further : Start → List Command) (messages : Start → List Came) →
      let heard = until (ends_at events exchange) events in
      SaysCame terms.place (commands.Send (Server exchange.served.server) (text_up terms exchange heard)) (message heard) →
      ((next : Start) → is_sent_over exchange heard ≡ true → next.bytes ≡ start.bytes → Say (further next) (messages next)) →
      Say (said_exchange terms events start exchange further) (came_exchange terms events start exchange message messages)
  exchange_say start exchange message further messages says on =
      let ended = ends_at events exchange in
      let heard = until ended events in
      let told = heard_of exchange heard in
      let request = exchange.request in
      let answers = answers_to request told in
      let sent = is_sent_over exchange heard in
      let next : Start → ℕ → Start = λ from so_many. next_start terms.place from exchange.served request answers so_many in
      inr (
        says,
        known_say terms.place request.version answers.interim (interim_read (is_head request.method) told.shut told.bytes) _ _
            (down_say terms.place stays (comes_down (next_allows terms start.replies) (is_head request.method) told (head_in answers.final)) (next_allows terms start.replies) request told answers.final refl refl
            (fault_up exchange heard) _ _ _ _
            (λ head. next_say sent (goes_on_streamed start request head) start.bytes (next (behind_reply start)) ended further messages (λ so_many. refl) on)
            (λ response. next_say sent (goes_on_kept start request response) start.bytes (next (behind_reply (behind_reply start))) ended further messages (λ so_many. refl) on)),
      )

  -- ---- it goes to its server

  module _ (up : Option ℕ) (request : Request) (come : ℕ) (message : ℕ → List (Timed Event) → Came) (further : Start → List Command) (messages : Start → List Came) (bytes : ℕ)
      (says : (server : ℕ) (exchange : Exchange) → exchange.request ≡ request → exchange.up ≡ up → exchange.served.server ≡ server → exchange.served.went ≡ come →
      SaysCame terms.place (commands.Send (Server server) (text_up terms exchange (until (ends_at events exchange) events))) (message server (until (ends_at events exchange) events)))
      (on : (next : Start) (found : Option ℕ) → sent_by up (until found events) ≡ true → next.bytes ≡ bytes → Say (further next) (messages next)) where
    answered_say : (start : Start) → start.bytes ≡ bytes → (replies : List Reply) → Say (said_answered terms events start up request come replies further) (came_answered terms events start up request come replies message messages)
    answered_say start same [] = tt
    answered_say start same (reply.Dialled ∷ replies) =
        let exchange : Exchange = record { request = request; up = up; served = record { server = start.server; opened = come; used = 0; went = come } } in
        exchange_say (record start { server = start.server + 1; replies = replies }) exchange (message start.server) further messages
        (says start.server exchange refl refl refl refl) (λ next sent behind. on next (ends_at events exchange) sent (behind ∙ same))
    answered_say start same (reply.Refused fault ∷ replies) = fault_say terms.place fault (is_head request.method) []
    answered_say start same (reply.Go given allowed ∷ replies) = tt
    answered_say start same (reply.Respond response ∷ replies) = tt
    answered_say start same (reply.Kill ∷ replies) = tt
    answered_say start same (reply.Discard ∷ replies) = tt

    to_say : (start : Start) → start.bytes ≡ bytes → (side : Option ℕ) → Say (said_to terms events start up request come side further) (came_to terms events start up request come side message messages)
    to_say start same None = dial_say (came_answered terms events start up request come start.replies message messages) (answered_say start same start.replies)
      where
        dial_say : (list : List Came) → Say (said_answered terms events start up request come start.replies further) list →
            Say (said_to terms events start up request come None further) list
        dial_say [] say = (tt, say)
        dial_say (first ∷ list) say = inl (tt, say)
    to_say start same (Some server) =
        let exchange : Exchange = record { request = request; up = up; served = record { server = server; opened = start.opened; used = start.used; went = come } } in
        exchange_say start exchange (message server) further messages
        (says server exchange refl refl refl refl) (λ next sent behind. on next (ends_at events exchange) sent (behind ∙ same))

  -- ---- a request

  streams_head : (allowed : Option ℕ) (heard : ℕ) (head : Option RequestHead) → streams_behind request_says head allowed heard ≡ true → (own : RequestHead) × (head ≡ Some own)
  streams_head allowed heard None is = absurd (let no : false ≡ true = is in cc)
  streams_head allowed heard (Some own) is = (own, refl)

  some_same : (a b : RequestHead) → Some a ≡ Some b → a ≡ b
  some_same a b is = cc

  -- what is whole over a part of the events is whole
  whole_item : (item all : Item RequestHead) → is_whole item ≡ true → (is_decided item ≡ true → all ≡ item) → all ≡ item
  whole_item missing all is stays = absurd (let no : false ≡ true = is in cc)
  whole_item (part head body) all is stays = absurd (let no : false ≡ true = is in cc)
  whole_item (complete head body trailers used) all is stays = stays refl
  whole_item (bad_head fault) all is stays = absurd (let no : false ≡ true = is in cc)
  whole_item (bad_body fault head body) all is stays = absurd (let no : false ≡ true = is in cc)

  module _ (start : Start) (head : RequestHead) (made : Request) (is : judged terms.place head ≡ Accepted made) (further : Start → List Command) (messages : Start → List Came) where
    abbrev bytes : List ℕ
    bytes = client_bytes events start.bytes

    module _ (there : head_in (request_item bytes) ≡ Some head)
        (on : (next : Start) → is_whole (request_item bytes) ≡ true → next.bytes ≡ used_by (request_item bytes) start.bytes → Say (further next) (messages next)) where
      -- one that is streamed
      up_say : (allowed : Option ℕ) (come : ℕ) (begin : Start) → begin.bytes ≡ start.bytes → goes_up_over begin allowed (take come events) ≡ true →
          Say (said_way true terms events begin made (request_item bytes) come further) (came_way true terms events begin head made (request_item bytes) come messages)
      up_say allowed come begin same streams =
          to_say (Some begin.bytes) (streamed_request made) come (λ server heard. a_request_coming server head (client_bytes heard begin.bytes)) further messages (used_by (request_item bytes) begin.bytes)
          (λ server exchange asked up to went.
          let heard = until (ends_at events exchange) events in
          let read = streams_head allowed _ (head_in (request_item (client_bytes (take come events) begin.bytes))) streams in
          let F : ℕ → Type 0 = λ n. IsFront (take n events) heard in
          let front : IsFront (take come events) heard =
          subst F went (front_by (λ k. ends_over exchange (take k events)) exchange.served.went (length events + 1) events (ends_at events exchange) refl) in
          let later : head_in (request_item (client_bytes heard begin.bytes)) ≡ Some read.0 = (carried begin.bytes (take come events) heard front).head read.0 read.1 in
          let all : head_in (request_item (client_bytes events begin.bytes)) ≡ Some read.0 = (carried begin.bytes (take come events) events (front_of_more come events)).head read.0 read.1 in
          let own : read.0 ≡ head = some_same read.0 head (sym all ∙ (ap (λ n. head_in (request_item (client_bytes events n))) same ∙ there)) in
          let text_so : text_up terms exchange heard ≡ text_by terms (streamed_request made) (Some begin.bytes) heard =
          ap (λ r. text_by terms r exchange.up heard) asked ∙ ap (λ u. text_by terms (streamed_request made) u heard) up in
          let P : List ℕ → Type 0 = λ t. SaysCame terms.place (commands.Send (Server server) t) (a_request_coming server head (client_bytes heard begin.bytes)) in
          subst P (sym text_so) (refl, streams_request stays terms.place head made is (client_bytes heard begin.bytes) (later ∙ ap Some own)))
          (λ next found sent behind.
          let item = whole_item (request_item (client_bytes (until found events) begin.bytes)) (request_item (client_bytes events begin.bytes)) sent
          (carried begin.bytes (until found events) events (until_front found events)).stays in
          let whole_all : is_whole (request_item bytes) ≡ true =
          ap (λ n. is_whole (request_item (client_bytes events n))) (sym same) ∙ (ap is_whole item ∙ sent) in
          on next whole_all (behind ∙ ap (used_by (request_item bytes)) same))
          (record begin { bytes = used_by (request_item bytes) begin.bytes }) refl (side_over terms.place begin made (take come events))

      -- and one that is kept
      kept_up_say : (come : ℕ) (begin : Start) → begin.bytes ≡ start.bytes → (item : Item RequestHead) → request_item bytes ≡ item →
          Say (said_way false terms events begin made item come further) (came_way false terms events begin head made item come messages)
      kept_up_say come begin same missing item = tt
      kept_up_say come begin same (part own body) item = tt
      kept_up_say come begin same (complete own body trailers used) item =
          let all = whole_request made body trailers in
          let goes = accepted terms.place head made is in
          let heads : own ≡ head = some_same own head (sym (ap head_in item) ∙ there) in
          to_say None all come (λ server heard. whole (a_request server own body trailers)) further messages (begin.bytes + used)
          (λ server exchange asked up to went.
          let heard = until (ends_at events exchange) events in
          let text_so : text_up terms exchange heard ≡ onward_text (form_at terms.place) all =
          ap (λ r. text_by terms r exchange.up heard) asked ∙ ap (λ u. text_by terms all u heard) up in
          let whole_is : request_item bytes ≡ complete head body trailers used = item ∙ ap (λ h. complete h body trailers used) heads in
          let P : List ℕ → RequestHead → Type 0 = λ t h. SaysCame terms.place (commands.Send (Server server) t) (whole (a_request server h body trailers)) in
          let M : Request → Type 0 = λ r. P (onward_text (form_at terms.place) (whole_request r body trailers)) head in
          let says : M made = subst M goes.is (refl, says_made terms.place bytes head body trailers used whole_is goes.address goes.path goes.no_connect goes.goal) in
          subst (λ t. P t own) (sym text_so) (subst (P (onward_text (form_at terms.place) all)) (sym heads) says))
          (λ next found sent behind. on next (ap is_whole item) (behind ∙ (ap (λ n. n + used) same ∙ sym (ap (λ i. used_by i start.bytes) item))))
          (behind_reply (record begin { bytes = begin.bytes + used })) refl (side_over terms.place begin all (take come events))
      kept_up_say come begin same (bad_head fault) item = tt
      kept_up_say come begin same (bad_body fault own body) item = fault_say terms.place fault (is_head made.method) []

      way_say : (streams : Bool) (allowed : Option ℕ) (come : ℕ) (begin : Start) → begin.bytes ≡ start.bytes → goes_up_over begin allowed (take come events) ≡ streams →
          Say (said_way streams terms events begin made (request_item bytes) come further) (came_way streams terms events begin head made (request_item bytes) come messages)
      way_say true allowed come begin same streams = up_say allowed come begin same streams
      way_say false allowed come begin same streams = kept_up_say come begin same (request_item bytes) refl

      request_say : (allowed : Option ℕ) (begin : Start) → begin.bytes ≡ start.bytes → (found : Option ℕ) →
          Say (said_request terms events begin made allowed (request_item bytes) found further) (came_request terms events begin head made allowed (request_item bytes) found messages)
      request_say allowed begin same None = tt
      request_say allowed begin same (Some come) = way_say (goes_up_over begin allowed (take come events)) allowed come begin same refl

  judged_say : (start : Start) (head : RequestHead) (made : Judged) → judged terms.place head ≡ made → (further : Start → List Command) (messages : Start → List Came) →
      let item = request_item (client_bytes events start.bytes) in
      head_in item ≡ Some head →
      ((next : Start) (request : Request) → judged terms.place head ≡ Accepted request → is_whole item ≡ true → next.bytes ≡ used_by item start.bytes → Say (further next) (messages next)) →
      Say (said_head terms events start head made item further) (came_judged terms events start head made item messages)
  judged_say start head (Refused fault) is further messages there on = fault_say terms.place fault (is_head head.method) []
  judged_say start head (Connects address) is further messages there on = tt
  judged_say start head (Accepted request) is further messages there on =
      own_before terms.place (meets_expectation (expects head)) _ _ (expectation_own (expects head))
      (request_say start head request is further messages there (λ next. on next request is) (next_allows terms start.replies) (behind_reply start) refl _)

  by_item : (start : Start) (item : Item RequestHead) → request_item (client_bytes events start.bytes) ≡ item → (head : RequestHead) → head_in item ≡ Some head →
      (further : Start → List Command) (messages : Start → List Came) →
      ((next : Start) (own : RequestHead) (request : Request) → head_in item ≡ Some own → judged terms.place own ≡ Accepted request → is_whole item ≡ true → next.bytes ≡ used_by item start.bytes →
      Say (further next) (messages next)) →
      Say (said_head terms events start head (judged terms.place head) item further) (came_judged terms events start head (judged terms.place head) item messages)
  by_item start item is head there further messages on =
      let P : Item RequestHead → Type 0 = λ i.
      head_in i ≡ Some head →
      ((next : Start) (own : RequestHead) (request : Request) → head_in i ≡ Some own → judged terms.place own ≡ Accepted request → is_whole i ≡ true → next.bytes ≡ used_by i start.bytes →
      Say (further next) (messages next)) →
      Say (said_head terms events start head (judged terms.place head) i further) (came_judged terms events start head (judged terms.place head) i messages) in
      let first : P (request_item (client_bytes events start.bytes)) = λ own then_on.
      judged_say start head (judged terms.place head) refl further messages own (λ next request made. then_on next head request own made) in
      subst P is first there on

  start_say : (start : Start) (item : Item RequestHead) → request_item (client_bytes events start.bytes) ≡ item → (further : Start → List Command) (messages : Start → List Came) →
      ((next : Start) (head : RequestHead) (request : Request) → head_in item ≡ Some head → judged terms.place head ≡ Accepted request → is_whole item ≡ true → next.bytes ≡ used_by item start.bytes →
      Say (further next) (messages next)) →
      Say (said_start terms events start (head_in item) item further) (came_start terms events start (head_in item) item messages)
  start_say start missing is further messages on = tt
  start_say start (bad_head fault) is further messages on = fault_say terms.place fault false []
  start_say start (part head body) is further messages on = by_item start (part head body) is head refl further messages on
  start_say start (complete head body trailers used) is further messages on = by_item start (complete head body trailers used) is head refl further messages on
  start_say start (bad_body fault head body) is further messages on = by_item start (bad_body fault head body) is head refl further messages on

  -- behind a whole request that is accepted stand those behind its bytes
  after_behind : (start : Start) (head : RequestHead) (request : Request) → judged terms.place head ≡ Accepted request → (item : Item RequestHead) → request_item (client_bytes events start.bytes) ≡ item →
      head_in item ≡ Some head → is_whole item ≡ true → items_after (client_bytes events start.bytes) ≡ request_items (client_bytes events (used_by item start.bytes))
  after_behind start head request made missing is there all = absurd (let no : false ≡ true = all in cc)
  after_behind start head request made (part own body) is there all = absurd (let no : false ≡ true = all in cc)
  after_behind start head request made (complete own body trailers used) is there all =
      let same : own ≡ head = some_same own head there in
      after_on terms.place (client_bytes events start.bytes) head body trailers used request (is ∙ ap (λ h. complete h body trailers used) same) made
      ∙ ap (λ l. request_items l) (drop-drop used start.bytes (bytes_of Client events))
  after_behind start head request made (bad_head fault) is there all = absurd (let no : false ≡ true = all in cc)
  after_behind start head request made (bad_body fault own body) is there all = absurd (let no : false ≡ true = all in cc)

  -- ---- the closed form

  list_say : (flows : ℕ) (start : Start) →
      Say (sent_from terms events start (take flows (request_items (client_bytes events start.bytes)))) (came_from terms events start (take flows (request_items (client_bytes events start.bytes))))
  list_say zero start = tt
  list_say (suc flows) start =
      let bytes = client_bytes events start.bytes in
      let item = request_item bytes in
      let after = items_after bytes in
      let P : List (Item RequestHead) → Type 0 = λ l. Say (sent_from terms events start (take (suc flows) l)) (came_from terms events start (take (suc flows) l)) in
      let one : P (item ∷ after) =
      start_say start item refl (λ next. sent_from terms events next (take flows after)) (λ next. came_from terms events next (take flows after))
      (λ next head request there made all behind.
      let N : List (Item RequestHead) → Type 0 = λ l. Say (sent_from terms events next (take flows l)) (came_from terms events next (take flows l)) in
      subst N (sym (after_behind start head request made item refl there all ∙ ap (λ n. request_items (client_bytes events n)) (sym behind))) (list_say flows next)) in
      subst P (sym (items_split bytes)) one

-- The texts that are sent say what was read.
pub all_came : StreamedStays → (terms : Terms) (events : List (Timed Event)) (start : Start) (flows : ℕ) →
    SayWhatCame terms.place (sent_of_flows terms events start flows) (messages_came terms events start flows)
all_came stays terms events start flows = list_say stays terms events flows start
