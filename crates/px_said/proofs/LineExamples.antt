-- What is sent of small streams over any size: a request and a response that are streamed both at once; a streamed request that is at fault before a
-- byte of its response; a streamed request whose response is whole before it; and two requests one behind the other, of which the second one goes to the
-- side that was kept behind the first, or is dialled for.
use Rattle.std.proofs.Common.{◌≡◌, ℕ, ◌+◌, true, false, drop, Option, Some, None, List, [], ◌∷◌, ◌++◌, refl, ap, ◌∙◌}
use Rattle.std.specs.Prelude.{◌&&◌, ◌==◌, not, take}
use Rattle.px_message.specs.declared.fault.Fault.{Fault}
use Rattle.px_message.specs.declared.request.Request.{Request}
use Rattle.px_message.specs.declared.response.Response.{Response}
use Rattle.px_event.specs.declared.command.Command.{Command}
use Rattle.px_event.specs.declared.command.Command.TheVariants as commands
use Rattle.px_event.specs.declared.event.Event.{Event}
use Rattle.px_event.specs.declared.reply.Reply.{Reply}
use Rattle.px_event.specs.declared.reply.Reply.TheVariants as reply
use Rattle.px_event.specs.declared.side.Side.TheVariants.{Client, Server}
use Rattle.px_event.specs.Chain.{Timed}
use Rattle.px_read.specs.Items.{Answers, Body, Item, complete, missing, part, request_item}
use Rattle.px_read.specs.Laws.{head_in}
use Rattle.px_read.specs.declared.head.RequestHead.{RequestHead}
use Rattle.px_read.specs.declared.head.ResponseHead.{ResponseHead}
use Rattle.px_exchange.specs.declared.asked.Judged.TheVariants.{Accepted}
use Rattle.px_exchange.specs.Endings.{connection_goes_on}
use Rattle.px_exchange.specs.Finds.{is_relayed}
use Rattle.px_exchange.specs.declared.terms.Terms.{Terms}
use Rattle.px_exchange.specs.Places.{dialled_for, form_at, is_same_address, server_for}
use Rattle.px_exchange.specs.Requests.{expects, is_head, is_http11, judged}
use Rattle.px_exchange.specs.Texts.{interim_commands, onward_text, returned_text, sends_on}
use Rattle.px_chain.specs.Going.{allowed_up_by}
use Rattle.px_chain.specs.Stages.{Parked}
use Rattle.px_said.specs.ClosedForm.{Told, fault_said, is_whole, parked_behind, said_behind, said_relayed, still_parked, told_by, whole_request, whole_response}
use Rattle.px_said.specs.Lines.{Exchange, Start, answers_to, behind_reply, client_bytes, comes_down, ends_at, fault_up, goes_on_at, goes_on_kept, goes_on_streamed, goes_up_over, heard_of, is_sent_over, next_allows, next_start, once_whole, said_down, said_exchange, said_response, sent_from, side_over, streamed_request, text_down, text_up, until}

module _ (terms : Terms) (events : List (Timed Event)) (head : RequestHead) (body : Body) (request : Request) (first second : Reply) (most more : ℕ) (come : ℕ) (answer : ResponseHead) (its : Body) where
  -- the request stands at the front; its head's hook is answered, its dial, and the hook of the response's head
  abbrev front : Start
  front = record { flow = 0; server = 0; bytes = 0; events = 0; replies = first ∷ reply.Dialled ∷ second ∷ []; parked = None; opened = 0; used = 0 }

  abbrev on : Start
  on = record front { replies = reply.Dialled ∷ second ∷ [] }

  -- it goes to server 0 over so many events, as it comes
  abbrev exchange : Exchange
  exchange = record { request = streamed_request request; up = Some 0; served = record { server = 0; opened = come; used = 0; went = come } }

  abbrev dial : Command
  dial = commands.Dial 0 (dialled_for terms.place (streamed_request request)) None

  abbrev goes_out : List (Timed Event) → Command
  goes_out heard = commands.Send (Server 0) (text_up terms exchange heard)

  abbrev comes_back : List (Timed Event) → Command
  comes_back heard = commands.Send Client (text_down (streamed_request request) (heard_of exchange heard) (Some answer))

  abbrev final_alone : Item ResponseHead → Answers
  final_alone item = record { interim = []; used = 0; final = item }

  -- behind its response
  abbrev goes_further : Start → Answers → (Start → List Command) → ℕ → List Command
  goes_further start answers further ended = further (next_start terms.place start exchange.served (streamed_request request) answers ended)

  -- what is said of the exchange, where these are the answers over all that is heard of it, and the final one is streamed
  streamed_down : (found : Option ℕ) (answers : Answers) (further : Start → List Command) →
      let heard = until found events in
      let told = heard_of exchange heard in
      let start = record on { server = 1; bytes = 0; replies = second ∷ [] } in
      ends_at events exchange ≡ found → answers_to (streamed_request request) told ≡ answers → head_in answers.final ≡ Some answer → is_http11 request.version ≡ true → answers.interim ≡ [] →
      allowed_up_by terms.streams second ≡ Some more → comes_down (Some more) (is_head request.method) told (Some answer) ≡ true →
      said_exchange terms events start exchange further
      ≡ goes_out heard ∷ comes_back heard ∷ once_whole answers.final
      (λ h. said_behind (is_sent_over exchange heard && goes_on_streamed start (streamed_request request) h) found (goes_further (behind_reply start) answers further))
  streamed_down found answers further ended final there version none allows down =
      let heard = until found events in
      let told = heard_of exchange heard in
      let asked_head = is_head request.method in
      let start = record on { server = 1; bytes = 0; replies = second ∷ [] } in
      let fault = fault_up exchange heard in
      let streamed : Option ℕ → Answers → ResponseHead → List Command = λ e a h. said_behind (is_sent_over exchange (until e events) && goes_on_streamed start (streamed_request request) h) e (goes_further (behind_reply start) a further) in
      let kept : Option ℕ → Answers → Response → List Command = λ e a r. said_behind (is_sent_over exchange (until e events) && goes_on_kept start (streamed_request request) r) e (goes_further (behind_reply (behind_reply start)) a further) in
      ap (λ e. goes_out (until e events) ∷ (interim_commands (streamed_request request) (answers_to (streamed_request request) (heard_of exchange (until e events))).interim
      ++ said_response (next_allows terms start.replies) (streamed_request request) (heard_of exchange (until e events)) (fault_up exchange (until e events)) (streamed e (answers_to (streamed_request request) (heard_of exchange (until e events)))) (kept e (answers_to (streamed_request request) (heard_of exchange (until e events)))))) ended
      ∙ (ap (λ (a : Answers). goes_out heard ∷ (interim_commands (streamed_request request) a.interim
      ++ said_down (comes_down (allowed_up_by terms.streams second) asked_head told (head_in a.final)) (streamed_request request) told a.final fault (streamed found a) (kept found a))) final
      ∙ (ap (λ l. goes_out heard ∷ (interim_commands (streamed_request request) l
      ++ said_down (comes_down (allowed_up_by terms.streams second) asked_head told (head_in answers.final)) (streamed_request request) told answers.final fault (streamed found answers) (kept found answers))) none
      ∙ (ap (λ b. goes_out heard ∷ (sends_on b []
      ++ said_down (comes_down (allowed_up_by terms.streams second) asked_head told (head_in answers.final)) (streamed_request request) told answers.final fault (streamed found answers) (kept found answers))) version
      ∙ (ap (λ o. goes_out heard ∷ said_down (comes_down o asked_head told (head_in answers.final)) (streamed_request request) told answers.final fault (streamed found answers) (kept found answers)) allows
      ∙ (ap (λ h. goes_out heard ∷ said_down (comes_down (Some more) asked_head told h) (streamed_request request) told answers.final fault (streamed found answers) (kept found answers)) there
      ∙ (ap (λ b. goes_out heard ∷ said_down b (streamed_request request) told answers.final fault (streamed found answers) (kept found answers)) down
      ∙ ap (λ h. goes_out heard ∷ commands.Send Client (text_down (streamed_request request) told h) ∷ once_whole answers.final (streamed found answers)) there))))))

  -- Neither message is whole: the server has what came of the request, and the client what came of the response.
  pub both_at_once : judged terms.place head ≡ Accepted request → expects head ≡ false → allowed_up_by terms.streams first ≡ Some most → allowed_up_by terms.streams second ≡ Some more →
      goes_on_at events on (Some most) ≡ Some come → goes_up_over on (Some most) (take come events) ≡ true →
      ends_at events exchange ≡ None → answers_to (streamed_request request) (heard_of exchange events) ≡ final_alone (part answer its) → is_http11 request.version ≡ true →
      comes_down (Some more) (is_head request.method) (heard_of exchange events) (Some answer) ≡ true →
      sent_from terms events front (part head body ∷ []) ≡ dial ∷ goes_out events ∷ comes_back events ∷ []
  both_at_once accepted waits allows too found up ended final version down =
      rw accepted (rw waits (rw allows (rw found (rw up (ap (λ l. dial ∷ l) (streamed_down None (final_alone (part answer its)) (λ next. []) ended final refl version refl too down))))))

  -- What comes of the request is at fault before a byte of its response: that ends it, and the client hears so.
  pub fault_first : (fault : Fault) (end : ℕ) → judged terms.place head ≡ Accepted request → expects head ≡ false → allowed_up_by terms.streams first ≡ Some most →
      goes_on_at events on (Some most) ≡ Some come → goes_up_over on (Some most) (take come events) ≡ true →
      ends_at events exchange ≡ Some end → answers_to (streamed_request request) (heard_of exchange (take end events)) ≡ final_alone missing → is_http11 request.version ≡ true →
      fault_up exchange (take end events) ≡ Some fault →
      sent_from terms events front (part head body ∷ []) ≡ dial ∷ goes_out (take end events) ∷ fault_said fault (is_head request.method)
  fault_first fault end accepted waits allows found up ended final version bad =
      rw accepted (rw waits (rw allows (rw found (rw up (rw ended (rw final (rw version (rw bad refl))))))))

  -- Its response is whole before it is: no more of it is sent, and nothing stands behind that.
  pub early_response : (trailers : List (List ℕ × List ℕ)) (size end : ℕ) → judged terms.place head ≡ Accepted request → expects head ≡ false →
      allowed_up_by terms.streams first ≡ Some most → allowed_up_by terms.streams second ≡ Some more →
      goes_on_at events on (Some most) ≡ Some come → goes_up_over on (Some most) (take come events) ≡ true →
      ends_at events exchange ≡ Some end → answers_to (streamed_request request) (heard_of exchange (take end events)) ≡ final_alone (complete answer its trailers size) →
      is_http11 request.version ≡ true → comes_down (Some more) (is_head request.method) (heard_of exchange (take end events)) (Some answer) ≡ true →
      is_whole (request_item (client_bytes (take end events) 0)) ≡ false →
      sent_from terms events front (part head body ∷ []) ≡ dial ∷ goes_out (take end events) ∷ comes_back (take end events) ∷ []
  early_response trailers size end accepted waits allows too found up ended final version down unfinished =
      let start = record on { server = 1; bytes = 0; replies = second ∷ [] } in
      let further : Start → List Command = λ next. sent_from terms events next [] in
      rw accepted (rw waits (rw allows (rw found (rw up (ap (λ l. dial ∷ l)
      (streamed_down (Some end) (final_alone (complete answer its trailers size)) further ended final refl version refl too down
      ∙ ap (λ b. goes_out (take end events) ∷ comes_back (take end events)
      ∷ said_behind (b && goes_on_streamed start (streamed_request request) answer) (Some end) (goes_further (behind_reply start) (final_alone (complete answer its trailers size)) further)) unfinished))))))

-- ---- two requests, one behind the other: the first one and its response are kept until they are whole

module _ (terms : Terms) (events : List (Timed Event)) (h1 h2 : RequestHead) (b1 b2 rb : Body) (r1 r2 : Request) (rh : ResponseHead) (go : Reply) (more : List Reply) (u1 n o1 e1 o2 : ℕ) where
  abbrev one : Request
  one = whole_request r1 b1 []

  -- the first one's head, its body, its dial, and its response's head and body are answered
  abbrev at_one : Start
  at_one = record { flow = 0; server = 0; bytes = 0; events = 0; replies = go ∷ go ∷ reply.Dialled ∷ go ∷ go ∷ more; parked = None; opened = 0; used = 0 }

  abbrev behind_one : Parked
  behind_one = record { server = 0; address = server_for terms.place one }

  abbrev at_two : Option Parked → Start
  at_two parked = record { flow = 1; server = 1; bytes = 0 + u1; events = e1; replies = more; parked = parked; opened = o1; used = 0 + 0 + n }

  abbrev dials : ℕ → Request → Command
  dials server request = commands.Dial server (dialled_for terms.place request) None

  abbrev goes_to : ℕ → Request → Command
  goes_to server request = commands.Send (Server server) (onward_text (form_at terms.place) request)

  abbrev answers_one : Command
  answers_one = commands.Send Client (returned_text one (whole_response rh rb []))

  abbrev only : Item ResponseHead → Answers
  only item = record { interim = []; used = 0; final = item }

  -- what went to this server, heard behind so many events and bytes
  abbrev went_to : Request → Option ℕ → ℕ → ℕ → ℕ → Exchange
  went_to request up server opened used = record { request = request; up = up; served = record { server = server; opened = opened; used = used; went = o2 } }

  -- The first one is dialled for, and its response comes back; what is said of the second one stands behind that.
  pub record FirstSaid (parked : Option Parked) : Type 0 where
    pub so : (items : List (Item RequestHead)) →
        sent_from terms events at_one (complete h1 b1 [] u1 ∷ items) ≡ dials 0 one ∷ goes_to 0 one ∷ answers_one ∷ sent_from terms events (at_two parked) items

  abbrev to_one : Exchange
  to_one = record { request = one; up = None; served = record { server = 0; opened = o1; used = 0; went = o1 } }

  abbrev told_one : Told
  told_one = told_by (take e1 events) 0 o1 0

  -- its dial was answered
  abbrev dialled_one : Start
  dialled_one = record { flow = 0; server = 1; bytes = 0 + u1; events = 0; replies = go ∷ go ∷ more; parked = None; opened = 0; used = 0 }

  came_back : (parked : Option Parked) (further : Start → List Command) → allowed_up_by terms.streams go ≡ None → ends_at events to_one ≡ Some e1 →
      answers_to one told_one ≡ only (complete rh rb [] n) → is_http11 r1.version ≡ true → is_relayed rh.code ≡ true → comes_down None (is_head r1.method) told_one (Some rh) ≡ false →
      (rh.code == 101) ≡ false → connection_goes_on 0 one (whole_response rh rb []) ≡ true → parked_behind terms.place one (complete rh rb [] n) 0 ≡ parked →
      said_exchange terms events dialled_one to_one further ≡ goes_to 0 one ∷ answers_one ∷ further (at_two parked)
  came_back parked further allows ended final version relays down other stays is =
      let start = dialled_one in
      let response = whole_response rh rb [] in
      let on : Answers → Start → ℕ → List Command = λ a from so_many. further (next_start terms.place from to_one.served one a so_many) in
      let streamed : Option ℕ → Answers → ResponseHead → List Command = λ e a h. said_behind (goes_on_streamed start one h) e (on a (behind_reply start)) in
      let kept : Option ℕ → Answers → Response → List Command = λ e a r. said_behind (goes_on_kept start one r) e (on a (behind_reply (behind_reply start))) in
      let all = only (complete rh rb [] n) in
      ap (λ e. goes_to 0 one ∷ (interim_commands one (answers_to one (heard_of to_one (until e events))).interim
      ++ said_response (allowed_up_by terms.streams go) one (heard_of to_one (until e events)) None (streamed e (answers_to one (heard_of to_one (until e events))))
      (kept e (answers_to one (heard_of to_one (until e events)))))) ended
      ∙ (ap (λ m. goes_to 0 one ∷ (interim_commands one (answers_to one told_one).interim
      ++ said_response m one told_one None (streamed (Some e1) (answers_to one told_one)) (kept (Some e1) (answers_to one told_one)))) allows
      ∙ (ap (λ (a : Answers). goes_to 0 one ∷ (interim_commands one a.interim
      ++ said_down (comes_down None (is_head r1.method) told_one (head_in a.final)) one told_one a.final None (streamed (Some e1) a) (kept (Some e1) a))) final
      ∙ (ap (λ b. goes_to 0 one ∷ (sends_on b []
      ++ said_down (comes_down None (is_head r1.method) told_one (Some rh)) one told_one (complete rh rb [] n) None (streamed (Some e1) all) (kept (Some e1) all))) version
      ∙ (ap (λ b. goes_to 0 one ∷ said_down b one told_one (complete rh rb [] n) None (streamed (Some e1) all) (kept (Some e1) all)) down
      ∙ (ap (λ b. goes_to 0 one ∷ said_relayed b one (answers_one ∷ kept (Some e1) all response)) relays
      ∙ (ap (λ b. goes_to 0 one ∷ answers_one ∷ said_behind (not b && connection_goes_on 0 one response) (Some e1) (on all (behind_reply (behind_reply start)))) other
      ∙ (ap (λ b. goes_to 0 one ∷ answers_one ∷ said_behind b (Some e1) (on all (behind_reply (behind_reply start)))) stays
      ∙ ap (λ p. goes_to 0 one ∷ answers_one ∷ further (at_two p)) is)))))))

  pub first_said : (parked : Option Parked) → judged terms.place h1 ≡ Accepted r1 → expects h1 ≡ false → allowed_up_by terms.streams go ≡ None → goes_on_at events at_one None ≡ Some o1 →
      goes_up_over at_one None (take o1 events) ≡ false → ends_at events to_one ≡ Some e1 → answers_to one told_one ≡ only (complete rh rb [] n) → is_http11 r1.version ≡ true →
      is_relayed rh.code ≡ true → comes_down None (is_head r1.method) told_one (Some rh) ≡ false → (rh.code == 101) ≡ false → connection_goes_on 0 one (whole_response rh rb []) ≡ true →
      parked_behind terms.place one (complete rh rb [] n) 0 ≡ parked → FirstSaid parked
  first_said parked accepted waits allows found kept ended final version relays down other stays is = record {
    so = λ items.
        rw accepted (rw waits (rw allows (rw found (rw kept
        (ap (λ l. dials 0 one ∷ l) (came_back parked (λ next. sent_from terms events next items) allows ended final version relays down other stays is))))));
  }

  -- ---- the second one

  abbrev next : Option Parked → Start
  next parked = record (at_two parked) { replies = drop 1 more }

  abbrev two : Request
  two = whole_request r2 b2 []

  abbrev both : ℕ → List (Item RequestHead)
  both u2 = complete h1 b1 [] u1 ∷ complete h2 b2 [] u2 ∷ []

  -- The side that was kept behind the first one, while nothing more was heard of it, at this address
  pub kept_side : still_parked (take o2 events) (Some behind_one) o1 (0 + 0 + n) ≡ Some behind_one → is_same_address (server_for terms.place one) (server_for terms.place two) ≡ true →
      side_over terms.place (next (Some behind_one)) two (take o2 events) ≡ Some 0
  kept_side parked same = rw parked (rw same refl)

  -- and at another one, or behind a byte of it or its close, or where it was not kept, none
  pub other_side : still_parked (take o2 events) (Some behind_one) o1 (0 + 0 + n) ≡ Some behind_one → is_same_address (server_for terms.place one) (server_for terms.place two) ≡ false →
      side_over terms.place (next (Some behind_one)) two (take o2 events) ≡ None
  other_side parked same = rw parked (rw same refl)

  pub stray_byte : still_parked (take o2 events) (Some behind_one) o1 (0 + 0 + n) ≡ None → side_over terms.place (next (Some behind_one)) two (take o2 events) ≡ None
  stray_byte parked = rw parked refl

  pub never_kept : side_over terms.place (next None) two (take o2 events) ≡ None
  never_kept = refl

  module _ (parked : Option Parked) (said : FirstSaid parked) (u2 : ℕ) (accepted : judged terms.place h2 ≡ Accepted r2) (waits : expects h2 ≡ false) where
    -- To the kept side it goes behind the bytes of the first response, and nothing is dialled.
    pub one_dial : next_allows terms more ≡ None → goes_on_at events (next parked) None ≡ Some o2 → goes_up_over (next parked) None (take o2 events) ≡ false →
        side_over terms.place (next parked) two (take o2 events) ≡ Some 0 → ends_at events (went_to two None 0 o1 (0 + 0 + n)) ≡ None →
        answers_to two (told_by events 0 o1 (0 + 0 + n)) ≡ only missing → is_http11 r2.version ≡ true →
        sent_from terms events at_one (both u2) ≡ dials 0 one ∷ goes_to 0 one ∷ answers_one ∷ goes_to 0 two ∷ []
    one_dial allows found kept side ended final version =
        said.so (complete h2 b2 [] u2 ∷ []) ∙ ap (λ l. dials 0 one ∷ goes_to 0 one ∷ answers_one ∷ l)
        (rw accepted (rw waits (rw allows (rw found (rw kept (rw side (rw ended (rw final (rw version refl)))))))))

    -- and else its server is dialled
    pub two_dials : (replies : List Reply) → more ≡ go ∷ go ∷ reply.Dialled ∷ replies → allowed_up_by terms.streams go ≡ None → goes_on_at events (next parked) None ≡ Some o2 →
        goes_up_over (next parked) None (take o2 events) ≡ false → side_over terms.place (next parked) two (take o2 events) ≡ None →
        ends_at events (went_to two None 1 o2 0) ≡ None → answers_to two (told_by events 1 o2 0) ≡ only missing → is_http11 r2.version ≡ true →
        sent_from terms events at_one (both u2) ≡ dials 0 one ∷ goes_to 0 one ∷ answers_one ∷ dials 1 two ∷ goes_to 1 two ∷ []
    two_dials replies is allows found kept side ended final version =
        said.so (complete h2 b2 [] u2 ∷ []) ∙ ap (λ l. dials 0 one ∷ goes_to 0 one ∷ answers_one ∷ l)
        (rw accepted (rw waits (rw is (rw allows (rw found (rw kept (rw side (rw ended (rw final (rw version refl))))))))))

    -- One that is streamed goes up to the kept side, as far as it came.
    pub streamed_post : (most : ℕ) → next_allows terms more ≡ Some most → goes_on_at events (next parked) (Some most) ≡ Some o2 → goes_up_over (next parked) (Some most) (take o2 events) ≡ true →
        side_over terms.place (next parked) r2 (take o2 events) ≡ Some 0 → ends_at events (went_to (streamed_request r2) (Some (0 + u1)) 0 o1 (0 + 0 + n)) ≡ None →
        answers_to (streamed_request r2) (told_by events 0 o1 (0 + 0 + n)) ≡ only missing → is_http11 r2.version ≡ true → fault_up (went_to (streamed_request r2) (Some (0 + u1)) 0 o1 (0 + 0 + n)) events ≡ None →
        sent_from terms events at_one (complete h1 b1 [] u1 ∷ part h2 b2 ∷ [])
        ≡ dials 0 one ∷ goes_to 0 one ∷ answers_one ∷ commands.Send (Server 0) (text_up terms (went_to (streamed_request r2) (Some (0 + u1)) 0 o1 (0 + 0 + n)) events) ∷ []
    streamed_post most allows found up side ended final version good =
        said.so (part h2 b2 ∷ []) ∙ ap (λ l. dials 0 one ∷ goes_to 0 one ∷ answers_one ∷ l)
        (rw accepted (rw waits (rw allows (rw found (rw up (rw side (rw ended (rw final (rw version (rw good refl))))))))))
