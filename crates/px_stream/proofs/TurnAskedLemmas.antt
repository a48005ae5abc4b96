-- The turn of a stage is that of what it asks.
use Rattle.std.proofs.Common.{◌≡◌, ℕ, Bool, ◌&&◌, Option, Some, None, refl, ap, sym, ◌∙◌}
use Rattle.px_message.specs.declared.flow.Flow.{Flow}
use Rattle.px_message.specs.declared.request.Request.{Request}
use Rattle.px_message.specs.declared.response.Response.{Response}
use Rattle.px_event.specs.declared.command.Command.{Command}
use Rattle.px_event.specs.declared.reply.Reply.{Reply}
use Rattle.px_event.specs.Chain.{Timed, Turn}
use Rattle.px_read.specs.Items.{Item, missing, part, complete, bad_head, bad_body}
use Rattle.px_read.specs.Laws.{head_in}
use Rattle.px_read.specs.declared.head.RequestHead.{RequestHead as ReadRequest}
use Rattle.px_read.specs.declared.head.ResponseHead.{ResponseHead as ReadResponse}
use Rattle.px_exchange.specs.declared.asked.Judged.{Judged}
use Rattle.px_exchange.specs.declared.asked.Judged.TheVariants.{Refused, Accepted, Connects}
use Rattle.px_exchange.specs.declared.ending.Used.{Used}
use Rattle.px_exchange.specs.declared.taken.Taken.{Taken}
use Rattle.px_exchange.specs.declared.terms.Terms.{Terms}
use Rattle.px_exchange.specs.Endings.{sent_persists}
use Rattle.px_exchange.specs.Flows.{with_returned}
use Rattle.px_exchange.specs.Replies.{taken_at_body_of, taken_at_head_of, taken_at_response_body, taken_at_response_head}
use Rattle.px_exchange.specs.Requests.{judged}
use Rattle.px_chain.specs.Chain.{given_at, stops, turn, turn_answer, turn_body, turn_dial, turn_head, turn_judged, turn_response, turn_returned, turn_taken_answer, turn_taken_given, turn_taken_returned, turn_taken_whole, turns}
use Rattle.px_chain.specs.Coming.{allowed_by}
use Rattle.px_chain.specs.Keeping.{is_silent, keeps_side, unspoilt, unspoilt_at}
use Rattle.px_chain.specs.Sights.{Sight, answers_in, left_by_answers, request_in, server_in, server_parked}
use Rattle.px_chain.specs.Stages.{At, Doing, Sent, Stage, all_sent, busy, coming_down, connection, given_body, given_head, idle, next, over, place_of, request_body, response_body, response_head, upgraded}
use Rattle.px_stream.specs.declared.link.Link.{Link}
use Rattle.px_stream.specs.declared.phase.Asked.{Asked}
use Rattle.px_stream.specs.declared.phase.Asked.TheVariants as asked
use Rattle.px_stream.specs.Stands.{AskedSide, IsOpen, LinkEnds, answer_asked, asked_for, asked_in, bare, body_asked, head_asked, judged_asked, returned_asked, sent_asked, sent_at, sent_doing, whole_persists}
use Rattle.px_stream.specs.Turns.{asked_turn, keeps_on, taken_turn}
use Rattle.px_stream.proofs.AskLemmas.{asked_apart, used_of}

by_body : (o : Option Response) (answer : Reply) (goes : Taken Response → Turn Stage Command) →
    turn_response o (λ message. taken_at_response_body message answer) goes ≡ taken_turn (taken_at_body_of o answer) goes
by_body None answer goes = refl
by_body (Some message) answer goes = refl

by_head : (o : Option Response) (answer : Reply) (goes : Taken Response → Turn Stage Command) →
    turn_response o (λ message. taken_at_response_head message answer) goes ≡ taken_turn (taken_at_head_of o answer) goes
by_head None answer goes = refl
by_head (Some message) answer goes = refl

-- ---- whether the side is kept that was used

-- behind the whole response to this request, in this sight
abbrev keeps_at : Request → Sight → Item ReadResponse → Bool
keeps_at message seen item = is_silent (left_by_answers (answers_in message seen) seen.server) seen.shut && (sent_persists message && whole_persists message item)

ends_keeps : (message : Request) (server : ℕ) (seen : Sight) (side : Option Link) → IsOpen (LinkEnds message server (left_by_answers (answers_in message seen) seen.server) seen) side →
    keeps_on message side ≡ keeps_at message seen (answers_in message seen).final
ends_keeps message server seen None ends = absurd ends
ends_keeps message server seen (Some link) ends = rw (ends.keeps.rest, ends.keeps.closed, ends.lasts) refl

-- ---- how the request stands, told apart

module _ (terms : Terms) (side : Option Link) where
  abbrev turn_as : At → Sent → Asked → Sight → Used → Bool → Timed Reply → Turn Stage Command
  turn_as at sent (asked.Connection flow server up) seen used closed answer = turn_dial terms.place at flow sent answer closed
  turn_as at sent (asked.ResponseHead flow server up) seen used closed answer =
      taken_turn (taken_at_head_of flow.response answer.value) (λ taken. turn_taken_answer at flow server sent (allowed_by terms.streams answer.value) taken answer.moment used closed)
  turn_as at sent (asked.ResponseBody flow server up) seen used closed answer =
      taken_turn (taken_at_body_of flow.response answer.value) (λ taken. turn_taken_whole terms.place at flow server sent (keeps_on flow.request side) taken answer.moment used closed)
  turn_as at sent found seen used closed answer = asked_turn terms at found seen side used closed answer

  abbrev turned_as : At → Sent → Option Asked → Sight → Used → Bool → Timed Reply → Turn Stage Command
  turned_as at sent None seen used closed answer = stops
  turned_as at sent (Some found) seen used closed answer = turn_as at sent found seen used closed answer

  bare_as : (at : At) (found : Asked) (seen : Sight) (used : Used) (closed : Bool) (answer : Timed Reply) →
      turn_as at (sent_asked found) (bare found) seen used closed answer ≡ asked_turn terms at found seen side used closed answer
  bare_as at (asked.Idle flow expects) seen used closed answer = refl
  bare_as at (asked.RequestBody flow) seen used closed answer = refl
  bare_as at (asked.Connection flow server up) seen used closed answer = refl
  bare_as at (asked.ResponseHead flow server up) seen used closed answer = refl
  bare_as at (asked.ResponseBody flow server up) seen used closed answer = refl
  bare_as at (asked.GivenHead flow) seen used closed answer = refl
  bare_as at (asked.GivenBody flow) seen used closed answer = refl

-- where a parked side that is kept no more is forgotten
module _ (terms : Terms) (side : Option Link) (seen : Sight) (answer : Timed Reply) where
  abbrev Same : At → Sent → Used → Turn Stage Command → Option Asked → Type 0
  Same at sent used turned found = turned ≡ turned_as terms side at sent found seen used seen.closed answer

  judged_same : (at : At) (used : Used) (head : ReadRequest) (made : Judged) → Same at all_sent used (turn_judged terms at head made seen answer) (judged_asked terms at head made seen.now)
  judged_same at used head (Refused fault) = refl
  judged_same at used head (Accepted message) = refl
  judged_same at used head (Connects address) = refl

  head_same : (at : At) (used : Used) (item : Item ReadRequest) → Same at all_sent used (turn_head terms at item seen answer) (head_asked terms at (head_in item) seen.now)
  head_same at used missing = refl
  head_same at used (part head body) = judged_same at used head (judged terms.place head)
  head_same at used (complete head body trailers size) = judged_same at used head (judged terms.place head)
  head_same at used (bad_head fault) = refl
  head_same at used (bad_body fault head body) = judged_same at used head (judged terms.place head)

  body_same : (at : At) (used : Used) (flow : Flow) (item : Item ReadRequest) → Same at all_sent used (turn_body terms.place at flow item seen answer) (body_asked flow item seen.now)
  body_same at used flow missing = refl
  body_same at used flow (part head body) = refl
  body_same at used flow (complete head body trailers size) = refl
  body_same at used flow (bad_head fault) = refl
  body_same at used flow (bad_body fault head body) = refl

  answer_same : (at : At) (flow : Flow) (server : ℕ) (sent : Sent) (item : Item ReadResponse) →
      Same at sent (server_in server seen) (turn_answer terms at flow server sent item seen answer) (answer_asked flow server (head_in item) seen.now)
  answer_same at flow server sent missing = refl
  answer_same at flow server sent (part head body) = refl
  answer_same at flow server sent (complete head body trailers size) = refl
  answer_same at flow server sent (bad_head fault) = refl
  answer_same at flow server sent (bad_body fault head body) = refl

  returned_same : (at : At) (flow : Flow) (server : ℕ) (sent : Sent) (item : Item ReadResponse) → keeps_on flow.request side ≡ keeps_at flow.request seen item →
      Same at sent (server_in server seen) (turn_returned terms.place at flow server sent item seen answer) (returned_asked flow server item seen.now)
  returned_same at flow server sent missing keeps = refl
  returned_same at flow server sent (part head body) keeps = refl
  returned_same at flow server sent (complete head body trailers size) keeps =
      let told : Flow = with_returned flow body.content trailers seen.now in
      let Whole : Bool → Taken Response → Turn Stage Command = λ k taken. turn_taken_whole terms.place at told server sent k taken answer.moment (server_in server seen) seen.closed in
      by_body told.response answer.value (Whole (keeps_side flow.request seen head)) ∙ ap (λ k. taken_turn (taken_at_body_of told.response answer.value) (Whole k)) (sym keeps)
  returned_same at flow server sent (bad_head fault) keeps = refl
  returned_same at flow server sent (bad_body fault head body) keeps = refl

  same_for : (at : At) (flow : Flow) (doing : Doing) → AskedSide (busy at flow doing) seen side →
      Same (unspoilt_at at seen) (sent_doing doing) (used_of (busy (unspoilt_at at seen) flow doing) seen) (turns terms (unspoilt_at at seen) flow doing seen answer) (asked_for (unspoilt_at at seen) flow doing seen)
  same_for at flow (request_body given most) ends = body_same (unspoilt_at at seen) (server_parked (unspoilt_at at seen).parked seen) flow (request_in seen)
  same_for at flow (connection sent) ends = refl
  same_for at flow (response_head server sent) ends = answer_same (unspoilt_at at seen) flow server sent (answers_in flow.request seen).final
  same_for at flow (response_body server sent most) ends = returned_same (unspoilt_at at seen) flow server sent (answers_in flow.request seen).final (ends_keeps flow.request server seen side ends)
  same_for at flow (coming_down server sent) ends = refl
  same_for at flow (upgraded server) ends = refl
  same_for at flow given_head ends =
      by_head (given_at flow seen.now).response answer.value
      (λ taken. turn_taken_given (unspoilt_at at seen) (given_at flow seen.now) taken answer.moment (server_parked (unspoilt_at at seen).parked seen) seen.closed)
  same_for at flow given_body ends =
      by_body flow.response answer.value
      (λ taken. turn_taken_returned (unspoilt_at at seen) flow taken answer.moment (server_parked (unspoilt_at at seen).parked seen) seen.closed)

  -- as the question is with how the request stands
  as_asked : (at : At) (used : Used) (sent : Sent) (found : Asked) → sent_asked found ≡ sent →
      turn_as terms side at sent (bare found) seen used seen.closed answer ≡ asked_turn terms at found seen side used seen.closed answer
  as_asked at used sent found is =
      ap (λ s. turn_as terms side at s (bare found) seen used seen.closed answer) (sym is) ∙ bare_as terms side at found seen used seen.closed answer

  same_at : (at : At) (used : Used) (sent : Sent) (turned : Turn Stage Command) (o : Option Asked) (found : Asked) → Same at sent used turned o → o ≡ Some (bare found) → sent_asked found ≡ sent →
      turned ≡ asked_turn terms at found seen side used seen.closed answer
  same_at at used sent turned o found same is how = same ∙ (ap (λ o. turned_as terms side at sent o seen used seen.closed answer) is ∙ as_asked at used sent found how)

  pub turn_asked : (stage : Stage) (found : Asked) → asked_in terms stage seen ≡ Some (bare found) → sent_asked found ≡ sent_at stage → AskedSide stage seen side →
      turn terms stage seen answer ≡ asked_turn terms (place_of (unspoilt stage seen)) found seen side (used_of (unspoilt stage seen) seen) seen.closed answer
  turn_asked (idle at) found is how ends =
      let here : At = unspoilt_at at seen in
      let used : Used = server_parked here.parked seen in
      same_at here used all_sent (turn_head terms here (request_in seen) seen answer) (asked_in terms (idle here) seen) found (head_same here used (request_in seen)) (asked_apart terms (idle at) seen ∙ is) how
  turn_asked (busy at flow doing) found is how ends =
      let here : At = unspoilt_at at seen in
      same_at here (used_of (busy here flow doing) seen) (sent_doing doing) (turns terms here flow doing seen answer) (asked_for here flow doing seen) found (same_for at flow doing ends)
      (asked_apart terms (busy at flow doing) seen ∙ is) how
  turn_asked (next at) found is how ends = absurd (let no : None ≡ Some (bare found) = is in cc)
  turn_asked over found is how ends = absurd (let no : None ≡ Some (bare found) = is in cc)
