-- Behind an answer nothing is owed of a parked side of which a byte came, and where a flow uses a side none is parked.
use Rattle.std.proofs.Common.{◌≡◌, ℕ, Bool, true, false, [], Option, Some, None, refl, ap, ◌∙◌}
use Rattle.std.specs.Prelude.{◌==◌, ◌&&◌}
use Rattle.px_message.specs.declared.flow.Flow.{Flow}
use Rattle.px_message.specs.declared.request.Request.{Request}
use Rattle.px_message.specs.declared.response.Response.{Response}
use Rattle.px_event.specs.declared.reply.Reply.{Reply}
use Rattle.px_event.specs.declared.reply.Reply.TheVariants as reply
use Rattle.px_event.specs.Chain.{Timed, Turn}
use Rattle.px_event.specs.declared.command.Command.{Command}
use Rattle.px_read.specs.Items.{Item, bad_body, bad_head, complete, missing, part}
use Rattle.px_read.specs.declared.head.RequestHead.{RequestHead as ReadRequest}
use Rattle.px_read.specs.declared.head.ResponseHead.{ResponseHead as ReadResponse}
use Rattle.px_exchange.specs.declared.asked.Judged.{Judged}
use Rattle.px_exchange.specs.declared.asked.Judged.TheVariants.{Refused, Accepted, Connects}
use Rattle.px_exchange.specs.declared.ending.Used.{Used}
use Rattle.px_exchange.specs.declared.place.Place.{Place}
use Rattle.px_exchange.specs.declared.taken.Taken.{Taken}
use Rattle.px_exchange.specs.declared.taken.Taken.TheVariants.{GoesOn, Responds, Kills}
use Rattle.px_exchange.specs.declared.terms.Terms.{Terms}
use Rattle.px_exchange.specs.Endings.{connection_goes_on}
use Rattle.px_exchange.specs.Flows.{response_of, with_answer, with_body, with_returned}
use Rattle.px_exchange.specs.Replies.{taken_at_request_head, taken_at_request_body, taken_at_response_head, taken_at_response_body}
use Rattle.px_exchange.specs.Requests.{expects, flow_of, judged}
use Rattle.px_chain.specs.Behind.{dials_at, server_behind, sight_behind}
use Rattle.px_chain.specs.Chain.{behind_flow, dial_leads, finish_by, given_at, goes_on_by, parked_for, sequence, turn, turn_answer, turn_answer_head, turn_body, turn_head, turn_judged, turn_response, turn_returned, turn_taken_answer, turn_taken_body, turn_taken_given, turn_taken_head, turn_taken_returned, turn_taken_whole}
use Rattle.px_chain.specs.Coming.{allowed_by}
use Rattle.px_chain.specs.Going.{allowed_up_by, is_sent}
use Rattle.px_chain.specs.Keeping.{is_silent, keeps_side, parks, shut_stray, strays, unspoilt_at, unspoilt_by}
use Rattle.px_chain.specs.Sights.{Sight, answers_in, request_in, server_in, server_left, server_parked}
use Rattle.px_chain.specs.Stages.{At, Parked, Sent, Stage, busy, coming_down, connection, given_body, given_head, idle, next, over, request_body, response_body, response_head, side_of, upgraded}
use Rattle.px_chain.proofs.KeepingLaws.{kept_nothing, nothing_strays, silent_nothing}
use Rattle.px_stream.specs.Stands.{NoneParked}

-- What an answer leads to: no side is parked beside one that is used, and in the sight behind it nothing is owed of one.
pub record IsClear (later : Stage → Sight) (to : Stage) : Type 0 where
  pub apart : NoneParked to
  pub strays : strays to (later to) ≡ []

-- where nothing comes to be seen of a side
nothing_behind : (dialled : Bool) (side : Option ℕ) → server_behind dialled side [] ≡ []
nothing_behind true side = refl
nothing_behind false None = refl
nothing_behind false (Some side) = refl

-- of a side that is kept still nothing came
still_nothing : (silent : Bool) (parked : Option Parked) (seen later : Sight) → is_silent seen.server seen.shut ≡ silent → (seen.server ≡ [] → later.server ≡ []) → shut_stray (unspoilt_by silent parked) later ≡ []
still_nothing true parked seen later is on = nothing_strays parked later (on (silent_nothing seen.server seen.shut is).empty)
still_nothing false parked seen later is on = refl

-- ---- where no flow uses a side

module _ (later : Stage → Sight) (at : At) (quiet : (to : Stage) → shut_stray at.parked (later to) ≡ []) where
  abbrev Clear : Turn Stage Command → Type 0
  Clear turned = IsClear later turned.stage

  ended : IsClear later over
  ended = record { apart = tt; strays = refl }

  taken_head_clear : (flow : Flow) (expected : Bool) (most : Option ℕ) (taken : Taken Request) (moment : ℕ) (seen : Sight) → Clear (turn_taken_head at flow expected most taken moment seen)
  taken_head_clear flow expected most (GoesOn request) moment seen = record { apart = tt; strays = quiet _ }
  taken_head_clear flow expected most (Responds response) moment seen = record { apart = tt; strays = quiet _ }
  taken_head_clear flow expected most Kills moment seen = ended

  judged_clear : (terms : Terms) (head : ReadRequest) (made : Judged) (seen : Sight) (answer : Timed Reply) → Clear (turn_judged terms at head made seen answer)
  judged_clear terms head (Refused fault) seen answer = ended
  judged_clear terms head (Connects address) seen answer = ended
  judged_clear terms head (Accepted request) seen answer =
      taken_head_clear (flow_of terms at.flow request seen.now) (expects head) (allowed_up_by terms.streams answer.value) (taken_at_request_head request answer.value) answer.moment seen

  head_clear : (terms : Terms) (item : Item ReadRequest) (seen : Sight) (answer : Timed Reply) → Clear (turn_head terms at item seen answer)
  head_clear terms missing seen answer = ended
  head_clear terms (part head body) seen answer = judged_clear terms head (judged terms.place head) seen answer
  head_clear terms (complete head body trailers size) seen answer = judged_clear terms head (judged terms.place head) seen answer
  head_clear terms (bad_head fault) seen answer = ended
  head_clear terms (bad_body fault head body) seen answer = judged_clear terms head (judged terms.place head) seen answer

  goes_on_clear : (o : Option ℕ) (place : Place) (flow : Flow) → Clear (goes_on_by o place at flow)
  goes_on_clear None place flow = record { apart = tt; strays = quiet _ }
  goes_on_clear (Some server) place flow = record { apart = refl; strays = refl }

  taken_body_clear : (place : Place) (flow : Flow) (taken : Taken Request) (moment : ℕ) (seen : Sight) → Clear (turn_taken_body place at flow taken moment seen)
  taken_body_clear place flow (GoesOn request) moment seen = goes_on_clear (parked_for place request at.parked) place (record flow { request = request })
  taken_body_clear place flow (Responds response) moment seen = record { apart = tt; strays = quiet _ }
  taken_body_clear place flow Kills moment seen = ended

  body_clear : (place : Place) (flow : Flow) (item : Item ReadRequest) (seen : Sight) (answer : Timed Reply) → Clear (turn_body place at flow item seen answer)
  body_clear place flow missing seen answer = ended
  body_clear place flow (part head body) seen answer = ended
  body_clear place flow (complete head body trailers size) seen answer =
      let whole : Flow = with_body flow body.content trailers seen.now in
      taken_body_clear place whole (taken_at_request_body whole.request answer.value) answer.moment seen
  body_clear place flow (bad_head fault) seen answer = ended
  body_clear place flow (bad_body fault head body) seen answer = ended

  taken_given_clear : (flow : Flow) (taken : Taken Response) (moment : ℕ) (parked : Used) (closed : Bool) → Clear (turn_taken_given at flow taken moment parked closed)
  taken_given_clear flow (GoesOn response) moment parked closed = record { apart = tt; strays = quiet _ }
  taken_given_clear flow (Responds response) moment parked closed = ended
  taken_given_clear flow Kills moment parked closed = ended

  response_clear : (there : Option Response) (takes : Response → Taken Response) (goes : Taken Response → Turn Stage Command) → ((taken : Taken Response) → Clear (goes taken)) → Clear (turn_response there takes goes)
  response_clear None takes goes each = ended
  response_clear (Some response) takes goes each = each (takes response)

  behind_clear : (stays : Bool) → IsClear later (behind_flow stays at)
  behind_clear true = record { apart = tt; strays = quiet _ }
  behind_clear false = ended

  taken_returned_clear : (flow : Flow) (taken : Taken Response) (moment : ℕ) (parked : Used) (closed : Bool) → Clear (turn_taken_returned at flow taken moment parked closed)
  taken_returned_clear flow (GoesOn response) moment parked closed = behind_clear (connection_goes_on at.flow flow.request response)
  taken_returned_clear flow (Responds response) moment parked closed = ended
  taken_returned_clear flow Kills moment parked closed = ended

  dial_clear : (place : Place) (flow : Flow) (how : Sent) (answer : Reply) → IsClear later (dial_leads place at flow how answer)
  dial_clear place flow how reply.Dialled = record { apart = refl; strays = refl }
  dial_clear place flow how (reply.Refused fault) = ended
  dial_clear place flow how (reply.Go given stream) = ended
  dial_clear place flow how (reply.Respond response) = ended
  dial_clear place flow how reply.Kill = ended
  dial_clear place flow how reply.Discard = ended

-- ---- where one does

module _ (later : Stage → Sight) (at : At) (none : at.parked ≡ None) where
  stopped : IsClear later over
  stopped = record { apart = tt; strays = refl }

  taken_answer_clear : (flow : Flow) (server : ℕ) (how : Sent) (most : Option ℕ) (taken : Taken Response) (moment : ℕ) (used : Used) (closed : Bool) → IsClear later (turn_taken_answer at flow server how most taken moment used closed).stage
  taken_answer_clear flow server how most (GoesOn response) moment used closed = record { apart = none; strays = refl }
  taken_answer_clear flow server how most (Responds response) moment used closed = stopped
  taken_answer_clear flow server how most Kills moment used closed = stopped

  answer_head_clear : (terms : Terms) (flow : Flow) (server : ℕ) (how : Sent) (head : ReadResponse) (seen : Sight) (answer : Timed Reply) → IsClear later (turn_answer_head terms at flow server how head seen answer).stage
  answer_head_clear terms flow server how head seen answer =
      taken_answer_clear (with_answer flow (response_of head) seen.now) server how (allowed_by terms.streams answer.value) (taken_at_response_head (response_of head) answer.value) answer.moment (server_in server seen) seen.closed

  answer_clear : (terms : Terms) (flow : Flow) (server : ℕ) (how : Sent) (item : Item ReadResponse) (seen : Sight) (answer : Timed Reply) → IsClear later (turn_answer terms at flow server how item seen answer).stage
  answer_clear terms flow server how missing seen answer = stopped
  answer_clear terms flow server how (part head body) seen answer = answer_head_clear terms flow server how head seen answer
  answer_clear terms flow server how (complete head body trailers size) seen answer = answer_head_clear terms flow server how head seen answer
  answer_clear terms flow server how (bad_head fault) seen answer = stopped
  answer_clear terms flow server how (bad_body fault head body) seen answer = answer_head_clear terms flow server how head seen answer

  -- of a side that is kept nothing is left
  kept_clear : (stays keeps : Bool) (place : Place) (request : Request) (server : ℕ) → (keeps ≡ true → (to : Stage) → (later to).server ≡ []) → IsClear later (behind_flow stays (parks (stays && keeps) place at request server))
  kept_clear true true place request server quiet =
      let there : At = parks true place at request server in
      record { apart = tt; strays = nothing_strays there.parked (later (behind_flow true there)) (quiet refl (behind_flow true there)) }
  kept_clear true false place request server quiet = record { apart = tt; strays = refl }
  kept_clear false keeps place request server quiet = stopped

  finish_clear : (switches : Bool) (place : Place) (flow : Flow) (how : Sent) (response : Response) (keeps : Bool) (server : ℕ) (used : Used) (closed : Bool) → (keeps ≡ true → (to : Stage) → (later to).server ≡ []) →
      IsClear later (finish_by switches place at flow how response keeps server used closed).stage
  finish_clear true place flow how response keeps server used closed quiet = record { apart = none; strays = refl }
  finish_clear false place flow how response keeps server used closed quiet =
      kept_clear (is_sent how && connection_goes_on at.flow flow.request response) keeps place flow.request server quiet

  taken_whole_clear : (place : Place) (flow : Flow) (server : ℕ) (how : Sent) (keeps : Bool) (taken : Taken Response) (moment : ℕ) (used : Used) (closed : Bool) → (keeps ≡ true → (to : Stage) → (later to).server ≡ []) →
      IsClear later (turn_taken_whole place at flow server how keeps taken moment used closed).stage
  taken_whole_clear place flow server how keeps (GoesOn response) moment used closed quiet =
      finish_clear (is_sent how && response.status == 101) place flow how response keeps server used closed quiet
  taken_whole_clear place flow server how keeps (Responds response) moment used closed quiet = stopped
  taken_whole_clear place flow server how keeps Kills moment used closed quiet = stopped

  whole_clear : (there : Option Response) (place : Place) (flow : Flow) (server : ℕ) (how : Sent) (keeps : Bool) (answer : Timed Reply) (used : Used) (closed : Bool) → (keeps ≡ true → (to : Stage) → (later to).server ≡ []) →
      IsClear later (turn_response there (λ response. taken_at_response_body response answer.value) (λ taken. turn_taken_whole place at flow server how keeps taken answer.moment used closed)).stage
  whole_clear None place flow server how keeps answer used closed quiet = stopped
  whole_clear (Some response) place flow server how keeps answer used closed quiet =
      taken_whole_clear place flow server how keeps (taken_at_response_body response answer.value) answer.moment used closed quiet

  returned_clear : (place : Place) (flow : Flow) (server : ℕ) (how : Sent) (item : Item ReadResponse) (seen : Sight) (answer : Timed Reply) →
      ((head : ReadResponse) → keeps_side flow.request seen head ≡ true → (to : Stage) → (later to).server ≡ []) → IsClear later (turn_returned place at flow server how item seen answer).stage
  returned_clear place flow server how missing seen answer quiet = stopped
  returned_clear place flow server how (part head body) seen answer quiet = stopped
  returned_clear place flow server how (complete head body trailers size) seen answer quiet =
      let whole : Flow = with_returned flow body.content trailers seen.now in
      whole_clear whole.response place whole server how (keeps_side flow.request seen head) answer (server_in server seen) seen.closed (quiet head)
  returned_clear place flow server how (bad_head fault) seen answer quiet = stopped
  returned_clear place flow server how (bad_body fault head body) seen answer quiet = stopped

-- ---- wherever an answer is taken

none_still : (silent : Bool) (parked : Option Parked) → parked ≡ None → unspoilt_by silent parked ≡ None
none_still true parked is = is
none_still false parked is = refl

module _ (terms : Terms) (seen : Sight) (answer : Timed Reply) where
  abbrev behind_it : Stage → Stage → Sight
  behind_it from to = sight_behind terms.place from seen answer.moment to

  -- no more is seen of the server's side than before
  no_more : (from : Stage) (at : At) → server_left from seen ≡ seen.server → (to : Stage) → shut_stray (unspoilt_at at seen).parked (behind_it from to) ≡ []
  no_more from at same to = still_nothing (is_silent seen.server seen.shut) at.parked seen (behind_it from to) refl
      (λ nothing. ap (λ l. server_behind (dials_at from) (side_of to) l) (same ∙ nothing) ∙ nothing_behind (dials_at from) (side_of to))

  none_at : (at : At) → at.parked ≡ None → (unspoilt_at at seen).parked ≡ None
  none_at at is = none_still (is_silent seen.server seen.shut) at.parked is

  clear_at : (stage : Stage) → NoneParked stage → IsClear (behind_it stage) (turn terms stage seen answer).stage
  clear_at (idle at) is = head_clear (behind_it (idle at)) (unspoilt_at at seen) (no_more (idle at) at refl) terms (request_in seen) seen answer
  clear_at (busy at flow (request_body given most)) is =
      let from : Stage = busy at flow (request_body given most) in
      body_clear (behind_it from) (unspoilt_at at seen) (no_more from at refl) terms.place flow (request_in seen) seen answer
  clear_at (busy at flow (connection how)) is =
      let from : Stage = busy at flow (connection how) in
      dial_clear (behind_it from) (unspoilt_at at seen) (no_more from at refl) terms.place flow how answer.value
  clear_at (busy at flow (response_head server how)) is =
      answer_clear (behind_it (busy at flow (response_head server how))) (unspoilt_at at seen) (none_at at is) terms flow server how (answers_in flow.request seen).final seen answer
  clear_at (busy at flow (response_body server how most)) is =
      let from : Stage = busy at flow (response_body server how most) in
      returned_clear (behind_it from) (unspoilt_at at seen) (none_at at is) terms.place flow server how (answers_in flow.request seen).final seen answer
      (λ head keeps to. ap (λ l. server_behind false (side_of to) l) (kept_nothing flow.request seen head keeps).empty ∙ nothing_behind false (side_of to))
  clear_at (busy at flow (coming_down server how)) is = record { apart = tt; strays = refl }
  clear_at (busy at flow (upgraded server)) is = record { apart = tt; strays = refl }
  clear_at (busy at flow given_head) is =
      let from : Stage = busy at flow given_head in
      let here : At = unspoilt_at at seen in
      let told : Flow = given_at flow seen.now in
      response_clear (behind_it from) here (no_more from at refl) told.response (λ response. taken_at_response_head response answer.value)
      (λ taken. turn_taken_given here told taken answer.moment (server_parked here.parked seen) seen.closed)
      (λ taken. taken_given_clear (behind_it from) here (no_more from at refl) told taken answer.moment (server_parked here.parked seen) seen.closed)
  clear_at (busy at flow given_body) is =
      let from : Stage = busy at flow given_body in
      let here : At = unspoilt_at at seen in
      response_clear (behind_it from) here (no_more from at refl) flow.response (λ response. taken_at_response_body response answer.value)
      (λ taken. turn_taken_returned here flow taken answer.moment (server_parked here.parked seen) seen.closed)
      (λ taken. taken_returned_clear (behind_it from) here (no_more from at refl) flow taken answer.moment (server_parked here.parked seen) seen.closed)
  clear_at (next at) is = record { apart = tt; strays = no_more (next at) at refl (turn terms (next at) seen answer).stage }
  clear_at over is = record { apart = tt; strays = refl }

  sequence_clear : (from to : Stage) → IsClear (behind_it from) to → IsClear (behind_it from) (sequence to)
  sequence_clear from (idle at) is = is
  sequence_clear from (busy at flow doing) is = is
  sequence_clear from (next at) is = record { apart = tt; strays = is.strays }
  sequence_clear from over is = is

  pub turn_clear : (stage : Stage) → NoneParked stage → IsClear (behind_it stage) (sequence (turn terms stage seen answer).stage)
  turn_clear stage is = sequence_clear stage (turn terms stage seen answer).stage (clear_at stage is)
