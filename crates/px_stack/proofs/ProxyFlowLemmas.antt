-- What a flow does with a server that has not answered: its request goes there, and nothing more.
use Rattle.std.proofs.Common.{◌≡◌, ℕ, ◌+◌, ◌≤◌, Bool, true, false, cond, List, [], ◌∷◌, ◌++◌, map, Option, Some, None, refl, ap, arith}
use Rattle.std.specs.Prelude.{◌==◌, ◌≢◌, ⊤, ◌&&◌}
use Rattle.std.proofs.lemmas.Bool.{eqb-true}
use Rattle.px_message.specs.declared.flow.Flow.{Flow}
use Rattle.px_message.specs.declared.request.Request.{Request}
use Rattle.px_message.specs.declared.response.Response.{Response}
use Rattle.px_event.specs.declared.command.Command.{Command}
use Rattle.px_event.specs.declared.command.Command.TheVariants as commands
use Rattle.px_event.specs.declared.reply.Reply.{Reply}
use Rattle.px_event.specs.declared.reply.Reply.TheVariants as reply
use Rattle.px_event.specs.declared.side.Side.TheVariants.{Server}
use Rattle.px_event.specs.Chain.{Timed, Turn}
use Rattle.px_event.specs.View.{byte, bytes_in}
use Rattle.px_read.specs.Items.{Item, bad_body, bad_head, complete, missing, part}
use Rattle.px_read.specs.declared.head.RequestHead.{RequestHead as ReadRequest}
use Rattle.px_read.specs.declared.head.ResponseHead.{ResponseHead as ReadResponse}
use Rattle.px_exchange.specs.declared.asked.Judged.{Judged}
use Rattle.px_exchange.specs.declared.asked.Judged.TheVariants.{Accepted, Connects, Refused}
use Rattle.px_exchange.specs.declared.ending.Used.{Used}
use Rattle.px_exchange.specs.declared.ending.Used.TheVariants.{NoServer}
use Rattle.px_exchange.specs.declared.place.Place.{Place}
use Rattle.px_exchange.specs.declared.taken.Taken.{Taken}
use Rattle.px_exchange.specs.declared.taken.Taken.TheVariants.{GoesOn, Kills, Responds}
use Rattle.px_exchange.specs.declared.terms.Terms.{Terms}
use Rattle.px_exchange.specs.Endings.{connection_goes_on, killed_message}
use Rattle.px_exchange.specs.Flows.{response_of, with_answer, with_body, with_returned}
use Rattle.px_exchange.specs.Places.{is_same_address, server_for}
use Rattle.px_exchange.specs.Replies.{taken_at_response_body, taken_at_response_head}
use Rattle.px_exchange.specs.Requests.{judged}
use Rattle.px_chain.specs.Keeping.{is_silent, keeps_side, parks, unspoilt_at, unspoilt_by}
use Rattle.px_chain.specs.Going.{goes_up, is_sent, sending_on, whole_in, with_whole}
use Rattle.px_chain.specs.Chain.{behind_flow, keeps_came, dial_leads, finish_by, given_at, goes_on_by, parked_for, pass, pass_came, pass_kept, sequence, side_if, turn, turn_answer, turn_answer_head, turn_body, turn_head, turn_judged, turn_response, turn_returned, turn_taken_answer, turn_taken_body, turn_taken_given, turn_taken_head, turn_taken_returned, turn_taken_whole, begin_up, begins_up, come_down, dial_owes_by, end_by, end_up, gone, gone_by, gone_up, going_at, goes_up_by, pass_given, pass_going, sight_begun, sight_gone}
use Rattle.px_chain.specs.Coming.{Came, allowed_by, came_in, goes_on_behind, streaming, streams_in}
use Rattle.px_chain.specs.Sights.{Sight, answers_in, request_in, server_in, server_parked}
use Rattle.px_chain.specs.Silent.{connects}
use Rattle.px_chain.specs.Stages.{At, Parked, Sent, Stage, busy, coming_down, connection, given_body, given_head, idle, next, over, request_body, response_body, response_head, upgraded, Doing, all_sent, going_up}
use Rattle.px_chain.proofs.CountedLemmas.{IsSilent}
use Rattle.px_chain.proofs.NotUp.{IsNotUp, IsNotUpBy}
use Rattle.px_chain.proofs.TellLemmas.{IsUnanswered}
use Rattle.px_chain.proofs.SilentLemmas.{Before, IsBetween, IsBeyond, ServersBelow, before_at, beyond_by, dialled, early_silent, fault_silent, turn_leads}
use Rattle.px_stack.proofs.AnswerLemmas.{IsWithoutHead}

-- what px_chain has of a reply, at any server: it leads to where as many servers were dialled, or more
between_of : (terms : Terms) (stage : Stage) (seen : Sight) (answer : Timed Reply) → ServersBelow stage →
    IsBetween (before_at stage) (dialled stage) (dialled stage + connects answer.value) (turn terms stage seen answer).stage
between_of terms stage seen answer below =
    let beyond : ℕ = dialled stage + connects answer.value in
    (turn_leads beyond terms stage seen answer below (beyond_by beyond answer.value stage (omega arith))).1

module _ (server : ℕ) where
  -- ---- what is said of a place

  -- another server than this
  pub apart_by : (number : ℕ) (same : Bool) → (number == server) ≡ same → number ≢ server → same ≡ false
  apart_by number true is apart = absurd (apart (eqb-true number server is))
  apart_by number false is apart = refl

  pub send_silent : (number : ℕ) (text : List ℕ) → number ≢ server → IsSilent server (commands.Send (Server number) text ∷ [])
  send_silent number text apart = ap (λ same. bytes_in (cond same (map byte text) [] ++ [])) (apart_by number (number == server) refl apart)

  -- a side that a flow goes to, and one that is parked, is another's
  abbrev SideApart : Option ℕ → Type 0
  SideApart None = ⊤
  SideApart (Some side) = side ≢ server

  abbrev pub ParkedApart : Option Parked → Type 0
  ParkedApart None = ⊤
  ParkedApart (Some parked) = parked.server ≢ server

  -- and one that is awaited inside a tunnel
  abbrev pub ApartIf : Bool → ℕ → Type 0
  ApartIf false side = ⊤
  ApartIf true side = side ≢ server

  -- so is one whose keeping has ended
  pub unspoilt_apart : (silent : Bool) (parked : Option Parked) → ParkedApart parked → ParkedApart (unspoilt_by silent parked)
  unspoilt_apart true parked apart = apart
  unspoilt_apart false parked apart = tt

  apart_if : (inside : Bool) (side : ℕ) → side ≢ server → ApartIf inside side
  apart_if false side apart = tt
  apart_if true side apart = apart

  apart_unless : (inside : Bool) (side : ℕ) → (inside ≡ true → ⊥) → ApartIf inside side
  apart_unless false side out = tt
  apart_unless true side out = absurd (out refl)

  -- Where a response's head has come the side is another's, and where a side is parked that one is. Inside a tunnel each side is another's that a request goes to.
  abbrev pub FlowApart : Bool → Stage → Type 0
  FlowApart inside (idle at) = ParkedApart at.parked
  FlowApart inside (busy at flow (request_body given most)) = ParkedApart at.parked
  FlowApart inside (busy at flow (response_head side how)) = ApartIf inside side
  FlowApart inside (busy at flow (response_body side how most)) = side ≢ server
  FlowApart inside (busy at flow (coming_down side how)) = side ≢ server
  FlowApart inside (busy at flow (upgraded side)) = side ≢ server
  FlowApart inside (busy at flow given_head) = ParkedApart at.parked
  FlowApart inside (busy at flow given_body) = ParkedApart at.parked
  FlowApart inside (next at) = ParkedApart at.parked
  FlowApart inside stage = ⊤

  -- no response's head stands in what is seen of the server
  abbrev pub SeesNothing : Stage → Sight → Type 0
  SeesNothing (busy at flow (response_head side how)) seen = side ≡ server → IsWithoutHead (answers_in flow.request seen).final
  SeesNothing stage seen = ⊤

  -- so none is whole there
  pub unanswered : (inside : Bool) (stage : Stage) (seen : Sight) → FlowApart inside stage → IsUnanswered server stage seen
  unanswered inside (idle at) seen apart = tt
  unanswered inside (busy at flow (request_body given most)) seen apart = tt
  unanswered inside (busy at flow (connection sent)) seen apart = tt
  unanswered inside (busy at flow (response_head side how)) seen apart = tt
  unanswered inside (busy at flow (response_body side how most)) seen apart = λ same. absurd (apart (eqb-true side server same))
  unanswered inside (busy at flow (coming_down side how)) seen apart = λ same. absurd (apart (eqb-true side server same))
  unanswered inside (busy at flow (upgraded side)) seen apart = tt
  unanswered inside (busy at flow given_head) seen apart = tt
  unanswered inside (busy at flow given_body) seen apart = tt
  unanswered inside (next at) seen apart = tt
  unanswered inside over seen apart = tt

  -- this answer does not connect a server at this stage
  abbrev pub ConnectsNone : Stage → Reply → Type 0
  ConnectsNone (busy at flow (connection sent)) reply.Dialled = ⊥
  ConnectsNone stage answer = ⊤

  -- ---- inside a tunnel no request goes up to the server

  apart_up : (side : ℕ) → side ≢ server → (side == server) ≡ false
  apart_up side apart = apart_by side (side == server) refl apart

  doing_not_up : (at : At) (flow : Flow) (doing : Doing) → FlowApart true (busy at flow doing) → IsNotUpBy server (going_at doing)
  doing_not_up at flow (request_body given most) apart = tt
  doing_not_up at flow (connection sent) apart = tt
  doing_not_up at flow (response_head side all_sent) apart = tt
  doing_not_up at flow (response_head side going_up) apart = apart_up side apart
  doing_not_up at flow (response_body side all_sent most) apart = tt
  doing_not_up at flow (response_body side going_up most) apart = apart_up side apart
  doing_not_up at flow (coming_down side all_sent) apart = tt
  doing_not_up at flow (coming_down side going_up) apart = apart_up side apart
  doing_not_up at flow (upgraded side) apart = tt
  doing_not_up at flow given_head apart = tt
  doing_not_up at flow given_body apart = tt

  pub not_up : (stage : Stage) → FlowApart true stage → IsNotUp server stage
  not_up (idle at) apart = tt
  not_up (busy at flow doing) apart = doing_not_up at flow doing apart
  not_up (next at) apart = tt
  not_up over apart = tt

-- ---- where a reply leads, and passing

module _ (server : ℕ) (inside : Bool) where
  abbrev Apart : Stage → Type 0
  Apart stage = FlowApart server inside stage

  head_apart : (at : At) (flow : Flow) (expected : Bool) (most : Option ℕ) (taken : Taken Request) (moment : ℕ) (seen : Sight) → ParkedApart server at.parked →
      Apart (turn_taken_head at flow expected most taken moment seen).stage
  head_apart at flow expected most (GoesOn request) moment seen apart = apart
  head_apart at flow expected most (Responds response) moment seen apart = apart
  head_apart at flow expected most Kills moment seen apart = tt

  judged_apart : (terms : Terms) (at : At) (head : ReadRequest) (made : Judged) (seen : Sight) (answer : Timed Reply) → ParkedApart server at.parked →
      Apart (turn_judged terms at head made seen answer).stage
  judged_apart terms at head (Refused fault) seen answer apart = tt
  judged_apart terms at head (Connects address) seen answer apart = tt
  judged_apart terms at head (Accepted request) seen answer apart = head_apart at _ _ _ _ answer.moment seen apart

  item_apart : (terms : Terms) (at : At) (item : Item ReadRequest) (seen : Sight) (answer : Timed Reply) → ParkedApart server at.parked →
      Apart (turn_head terms at item seen answer).stage
  item_apart terms at missing seen answer apart = tt
  item_apart terms at (part head body) seen answer apart = judged_apart terms at head (judged terms.place head) seen answer apart
  item_apart terms at (complete head body trailers used) seen answer apart = judged_apart terms at head (judged terms.place head) seen answer apart
  item_apart terms at (bad_head fault) seen answer apart = tt
  item_apart terms at (bad_body fault head body) seen answer apart = judged_apart terms at head (judged terms.place head) seen answer apart

  taken_answer_apart : (at : At) (flow : Flow) (side : ℕ) (how : Sent) (most : Option ℕ) (taken : Taken Response) (moment : ℕ) (used : Used) (closed : Bool) → side ≢ server →
      Apart (turn_taken_answer at flow side how most taken moment used closed).stage
  taken_answer_apart at flow side how most (GoesOn response) moment used closed apart = apart
  taken_answer_apart at flow side how most (Responds response) moment used closed apart = tt
  taken_answer_apart at flow side how most Kills moment used closed apart = tt

  head_answer_apart : (terms : Terms) (at : At) (flow : Flow) (side : ℕ) (how : Sent) (head : ReadResponse) (seen : Sight) (answer : Timed Reply) → side ≢ server →
      Apart (turn_answer_head terms at flow side how head seen answer).stage
  head_answer_apart terms at flow side how head seen answer apart =
      taken_answer_apart at (with_answer flow (response_of head) seen.now) side how (allowed_by terms.streams answer.value)
      (taken_at_response_head (response_of head) answer.value) answer.moment (server_in side seen) seen.closed apart

  answer_apart : (terms : Terms) (at : At) (flow : Flow) (side : ℕ) (how : Sent) (item : Item ReadResponse) (seen : Sight) (answer : Timed Reply) → (side ≡ server → IsWithoutHead item) →
      Apart (turn_answer terms at flow side how item seen answer).stage
  answer_apart terms at flow side how missing seen answer without = tt
  answer_apart terms at flow side how (part head body) seen answer without = head_answer_apart terms at flow side how head seen answer without
  answer_apart terms at flow side how (complete head body trailers size) seen answer without = head_answer_apart terms at flow side how head seen answer without
  answer_apart terms at flow side how (bad_head fault) seen answer without = tt
  answer_apart terms at flow side how (bad_body fault head body) seen answer without = head_answer_apart terms at flow side how head seen answer without

  behind_apart : (stays : Bool) (at : At) → ParkedApart server at.parked → Apart (behind_flow stays at)
  behind_apart true at apart = apart
  behind_apart false at apart = tt

  -- a side that is kept is that of the response
  parks_apart : (kept : Bool) (place : Place) (at : At) (request : Request) (side : ℕ) → side ≢ server → ParkedApart server (parks kept place at request side).parked
  parks_apart true place at request side apart = apart
  parks_apart false place at request side apart = tt

  response_apart : (response : Option Response) (takes : Response → Taken Response) (goes : Taken Response → Turn Stage Command) →
      ((taken : Taken Response) → Apart (goes taken).stage) → Apart (turn_response response takes goes).stage
  response_apart None takes goes leads = tt
  response_apart (Some response) takes goes leads = leads (takes response)

  finish_apart : (switches : Bool) (place : Place) (at : At) (flow : Flow) (how : Sent) (response : Response) (keeps : Bool) (side : ℕ) (used : Used) (closed : Bool) → side ≢ server →
      Apart (finish_by switches place at flow how response keeps side used closed).stage
  finish_apart true place at flow how response keeps side used closed apart = apart
  finish_apart false place at flow how response keeps side used closed apart =
      let stays : Bool = is_sent how && connection_goes_on at.flow flow.request response in
      behind_apart stays (parks (stays && keeps) place at flow.request side) (parks_apart (stays && keeps) place at flow.request side apart)

  taken_whole_apart : (place : Place) (at : At) (flow : Flow) (side : ℕ) (how : Sent) (keeps : Bool) (taken : Taken Response) (moment : ℕ) (used : Used) (closed : Bool) → side ≢ server →
      Apart (turn_taken_whole place at flow side how keeps taken moment used closed).stage
  taken_whole_apart place at flow side how keeps (GoesOn response) moment used closed apart =
      finish_apart (is_sent how && response.status == 101) place at flow how response keeps side used closed apart
  taken_whole_apart place at flow side how keeps (Responds response) moment used closed apart = tt
  taken_whole_apart place at flow side how keeps Kills moment used closed apart = tt

  returned_apart : (place : Place) (at : At) (flow : Flow) (side : ℕ) (how : Sent) (item : Item ReadResponse) (seen : Sight) (answer : Timed Reply) → side ≢ server →
      Apart (turn_returned place at flow side how item seen answer).stage
  returned_apart place at flow side how missing seen answer apart = tt
  returned_apart place at flow side how (part head body) seen answer apart = tt
  returned_apart place at flow side how (complete head body trailers size) seen answer apart =
      let whole : Flow = with_returned flow body.content trailers seen.now in
      response_apart whole.response (λ response. taken_at_response_body response answer.value)
      (λ taken. turn_taken_whole place at whole side how (keeps_side whole.request seen head) taken answer.moment (server_in side seen) seen.closed)
      (λ taken. taken_whole_apart place at whole side how (keeps_side whole.request seen head) taken answer.moment (server_in side seen) seen.closed apart)
  returned_apart place at flow side how (bad_head fault) seen answer apart = tt
  returned_apart place at flow side how (bad_body fault head body) seen answer apart = tt

  taken_returned_apart : (at : At) (flow : Flow) (taken : Taken Response) (moment : ℕ) (parked : Used) (closed : Bool) → ParkedApart server at.parked →
      Apart (turn_taken_returned at flow taken moment parked closed).stage
  taken_returned_apart at flow (GoesOn response) moment parked closed apart = behind_apart (connection_goes_on at.flow flow.request response) at apart
  taken_returned_apart at flow (Responds response) moment parked closed apart = tt
  taken_returned_apart at flow Kills moment parked closed apart = tt

  given_apart : (at : At) (flow : Flow) (taken : Taken Response) (moment : ℕ) (parked : Used) (closed : Bool) → ParkedApart server at.parked →
      Apart (turn_taken_given at flow taken moment parked closed).stage
  given_apart at flow (GoesOn response) moment parked closed apart = apart
  given_apart at flow (Responds response) moment parked closed apart = tt
  given_apart at flow Kills moment parked closed apart = tt

  -- ---- a request that is whole

  if_apart : (to_it : Bool) (side : ℕ) → side ≢ server → SideApart server (side_if to_it side)
  if_apart true side apart = apart
  if_apart false side apart = tt

  for_apart : (place : Place) (request : Request) (parked : Option Parked) → ParkedApart server parked → SideApart server (parked_for place request parked)
  for_apart place request None apart = tt
  for_apart place request (Some parked) apart = if_apart (is_same_address parked.address (server_for place request)) parked.server apart

  goes_silent : (side : Option ℕ) (place : Place) (at : At) (flow : Flow) → SideApart server side → IsSilent server (goes_on_by side place at flow).owed
  goes_silent None place at flow apart = refl
  goes_silent (Some side) place at flow apart = send_silent server side _ apart

  goes_apart : (side : Option ℕ) (place : Place) (at : At) (flow : Flow) → SideApart server side → Apart (goes_on_by side place at flow).stage
  goes_apart None place at flow apart = tt
  goes_apart (Some side) place at flow apart = apart_if server inside side apart

  taken_body_silent : (place : Place) (at : At) (flow : Flow) (taken : Taken Request) (moment : ℕ) (seen : Sight) → ParkedApart server at.parked →
      IsSilent server (turn_taken_body place at flow taken moment seen).owed
  taken_body_silent place at flow (GoesOn request) moment seen apart =
      goes_silent (parked_for place request at.parked) place at _ (for_apart place request at.parked apart)
  taken_body_silent place at flow (Responds response) moment seen apart = refl
  taken_body_silent place at flow Kills moment seen apart = early_silent server flow killed_message moment (server_parked at.parked seen) seen.closed

  taken_body_apart : (place : Place) (at : At) (flow : Flow) (taken : Taken Request) (moment : ℕ) (seen : Sight) → ParkedApart server at.parked →
      Apart (turn_taken_body place at flow taken moment seen).stage
  taken_body_apart place at flow (GoesOn request) moment seen apart = goes_apart (parked_for place request at.parked) place at _ (for_apart place request at.parked apart)
  taken_body_apart place at flow (Responds response) moment seen apart = apart
  taken_body_apart place at flow Kills moment seen apart = tt

  body_silent : (place : Place) (at : At) (flow : Flow) (item : Item ReadRequest) (seen : Sight) (answer : Timed Reply) → ParkedApart server at.parked →
      IsSilent server (turn_body place at flow item seen answer).owed
  body_silent place at flow missing seen answer apart = refl
  body_silent place at flow (part head body) seen answer apart = refl
  body_silent place at flow (complete head body trailers used) seen answer apart =
      taken_body_silent place at (with_body flow body.content trailers seen.now) _ answer.moment seen apart
  body_silent place at flow (bad_head fault) seen answer apart = refl
  body_silent place at flow (bad_body fault head body) seen answer apart = refl

  body_apart : (place : Place) (at : At) (flow : Flow) (item : Item ReadRequest) (seen : Sight) (answer : Timed Reply) → ParkedApart server at.parked →
      Apart (turn_body place at flow item seen answer).stage
  body_apart place at flow missing seen answer apart = tt
  body_apart place at flow (part head body) seen answer apart = tt
  body_apart place at flow (complete head body trailers used) seen answer apart =
      taken_body_apart place at (with_body flow body.content trailers seen.now) _ answer.moment seen apart
  body_apart place at flow (bad_head fault) seen answer apart = tt
  body_apart place at flow (bad_body fault head body) seen answer apart = tt

  -- ---- a dial

  dial_silent : (place : Place) (at : At) (flow : Flow) (sent : Sent) (answer : Reply) (moment : ℕ) (closed : Bool) → ConnectsNone server (busy at flow (connection sent)) answer →
      IsSilent server (dial_owes_by sent place flow at.dials answer moment closed)
  dial_silent place at flow all_sent (reply.Go given stream) moment closed none = refl
  dial_silent place at flow all_sent (reply.Respond response) moment closed none = refl
  dial_silent place at flow all_sent reply.Kill moment closed none = refl
  dial_silent place at flow all_sent reply.Discard moment closed none = refl
  dial_silent place at flow sent reply.Dialled moment closed none = absurd none
  dial_silent place at flow all_sent (reply.Refused fault) moment closed none = fault_silent server flow fault moment NoServer closed
  dial_silent place at flow going_up (reply.Go given stream) moment closed none = refl
  dial_silent place at flow going_up (reply.Respond response) moment closed none = refl
  dial_silent place at flow going_up reply.Kill moment closed none = refl
  dial_silent place at flow going_up reply.Discard moment closed none = refl
  dial_silent place at flow going_up (reply.Refused fault) moment closed none = fault_silent server flow fault moment NoServer closed

  dial_apart : (place : Place) (at : At) (flow : Flow) (sent : Sent) (answer : Reply) → (inside ≡ true → ConnectsNone server (busy at flow (connection sent)) answer) →
      Apart (dial_leads place at flow sent answer)
  dial_apart place at flow sent (reply.Go given stream) none = tt
  dial_apart place at flow sent (reply.Respond response) none = tt
  dial_apart place at flow sent reply.Kill none = tt
  dial_apart place at flow sent reply.Discard none = tt
  dial_apart place at flow sent reply.Dialled none = apart_unless server inside at.dials none
  dial_apart place at flow sent (reply.Refused fault) none = tt

  -- ---- the flows of a place

  led : (terms : Terms) (stage : Stage) (seen : Sight) (answer : Timed Reply) → ServersBelow stage → IsBeyond server answer.value stage →
      IsSilent server (turn terms stage seen answer).owed
  led terms stage seen answer below beyond = (turn_leads server terms stage seen answer below beyond).0

  left_apart : (at : At) (seen : Sight) → ParkedApart server at.parked → ParkedApart server (unspoilt_at at seen).parked
  left_apart at seen apart = unspoilt_apart server (is_silent seen.server seen.shut) at.parked apart

  -- what a reply brings sends nothing to the server, unless it connects a server
  pub turn_silent : (terms : Terms) (stage : Stage) (seen : Sight) (answer : Timed Reply) → ServersBelow stage → Apart stage → ConnectsNone server stage answer.value →
      IsSilent server (turn terms stage seen answer).owed
  turn_silent terms (idle at) seen answer below apart none = led terms (idle at) seen answer below tt
  turn_silent terms (busy at flow (request_body given most)) seen answer below apart none = body_silent terms.place (unspoilt_at at seen) flow (request_in seen) seen answer (left_apart at seen apart)
  turn_silent terms (busy at flow (connection sent)) seen answer below apart none = dial_silent terms.place (unspoilt_at at seen) flow sent answer.value answer.moment _ none
  turn_silent terms (busy at flow (response_head side how)) seen answer below apart none = led terms (busy at flow (response_head side how)) seen answer below tt
  turn_silent terms (busy at flow (response_body side how most)) seen answer below apart none = led terms (busy at flow (response_body side how most)) seen answer below tt
  turn_silent terms (busy at flow (coming_down side how)) seen answer below apart none = refl
  turn_silent terms (busy at flow (upgraded side)) seen answer below apart none = refl
  turn_silent terms (busy at flow given_head) seen answer below apart none = led terms (busy at flow given_head) seen answer below tt
  turn_silent terms (busy at flow given_body) seen answer below apart none = led terms (busy at flow given_body) seen answer below tt
  turn_silent terms (next at) seen answer below apart none = refl
  turn_silent terms over seen answer below apart none = refl

  pub turn_apart : (terms : Terms) (stage : Stage) (seen : Sight) (answer : Timed Reply) → Apart stage → SeesNothing server stage seen →
      (inside ≡ true → ConnectsNone server stage answer.value) → Apart (turn terms stage seen answer).stage
  turn_apart terms (idle at) seen answer apart sees none = item_apart terms (unspoilt_at at seen) (request_in seen) seen answer (left_apart at seen apart)
  turn_apart terms (busy at flow (request_body given most)) seen answer apart sees none = body_apart terms.place (unspoilt_at at seen) flow (request_in seen) seen answer (left_apart at seen apart)
  turn_apart terms (busy at flow (connection sent)) seen answer apart sees none = dial_apart terms.place (unspoilt_at at seen) flow sent answer.value none
  turn_apart terms (busy at flow (response_head side how)) seen answer apart sees none = answer_apart terms (unspoilt_at at seen) flow side how (answers_in flow.request seen).final seen answer sees
  turn_apart terms (busy at flow (response_body side how most)) seen answer apart sees none =
      returned_apart terms.place (unspoilt_at at seen) flow side how (answers_in flow.request seen).final seen answer apart
  turn_apart terms (busy at flow (coming_down side how)) seen answer apart sees none = tt
  turn_apart terms (busy at flow (upgraded side)) seen answer apart sees none = tt
  turn_apart terms (busy at flow given_head) seen answer apart sees none =
      let asked : Flow = given_at flow seen.now in
      let left : At = unspoilt_at at seen in
      let parked : Used = server_parked left.parked seen in
      response_apart asked.response (λ response. taken_at_response_head response answer.value) (λ taken. turn_taken_given left asked taken answer.moment parked seen.closed)
      (λ taken. given_apart left asked taken answer.moment parked seen.closed (left_apart at seen apart))
  turn_apart terms (busy at flow given_body) seen answer apart sees none =
      let asked : Flow = flow in
      let left : At = unspoilt_at at seen in
      let parked : Used = server_parked left.parked seen in
      response_apart asked.response (λ response. taken_at_response_body response answer.value)
      (λ taken. turn_taken_returned left asked taken answer.moment parked seen.closed)
      (λ taken. taken_returned_apart left asked taken answer.moment parked seen.closed (left_apart at seen apart))
  turn_apart terms (next at) seen answer apart sees none = left_apart at seen apart
  turn_apart terms over seen answer apart sees none = tt

  pub sequence_apart : (stage : Stage) → Apart stage → Apart (sequence stage)
  sequence_apart (idle at) apart = apart
  sequence_apart (busy at flow doing) apart = apart
  sequence_apart (next at) apart = apart
  sequence_apart over apart = tt

  apart_given : (at : At) (flow : Flow) (response : Response) (most : Option ℕ) (item : Item ReadRequest) (now : ℕ) → ParkedApart server at.parked → Apart (pass_given at flow response most item now)
  apart_given at flow response most missing now is = is
  apart_given at flow response most (part head body) now is = is
  apart_given at flow response most (complete head body trailers used) now is = is
  apart_given at flow response most (bad_head fault) now is = is
  apart_given at flow response most (bad_body fault head body) now is = is

  up_apart : (side : Option ℕ) (place : Place) (at : At) (flow : Flow) → SideApart server side → Apart (goes_up_by side place at flow)
  up_apart None place at flow apart = tt
  up_apart (Some side) place at flow apart = apart_if server inside side apart

  going_apart : (goes : Bool) (place : Place) (at : At) (flow : Flow) (most : Option ℕ) (seen : Sight) → ParkedApart server at.parked → Apart (pass_going goes place at flow most seen)
  going_apart true place at flow most seen is =
      let left : At = unspoilt_at at seen in
      up_apart (parked_for place flow.request left.parked) place at (sending_on flow) (for_apart place flow.request left.parked (left_apart at seen is))
  going_apart false place at flow most seen is = is

  begins_apart : (place : Place) (at : At) (flow : Flow) (doing : Doing) (seen : Sight) → Apart (busy at flow doing) → Apart (begins_up place at flow doing seen)
  begins_apart place at flow (request_body None most) seen is = going_apart (goes_up most seen) place at flow most seen is
  begins_apart place at flow (request_body (Some response) most) seen is = apart_given at flow response most (request_in seen) seen.now is
  begins_apart place at flow (connection sent) seen is = is
  begins_apart place at flow (response_head side how) seen is = is
  begins_apart place at flow (response_body side how most) seen is = is
  begins_apart place at flow (coming_down side how) seen is = is
  begins_apart place at flow (upgraded side) seen is = is
  begins_apart place at flow given_head seen is = is
  begins_apart place at flow given_body seen is = is

  pub stage_begins_apart : (terms : Terms) (stage : Stage) (seen : Sight) → Apart stage → Apart (begin_up terms stage seen)
  stage_begins_apart terms (idle at) seen is = is
  stage_begins_apart terms (busy at flow doing) seen is = begins_apart terms.place at flow doing seen is
  stage_begins_apart terms (next at) seen is = is
  stage_begins_apart terms over seen is = is

  gone_apart : (at : At) (flow whole : Flow) (doing : Doing) → Apart (busy at flow doing) → Apart (busy at whole (gone doing))
  gone_apart at flow whole (request_body given most) is = is
  gone_apart at flow whole (connection sent) is = is
  gone_apart at flow whole (response_head side how) is = is
  gone_apart at flow whole (response_body side how most) is = is
  gone_apart at flow whole (coming_down side how) is = is
  gone_apart at flow whole (upgraded side) is = is
  gone_apart at flow whole given_head is = is
  gone_apart at flow whole given_body is = is

  ends_apart : (ended : Option ℕ) (place : Place) (at : At) (flow : Flow) (doing : Doing) (seen : Sight) → Apart (busy at flow doing) → Apart (end_by ended place at flow doing seen).stage
  ends_apart None place at flow doing seen is = is
  ends_apart (Some side) place at flow doing seen is = gone_apart at flow (with_whole flow seen.now) doing is

  stage_ends_apart : (terms : Terms) (stage : Stage) (seen : Sight) → Apart stage → Apart (end_up terms stage seen).stage
  stage_ends_apart terms (idle at) seen is = is
  stage_ends_apart terms (busy at flow doing) seen is = ends_apart (gone_by (going_at doing) (whole_in seen)) terms.place at flow doing seen is
  stage_ends_apart terms (next at) seen is = is
  stage_ends_apart terms over seen is = is

  came_apart : (place : Place) (at : At) (flow : Flow) (side : ℕ) (how : Sent) (seen : Sight) (came : Option Came) → side ≢ server →
      Apart (pass_came place at flow side how seen came).stage
  came_apart place at flow side how seen None apart = apart
  came_apart place at flow side how seen (Some came) apart =
      let kept : Bool = keeps_came at flow how seen came in
      behind_apart (is_sent how && goes_on_behind at.flow flow.request came) (parks kept place at flow.request side) (parks_apart kept place at flow.request side apart)

  kept_apart : (streams : Bool) (place : Place) (at : At) (flow : Flow) (side : ℕ) (how : Sent) (most : Option ℕ) (seen : Sight) → side ≢ server →
      Apart (pass_kept streams place at flow side how most seen).stage
  kept_apart true place at flow side how most seen apart = came_apart place at (streaming flow) side how seen (came_in (streaming flow) seen) apart
  kept_apart false place at flow side how most seen apart = apart

  comes_apart : (terms : Terms) (stage : Stage) (seen : Sight) → Apart stage → Apart (come_down terms stage seen).stage
  comes_apart terms (idle at) seen apart = apart
  comes_apart terms (busy at flow (request_body given most)) seen apart = apart
  comes_apart terms (busy at flow (connection sent)) seen apart = tt
  comes_apart terms (busy at flow (response_head side how)) seen apart = apart
  comes_apart terms (busy at flow (response_body side how most)) seen apart = kept_apart (streams_in flow most seen) terms.place at flow side how most seen apart
  comes_apart terms (busy at flow (coming_down side how)) seen apart = came_apart terms.place at flow side how seen (came_in flow seen) apart
  comes_apart terms (busy at flow (upgraded side)) seen apart = apart
  comes_apart terms (busy at flow given_head) seen apart = apart
  comes_apart terms (busy at flow given_body) seen apart = apart
  comes_apart terms (next at) seen apart = apart
  comes_apart terms over seen apart = tt

  pub pass_apart : (terms : Terms) (stage : Stage) (seen : Sight) → Apart stage → Apart (pass terms stage seen).stage
  pass_apart terms stage seen apart =
      let begun : Stage = begin_up terms stage seen in
      comes_apart terms (gone_up terms stage seen) (sight_gone terms stage seen)
      (stage_ends_apart terms begun (sight_begun stage seen) (stage_begins_apart terms stage seen apart))

-- ---- a server that is not dialled yet

module _ (server : ℕ) where
  -- nothing was sent to the server while so few were dialled
  abbrev pub Untold : List ℕ → ℕ → Type 0
  Untold text dials = dials ≤ server → text ≡ []

  abbrev pub FlowUntold : List ℕ → Stage → Type 0
  FlowUntold text (idle at) = Untold text at.dials
  FlowUntold text (busy at flow doing) = Untold text at.dials
  FlowUntold text (next at) = Untold text at.dials
  FlowUntold text over = ⊤

  module _ (text : List ℕ) where
    untold_further : (was : Before) (least most : ℕ) (stage : Stage) → IsBetween was least most stage → Untold text least → FlowUntold text stage
    untold_further was least most (idle at) between untold = let few = between.0.0 in λ beyond. untold (omega arith)
    untold_further was least most (busy at flow doing) between untold = let few = between.0.0 in λ beyond. untold (omega arith)
    untold_further was least most (next at) between untold = let few = between.0.0 in λ beyond. untold (omega arith)
    untold_further was least most over between untold = tt

    turn_untold : (terms : Terms) (stage : Stage) (seen : Sight) (answer : Timed Reply) → ServersBelow stage → FlowUntold text stage →
        FlowUntold text (turn terms stage seen answer).stage
    turn_untold terms (idle at) seen answer below untold = untold_further (before_at (idle at)) at.dials _ _ (between_of terms (idle at) seen answer below) untold
    turn_untold terms (busy at flow doing) seen answer below untold = untold_further (before_at (busy at flow doing)) at.dials _ _ (between_of terms (busy at flow doing) seen answer below) untold
    turn_untold terms (next at) seen answer below untold = untold
    turn_untold terms over seen answer below untold = tt

    sequence_untold : (to : Stage) → FlowUntold text to → FlowUntold text (sequence to)
    sequence_untold (idle at) is = is
    sequence_untold (busy at flow doing) is = is
    sequence_untold (next at) is = is
    sequence_untold over is = tt

    pub onward_untold : (terms : Terms) (stage : Stage) (seen : Sight) (answer : Timed Reply) → ServersBelow stage → FlowUntold text stage →
        FlowUntold text (sequence (turn terms stage seen answer).stage)
    onward_untold terms stage seen answer below untold = sequence_untold (turn terms stage seen answer).stage (turn_untold terms stage seen answer below untold)

    untold_given : (at : At) (flow : Flow) (response : Response) (most : Option ℕ) (item : Item ReadRequest) (now : ℕ) → Untold text at.dials → FlowUntold text (pass_given at flow response most item now)
    untold_given at flow response most missing now is = is
    untold_given at flow response most (part head body) now is = is
    untold_given at flow response most (complete head body trailers used) now is = is
    untold_given at flow response most (bad_head fault) now is = is
    untold_given at flow response most (bad_body fault head body) now is = is

    up_untold : (side : Option ℕ) (place : Place) (at : At) (flow : Flow) → Untold text at.dials → FlowUntold text (goes_up_by side place at flow)
    up_untold None place at flow is = is
    up_untold (Some side) place at flow is = is

    going_untold : (goes : Bool) (place : Place) (at : At) (flow : Flow) (most : Option ℕ) (seen : Sight) → Untold text at.dials → FlowUntold text (pass_going goes place at flow most seen)
    going_untold true place at flow most seen is = up_untold (parked_for place flow.request (unspoilt_at at seen).parked) place at (sending_on flow) is
    going_untold false place at flow most seen is = is

    begins_untold : (place : Place) (at : At) (flow : Flow) (doing : Doing) (seen : Sight) → Untold text at.dials → FlowUntold text (begins_up place at flow doing seen)
    begins_untold place at flow (request_body None most) seen is = going_untold (goes_up most seen) place at flow most seen is
    begins_untold place at flow (request_body (Some response) most) seen is = untold_given at flow response most (request_in seen) seen.now is
    begins_untold place at flow (connection sent) seen is = is
    begins_untold place at flow (response_head side how) seen is = is
    begins_untold place at flow (response_body side how most) seen is = is
    begins_untold place at flow (coming_down side how) seen is = is
    begins_untold place at flow (upgraded side) seen is = is
    begins_untold place at flow given_head seen is = is
    begins_untold place at flow given_body seen is = is

    stage_begins_untold : (terms : Terms) (stage : Stage) (seen : Sight) → FlowUntold text stage → FlowUntold text (begin_up terms stage seen)
    stage_begins_untold terms (idle at) seen is = is
    stage_begins_untold terms (busy at flow doing) seen is = begins_untold terms.place at flow doing seen is
    stage_begins_untold terms (next at) seen is = is
    stage_begins_untold terms over seen is = is

    ends_untold : (ended : Option ℕ) (place : Place) (at : At) (flow : Flow) (doing : Doing) (seen : Sight) → Untold text at.dials → FlowUntold text (end_by ended place at flow doing seen).stage
    ends_untold None place at flow doing seen is = is
    ends_untold (Some side) place at flow doing seen is = is

    stage_ends_untold : (terms : Terms) (stage : Stage) (seen : Sight) → FlowUntold text stage → FlowUntold text (end_up terms stage seen).stage
    stage_ends_untold terms (idle at) seen is = is
    stage_ends_untold terms (busy at flow doing) seen is = ends_untold (gone_by (going_at doing) (whole_in seen)) terms.place at flow doing seen is
    stage_ends_untold terms (next at) seen is = is
    stage_ends_untold terms over seen is = is

    behind_untold : (stays kept : Bool) (place : Place) (at : At) (request : Request) (side : ℕ) → Untold text at.dials → FlowUntold text (behind_flow stays (parks kept place at request side))
    behind_untold true true place at request side untold = untold
    behind_untold true false place at request side untold = untold
    behind_untold false kept place at request side untold = tt

    came_untold : (place : Place) (at : At) (flow : Flow) (side : ℕ) (how : Sent) (seen : Sight) (came : Option Came) → Untold text at.dials →
        FlowUntold text (pass_came place at flow side how seen came).stage
    came_untold place at flow side how seen None untold = untold
    came_untold place at flow side how seen (Some came) untold =
        behind_untold (is_sent how && goes_on_behind at.flow flow.request came) (keeps_came at flow how seen came) place at flow.request side untold

    kept_untold : (streams : Bool) (place : Place) (at : At) (flow : Flow) (side : ℕ) (how : Sent) (most : Option ℕ) (seen : Sight) → Untold text at.dials →
        FlowUntold text (pass_kept streams place at flow side how most seen).stage
    kept_untold true place at flow side how most seen untold = came_untold place at (streaming flow) side how seen (came_in (streaming flow) seen) untold
    kept_untold false place at flow side how most seen untold = untold

    comes_untold : (terms : Terms) (stage : Stage) (seen : Sight) → FlowUntold text stage → FlowUntold text (come_down terms stage seen).stage
    comes_untold terms (idle at) seen untold = untold
    comes_untold terms (busy at flow (request_body given most)) seen untold = untold
    comes_untold terms (busy at flow (connection sent)) seen untold = untold
    comes_untold terms (busy at flow (response_head side how)) seen untold = untold
    comes_untold terms (busy at flow (response_body side how most)) seen untold = kept_untold (streams_in flow most seen) terms.place at flow side how most seen untold
    comes_untold terms (busy at flow (coming_down side how)) seen untold = came_untold terms.place at flow side how seen (came_in flow seen) untold
    comes_untold terms (busy at flow (upgraded side)) seen untold = untold
    comes_untold terms (busy at flow given_head) seen untold = untold
    comes_untold terms (busy at flow given_body) seen untold = untold
    comes_untold terms (next at) seen untold = untold
    comes_untold terms over seen untold = tt

    pass_untold : (terms : Terms) (stage : Stage) (seen : Sight) → FlowUntold text stage → FlowUntold text (pass terms stage seen).stage
    pass_untold terms stage seen untold =
        let begun : Stage = begin_up terms stage seen in
        comes_untold terms (gone_up terms stage seen) (sight_gone terms stage seen)
        (stage_ends_untold terms begun (sight_begun stage seen) (stage_begins_untold terms stage seen untold))

    -- and the next flow begins there, where one is done
    pub passed_untold : (terms : Terms) (stage : Stage) (seen : Sight) → FlowUntold text stage → FlowUntold text (sequence (pass terms stage seen).stage)
    passed_untold terms stage seen untold = sequence_untold (pass terms stage seen).stage (pass_untold terms stage seen untold)
