-- What a reply brings at once, and what is owed at an end: bytes, then the end of a flow, then closes.
use Rattle.std.proofs.Common.{ℕ, Bool, true, false, List, ◌++◌, Option, Some, None}
use Rattle.std.specs.Prelude.{◌==◌, ◌&&◌}
use Rattle.px_message.specs.declared.fault.Fault.{Fault}
use Rattle.px_message.specs.declared.flow.Flow.{Flow}
use Rattle.px_message.specs.declared.request.Request.{Request}
use Rattle.px_message.specs.declared.response.Response.{Response}
use Rattle.px_event.specs.declared.command.Command.{Command}
use Rattle.px_event.specs.declared.reply.Reply.{Reply}
use Rattle.px_event.specs.declared.reply.Reply.TheVariants as reply
use Rattle.px_event.specs.Chain.{Look, Timed, Turn}
use Rattle.px_read.specs.Items.{Item, missing, part, complete, bad_head, bad_body}
use Rattle.px_read.specs.declared.head.RequestHead.{RequestHead as ReadRequest}
use Rattle.px_read.specs.declared.head.ResponseHead.{ResponseHead as ReadResponse}
use Rattle.px_exchange.specs.declared.asked.Judged.{Judged}
use Rattle.px_exchange.specs.declared.asked.Judged.TheVariants.{Refused, Accepted, Connects}
use Rattle.px_exchange.specs.declared.ending.Used.{Used}
use Rattle.px_exchange.specs.declared.ending.Used.TheVariants.{NoServer}
use Rattle.px_exchange.specs.declared.taken.Taken.{Taken}
use Rattle.px_exchange.specs.declared.taken.Taken.TheVariants.{GoesOn, Responds, Kills}
use Rattle.px_exchange.specs.declared.place.Place.{Place}
use Rattle.px_exchange.specs.declared.terms.Terms.{Terms}
use Rattle.px_chain.specs.Going.{allowed_up_by, is_sent, sends_up, whole_in}
use Rattle.px_chain.specs.Chain.{bad_or, begin_up, behind, behind_unspoilt, come_down, dial_owes_by, end_by, end_up, find, find_unspoilt, finish_by, given_at, goes_on_by, going_at, gone_by, gone_up, keeps_came, leaving, look, look_coming, look_up, parked_for, pass, pass_came, pass_kept, sight_begun, sight_gone, turn, turn_answer, turn_answer_head, turn_body, turn_dial, turn_head, turn_judged, turn_response, turn_returned, turn_taken_answer, turn_taken_body, turn_taken_given, turn_taken_head, turn_taken_returned, turn_taken_whole, turn_unspoilt, turn_whole_answer}
use Rattle.px_chain.specs.Keeping.{keeps_side, unspoilt}
use Rattle.px_exchange.specs.Flows.{response_of, with_answer, with_body, with_returned}
use Rattle.px_exchange.specs.Endings.{closed_message, connection_goes_on, killed_message, shut_server, shut_unless, without_response, unless_kept}
use Rattle.px_exchange.specs.EndOrder.{EndsInOrder, FoundInOrder, OnlyCloses}
use Rattle.px_exchange.specs.Replies.{taken_at_request_body, taken_at_request_head, taken_at_response_body, taken_at_response_head}
use Rattle.px_exchange.specs.Requests.{expects, flow_of, judged}
use Rattle.px_chain.specs.Stages.{At, Stage, idle, busy, coming_down, next, over, request_body, connection, response_head, response_body, given_head, given_body, upgraded, Doing, Sent, all_sent, going_up}
use Rattle.px_exchange.proofs.OrderLemmas.{closes_end, server_closes, early_ends, finished_ends, dial_ends, expectation_ends, head_ends, body_ends, answer_ends, returned_ends, leaves_ends, closes_both, fault_ends, unless_closes}
use Rattle.px_chain.specs.Sights.{Sight, answers_in, request_in, server_in, server_parked}
use Rattle.px_chain.specs.Coming.{Came, allowed_by, came_in, finished_coming, goes_on_behind, streaming, streams_in}
use Rattle.px_write.specs.Error.{fault_message}

-- ---- what is found

coming_ends : (flow : Flow) (item : Item ReadResponse) (moment : ℕ) (used : Used) (closed : Bool) → FoundInOrder (look_coming flow item moment used closed)
coming_ends flow missing moment used closed = tt
coming_ends flow (part head body) moment used closed = tt
coming_ends flow (complete head body trailers size) moment used closed = tt
coming_ends flow (bad_head fault) moment used closed = tt
coming_ends flow (bad_body fault head body) moment used closed = early_ends flow (fault_message fault) moment used closed

-- a bad body of a request that goes up is found first
bad_in_order : (item : Item ReadRequest) (ends : Fault → List Command) (found : Look Command) → ((fault : Fault) → EndsInOrder (ends fault)) → FoundInOrder found → FoundInOrder (bad_or item ends found)
bad_in_order missing ends found bad is = is
bad_in_order (part head body) ends found bad is = is
bad_in_order (complete head body trailers size) ends found bad is = is
bad_in_order (bad_head fault) ends found bad is = is
bad_in_order (bad_body fault head body) ends found bad is = bad fault

up_in_order : (how : Sent) (seen : Sight) (ends : Fault → List Command) (found : Look Command) → ((fault : Fault) → EndsInOrder (ends fault)) → FoundInOrder found →
    FoundInOrder (look_up how seen ends found)
up_in_order all_sent seen ends found bad is = is
up_in_order going_up seen ends found bad is = bad_in_order (request_in seen) ends found bad is

module _ (terms : Terms) where
  finds_ends : (stage : Stage) (seen : Sight) → FoundInOrder (find_unspoilt terms stage seen)
  finds_ends (idle at) seen = head_ends terms at.flow (request_in seen) seen.now (server_parked at.parked seen) seen.closed
  finds_ends (busy at flow (request_body given size)) seen = body_ends flow (request_in seen) seen.now (server_parked at.parked seen) seen.closed
  finds_ends (busy at flow (connection how)) seen = tt
  finds_ends (busy at flow (response_head side how)) seen =
      up_in_order how seen _ _ (λ fault. fault_ends flow fault seen.now (server_in side seen) seen.closed)
      (answer_ends flow (answers_in flow.request seen).final seen.now (server_in side seen) seen.closed)
  finds_ends (busy at flow (response_body side how most)) seen =
      up_in_order how seen _ _ (λ fault. fault_ends flow fault seen.now (server_in side seen) seen.closed)
      (returned_ends flow (answers_in flow.request seen).final seen.now (server_in side seen) seen.closed)
  finds_ends (busy at flow (coming_down side how)) seen =
      up_in_order how seen _ _ (λ fault. early_ends flow (fault_message fault) seen.now (server_in side seen) seen.closed)
      (coming_ends flow (answers_in flow.request seen).final seen.now (server_in side seen) seen.closed)
  finds_ends (busy at flow (upgraded side)) seen = tt
  finds_ends (busy at flow given_head) seen = tt
  finds_ends (busy at flow given_body) seen = tt
  finds_ends (next at) seen = tt
  finds_ends over seen = tt

  leaving_ends : (stage : Stage) (seen : Sight) → EndsInOrder (leaving stage seen)
  leaving_ends (idle at) seen = closes_end (shut_server (server_parked at.parked seen)) (server_closes (server_parked at.parked seen))
  leaving_ends (busy at flow (request_body given size)) seen = early_ends flow closed_message seen.now (server_parked at.parked seen) true
  leaving_ends (busy at flow (connection how)) seen = tt
  leaving_ends (busy at flow (response_head side how)) seen = early_ends flow closed_message seen.now (server_in side seen) true
  leaving_ends (busy at flow (response_body side how most)) seen = early_ends (without_response flow) closed_message seen.now (server_in side seen) true
  leaving_ends (busy at flow (coming_down side how)) seen = early_ends flow closed_message seen.now (server_in side seen) true
  leaving_ends (busy at flow (upgraded side)) seen = tt
  leaving_ends (busy at flow given_head) seen = tt
  leaving_ends (busy at flow given_body) seen = tt
  leaving_ends (next at) seen = tt
  leaving_ends over seen = tt

  -- An end that is found is in order.
  pub looks_in_order : (stage : Stage) (seen : Sight) → FoundInOrder (look terms stage seen)
  looks_in_order stage seen =
      let there : Stage = unspoilt stage seen in
      leaves_ends seen.closed (leaving there seen) (find terms stage seen) (leaving_ends there seen) (finds_ends there seen)

  -- ---- replies

  taken_head_ends : (at : At) (flow : Flow) (expected : Bool) (size : Option ℕ) (taken : Taken Request) (moment : ℕ) (seen : Sight) → EndsInOrder (turn_taken_head at flow expected size taken moment seen).owed
  taken_head_ends at flow expected size (GoesOn message) moment seen = expectation_ends expected
  taken_head_ends at flow expected size (Responds response) moment seen = expectation_ends expected
  taken_head_ends at flow expected size Kills moment seen = early_ends flow killed_message moment (server_parked at.parked seen) seen.closed

  turn_judged_ends : (at : At) (head : ReadRequest) (made : Judged) (seen : Sight) (answer : Timed Reply) → EndsInOrder (turn_judged terms at head made seen answer).owed
  turn_judged_ends at head (Refused fault) seen answer = tt
  turn_judged_ends at head (Connects address) seen answer = tt
  turn_judged_ends at head (Accepted message) seen answer =
      taken_head_ends at (flow_of terms at.flow message seen.now) (expects head) (allowed_up_by terms.streams answer.value) (taken_at_request_head message answer.value) answer.moment seen

  turn_head_ends : (at : At) (item : Item ReadRequest) (seen : Sight) (answer : Timed Reply) → EndsInOrder (turn_head terms at item seen answer).owed
  turn_head_ends at missing seen answer = tt
  turn_head_ends at (part head body) seen answer = turn_judged_ends at head (judged terms.place head) seen answer
  turn_head_ends at (complete head body trailers used) seen answer = turn_judged_ends at head (judged terms.place head) seen answer
  turn_head_ends at (bad_head fault) seen answer = tt
  turn_head_ends at (bad_body fault head body) seen answer = turn_judged_ends at head (judged terms.place head) seen answer

  goes_on_ends : (side : Option ℕ) (place : Place) (at : At) (flow : Flow) → EndsInOrder (goes_on_by side place at flow).owed
  goes_on_ends None place at flow = tt
  goes_on_ends (Some side) place at flow = tt

  taken_body_ends : (place : Place) (at : At) (flow : Flow) (taken : Taken Request) (moment : ℕ) (seen : Sight) →
      EndsInOrder (turn_taken_body place at flow taken moment seen).owed
  taken_body_ends place at flow (GoesOn message) moment seen = goes_on_ends (parked_for place message at.parked) place at (record flow { request = message })
  taken_body_ends place at flow (Responds response) moment seen = tt
  taken_body_ends place at flow Kills moment seen = early_ends flow killed_message moment (server_parked at.parked seen) seen.closed

  turn_body_ends : (place : Place) (at : At) (flow : Flow) (item : Item ReadRequest) (seen : Sight) (answer : Timed Reply) → EndsInOrder (turn_body place at flow item seen answer).owed
  turn_body_ends place at flow missing seen answer = tt
  turn_body_ends place at flow (part head body) seen answer = tt
  turn_body_ends place at flow (complete head body trailers used) seen answer =
      let asked_flow : Flow = with_body flow body.content trailers seen.now in
      taken_body_ends place at asked_flow (taken_at_request_body asked_flow.request answer.value) answer.moment seen
  turn_body_ends place at flow (bad_head fault) seen answer = tt
  turn_body_ends place at flow (bad_body fault head body) seen answer = tt

  dial_ends_by : (how : Sent) (place : Place) (flow : Flow) (server : ℕ) (answer : Reply) (moment : ℕ) (closed : Bool) → EndsInOrder (dial_owes_by how place flow server answer moment closed)
  dial_ends_by all_sent place flow server answer moment closed = dial_ends place flow server answer moment closed
  dial_ends_by going_up place flow server reply.Dialled moment closed = tt
  dial_ends_by going_up place flow server (reply.Refused fault) moment closed = fault_ends flow fault moment NoServer closed
  dial_ends_by going_up place flow server (reply.Go other stream) moment closed = tt
  dial_ends_by going_up place flow server (reply.Respond given) moment closed = tt
  dial_ends_by going_up place flow server reply.Kill moment closed = tt
  dial_ends_by going_up place flow server reply.Discard moment closed = tt

  turn_dial_ends : (place : Place) (at : At) (flow : Flow) (how : Sent) (answer : Timed Reply) (closed : Bool) → EndsInOrder (turn_dial place at flow how answer closed).owed
  turn_dial_ends place at flow how answer closed = dial_ends_by how place flow at.dials answer.value answer.moment closed

  taken_answer_ends : (at : At) (flow : Flow) (side : ℕ) (how : Sent) (most : Option ℕ) (taken : Taken Response) (moment : ℕ) (used : Used) (closed : Bool) →
      EndsInOrder (turn_taken_answer at flow side how most taken moment used closed).owed
  taken_answer_ends at flow side how most (GoesOn message) moment used closed = tt
  taken_answer_ends at flow side how most (Responds response) moment used closed = early_ends (without_response flow) killed_message moment used closed
  taken_answer_ends at flow side how most Kills moment used closed = early_ends (without_response flow) killed_message moment used closed

  answer_head_ends : (at : At) (flow : Flow) (side : ℕ) (how : Sent) (head : ReadResponse) (seen : Sight) (answer : Timed Reply) → EndsInOrder (turn_answer_head terms at flow side how head seen answer).owed
  answer_head_ends at flow side how head seen answer =
      taken_answer_ends at (with_answer flow (response_of head) seen.now) side how (allowed_by terms.streams answer.value) (taken_at_response_head (response_of head) answer.value) answer.moment (server_in side seen) seen.closed

  turn_answer_ends : (at : At) (flow : Flow) (side : ℕ) (how : Sent) (item : Item ReadResponse) (seen : Sight) (answer : Timed Reply) → EndsInOrder (turn_answer terms at flow side how item seen answer).owed
  turn_answer_ends at flow side how missing seen answer = tt
  turn_answer_ends at flow side how (part head body) seen answer = answer_head_ends at flow side how head seen answer
  turn_answer_ends at flow side how (complete head body trailers size) seen answer = answer_head_ends at flow side how head seen answer
  turn_answer_ends at flow side how (bad_head fault) seen answer = tt
  turn_answer_ends at flow side how (bad_body fault head body) seen answer = answer_head_ends at flow side how head seen answer

  taken_returned_ends : (at : At) (flow : Flow) (taken : Taken Response) (moment : ℕ) (used : Used) (closed : Bool) → EndsInOrder (turn_taken_returned at flow taken moment used closed).owed
  taken_returned_ends at flow (GoesOn message) moment used closed = finished_ends flow message NoServer used (connection_goes_on at.flow flow.request message) closed
  taken_returned_ends at flow (Responds response) moment used closed = early_ends flow killed_message moment used closed
  taken_returned_ends at flow Kills moment used closed = early_ends flow killed_message moment used closed

  response_ends : (o : Option Response) (takes : Response → Taken Response) (goes : Taken Response → Turn Stage Command) → ((taken : Taken Response) → EndsInOrder (goes taken).owed) →
      EndsInOrder (turn_response o takes goes).owed
  response_ends None takes goes ends = tt
  response_ends (Some message) takes goes ends = ends (takes message)

  whole_answer_ends : (at : At) (flow : Flow) (answer : Timed Reply) (used : Used) (closed : Bool) → EndsInOrder (turn_whole_answer at flow answer used closed).owed
  whole_answer_ends at flow answer used closed =
      response_ends flow.response (λ message. taken_at_response_body message answer.value) (λ taken. turn_taken_returned at flow taken answer.moment used closed)
      (λ taken. taken_returned_ends at flow taken answer.moment used closed)

  finish_ends : (switches : Bool) (place : Place) (at : At) (flow : Flow) (how : Sent) (message : Response) (keeps : Bool) (side : ℕ) (used : Used) (closed : Bool) →
      EndsInOrder (finish_by switches place at flow how message keeps side used closed).owed
  finish_ends true place at flow how message keeps side used closed = tt
  finish_ends false place at flow how message keeps side used closed =
      let stays : Bool = is_sent how && connection_goes_on at.flow flow.request message in
      finished_ends flow message (unless_kept (stays && keeps) used) NoServer stays closed

  taken_whole_ends : (place : Place) (at : At) (flow : Flow) (side : ℕ) (how : Sent) (keeps : Bool) (taken : Taken Response) (moment : ℕ) (used : Used) (closed : Bool) →
      EndsInOrder (turn_taken_whole place at flow side how keeps taken moment used closed).owed
  taken_whole_ends place at flow side how keeps (GoesOn message) moment used closed =
      finish_ends (is_sent how && message.status == 101) place at flow how message keeps side used closed
  taken_whole_ends place at flow side how keeps (Responds response) moment used closed = early_ends flow killed_message moment used closed
  taken_whole_ends place at flow side how keeps Kills moment used closed = early_ends flow killed_message moment used closed

  turn_returned_ends : (place : Place) (at : At) (flow : Flow) (side : ℕ) (how : Sent) (item : Item ReadResponse) (seen : Sight) (answer : Timed Reply) →
      EndsInOrder (turn_returned place at flow side how item seen answer).owed
  turn_returned_ends place at flow side how missing seen answer = tt
  turn_returned_ends place at flow side how (part head body) seen answer = tt
  turn_returned_ends place at flow side how (complete head body trailers size) seen answer =
      let asked_flow : Flow = with_returned flow body.content trailers seen.now in
      let keeps : Bool = keeps_side flow.request seen head in
      response_ends asked_flow.response (λ message. taken_at_response_body message answer.value)
      (λ taken. turn_taken_whole place at asked_flow side how keeps taken answer.moment (server_in side seen) seen.closed)
      (λ taken. taken_whole_ends place at asked_flow side how keeps taken answer.moment (server_in side seen) seen.closed)
  turn_returned_ends place at flow side how (bad_head fault) seen answer = tt
  turn_returned_ends place at flow side how (bad_body fault head body) seen answer = tt

  given_ends : (at : At) (flow : Flow) (taken : Taken Response) (moment : ℕ) (parked : Used) (closed : Bool) → EndsInOrder (turn_taken_given at flow taken moment parked closed).owed
  given_ends at flow (GoesOn message) moment parked closed = tt
  given_ends at flow (Responds response) moment parked closed = early_ends (without_response flow) killed_message moment parked closed
  given_ends at flow Kills moment parked closed = early_ends (without_response flow) killed_message moment parked closed

  turned_ends : (stage : Stage) (seen : Sight) (answer : Timed Reply) → EndsInOrder (turn_unspoilt terms stage seen answer).owed
  turned_ends (idle at) seen answer = turn_head_ends at (request_in seen) seen answer
  turned_ends (busy at flow (request_body given size)) seen answer = turn_body_ends terms.place at flow (request_in seen) seen answer
  turned_ends (busy at flow (connection how)) seen answer = turn_dial_ends terms.place at flow how answer seen.closed
  turned_ends (busy at flow (response_head side how)) seen answer = turn_answer_ends at flow side how (answers_in flow.request seen).final seen answer
  turned_ends (busy at flow (response_body side how most)) seen answer = turn_returned_ends terms.place at flow side how (answers_in flow.request seen).final seen answer
  turned_ends (busy at flow (coming_down side how)) seen answer = tt
  turned_ends (busy at flow (upgraded side)) seen answer = tt
  turned_ends (busy at flow given_head) seen answer =
      let asked_flow : Flow = given_at flow seen.now in
      response_ends asked_flow.response (λ message. taken_at_response_head message answer.value)
      (λ taken. turn_taken_given at asked_flow taken answer.moment (server_parked at.parked seen) seen.closed)
      (λ taken. given_ends at asked_flow taken answer.moment (server_parked at.parked seen) seen.closed)
  turned_ends (busy at flow given_body) seen answer = whole_answer_ends at flow answer (server_parked at.parked seen) seen.closed
  turned_ends (next at) seen answer = tt
  turned_ends over seen answer = tt

  -- What a reply brings is in order.
  pub turns_in_order : (stage : Stage) (seen : Sight) (answer : Timed Reply) → EndsInOrder (turn terms stage seen answer).owed
  turns_in_order stage seen answer = turned_ends (unspoilt stage seen) seen answer

-- ---- where it passes

sends_in_order : (place : Place) (flow : Flow) (side : ℕ) (how : Sent) (seen : Sight) (rest : List Command) → EndsInOrder rest → EndsInOrder (sends_up place flow side how seen ++ rest)
sends_in_order place flow side all_sent seen rest ends = ends
sends_in_order place flow side going_up seen rest ends = ends

came_in_order : (place : Place) (at : At) (flow : Flow) (side : ℕ) (how : Sent) (seen : Sight) (came : Option Came) → EndsInOrder (pass_came place at flow side how seen came).owed
came_in_order place at flow side how seen None = tt
came_in_order place at flow side how seen (Some came) =
    let stays : Bool = is_sent how && goes_on_behind at.flow flow.request came in
    let used : Used = unless_kept (keeps_came at flow how seen came) (server_in side seen) in
    sends_in_order place flow side how seen (finished_coming flow seen used ++ shut_unless stays NoServer seen.closed)
    (closes_both (shut_server used) (shut_unless stays NoServer seen.closed) (server_closes used) (unless_closes stays NoServer seen.closed))

kept_in_order : (streams : Bool) (place : Place) (at : At) (flow : Flow) (side : ℕ) (how : Sent) (most : Option ℕ) (seen : Sight) →
    EndsInOrder (pass_kept streams place at flow side how most seen).owed
kept_in_order true place at flow side how most seen = came_in_order place at (streaming flow) side how seen (came_in (streaming flow) seen)
kept_in_order false place at flow side how most seen = tt

come_in_order : (terms : Terms) (stage : Stage) (seen : Sight) → EndsInOrder (come_down terms stage seen).owed
come_in_order terms (idle at) seen = tt
come_in_order terms (busy at flow (request_body given size)) seen = tt
come_in_order terms (busy at flow (connection how)) seen = tt
come_in_order terms (busy at flow (response_head side how)) seen = tt
come_in_order terms (busy at flow (response_body side how most)) seen = kept_in_order (streams_in flow most seen) terms.place at flow side how most seen
come_in_order terms (busy at flow (coming_down side how)) seen = came_in_order terms.place at flow side how seen (came_in flow seen)
come_in_order terms (busy at flow (upgraded side)) seen = tt
come_in_order terms (busy at flow given_head) seen = tt
come_in_order terms (busy at flow given_body) seen = tt
come_in_order terms (next at) seen = tt
come_in_order terms over seen = tt

-- the rest of a request that is whole comes first
end_in_order_by : (g : Option ℕ) (place : Place) (at : At) (flow : Flow) (doing : Doing) (seen : Sight) (rest : List Command) → EndsInOrder rest →
    EndsInOrder ((end_by g place at flow doing seen).owed ++ rest)
end_in_order_by None place at flow doing seen rest ends = ends
end_in_order_by (Some server) place at flow doing seen rest ends = ends

end_in_order : (terms : Terms) (stage : Stage) (seen : Sight) (rest : List Command) → EndsInOrder rest → EndsInOrder ((end_up terms stage seen).owed ++ rest)
end_in_order terms (idle at) seen rest ends = ends
end_in_order terms (busy at flow doing) seen rest ends = end_in_order_by (gone_by (going_at doing) (whole_in seen)) terms.place at flow doing seen rest ends
end_in_order terms (next at) seen rest ends = ends
end_in_order terms over seen rest ends = ends

-- What is owed where it passes is in order.
pub passes_in_order : (terms : Terms) (stage : Stage) (seen : Sight) → EndsInOrder (pass terms stage seen).owed
passes_in_order terms stage seen =
    let there : Stage = gone_up terms stage seen in
    let left : Sight = sight_gone terms stage seen in
    end_in_order terms (begin_up terms stage seen) (sight_begun stage seen) (come_down terms there left).owed (come_in_order terms there left)

-- ---- behind an ask

behind_ends : (stage : Stage) (seen : Sight) → OnlyCloses (behind_unspoilt stage seen)
behind_ends (idle at) seen = tt
behind_ends (busy at flow (request_body given size)) seen = tt
behind_ends (busy at flow (connection how)) seen = server_closes (server_parked at.parked seen)
behind_ends (busy at flow (response_head side how)) seen = tt
behind_ends (busy at flow (response_body side how most)) seen = tt
behind_ends (busy at flow (coming_down side how)) seen = tt
behind_ends (busy at flow (upgraded side)) seen = tt
behind_ends (busy at flow given_head) seen = tt
behind_ends (busy at flow given_body) seen = tt
behind_ends (next at) seen = tt
behind_ends over seen = tt

-- What is owed behind an ask is closes alone.
pub behind_closes : (stage : Stage) (seen : Sight) → OnlyCloses (behind stage seen)
behind_closes stage seen = behind_ends (unspoilt stage seen) seen
