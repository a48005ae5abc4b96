-- What is due in a conversation of HTTP/1.1, as a chain of stages (RFC 9110, RFC 9112). What a stage finds, where it goes on
-- without a reply and what a reply brings are functions of the stage and of what it looks at. A close of the client counts where
-- nothing else is found in the same sight.
use Rattle.std.specs.Prelude.{◌≡◌, ℕ, ◌+◌, ◌==◌, Bool, true, false, ◌&&◌, List, [], ◌∷◌, length, Option, Some, None, ◌++◌}
use Rattle.px_message.specs.declared.address.Address.{Address}
use Rattle.px_message.specs.declared.fault.Fault.{Fault}
use Rattle.px_message.specs.declared.flow.Flow.{Flow}
use Rattle.px_message.specs.declared.request.Request.{Request}
use Rattle.px_message.specs.declared.response.Response.{Response}
use Rattle.px_event.specs.declared.ask.Hook.TheVariants.{ResponseHead, ResponseBody}
use Rattle.px_event.specs.declared.command.Command.{Command}
use Rattle.px_event.specs.declared.command.Command.TheVariants as commands
use Rattle.px_event.specs.declared.event.Event.{Event}
use Rattle.px_event.specs.declared.side.Side.TheVariants.{Client}
use Rattle.px_event.specs.declared.reply.Reply.{Reply}
use Rattle.px_event.specs.declared.reply.Reply.TheVariants as reply
use Rattle.px_event.specs.Chain.{Timed, Look, NotYet, Asks, Ends, Turn, Chain}
use Rattle.px_read.specs.Items.{Item, part, complete, bad_body}
use Rattle.px_read.specs.declared.head.RequestHead.{RequestHead as ReadRequest}
use Rattle.px_read.specs.declared.head.ResponseHead.{ResponseHead as ReadResponse}
use Rattle.px_exchange.specs.declared.asked.Judged.{Judged}
use Rattle.px_exchange.specs.declared.asked.Judged.TheVariants.{Refused, Accepted, Connects}
use Rattle.px_exchange.specs.declared.ending.Used.{Used}
use Rattle.px_exchange.specs.declared.ending.Used.TheVariants.{NoServer}
use Rattle.px_exchange.specs.declared.taken.Taken.{Taken}
use Rattle.px_exchange.specs.declared.taken.Taken.TheVariants.{GoesOn, Responds, Kills}
use Rattle.px_exchange.specs.declared.terms.Terms.{Terms}
use Rattle.px_exchange.specs.declared.place.Place.{Place}
use Rattle.px_exchange.specs.Dials.{connected_owes, dial_owes}
use Rattle.px_exchange.specs.Endings.{without_response, killed_message, closed_message, ends_by_fault, ends_early, connection_goes_on, finished, shut_server, shut_unless, unless_kept}
use Rattle.px_exchange.specs.Finds.{or_leaves, look_head, look_body, look_answer, look_returned}
use Rattle.px_write.specs.Error.{fault_message}
use Rattle.px_exchange.specs.Flows.{ask_of, with_body, response_of, with_answer, with_end, with_returned, with_start}
use Rattle.px_exchange.specs.Places.{dialled_for, is_same_address, server_for}
use Rattle.px_exchange.specs.Replies.{taken_at_request_head, taken_at_request_body, taken_at_response_head, taken_at_response_body}
use Rattle.px_exchange.specs.Requests.{expects, flow_of, judged}
use Rattle.px_exchange.specs.Texts.{interim_commands, meets_expectation, returned_text}
use Rattle.px_chain.specs.Behind.{dials_at, used_by_turn}
use Rattle.px_chain.specs.Keeping.{keeps_side, parks, strays, unspoilt, unspoilt_at}
use Rattle.px_chain.specs.Going.{allowed_up_by, goes_up, is_sent, sending_on, sends_going, sends_up, told_behind, whole_in, with_whole}
use Rattle.px_chain.specs.Sights.{Sight, Standing, UsedBytes, answers_in, left_by, request_in, server_in, server_parked, sight_over, used_by_answers, used_with}
use Rattle.px_chain.specs.Coming.{Came, allowed_by, came_in, finished_coming, goes_on_behind, sends_coming, streaming, streams_in}
use Rattle.px_chain.specs.Stages.{At, Doing, Parked, Sent, Stage, all_sent, busy, coming_down, connection, given_body, given_head, going_up, idle, next, over, request_body, response_body, response_head, unparked, upgraded}
use Rattle.px_chain.specs.Streams.{from_here}

-- ---- idle: a request's head

-- the end by a kill: nothing is said to the client
abbrev pub killed : Flow → ℕ → Used → Bool → Turn Stage Command
killed flow moment used closed = record { owed = ends_early flow killed_message moment used closed; stage = over }

-- nothing is owed, and the conversation has ended
abbrev pub stops : Turn Stage Command
stops = record { owed = []; stage = over }

abbrev pub turn_taken_head : At → Flow → Bool → Option ℕ → Taken Request → ℕ → Sight → Turn Stage Command
turn_taken_head at flow expected most (GoesOn request) moment seen =
    record { owed = meets_expectation expected; stage = busy at (record flow { request = request }) (request_body None most) }
turn_taken_head at flow expected most (Responds response) moment seen =
    record { owed = meets_expectation expected; stage = busy at flow (request_body (Some response) None) }
turn_taken_head at flow expected most Kills moment seen = killed flow moment (server_parked at.parked seen) seen.closed

abbrev pub turn_judged : Terms → At → ReadRequest → Judged → Sight → Timed Reply → Turn Stage Command
turn_judged terms at head (Refused fault) seen answer = stops
turn_judged terms at head (Connects address) seen answer = stops
turn_judged terms at head (Accepted request) seen answer =
    turn_taken_head at (flow_of terms at.flow request seen.now) (expects head) (allowed_up_by terms.streams answer.value)
    (taken_at_request_head request answer.value) answer.moment seen

abbrev pub turn_head : Terms → At → Item ReadRequest → Sight → Timed Reply → Turn Stage Command
turn_head terms at (part head body) seen answer = turn_judged terms at head (judged terms.place head) seen answer
turn_head terms at (complete head body trailers used) seen answer =
    turn_judged terms at head (judged terms.place head) seen answer
turn_head terms at (bad_body fault head body) seen answer =
    turn_judged terms at head (judged terms.place head) seen answer
turn_head terms at _ seen answer = stops

-- ---- the request's body

-- a request that is whole needs no question where a response is given already
abbrev pub pass_given : At → Flow → Response → Option ℕ → Item ReadRequest → ℕ → Stage
pass_given at flow response most (complete head body trailers used) now =
    busy at (record (with_body flow body.content trailers now) { response = Some response }) given_head
pass_given at flow response most item now = busy at flow (request_body (Some response) most)

-- the flow, connected to its server
abbrev pub reached : Place → Flow → Flow
reached place flow = record flow { server = Some (server_for place flow.request) }

-- the parked side, where this request goes to its address
abbrev pub side_if : Bool → ℕ → Option ℕ
side_if true server = Some server
side_if false server = None

abbrev pub parked_for : Place → Request → Option Parked → Option ℕ
parked_for place request None = None
parked_for place request (Some parked) = side_if (is_same_address parked.address (server_for place request)) parked.server

-- A request that goes on goes to the parked side, or its server is dialled.
abbrev pub goes_on_by : Option ℕ → Place → At → Flow → Turn Stage Command
goes_on_by None place at flow = record { owed = []; stage = busy at flow (connection all_sent) }
goes_on_by (Some server) place at flow = record {
  owed = connected_owes place flow server;
  stage = busy (unparked at) (reached place flow) (response_head server all_sent);
}

-- One that is streamed owes its text by what its stage owes while it waits.
abbrev pub goes_up_by : Option ℕ → Place → At → Flow → Stage
goes_up_by None place at flow = busy at flow (connection going_up)
goes_up_by (Some server) place at flow = busy (unparked at) (reached place flow) (response_head server going_up)

-- it is not kept any more
abbrev pub pass_going : Bool → Place → At → Flow → Option ℕ → Sight → Stage
pass_going true place at flow most seen = goes_up_by (parked_for place flow.request (unspoilt_at at seen).parked) place at (sending_on flow)
pass_going false place at flow most seen = busy at flow (request_body None most)

abbrev pub pass_body : Place → At → Flow → Option Response → Option ℕ → Sight → Stage
pass_body place at flow None most seen = pass_going (goes_up most seen) place at flow most seen
pass_body place at flow (Some response) most seen = pass_given at flow response most (request_in seen) seen.now

abbrev pub turn_taken_body : Place → At → Flow → Taken Request → ℕ → Sight → Turn Stage Command
turn_taken_body place at flow (GoesOn request) moment seen =
    goes_on_by (parked_for place request at.parked) place at (record flow { request = request })
turn_taken_body place at flow (Responds response) moment seen =
    record { owed = []; stage = busy at (record flow { response = Some response }) given_head }
turn_taken_body place at flow Kills moment seen = killed flow moment (server_parked at.parked seen) seen.closed

-- the request is whole, and the flow has it
abbrev pub turn_whole : Place → At → Flow → Sight → Timed Reply → Turn Stage Command
turn_whole place at flow seen answer =
    turn_taken_body place at flow (taken_at_request_body flow.request answer.value) answer.moment seen

abbrev pub turn_body : Place → At → Flow → Item ReadRequest → Sight → Timed Reply → Turn Stage Command
turn_body place at flow (complete head body trailers used) seen answer =
    turn_whole place at (with_body flow body.content trailers seen.now) seen answer
turn_body place at flow _ seen answer = stops

-- ---- the connection to its server

abbrev pub dial_leads : Place → At → Flow → Sent → Reply → Stage
dial_leads place at flow sent reply.Dialled =
    busy (record at { dials = at.dials + 1; parked = None }) (reached place flow) (response_head at.dials sent)
dial_leads place at flow sent _ = over

-- what a request owes that goes up is owed behind the answer
abbrev pub dial_owes_by : Sent → Place → Flow → ℕ → Reply → ℕ → Bool → List Command
dial_owes_by all_sent place flow server answer moment closed = dial_owes place flow server answer moment closed
dial_owes_by going_up place flow server (reply.Refused fault) moment closed = ends_by_fault flow fault moment NoServer closed
dial_owes_by going_up place flow server answer moment closed = []

abbrev pub turn_dial : Place → At → Flow → Sent → Timed Reply → Bool → Turn Stage Command
turn_dial place at flow sent answer closed = record {
  owed = dial_owes_by sent place flow at.dials answer.value answer.moment closed;
  stage = dial_leads place at flow sent answer.value;
}

-- ---- the head of the final response

abbrev pub turn_taken_answer : At → Flow → ℕ → Sent → Option ℕ → Taken Response → ℕ → Used → Bool → Turn Stage Command
turn_taken_answer at flow server sent most (GoesOn response) moment used closed =
    record { owed = []; stage = busy at (record flow { response = Some response }) (response_body server sent most) }
turn_taken_answer at flow server sent most _ moment used closed = killed (without_response flow) moment used closed

abbrev pub turn_answer_head : Terms → At → Flow → ℕ → Sent → ReadResponse → Sight → Timed Reply → Turn Stage Command
turn_answer_head terms at flow server sent head seen answer =
    turn_taken_answer at (with_answer flow (response_of head) seen.now) server sent (allowed_by terms.streams answer.value)
    (taken_at_response_head (response_of head) answer.value) answer.moment (server_in server seen) seen.closed

abbrev pub turn_answer : Terms → At → Flow → ℕ → Sent → Item ReadResponse → Sight → Timed Reply → Turn Stage Command
turn_answer terms at flow server sent (part head body) seen answer = turn_answer_head terms at flow server sent head seen answer
turn_answer terms at flow server sent (complete head body trailers size) seen answer = turn_answer_head terms at flow server sent head seen answer
turn_answer terms at flow server sent (bad_body fault head body) seen answer = turn_answer_head terms at flow server sent head seen answer
turn_answer terms at flow server sent _ seen answer = stops

-- ---- the response's body

-- where the flow leads
abbrev pub behind_flow : Bool → At → Stage
behind_flow true at = next (record at { flow = at.flow + 1 })
behind_flow false at = over

-- A flow is finished that used no side: a parked one is closed where the conversation ends.
abbrev pub finish_given : At → Flow → Response → Used → Bool → Turn Stage Command
finish_given at flow response parked closed =
    let stays = connection_goes_on at.flow flow.request response in
    record { owed = finished flow response NoServer ++ shut_unless stays parked closed; stage = behind_flow stays at }

-- One is finished that used a side, which is kept or closed. The conversation ends where the request is not whole, and the side with it.
abbrev pub finish : Place → At → Flow → Sent → Response → (keeps : Bool) → ℕ → Used → Bool → Turn Stage Command
finish place at flow sent response keeps server used closed =
    let stays = is_sent sent && connection_goes_on at.flow flow.request response in
    let kept = stays && keeps in
    record { owed = finished flow response (unless_kept kept used) ++ shut_unless stays NoServer closed; stage = behind_flow stays (parks kept place at flow.request server) }

abbrev pub turn_taken_returned : At → Flow → Taken Response → ℕ → Used → Bool → Turn Stage Command
turn_taken_returned at flow (GoesOn response) moment parked closed = finish_given at flow response parked closed
turn_taken_returned at flow _ moment parked closed = killed flow moment parked closed

-- a flow whose response is there
abbrev pub turn_response : Option Response → (Response → Taken Response) → (Taken Response → Turn Stage Command) → Turn Stage Command
turn_response None takes goes = stops
turn_response (Some response) takes goes = goes (takes response)

abbrev pub turn_whole_answer : At → Flow → Timed Reply → Used → Bool → Turn Stage Command
turn_whole_answer at flow answer parked closed = turn_response flow.response
    (λ response. taken_at_response_body response answer.value)
    (λ taken. turn_taken_returned at flow taken answer.moment parked closed)

-- A response of code 101 is sent, and ends HTTP, where its request was whole: what follows on both sides is of another protocol (RFC 9110
-- section 15.2.2).
abbrev pub upgrade : At → Flow → Response → ℕ → Turn Stage Command
upgrade at flow response server = record {
  owed = commands.Send Client (returned_text flow.request response) ∷ [];
  stage = busy at (record flow { response = Some response }) (upgraded server);
}

abbrev pub finish_by : Bool → Place → At → Flow → Sent → Response → (keeps : Bool) → ℕ → Used → Bool → Turn Stage Command
finish_by true place at flow sent response keeps server used closed = upgrade at flow response server
finish_by false place at flow sent response keeps server used closed = finish place at flow sent response keeps server used closed

abbrev pub turn_taken_whole : Place → At → Flow → ℕ → Sent → (keeps : Bool) → Taken Response → ℕ → Used → Bool → Turn Stage Command
turn_taken_whole place at flow server sent keeps (GoesOn response) moment used closed =
    finish_by (is_sent sent && response.status == 101) place at flow sent response keeps server used closed
turn_taken_whole place at flow server sent keeps _ moment used closed = killed flow moment used closed

abbrev pub turn_read_whole : Place → At → Flow → ℕ → Sent → (keeps : Bool) → Timed Reply → Used → Bool → Turn Stage Command
turn_read_whole place at flow server sent keeps answer used closed = turn_response flow.response
    (λ response. taken_at_response_body response answer.value)
    (λ taken. turn_taken_whole place at flow server sent keeps taken answer.moment used closed)

abbrev pub turn_returned : Place → At → Flow → ℕ → Sent → Item ReadResponse → Sight → Timed Reply → Turn Stage Command
turn_returned place at flow server sent (complete head body trailers size) seen answer =
    turn_read_whole place at (with_returned flow body.content trailers seen.now) server sent (keeps_side flow.request seen head) answer (server_in server seen) seen.closed
turn_returned place at flow server sent _ seen answer = stops

-- ---- a response that was given in place of the server's

-- it is whole when it is given: both its moments are then
abbrev pub given_at : Flow → ℕ → Flow
given_at flow moment = with_end (with_start flow moment) moment

abbrev pub turn_taken_given : At → Flow → Taken Response → ℕ → Used → Bool → Turn Stage Command
turn_taken_given at flow (GoesOn response) moment parked closed =
    record { owed = []; stage = busy at (record flow { response = Some response }) given_body }
turn_taken_given at flow _ moment parked closed = killed (without_response flow) moment parked closed

abbrev pub turn_given_head : At → Flow → Timed Reply → Used → Bool → Turn Stage Command
turn_given_head at flow answer parked closed = turn_response flow.response
    (λ response. taken_at_response_head response answer.value)
    (λ taken. turn_taken_given at flow taken answer.moment parked closed)

-- ---- what a stage goes on to without a reply

-- nothing is owed where it goes on
abbrev pub goes_to : Stage → Turn Stage Command
goes_to stage = record { owed = []; stage = stage }

-- Passing is three steps, one behind the other: a request begins to go up, or is whole whose response is given; one that goes up is whole;
-- and a response comes down.

-- ---- a request begins to go up, or needs no question

abbrev pub begins_up : Place → At → Flow → Doing → Sight → Stage
begins_up place at flow (request_body given most) seen = pass_body place at flow given most seen
begins_up place at flow doing seen = busy at flow doing

abbrev pub begin_up : Terms → Stage → Sight → Stage
begin_up terms (busy at flow doing) seen = begins_up terms.place at flow doing seen
begin_up terms stage seen = stage

-- the bytes of a whole request whose response is given are used
abbrev pub used_by_begin : Stage → Sight → UsedBytes → UsedBytes
used_by_begin (busy at flow (request_body (Some response) most)) seen used = record used { client = used_with (request_in seen) used.client }
used_by_begin stage seen used = used

abbrev pub sight_begun : Stage → Sight → Sight
sight_begun (busy at flow (request_body (Some response) most)) seen = record seen { client = left_by (request_in seen) seen.client }
sight_begun stage seen = seen

-- ---- one that goes up is whole: the rest of its text is owed, and its bytes are used

-- the doing that is behind it, and the number of its server, where it goes up
abbrev pub going_at : Doing → Option ℕ
going_at (response_head server going_up) = Some server
going_at (response_body server going_up most) = Some server
going_at (coming_down server going_up) = Some server
going_at doing = None

abbrev pub gone : Doing → Doing
gone (response_head server sent) = response_head server all_sent
gone (response_body server sent most) = response_body server all_sent most
gone (coming_down server sent) = coming_down server all_sent
gone doing = doing

-- a server that a request goes up to, which is whole
abbrev pub gone_by : Option ℕ → Option ℕ → Option ℕ
gone_by (Some server) (Some size) = Some server
gone_by going size = None

abbrev pub end_by : Option ℕ → Place → At → Flow → Doing → Sight → Turn Stage Command
end_by None place at flow doing seen = goes_to (busy at flow doing)
end_by (Some server) place at flow doing seen =
    record { owed = sends_going place flow server seen; stage = busy at (with_whole flow seen.now) (gone doing) }

abbrev pub end_up : Terms → Stage → Sight → Turn Stage Command
end_up terms (busy at flow doing) seen = end_by (gone_by (going_at doing) (whole_in seen)) terms.place at flow doing seen
end_up terms stage seen = goes_to stage

abbrev pub used_by_gone : Option ℕ → Sight → UsedBytes → UsedBytes
used_by_gone None seen used = used
used_by_gone (Some server) seen used = record used { client = used_with (request_in seen) used.client }

abbrev pub used_by_end : Stage → Sight → UsedBytes → UsedBytes
used_by_end (busy at flow doing) seen used = used_by_gone (gone_by (going_at doing) (whole_in seen)) seen used
used_by_end stage seen used = used

abbrev pub past_gone : Option ℕ → Sight → Sight
past_gone None seen = seen
past_gone (Some server) seen = record seen { client = left_by (request_in seen) seen.client }

abbrev pub sight_ended : Stage → Sight → Sight
sight_ended (busy at flow doing) seen = past_gone (gone_by (going_at doing) (whole_in seen)) seen
sight_ended stage seen = seen

-- ---- a response comes down

-- Where it is whole its flow is finished without a question: what came of its request, its text, the flow, and the closes of its
-- server's side, unless that is kept, and, where its connection ends, of the client. That ends where the request is not whole.
abbrev pub keeps_came : At → Flow → Sent → Sight → Came → Bool
keeps_came at flow sent seen came = (is_sent sent && goes_on_behind at.flow flow.request came) && keeps_side flow.request seen came.head

abbrev pub pass_came : Place → At → Flow → ℕ → Sent → Sight → Option Came → Turn Stage Command
pass_came place at flow server sent seen None = goes_to (busy at flow (coming_down server sent))
pass_came place at flow server sent seen (Some came) =
    let stays = is_sent sent && goes_on_behind at.flow flow.request came in
    let kept = keeps_came at flow sent seen came in record {
      owed = sends_up place flow server sent seen ++ (finished_coming flow seen (unless_kept kept (server_in server seen)) ++ shut_unless stays NoServer seen.closed);
      stage = behind_flow stays (parks kept place at flow.request server);
    }

abbrev pub pass_down : Place → At → Flow → ℕ → Sent → Sight → Turn Stage Command
pass_down place at flow server sent seen = pass_came place at flow server sent seen (came_in flow seen)

-- one that is not streamed is kept until it is whole
abbrev pub pass_kept : Bool → Place → At → Flow → ℕ → Sent → Option ℕ → Sight → Turn Stage Command
pass_kept true place at flow server sent most seen = pass_down place at (streaming flow) server sent seen
pass_kept false place at flow server sent most seen = goes_to (busy at flow (response_body server sent most))

abbrev pub comes : Place → At → Flow → Doing → Sight → Turn Stage Command
comes place at flow (response_body server sent most) seen = pass_kept (streams_in flow most seen) place at flow server sent most seen
comes place at flow (coming_down server sent) seen = pass_down place at flow server sent seen
comes place at flow doing seen = goes_to (busy at flow doing)

abbrev pub come_down : Terms → Stage → Sight → Turn Stage Command
come_down terms (busy at flow doing) seen = comes terms.place at flow doing seen
come_down terms stage seen = goes_to stage

-- of a server's side that is kept the responses are used, and of one that is closed nothing counts any more
abbrev pub used_if : Bool → Flow → Sight → UsedBytes → UsedBytes
used_if true flow seen used = record used { server = used_by_answers (answers_in flow.request seen) used.server }
used_if false flow seen used = record used { server = 0 }

abbrev pub used_by_came : At → Flow → Sent → Sight → Option Came → UsedBytes → UsedBytes
used_by_came at flow sent seen None used = used
used_by_came at flow sent seen (Some came) used = used_if (keeps_came at flow sent seen came) flow seen used

abbrev pub used_by_kept : Bool → At → Flow → Sent → Sight → Option Came → UsedBytes → UsedBytes
used_by_kept true at flow sent seen came used = used_by_came at flow sent seen came used
used_by_kept false at flow sent seen came used = used

abbrev pub used_by_coming : Stage → Sight → UsedBytes → UsedBytes
used_by_coming (busy at flow (response_body server sent most)) seen used = used_by_kept (streams_in flow most seen) at (streaming flow) sent seen (came_in (streaming flow) seen) used
used_by_coming (busy at flow (coming_down server sent)) seen used = used_by_came at flow sent seen (came_in flow seen) used
used_by_coming stage seen used = used

-- a side that is kept is silent
abbrev pub past_came : Option Came → Sight → Sight
past_came None seen = seen
past_came (Some came) seen = record seen { server = []; shut = false }

abbrev pub past_kept : Bool → Option Came → Sight → Sight
past_kept true came seen = past_came came seen
past_kept false came seen = seen

abbrev pub sight_come : Stage → Sight → Sight
sight_come (busy at flow (response_body server sent most)) seen = past_kept (streams_in flow most seen) (came_in (streaming flow) seen) seen
sight_come (busy at flow (coming_down server sent)) seen = past_came (came_in flow seen) seen
sight_come stage seen = seen

-- ---- all three

-- behind the first two, where it stands and what is left to see
abbrev pub gone_up : Terms → Stage → Sight → Stage
gone_up terms stage seen = (end_up terms (begin_up terms stage seen) (sight_begun stage seen)).stage

abbrev pub sight_gone : Terms → Stage → Sight → Sight
sight_gone terms stage seen = sight_ended (begin_up terms stage seen) (sight_begun stage seen)

abbrev pub pass : Terms → Stage → Sight → Turn Stage Command
pass terms stage seen =
    let up = end_up terms (begin_up terms stage seen) (sight_begun stage seen) in
    let down = come_down terms up.stage (sight_gone terms stage seen) in
    record { owed = up.owed ++ down.owed; stage = down.stage }

-- what is used by that, and what is left of the sight then
abbrev pub used_by_pass : Terms → Stage → Sight → UsedBytes → UsedBytes
used_by_pass terms stage seen used =
    used_by_coming (gone_up terms stage seen) (sight_gone terms stage seen)
    (used_by_end (begin_up terms stage seen) (sight_begun stage seen) (used_by_begin stage seen used))

abbrev pub sight_past : Terms → Stage → Sight → Sight
sight_past terms stage seen = sight_come (gone_up terms stage seen) (sight_gone terms stage seen)

-- ---- what it finds, but for the client's close

-- A fault behind the first byte of a response is told by the close alone.
abbrev pub look_coming : Flow → Item ReadResponse → ℕ → Used → Bool → Look Command
look_coming flow (bad_body fault head body) moment used closed = Ends (ends_early flow (fault_message fault) moment used closed)
look_coming flow _ moment used closed = NotYet

-- A bad body of a request that goes up is found first.
abbrev pub bad_or : Item ReadRequest → (Fault → List Command) → Look Command → Look Command
bad_or (bad_body fault head body) ends found = Ends (ends fault)
bad_or item ends found = found

abbrev pub look_up : Sent → Sight → (Fault → List Command) → Look Command → Look Command
look_up all_sent seen ends found = found
look_up going_up seen ends found = bad_or (request_in seen) ends found

abbrev pub finds : Place → At → Flow → Doing → Sight → Look Command
finds place at flow (request_body given most) seen = look_body flow (request_in seen) seen.now (server_parked at.parked seen) seen.closed
finds place at flow (connection sent) seen = Asks (commands.Dial at.dials (dialled_for place flow.request) None)
finds place at flow (response_head server sent) seen =
    look_up sent seen (λ fault. ends_by_fault flow fault seen.now (server_in server seen) seen.closed)
    (look_answer flow (answers_in flow.request seen).final seen.now (server_in server seen) seen.closed)
finds place at flow (response_body server sent most) seen =
    look_up sent seen (λ fault. ends_by_fault flow fault seen.now (server_in server seen) seen.closed)
    (look_returned flow (answers_in flow.request seen).final seen.now (server_in server seen) seen.closed)
finds place at flow (coming_down server sent) seen =
    look_up sent seen (λ fault. ends_early flow (fault_message fault) seen.now (server_in server seen) seen.closed)
    (look_coming flow (answers_in flow.request seen).final seen.now (server_in server seen) seen.closed)
finds place at flow (upgraded server) seen = Ends []
finds place at flow given_head seen = Asks (ask_of (given_at flow seen.now) ResponseHead)
finds place at flow given_body seen = Asks (ask_of flow ResponseBody)

abbrev pub find_unspoilt : Terms → Stage → Sight → Look Command
find_unspoilt terms (idle at) seen = look_head terms at.flow (request_in seen) seen.now (server_parked at.parked seen) seen.closed
find_unspoilt terms (busy at flow doing) seen = finds terms.place at flow doing seen
find_unspoilt terms _ seen = Ends []

-- a parked side whose keeping has ended counts for nothing
abbrev pub find : Terms → Stage → Sight → Look Command
find terms stage seen = find_unspoilt terms (unspoilt stage seen) seen

-- ---- what is owed where the client leaves

abbrev pub leaves : At → Flow → Doing → Sight → List Command
leaves at flow (request_body given most) seen = ends_early flow closed_message seen.now (server_parked at.parked seen) true
leaves at flow (response_head server sent) seen = ends_early flow closed_message seen.now (server_in server seen) true
leaves at flow (response_body server sent most) seen = ends_early (without_response flow) closed_message seen.now (server_in server seen) true
leaves at flow (coming_down server sent) seen = ends_early flow closed_message seen.now (server_in server seen) true
leaves at flow _ seen = []

abbrev pub leaving : Stage → Sight → List Command
leaving (idle at) seen = shut_server (server_parked at.parked seen)
leaving (busy at flow doing) seen = leaves at flow doing seen
leaving _ seen = []

abbrev pub look : Terms → Stage → Sight → Look Command
look terms stage seen = or_leaves seen.closed (leaving (unspoilt stage seen) seen) (find terms stage seen)

-- ---- what it owes while it waits: the close of a parked side of which a byte came, the interim responses that have come, and what came of a
-- request or a response that is streamed

abbrev pub waits : Place → Flow → Doing → Sight → List Command
waits place flow (response_head server sent) seen = sends_up place flow server sent seen ++ interim_commands flow.request (answers_in flow.request seen).interim
waits place flow (response_body server sent most) seen = sends_up place flow server sent seen
waits place flow (coming_down server sent) seen = sends_up place flow server sent seen ++ sends_coming flow seen
waits place flow _ seen = []

abbrev pub waits_at : Terms → Stage → Sight → List Command
waits_at terms (busy at flow doing) seen = waits terms.place flow doing seen
waits_at terms _ seen = []

abbrev pub so_far : Terms → Stage → Sight → List Command
so_far terms stage seen = strays stage seen ++ waits_at terms stage seen

-- ---- what it owes behind its ask: a dial closes the parked side, which no flow takes any more

abbrev pub parts : At → Doing → Sight → List Command
parts at (connection sent) seen = shut_server (server_parked at.parked seen)
parts at _ seen = []

abbrev pub behind_unspoilt : Stage → Sight → List Command
behind_unspoilt (busy at flow doing) seen = parts at doing seen
behind_unspoilt _ seen = []

abbrev pub behind : Stage → Sight → List Command
behind stage seen = behind_unspoilt (unspoilt stage seen) seen

-- ---- what a reply brings

abbrev pub turns : Terms → At → Flow → Doing → Sight → Timed Reply → Turn Stage Command
turns terms at flow (request_body given most) seen answer = turn_body terms.place at flow (request_in seen) seen answer
turns terms at flow (connection sent) seen answer = turn_dial terms.place at flow sent answer seen.closed
turns terms at flow (response_head server sent) seen answer = turn_answer terms at flow server sent (answers_in flow.request seen).final seen answer
turns terms at flow (response_body server sent most) seen answer = turn_returned terms.place at flow server sent (answers_in flow.request seen).final seen answer
turns terms at flow (coming_down server sent) seen answer = stops
turns terms at flow (upgraded server) seen answer = stops
turns terms at flow given_head seen answer = turn_given_head at (given_at flow seen.now) answer (server_parked at.parked seen) seen.closed
turns terms at flow given_body seen answer = turn_whole_answer at flow answer (server_parked at.parked seen) seen.closed

abbrev pub turn_unspoilt : Terms → Stage → Sight → Timed Reply → Turn Stage Command
turn_unspoilt terms (idle at) seen answer = turn_head terms at (request_in seen) seen answer
turn_unspoilt terms (busy at flow doing) seen answer = turns terms at flow doing seen answer
turn_unspoilt terms stage seen answer = record { owed = []; stage = stage }

-- a parked side whose keeping has ended is forgotten
abbrev pub turn : Terms → Stage → Sight → Timed Reply → Turn Stage Command
turn terms stage seen answer = turn_unspoilt terms (unspoilt stage seen) seen answer

-- where a finished flow leads: alone it is the end, in sequence the next flow begins
abbrev pub alone : Stage → Stage
alone stage = stage

abbrev pub sequence : Stage → Stage
sequence (next at) = idle at
sequence stage = stage

-- ---- where HTTP ends and something else follows

-- a whole CONNECT: where it asks for a tunnel to, and how many bytes it used
pub record Connect : Type 0 where
  pub address : Address
  pub used : ℕ

abbrev pub connect_by : Judged → ℕ → Option Connect
connect_by (Connects address) used = Some (record { address = address; used = used })
connect_by _ used = None

abbrev pub connect_in : Place → Item ReadRequest → Option Connect
connect_in place (complete head body trailers used) = connect_by (judged place head) used
connect_in place _ = None

-- ---- the chain

-- where a conversation stands at first
abbrev pub begin : Stage → Standing
begin stage = record { stage = stage; since = record { events = 0; moment = 0 }; opened = 0; used = record { client = 0; server = 0 }; told = 0 }

-- how many events had come when the dial of its server was answered: they are counted where a connection is awaited
abbrev pub opened_by : Bool → ℕ → ℕ → ℕ
opened_by true opened come = come
opened_by false opened come = opened

-- A stage that was come to from another over a prefix, by a reply at this moment: it stands from here on.
abbrev pub stands : Terms → Standing → ℕ → List (Timed Event) → Stage → Standing
stands terms from moment prefix stage = record {
  stage = stage;
  since = from_here moment prefix;
  opened = opened_by (dials_at from.stage) from.opened (length prefix);
  used = used_by_turn from.stage (sight_over from prefix) from.used stage;
  told = told_behind terms.place from.stage (sight_over from prefix);
}

-- A stage that went on without a reply in this sight stands since before, behind what it used.
abbrev pub passed : (Stage → Stage) → Terms → Standing → Sight → Standing
passed onward terms place seen =
    record place { stage = onward (pass terms place.stage seen).stage; used = used_by_pass terms place.stage seen place.used }

-- the chain of one flow, or of flows in sequence
abbrev pub http_chain : (Stage → Stage) → Terms → Chain Standing Event Reply Command
http_chain onward terms = record {
  pass = λ place prefix.
      let seen = sight_over place prefix in record { owed = (pass terms place.stage seen).owed; stage = passed onward terms place seen };
  look = λ place prefix. look terms place.stage (sight_over place prefix);
  so_far = λ place prefix. so_far terms place.stage (sight_over place prefix);
  behind = λ place prefix. behind place.stage (sight_over place prefix);
  turn = λ place prefix answer.
      let turned = turn terms place.stage (sight_over place prefix) answer in
      record { owed = turned.owed; stage = stands terms place answer.moment prefix (onward turned.stage) };
}

-- the chain is that of one flow, or of flows in sequence
pub data IsOnward (onward : Stage → Stage) : Type 0 where
  is_alone : onward ≡ alone → IsOnward onward
  is_sequence : onward ≡ sequence → IsOnward onward
