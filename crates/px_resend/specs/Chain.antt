-- What is due where a recorded request is sent again: the chain of its one flow, with no client.
--
-- Its request is whole from the start: both hooks are asked, and then the flow goes on as any flow does whose request is whole (px_chain). So its server is
-- dialled, gets the request, and answers; or a hook gives a response in place of the server's. It ends where the flow is finished, also by a response of
-- code 101, and its server's side is closed then, whether flows in sequence keep it for a next one or not.
use Rattle.std.specs.Prelude.{ℕ, false, List, [], ◌∷◌, Option, Some, None}
use Rattle.px_message.specs.declared.address.Address.{Address}
use Rattle.px_message.specs.declared.flow.Flow.{Flow}
use Rattle.px_message.specs.declared.flow.Replayed.TheVariants.{Request as RequestReplayed}
use Rattle.px_message.specs.declared.request.Request.{Request}
use Rattle.px_event.specs.declared.ask.Hook.TheVariants.{RequestHead, RequestBody}
use Rattle.px_event.specs.declared.command.Command.{Command}
use Rattle.px_event.specs.declared.command.Command.TheVariants as commands
use Rattle.px_event.specs.declared.event.Event.{Event}
use Rattle.px_event.specs.declared.reply.Reply.{Reply}
use Rattle.px_event.specs.Chain.{Timed, Look, NotYet, Asks, Ends, Turn, Chain}
use Rattle.px_exchange.specs.declared.mode.Mode.{Mode}
use Rattle.px_exchange.specs.declared.mode.Mode.TheVariants as modes
use Rattle.px_exchange.specs.declared.place.Place.{Place}
use Rattle.px_exchange.specs.declared.place.Place.TheVariants as places
use Rattle.px_exchange.specs.declared.taken.Taken.{Taken}
use Rattle.px_exchange.specs.declared.taken.Taken.TheVariants.{GoesOn, Responds, Kills}
use Rattle.px_exchange.specs.declared.terms.Terms.{Terms}
use Rattle.px_exchange.specs.Endings.{killed_message, shut_server, with_error}
use Rattle.px_exchange.specs.Flows.{ask_of, with_body}
use Rattle.px_exchange.specs.Places.{terms_of}
use Rattle.px_exchange.specs.Replies.{taken_at_request_head, taken_at_request_body}
use Rattle.px_exchange.specs.Requests.{flow_of}
use Rattle.px_chain.specs.Chain.{begin, http_chain, sequence}
use Rattle.px_chain.specs.Keeping.{unspoilt_at}
use Rattle.px_chain.specs.Sights.{Sight, Standing, server_in, server_parked, sight_over}
use Rattle.px_chain.specs.Stages.{At, Doing, busy, idle, upgraded}
use Rattle.px_chain.specs.Stages as flows
use Rattle.px_chain.specs.Streams.{from_here}
use Rattle.px_stream.specs.Anywhere.{doing_by}
use Rattle.px_resend.specs.Heard.{all_of_servers, to_servers}

-- Where it stands.
pub data Stage : Type 0 where
  -- it has not begun
  waiting : Stage
  -- the hook of its request's head is asked, and then that of the whole request
  asks_head : (flow : Flow) → Stage
  asks_whole : (flow : Flow) → Stage
  -- its request goes on, or a response was given in place of the server's
  goes_on : (place : Standing) → Stage
  -- it has ended
  over : Stage

-- ---- where its request goes: to its own host and port, or to a proxy, which alone gets its target in absolute form

abbrev pub proxy_in : Mode → Option Address
proxy_in (modes.Upstream proxy) = Some proxy
proxy_in mode = None

abbrev pub place_by : Option Address → Place
place_by None = places.Regular
place_by (Some proxy) = places.Upstream proxy

-- how its flow is made: no body is streamed
abbrev pub terms_by : ℕ → Option Address → Terms
terms_by conv proxy = record (terms_of conv None (place_by proxy)) { streams = false }

-- ---- its flow

-- as it begins, at this moment: the head of the recorded request
abbrev pub head_of : Request → Request
head_of request = record request { body = []; trailers = []; streamed = false }

abbrev pub first_flow : Terms → Request → ℕ → Flow
first_flow terms request moment = record (flow_of terms 0 (head_of request) moment) { replayed = RequestReplayed }

-- with all of the recorded request, which was there when it began
abbrev pub whole_flow : Request → Flow → Flow
whole_flow request flow = with_body flow request.body request.trailers flow.times.request_start

-- ---- behind the request's hooks

-- it is the first flow, and nothing was dialled
abbrev pub first_at : At
first_at = record { flow = 0; dials = 0; parked = None }

-- the flow goes on at this moment: no byte is used before
abbrev pub going_at : Flow → ℕ → List (Timed Event) → Standing
going_at flow moment prefix = record (begin (busy first_at flow (doing_by flow.response))) { since = from_here moment prefix }

abbrev pub going : Flow → ℕ → List (Timed Event) → Stage
going flow moment prefix = goes_on (going_at flow moment prefix)

abbrev pub leads_to : Stage → Turn Stage Command
leads_to stage = record { owed = []; stage = stage }

abbrev pub killed : Flow → ℕ → Turn Stage Command
killed flow moment = record { owed = commands.Done (with_error flow killed_message moment) ∷ []; stage = over }

abbrev pub turn_head : Request → Flow → List (Timed Event) → ℕ → Taken Request → Turn Stage Command
turn_head recorded flow prefix moment (GoesOn request) = leads_to (asks_whole (whole_flow recorded (record flow { request = request })))
turn_head recorded flow prefix moment (Responds response) = leads_to (going (record (whole_flow recorded flow) { response = Some response }) moment prefix)
turn_head recorded flow prefix moment Kills = killed flow moment

abbrev pub turn_whole : Flow → List (Timed Event) → ℕ → Taken Request → Turn Stage Command
turn_whole flow prefix moment (GoesOn request) = leads_to (going (record flow { request = request }) moment prefix)
turn_whole flow prefix moment (Responds response) = leads_to (going (record flow { response = Some response }) moment prefix)
turn_whole flow prefix moment Kills = killed flow moment

-- ---- where the flow goes on

-- A response of code 101 finishes the flow.
abbrev pub finishes : Flow → List Command → List Command
finishes flow closes = commands.Done flow ∷ closes

abbrev pub to_servers_in : Look Command → Look Command
to_servers_in NotYet = NotYet
to_servers_in (Asks ask) = Asks ask
to_servers_in (Ends owed) = Ends (to_servers owed)

abbrev pub look_for : Flow → Doing → Sight → Look Command → Look Command
look_for flow (upgraded server) seen found = Ends (finishes flow (shut_server (server_in server seen)))
look_for flow doing seen found = to_servers_in found

-- the close of the side that is kept for a next flow, unless a byte of it or its close came since
abbrev pub shut_parked : At → Sight → List Command
shut_parked at seen = shut_server (server_parked (unspoilt_at at seen).parked seen)

-- where the next flow would begin, its own is finished: a side that is kept for that one is closed
abbrev pub look_by : flows.Stage → Sight → Look Command → Look Command
look_by (idle at) seen found = Ends (shut_parked at seen)
look_by (busy at flow doing) seen found = look_for flow doing seen found
look_by stage seen found = to_servers_in found

-- ---- the chain, where this request was recorded

module _ (terms : Terms) (recorded : Request) where
  -- the chain of flows in sequence, of which it is the first
  abbrev pub flows_of : Chain Standing Event Reply Command
  flows_of = http_chain sequence terms

  abbrev pub turn_going : Turn Standing Command → Turn Stage Command
  turn_going on = record { owed = to_servers on.owed; stage = goes_on on.stage }

  -- it begins with the first thing that is heard of it
  abbrev pub pass : Stage → List (Timed Event) → Turn Stage Command
  pass waiting [] = leads_to waiting
  pass waiting (event ∷ prefix) = leads_to (asks_head (first_flow terms recorded event.moment))
  pass (goes_on place) prefix = turn_going (flows_of.pass place (all_of_servers prefix))
  pass stage prefix = leads_to stage

  abbrev pub look : Stage → List (Timed Event) → Look Command
  look waiting prefix = NotYet
  look (asks_head flow) prefix = Asks (ask_of flow RequestHead)
  look (asks_whole flow) prefix = Asks (ask_of flow RequestBody)
  look (goes_on place) prefix = look_by place.stage (sight_over place (all_of_servers prefix)) (flows_of.look place (all_of_servers prefix))
  look over prefix = Ends []

  -- interim responses are for a client, and of a side that is kept nothing comes before it is closed
  abbrev pub so_far : Stage → List (Timed Event) → List Command
  so_far stage prefix = []

  -- no side is parked where its server is dialled
  abbrev pub behind : Stage → List (Timed Event) → List Command
  behind stage prefix = []

  abbrev pub turn : Stage → List (Timed Event) → Timed Reply → Turn Stage Command
  turn (asks_head flow) prefix answer = turn_head recorded flow (all_of_servers prefix) answer.moment (taken_at_request_head flow.request answer.value)
  turn (asks_whole flow) prefix answer = turn_whole flow (all_of_servers prefix) answer.moment (taken_at_request_body flow.request answer.value)
  turn (goes_on place) prefix answer = turn_going (flows_of.turn place (all_of_servers prefix) answer)
  turn stage prefix answer = leads_to stage

  abbrev pub resend_chain : Chain Stage Event Reply Command
  resend_chain = record { pass = pass; look = look; so_far = so_far; behind = behind; turn = turn }
