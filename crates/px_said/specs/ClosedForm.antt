-- What goes on is sent on: what is due for flows whose replies all go on and stream no body, said over whole lists and without stages, from
-- any place where a request is awaited. The requests of the client's stream stand one behind the other; each is sent once it is whole, and the response
-- before it, and the client gets what came of each. A server's side stays connected behind a response where both messages persist (the parked side), and
-- gets the next request where that goes to its address and nothing was heard of it by then; else that request's server is dialled, and nothing is parked
-- any more. Nothing stands behind a fault, a CONNECT, a response that switches protocols, or one behind which the connection does not go on.
use Rattle.std.specs.Prelude.{◌≡◌, ℕ, zero, suc, ◌+◌, ◌==◌, Bool, true, false, ◌&&◌, not, List, [], ◌∷◌, ◌++◌, drop, take, length, ⊤, Option, Some, None, option_to_list}
use Rattle.std.specs.List.{flat_map}
use Rattle.px_text.specs.Least.{least}
use Rattle.px_message.specs.declared.fault.Fault.{Fault}
use Rattle.px_message.specs.declared.fault.Fault.TheVariants.{BadResponse}
use Rattle.px_message.specs.declared.flow.Flow.{Flow}
use Rattle.px_message.specs.declared.request.Request.{Request}
use Rattle.px_message.specs.declared.response.Response.{Response}
use Rattle.px_event.specs.declared.command.Command.{Command}
use Rattle.px_event.specs.declared.command.Command.TheVariants as commands
use Rattle.px_event.specs.declared.event.Event.{Event}
use Rattle.px_event.specs.declared.reply.Reply.{Reply}
use Rattle.px_event.specs.declared.reply.Reply.TheVariants as reply
use Rattle.px_event.specs.declared.side.Side.TheVariants.{Client, Server}
use Rattle.px_event.specs.Chain.{Timed}
use Rattle.px_write.specs.Error.{error_text}
use Rattle.px_read.specs.Items.{Answers, Body, Item, complete, bad_head, bad_body, answer_list, request_item}
use Rattle.px_read.specs.Laws.{head_in}
use Rattle.px_read.specs.Requests.{request_list}
use Rattle.px_read.specs.declared.head.RequestHead.{RequestHead}
use Rattle.px_read.specs.declared.head.ResponseHead.{ResponseHead}
use Rattle.px_exchange.specs.Endings.{connection_goes_on, read_persists, sent_persists}
use Rattle.px_exchange.specs.Finds.{is_relayed}
use Rattle.px_exchange.specs.Flows.{response_of}
use Rattle.px_exchange.specs.Places.{dialled_for, form_at, server_for}
use Rattle.px_exchange.specs.Requests.{expects, is_head, judged}
use Rattle.px_exchange.specs.Texts.{interim_commands, meets_expectation, onward_text, returned_text}
use Rattle.px_exchange.specs.declared.asked.Judged.{Judged}
use Rattle.px_exchange.specs.declared.asked.Judged.TheVariants.{Refused, Accepted, Connects}
use Rattle.px_exchange.specs.declared.place.Place.{Place}
use Rattle.px_exchange.specs.declared.terms.Terms.{Terms}
use Rattle.px_chain.specs.Chain.{parked_for}
use Rattle.px_chain.specs.Keeping.{is_silent}
use Rattle.px_chain.specs.Sights.{used_by_answers}
use Rattle.px_chain.specs.Stages.{Parked}
use Rattle.px_chain.specs.Streams.{bytes_of, is_closed}

-- ---- replies that go on

-- The reply goes on with the flow that was asked, its request and its response as they were, and allows no body to be streamed: so each
-- is kept until it is whole.
abbrev pub KeepsFlow : Flow → Reply → Type 0
KeepsFlow flow (reply.Go given streamed) = (given.request ≡ flow.request) × (given.response ≡ flow.response) × (streamed ≡ None)
KeepsFlow flow _ = ⊥

-- a dial is answered by the connection, or by its refusal
abbrev pub AnswersDial : Reply → Type 0
AnswersDial reply.Dialled = ⊤
AnswersDial (reply.Refused fault) = ⊤
AnswersDial _ = ⊥

-- the last question may wait for its reply
abbrev pub MayWait : Bool → Type 0
MayWait true = ⊤
MayWait false = ⊥

-- Each hook that is asked, and each dial, in order, beside its reply, which goes on. The last of them may wait, or none.
abbrev pub GoesOn : Bool → List Command → List Reply → Type 0
GoesOn waits [] replies = ⊤
GoesOn waits (commands.Ask asked flow ∷ rest) [] = MayWait waits
GoesOn waits (commands.Ask asked flow ∷ rest) (answer ∷ replies) = KeepsFlow flow answer × GoesOn waits rest replies
GoesOn waits (commands.Dial server address inside ∷ rest) [] = MayWait waits
GoesOn waits (commands.Dial server address inside ∷ rest) (answer ∷ replies) = AnswersDial answer × GoesOn waits rest replies
GoesOn waits (commands.Send side text ∷ rest) replies = GoesOn waits rest replies
GoesOn waits (commands.Close side ∷ rest) replies = GoesOn waits rest replies
GoesOn waits (commands.Done flow ∷ rest) replies = GoesOn waits rest replies

-- ---- the first flows of what is due

-- how many are still to end behind this command
abbrev pub flows_behind : ℕ → Command → ℕ
flows_behind more (commands.Done flow) = more
flows_behind more command = suc more

-- what is due up to the end of so many flows, or all where they do not end
abbrev pub first_flows : ℕ → List Command → List Command
first_flows zero due = []
first_flows (suc more) [] = []
first_flows (suc more) (command ∷ due) = command ∷ first_flows (flows_behind more command) due

-- ---- what is said

-- the texts that are sent, to the client and to servers, and the dials, in order
abbrev pub said_of : Command → List Command
said_of (commands.Send side text) = commands.Send side text ∷ []
said_of (commands.Dial server address inside) = commands.Dial server address inside ∷ []
said_of _ = []

abbrev pub said : List Command → List Command
said due = flat_map said_of due

-- the text of a fault, to the client
abbrev pub fault_said : Fault → Bool → List Command
fault_said fault asked_head = commands.Send Client (error_text fault asked_head) ∷ []

-- ---- what was heard

-- how dials were answered: by the fault that refused one, or by none, which is the connection
abbrev pub dial_answer : Reply → List (Option Fault)
dial_answer reply.Dialled = None ∷ []
dial_answer (reply.Refused fault) = Some fault ∷ []
dial_answer _ = []

abbrev pub dial_answers : List Reply → List (Option Fault)
dial_answers replies = flat_map dial_answer replies

-- the client's requests, one behind the other: the whole ones, and what stands behind them
abbrev pub request_items : List ℕ → List (Item RequestHead)
request_items bytes = (request_list bytes).whole ++ option_to_list (request_list bytes).last

-- of a server's side, in the events behind so many, behind so many bytes: its bytes, and whether it closed
pub record Told : Type 0 where
  pub bytes : List ℕ
  pub shut : Bool

abbrev pub told_by : List (Timed Event) → ℕ → ℕ → ℕ → Told
told_by events server opened used =
    record { bytes = drop used (bytes_of (Server server) (drop opened events)); shut = is_closed (Server server) (drop opened events) }

-- ---- which side waits for the next request

abbrev pub parked_if : Bool → Parked → Option Parked
parked_if true parked = Some parked
parked_if false parked = None

-- Behind a whole response the side of this number is parked, at the address that its request went to, where both messages persist (RFC 9112 section 9.3).
abbrev pub parked_behind : Place → Request → Item ResponseHead → ℕ → Option Parked
parked_behind place request (complete head body trailers used) server =
    parked_if (sent_persists request && read_persists request head) (record { server = server; address = server_for place request })
parked_behind place request item server = None

-- It is parked no more once a byte came of it, behind those that were used, or its close.
abbrev pub still_parked : List (Timed Event) → Option Parked → ℕ → ℕ → Option Parked
still_parked events None opened used = None
still_parked events (Some parked) opened used =
    let told = told_by events parked.server opened used in parked_if (is_silent told.bytes told.shut) parked

-- ---- when a server is connected, and when its response is whole

-- where a request stands
pub record Point : Type 0 where
  -- the number of its flow, and that of the next server that is dialled
  pub flow : ℕ
  pub server : ℕ
  -- how many of the client's bytes were used
  pub bytes : ℕ
  -- how many events had come when the response before it was whole
  pub events : ℕ
  -- the answers of the dials from here on
  pub dials : List (Option Fault)
  -- the parked side, which is heard in the events behind so many, behind so many bytes
  pub parked : Option Parked
  pub opened : ℕ
  pub used : ℕ

-- a request that is whole has used its bytes
abbrev pub behind_request : Point → ℕ → Point
behind_request point used = record point { bytes = point.bytes + used }

-- the server that a request went to, how many events had come when it was connected, behind which it is heard, how many of its bytes
-- were used before, and when the request went there
pub record Served : Type 0 where
  pub server : ℕ
  pub opened : ℕ
  pub used : ℕ
  pub went : ℕ

-- once the responses of that server are whole as well, the next request stands here, and the side is parked behind them, or none is
abbrev pub next_point : Place → Point → Served → Request → Answers → ℕ → Point
next_point place point served request answers ended = record point {
  flow = point.flow + 1;
  events = ended;
  parked = parked_behind place request answers.final served.server;
  opened = served.opened;
  used = used_by_answers answers served.used;
}

abbrev pub is_whole : {H : Type 0} → Item H → Bool
is_whole (complete head body trailers used) = true
is_whole _ = false

-- the request is whole in the first so many events
abbrev pub request_is_whole : List (Timed Event) → ℕ → ℕ → Bool
request_is_whole events bytes so_many = is_whole (request_item (drop bytes (bytes_of Client (take so_many events))))

-- the request goes on behind the fewest events over which it is whole
abbrev pub connected_at : List (Timed Event) → Point → Option ℕ
connected_at events point = least (request_is_whole events point.bytes) point.events (length events + 1)

-- the responses of a server, which is heard in the events behind so many, behind the bytes that were used before
abbrev pub answers_at : List (Timed Event) → ℕ → ℕ → ℕ → Bool → Answers
answers_at events server opened used asked_head = let told = told_by events server opened used in answer_list asked_head told.shut told.bytes

-- its final response is whole in the first so many events
abbrev pub response_is_whole : List (Timed Event) → ℕ → ℕ → ℕ → Bool → ℕ → Bool
response_is_whole events server opened used asked_head so_many = is_whole (answers_at (take so_many events) server opened used asked_head).final

-- the fewest over which it is, behind those over which the request went there
abbrev pub ended_at : List (Timed Event) → Served → Bool → Option ℕ
ended_at events served asked_head = least (response_is_whole events served.server served.opened served.used asked_head) served.went (length events + 1)

-- ---- what is said of a response

-- the request of a head that is accepted, with its body
abbrev pub whole_request : Request → Body → List (List ℕ × List ℕ) → Request
whole_request request body trailers = record request { body = body.content; trailers = trailers }

-- the response of a head that was read, with its body
abbrev pub whole_response : ResponseHead → Body → List (List ℕ × List ℕ) → Response
whole_response head body trailers = record (response_of head) { body = body.content; trailers = trailers }

-- of a message without a head: its fault, if it has one
abbrev pub headless_said : {H : Type 0} → Item H → Bool → List Command
headless_said (bad_head fault) asked_head = fault_said fault asked_head
headless_said _ asked_head = []

-- The next request is read where the connection goes on by both messages as they are sent (RFC 9112 section 9.3), and the response does not
-- switch protocols (RFC 9110 section 15.2.2).
abbrev pub next_is_read : Point → Request → Response → Bool
next_is_read point request response = not (response.status == 101) && connection_goes_on point.flow request response

-- what is said behind a response that is whole
abbrev pub said_behind : Bool → Option ℕ → (ℕ → List Command) → List Command
said_behind true (Some ended) further = further ended
said_behind _ ended further = []

-- The final response as it goes to the client, once it is whole, and what is said behind it; or the fault of its body.
abbrev pub said_returned : Request → Item ResponseHead → (Response → List Command) → List Command
said_returned request (complete head body trailers used) behind =
    let response = whole_response head body trailers in commands.Send Client (returned_text request response) ∷ behind response
said_returned request (bad_body fault head body) behind = fault_said fault (is_head request.method)
said_returned request _ behind = []

-- a final response without a final status is a fault
abbrev pub said_relayed : Bool → Request → List Command → List Command
said_relayed true request returned = returned
said_relayed false request returned = fault_said BadResponse (is_head request.method)

abbrev pub said_headed : Request → Option ResponseHead → Item ResponseHead → (Response → List Command) → List Command
said_headed request None item behind = headless_said item (is_head request.method)
said_headed request (Some head) item behind = said_relayed (is_relayed head.code) request (said_returned request item behind)

abbrev pub said_final : Request → Item ResponseHead → (Response → List Command) → List Command
said_final request item behind = said_headed request (head_in item) item behind

-- the interim responses, and the final one
abbrev pub said_answers : Request → Answers → (Response → List Command) → List Command
said_answers request answers behind = interim_commands request answers.interim ++ said_final request answers.final behind

-- ---- what is said of a request

-- behind its response
abbrev pub said_on : Place → List (Timed Event) → Point → Served → (Point → List Command) → Request → Response → List Command
said_on place events point served further request response =
    let asked_head = is_head request.method in
    let answers = answers_at events served.server served.opened served.used asked_head in
    said_behind (next_is_read point request response) (ended_at events served asked_head) (λ ended. further (next_point place point served request answers ended))

-- it is sent on, and its response comes back
abbrev pub said_served : Terms → List (Timed Event) → Point → Served → (Point → List Command) → Request → List Command
said_served terms events point served further request =
    commands.Send (Server served.server) (onward_text (form_at terms.place) request)
    ∷ said_answers request (answers_at events served.server served.opened served.used (is_head request.method)) (said_on terms.place events point served further request)

-- By the answer of its dial it goes to the new server, which is heard from then on; or the dial is refused.
abbrev pub said_dialled : Terms → List (Timed Event) → Point → Request → ℕ → List (Option Fault) → (Point → List Command) → List Command
said_dialled terms events point request come [] further = []
said_dialled terms events point request come (Some fault ∷ dials) further = fault_said fault (is_head request.method)
said_dialled terms events point request come (None ∷ dials) further =
    said_served terms events (record point { server = point.server + 1; dials = dials })
    (record { server = point.server; opened = come; used = 0; went = come }) further request

-- It goes to the parked side without a dial; or its server is dialled, or the proxy through which that is reached.
abbrev pub said_by : Terms → List (Timed Event) → Point → Request → ℕ → Option ℕ → (Point → List Command) → List Command
said_by terms events point request come None further =
    commands.Dial point.server (dialled_for terms.place request) None ∷ said_dialled terms events point request come point.dials further
said_by terms events point request come (Some server) further =
    said_served terms events point (record { server = server; opened = point.opened; used = point.used; went = come }) further request

-- once it is whole
abbrev pub said_connected : Terms → List (Timed Event) → Point → Request → Option ℕ → (Point → List Command) → List Command
said_connected terms events point request None further = []
said_connected terms events point request (Some come) further =
    let parked = still_parked (take come events) point.parked point.opened point.used in
    said_by terms events point request come (parked_for terms.place request parked) further

abbrev pub said_whole : Terms → List (Timed Event) → Point → Request → Item RequestHead → (Point → List Command) → List Command
said_whole terms events point request (complete head body trailers used) further =
    said_connected terms events (behind_request point used) (whole_request request body trailers) (connected_at events point) further
said_whole terms events point request (bad_body fault head body) further = fault_said fault (is_head request.method)
said_whole terms events point request _ further = []

-- a head that is refused has its fault; behind a CONNECT nothing is said
abbrev pub said_judged : Terms → List (Timed Event) → Point → RequestHead → Judged → Item RequestHead → (Point → List Command) → List Command
said_judged terms events point head (Refused fault) item further = fault_said fault (is_head head.method)
said_judged terms events point head (Connects address) item further = []
said_judged terms events point head (Accepted request) item further =
    meets_expectation (expects head) ++ said_whole terms events point request item further

abbrev pub said_asked : Terms → List (Timed Event) → Point → Option RequestHead → Item RequestHead → (Point → List Command) → List Command
said_asked terms events point None item further = headless_said item false
said_asked terms events point (Some head) item further = said_judged terms events point head (judged terms.place head) item further

abbrev pub said_item : Terms → List (Timed Event) → Point → Item RequestHead → (Point → List Command) → List Command
said_item terms events point item further = said_asked terms events point (head_in item) item further

-- ---- the closed form

-- what is said of the requests from this point on
abbrev pub said_from : Terms → List (Timed Event) → Point → List (Item RequestHead) → List Command
said_from terms events point [] = []
said_from terms events point (item ∷ items) = said_item terms events point item (λ next. said_from terms events next items)

-- What is said of so many requests from this point on: of each the `100 Continue` that its client waits for, the dial of its server,
-- its text there, the interim responses that came of it and its final one; and then what is said of the next.
abbrev pub said_of_flows : Terms → List (Timed Event) → Point → ℕ → List Command
said_of_flows terms events point flows =
    said_from terms events point (take flows (request_items (drop point.bytes (bytes_of Client events))))
