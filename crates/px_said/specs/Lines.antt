-- What goes on is sent on, whatever is streamed: what is due for flows whose replies all go on, over any size that they allow, said over whole
-- lists and without stages, from any place where a request is awaited. A message is kept until it is whole, and then sent settled; or it is
-- streamed: sent on as it comes, framed as it was read, mark by mark (RFC 9112 sections 6 and 7.1). A request goes on behind the fewest events
-- over which it is whole or streamed. Its exchange ends behind the fewest over which its response is whole or at fault, or what comes of the
-- request is at fault; what is sent of both messages is told by what was heard up to there. Nothing stands behind a fault, a CONNECT, a response that
-- switches protocols or is whole before its request, or one behind which the connection does not go on. Where both messages come at once, what goes
-- to the server is in no order with what goes to the client: here it stands in front, and lists are compared in each view of px_event.
-- A server's side is kept behind a whole response, where the client's connection goes on and both messages persist; and the next request goes there, where
-- its address is that one's and nothing was heard of that side since, or its server is dialled.
use Rattle.std.specs.Prelude.{◌≡◌, ℕ, ◌+◌, ◌==◌, Bool, true, false, ◌&&◌, ◌||◌, not, List, [], ◌∷◌, ◌++◌, drop, take, length, ⊤, Option, Some, None}
use Rattle.px_text.specs.Least.{least}
use Rattle.px_message.specs.declared.fault.Fault.{Fault}
use Rattle.px_message.specs.declared.flow.Flow.{Flow}
use Rattle.px_message.specs.declared.request.Request.{Request}
use Rattle.px_message.specs.declared.response.Response.{Response}
use Rattle.px_event.specs.declared.command.Command.{Command}
use Rattle.px_event.specs.declared.command.Command.TheVariants as commands
use Rattle.px_event.specs.declared.event.Event.{Event}
use Rattle.px_event.specs.declared.reply.Reply.{Reply}
use Rattle.px_event.specs.declared.reply.Reply.TheVariants as reply
use Rattle.px_event.specs.declared.side.Side.TheVariants.{Client, Server}
use Rattle.px_event.specs.Chain.{Timed}
use Rattle.px_read.specs.Items.{Answers, Item, part, complete, bad_body, answer_list, request_item}
use Rattle.px_read.specs.Laws.{head_in, is_decided}
use Rattle.px_read.specs.declared.head.RequestHead.{RequestHead}
use Rattle.px_read.specs.declared.head.ResponseHead.{ResponseHead}
use Rattle.px_exchange.specs.Endings.{connection_goes_on}
use Rattle.px_exchange.specs.Finds.{is_relayed}
use Rattle.px_exchange.specs.Flows.{response_of}
use Rattle.px_exchange.specs.Places.{dialled_for, form_at}
use Rattle.px_exchange.specs.Requests.{expects, is_head, judged}
use Rattle.px_exchange.specs.Texts.{interim_commands, meets_expectation, onward_text}
use Rattle.px_exchange.specs.declared.asked.Judged.{Judged}
use Rattle.px_exchange.specs.declared.asked.Judged.TheVariants.{Refused, Accepted, Connects}
use Rattle.px_exchange.specs.declared.place.Place.{Place}
use Rattle.px_exchange.specs.declared.terms.Terms.{Terms}
use Rattle.px_parts.specs.Streamed.{request_streams, response_streams}
use Rattle.px_parts.specs.Texts.{final_bytes, final_so_far}
use Rattle.px_chain.specs.Chain.{parked_for}
use Rattle.px_chain.specs.Coming.{framed_as, goes_on_behind}
use Rattle.px_chain.specs.Going.{allowed_up_by, going_by}
use Rattle.px_chain.specs.Sights.{used_by_answers}
use Rattle.px_chain.specs.Stages.{Parked}
use Rattle.px_chain.specs.Streams.{bytes_of}
use Rattle.px_said.specs.ClosedForm.{AnswersDial, MayWait, Served, Told, fault_said, headless_said, is_whole, parked_behind, request_items, said_behind, said_final, still_parked, told_by, whole_request}

-- ---- replies that go on, over any size

-- the reply goes on with the flow that was asked, its request and its response as they were
abbrev pub LeavesFlow : Flow → Reply → Type 0
LeavesFlow flow (reply.Go given allowed) = (given.request ≡ flow.request) × (given.response ≡ flow.response)
LeavesFlow flow _ = ⊥

-- Each hook that is asked, and each dial, in order, beside its reply, which goes on. The last of them may wait, or none.
abbrev pub AllGoOn : Bool → List Command → List Reply → Type 0
AllGoOn waits [] replies = ⊤
AllGoOn waits (commands.Ask asked flow ∷ rest) [] = MayWait waits
AllGoOn waits (commands.Ask asked flow ∷ rest) (answer ∷ replies) = LeavesFlow flow answer × AllGoOn waits rest replies
AllGoOn waits (commands.Dial server address inside ∷ rest) [] = MayWait waits
AllGoOn waits (commands.Dial server address inside ∷ rest) (answer ∷ replies) = AnswersDial answer × AllGoOn waits rest replies
AllGoOn waits (commands.Send side text ∷ rest) replies = AllGoOn waits rest replies
AllGoOn waits (commands.Close side ∷ rest) replies = AllGoOn waits rest replies
AllGoOn waits (commands.Done flow ∷ rest) replies = AllGoOn waits rest replies

-- the size that the next reply allows, in a conversation that streams at all
abbrev pub next_allows : Terms → List Reply → Option ℕ
next_allows terms [] = None
next_allows terms (answer ∷ replies) = allowed_up_by terms.streams answer

-- ---- where a request stands

-- its flow and the next server that is dialled, by number, how many of the client's bytes are in front of it, how many events had come when the
-- response before it was whole, the replies from here on, and the parked side, which is heard in the events behind so many, behind so many bytes
pub record Start : Type 0 where
  pub flow : ℕ
  pub server : ℕ
  pub bytes : ℕ
  pub events : ℕ
  pub replies : List Reply
  pub parked : Option Parked
  pub opened : ℕ
  pub used : ℕ

-- behind the next reply
abbrev pub behind_reply : Start → Start
behind_reply start = record start { replies = drop 1 start.replies }

-- ---- what was heard

-- the client's bytes behind so many
abbrev pub client_bytes : List (Timed Event) → ℕ → List ℕ
client_bytes events bytes = drop bytes (bytes_of Client events)

abbrev pub answers_to : Request → Told → Answers
answers_to request told = answer_list (is_head request.method) told.shut told.bytes

-- ---- when a request goes on

-- it is streamed over these events, where this size is allowed
abbrev pub goes_up_over : Start → Option ℕ → List (Timed Event) → Bool
goes_up_over start allowed events = request_streams allowed (client_bytes events start.bytes)

-- it is whole, at fault, or streamed
abbrev pub goes_on_over : Start → Option ℕ → List (Timed Event) → Bool
goes_on_over start allowed events = is_decided (request_item (client_bytes events start.bytes)) || goes_up_over start allowed events

-- the fewest events over which it is
abbrev pub goes_on_at : List (Timed Event) → Start → Option ℕ → Option ℕ
goes_on_at events start allowed = least (λ so_many. goes_on_over start allowed (take so_many events)) start.events (length events + 1)

-- the side that it goes to then: the parked one, while it is parked, where it goes to its address
abbrev pub side_over : Place → Start → Request → List (Timed Event) → Option ℕ
side_over place start request events = parked_for place request (still_parked events start.parked start.opened start.used)

-- ---- when its exchange ends

-- a request that went to its server, whole; or streamed, from the client's bytes behind so many
pub record Exchange : Type 0 where
  pub request : Request
  pub up : Option ℕ
  pub served : Served

abbrev pub heard_of : Exchange → List (Timed Event) → Told
heard_of exchange events = told_by events exchange.served.server exchange.served.opened exchange.served.used

-- the fault of what comes of the request
abbrev pub fault_in : Item RequestHead → Option Fault
fault_in (bad_body fault head body) = Some fault
fault_in item = None

abbrev pub fault_by : Option ℕ → List (Timed Event) → Option Fault
fault_by None events = None
fault_by (Some bytes) events = fault_in (request_item (client_bytes events bytes))

abbrev pub fault_up : Exchange → List (Timed Event) → Option Fault
fault_up exchange events = fault_by exchange.up events

abbrev pub is_fault : Option Fault → Bool
is_fault (Some fault) = true
is_fault None = false

-- the final response is whole, or at fault
abbrev pub is_ended : Item ResponseHead → Bool
is_ended (part head body) = not (is_relayed head.code)
is_ended item = is_decided item

abbrev pub ends_over : Exchange → List (Timed Event) → Bool
ends_over exchange events = is_fault (fault_up exchange events) || is_ended (answers_to exchange.request (heard_of exchange events)).final

-- the fewest events over which it has ended, and all that is heard of it
abbrev pub ends_at : List (Timed Event) → Exchange → Option ℕ
ends_at events exchange = least (λ so_many. ends_over exchange (take so_many events)) exchange.served.went (length events + 1)

abbrev pub until : Option ℕ → List (Timed Event) → List (Timed Event)
until None events = events
until (Some so_many) events = take so_many events

-- ---- what is said of its response

-- it is streamed, where this size is allowed
abbrev pub comes_down : Option ℕ → Bool → Told → Option ResponseHead → Bool
comes_down allowed asked_head told None = false
comes_down allowed asked_head told (Some head) =
    is_relayed head.code && response_streams head.code asked_head told.shut allowed (final_bytes asked_head told.shut told.bytes)

-- its text as far as it came
abbrev pub text_down : Request → Told → Option ResponseHead → List ℕ
text_down request told None = []
text_down request told (Some head) = final_so_far (framed_as head (response_of head)) (is_head request.method) told.shut told.bytes

-- behind one that is whole
abbrev pub once_whole : {H : Type 0} → Item H → (H → List Command) → List Command
once_whole (complete head body trailers used) behind = behind head
once_whole item behind = []

-- unless what comes of the request is at fault
abbrev pub unless_fault : Option Fault → Bool → List Command → List Command
unless_fault None asked_head due = due
unless_fault (Some fault) asked_head due = fault_said fault asked_head

-- as it comes, and then what is said behind it; or once it is whole
abbrev pub said_down : Bool → Request → Told → Item ResponseHead → Option Fault → (ResponseHead → List Command) → (Response → List Command) → List Command
said_down true request told final fault streamed kept = commands.Send Client (text_down request told (head_in final)) ∷ once_whole final streamed
said_down false request told final fault streamed kept = unless_fault fault (is_head request.method) (said_final request final kept)

abbrev pub said_response : Option ℕ → Request → Told → Option Fault → (ResponseHead → List Command) → (Response → List Command) → List Command
said_response allowed request told fault streamed kept =
    let final = (answers_to request told).final in
    said_down (comes_down allowed (is_head request.method) told (head_in final)) request told final fault streamed kept

-- ---- what is said of an exchange

-- the request as it goes to its server: settled where it is whole, and else as far as it came
abbrev pub text_by : Terms → Request → Option ℕ → List (Timed Event) → List ℕ
text_by terms request None events = onward_text (form_at terms.place) request
text_by terms request (Some bytes) events =
    let heard = client_bytes events bytes in going_by (head_in (request_item heard)) request (form_at terms.place) heard

abbrev pub text_up : Terms → Exchange → List (Timed Event) → List ℕ
text_up terms exchange events = text_by terms exchange.request exchange.up events

-- all of it was sent
abbrev pub sent_by : Option ℕ → List (Timed Event) → Bool
sent_by None events = true
sent_by (Some bytes) events = is_whole (request_item (client_bytes events bytes))

abbrev pub is_sent_over : Exchange → List (Timed Event) → Bool
is_sent_over exchange events = sent_by exchange.up events

-- The next request is read where this one was sent, and the connection goes on by both messages as they are sent (RFC 9112 section 9.3); one
-- that was kept does not switch protocols (RFC 9110 section 15.2.2).
abbrev pub goes_on_kept : Start → Request → Response → Bool
goes_on_kept start request response = not (response.status == 101) && connection_goes_on start.flow request response

abbrev pub goes_on_streamed : Start → Request → ResponseHead → Bool
goes_on_streamed start request head = goes_on_behind start.flow request (record { response = response_of head; head = head })

-- once the responses of its server are whole as well, the next request stands here, and the side is parked behind them, or none is
abbrev pub next_start : Place → Start → Served → Request → Answers → ℕ → Start
next_start place start served request answers ended = record start {
  flow = start.flow + 1;
  events = ended;
  parked = parked_behind place request answers.final served.server;
  opened = served.opened;
  used = used_by_answers answers served.used;
}

-- It is said over what is heard of it: the request, the interim responses, and the final one; and what is said behind it. Of the replies the next one is about
-- the response's head, and that behind it about a response that was kept.
abbrev pub said_exchange : Terms → List (Timed Event) → Start → Exchange → (Start → List Command) → List Command
said_exchange terms events start exchange further =
    let ended = ends_at events exchange in
    let heard = until ended events in
    let told = heard_of exchange heard in
    let request = exchange.request in
    let answers = answers_to request told in
    let on : Start → ℕ → List Command = λ from so_many. further (next_start terms.place from exchange.served request answers so_many) in
    commands.Send (Server exchange.served.server) (text_up terms exchange heard)
    ∷ (interim_commands request answers.interim
    ++ said_response (next_allows terms start.replies) request told (fault_up exchange heard)
    (λ head. said_behind (is_sent_over exchange heard && goes_on_streamed start request head) ended (on (behind_reply start)))
    (λ response. said_behind (is_sent_over exchange heard && goes_on_kept start request response) ended (on (behind_reply (behind_reply start)))))

-- ---- what is said of a request

-- By the answer of its dial it goes to the new server, which is heard from then on; or the dial is refused.
abbrev pub said_answered : Terms → List (Timed Event) → Start → Option ℕ → Request → ℕ → List Reply → (Start → List Command) → List Command
said_answered terms events start up request come (reply.Refused fault ∷ replies) further = fault_said fault (is_head request.method)
said_answered terms events start up request come (reply.Dialled ∷ replies) further =
    said_exchange terms events (record start { server = start.server + 1; replies = replies })
    (record { request = request; up = up; served = record { server = start.server; opened = come; used = 0; went = come } }) further
said_answered terms events start up request come replies further = []

-- It goes to the parked side without a dial; or its server is dialled, or the proxy through which that is reached.
abbrev pub said_to : Terms → List (Timed Event) → Start → Option ℕ → Request → ℕ → Option ℕ → (Start → List Command) → List Command
said_to terms events start up request come None further =
    commands.Dial start.server (dialled_for terms.place request) None
    ∷ said_answered terms events start up request come start.replies further
said_to terms events start up request come (Some server) further =
    said_exchange terms events start
    (record { request = request; up = up; served = record { server = server; opened = start.opened; used = start.used; went = come } }) further

-- the bytes that a whole request used are in front of the next one
abbrev pub used_by : Item RequestHead → ℕ → ℕ
used_by (complete head body trailers used) bytes = bytes + used
used_by item bytes = bytes

-- a streamed request says so
abbrev pub streamed_request : Request → Request
streamed_request request = record request { streamed = true }

abbrev pub said_kept : Terms → List (Timed Event) → Start → Request → ℕ → (Start → List Command) → List Command
said_kept terms events start request come further = said_to terms events start None request come (side_over terms.place start request (take come events)) further

-- It goes up as it comes; or once it is whole, behind the reply about that; or its fault is said.
abbrev pub said_way : Bool → Terms → List (Timed Event) → Start → Request → Item RequestHead → ℕ → (Start → List Command) → List Command
said_way true terms events start request item come further =
    said_to terms events (record start { bytes = used_by item start.bytes }) (Some start.bytes) (streamed_request request) come (side_over terms.place start request (take come events)) further
said_way false terms events start request (complete head body trailers used) come further =
    said_kept terms events (behind_reply (record start { bytes = start.bytes + used })) (whole_request request body trailers) come further
said_way false terms events start request (bad_body fault head body) come further = fault_said fault (is_head request.method)
said_way false terms events start request item come further = []

abbrev pub said_request : Terms → List (Timed Event) → Start → Request → Option ℕ → Item RequestHead → Option ℕ → (Start → List Command) → List Command
said_request terms events start request allowed item (Some come) further =
    said_way (goes_up_over start allowed (take come events)) terms events start request item come further
said_request terms events start request allowed item None further = []

-- a head that is refused has its fault; behind a CONNECT nothing is said
abbrev pub said_head : Terms → List (Timed Event) → Start → RequestHead → Judged → Item RequestHead → (Start → List Command) → List Command
said_head terms events start head (Refused fault) item further = fault_said fault (is_head head.method)
said_head terms events start head (Connects address) item further = []
said_head terms events start head (Accepted request) item further =
    let allowed = next_allows terms start.replies in
    let on = behind_reply start in
    meets_expectation (expects head) ++ said_request terms events on request allowed item (goes_on_at events on allowed) further

abbrev pub said_start : Terms → List (Timed Event) → Start → Option RequestHead → Item RequestHead → (Start → List Command) → List Command
said_start terms events start None item further = headless_said item false
said_start terms events start (Some head) item further = said_head terms events start head (judged terms.place head) item further

-- ---- what is sent

-- of the requests from this one on
abbrev pub sent_from : Terms → List (Timed Event) → Start → List (Item RequestHead) → List Command
sent_from terms events start [] = []
sent_from terms events start (item ∷ items) = said_start terms events start (head_in item) item (λ next. sent_from terms events next items)

-- What is sent for so many requests from this one on.
abbrev pub sent_of_flows : Terms → List (Timed Event) → Start → ℕ → List Command
sent_of_flows terms events start flows = sent_from terms events start (take flows (request_items (client_bytes events start.bytes)))
