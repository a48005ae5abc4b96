-- Where a stream is: what its fields are at a stage and in a sight.
use Rattle.std.specs.Prelude.{◌≡◌, ◌≤◌, ◌+◌, ◌++◌, ℕ, Bool, true, false, List, [], ◌∷◌, length, drop, Option, Some, None, ⊤}
use Rattle.px_message.specs.declared.flow.Flow.{Flow}
use Rattle.px_message.specs.declared.request.Request.{Request}
use Rattle.px_message.specs.declared.response.Response.{Response}
use Rattle.px_message.specs.Length.{has_no_body, request_length}
use Rattle.px_event.specs.declared.ask.Ask.{Ask}
use Rattle.px_event.specs.declared.ask.Ask.TheVariants as asking
use Rattle.px_event.specs.declared.ask.Hook.TheVariants.{RequestHead, RequestBody, ResponseHead, ResponseBody}
use Rattle.px_event.specs.declared.command.Command.{Command}
use Rattle.px_event.specs.declared.event.Event.{Event}
use Rattle.px_event.specs.Chain.{Timed, Look, NotYet, Asks, Ends}
use Rattle.px_read.specs.Heads.{is_interim}
use Rattle.px_read.specs.Items.{Item, complete, answer_list}
use Rattle.px_read.specs.Laws.{head_in}
use Rattle.px_read.specs.Marks.{Mark, asks, answers}
use Rattle.px_read.specs.Reader.{State, MessagePlace, behind_end, request, response, before_all, Reads, to_come}
use Rattle.px_read.specs.Readings.{only}
use Rattle.px_read.specs.Chunks.{goes_on}
use Rattle.px_read.specs.Kept.{fields_keep}
use Rattle.px_read.specs.declared.head.RequestHead.{RequestHead as ReadRequest}
use Rattle.px_read.specs.declared.head.ResponseHead.{ResponseHead as ReadResponse}
use Rattle.px_bounds.specs.Bounds.{most_trailers}
use Rattle.px_exchange.specs.declared.asked.Judged.{Judged}
use Rattle.px_exchange.specs.declared.asked.Judged.TheVariants.{Accepted}
use Rattle.px_exchange.specs.declared.ending.Used.{Used}
use Rattle.px_exchange.specs.declared.ending.Used.TheVariants.{NoServer, ByServer}
use Rattle.px_exchange.specs.declared.terms.Terms.{Terms}
use Rattle.px_parts.specs.Texts.{left_of, marks_text}
use Rattle.px_write.specs.Text.{response_head_text}
use Rattle.px_exchange.specs.Bodies.{content_of}
use Rattle.px_exchange.specs.Flows.{hook_of, response_of, with_answer, with_body, with_returned}
use Rattle.px_exchange.specs.Requests.{is_head, expects, fields_asked, flow_of, judged}
use Rattle.px_exchange.specs.Texts.{interim_commands}
use Rattle.px_event.specs.View.{View, seen_of}
use Rattle.px_exchange.specs.Endings.{read_persists}
use Rattle.px_chain.specs.Chain.{Connect, connect_in, given_at, look, waits_at}
use Rattle.px_chain.specs.Keeping.{is_silent}
use Rattle.px_chain.specs.Going.{framed_up, whole_in}
use Rattle.px_chain.specs.Sights.{Sight, Standing, IsWithin, answers_in, client_left, request_in, server_left, sight_over}
use Rattle.px_chain.specs.Stages.{At, Doing, Parked, Sent, Stage, all_sent, busy, coming_down, connection, given_body, given_head, idle, next, over, place_of, request_body, response_body, response_head, upgraded}
use Rattle.px_stream.specs.declared.coming.Held.{Held}
use Rattle.px_stream.specs.declared.going.Going.{Going}
use Rattle.px_stream.specs.declared.going.HeldRequest.{HeldRequest}
use Rattle.px_stream.specs.declared.going.Sending.{Sending}
use Rattle.px_stream.specs.declared.going.Sending.TheVariants as sending
use Rattle.px_stream.specs.declared.link.Link.{Link}
use Rattle.px_stream.specs.declared.phase.Asked.{Asked}
use Rattle.px_stream.specs.declared.phase.Asked.TheVariants as asked
use Rattle.px_stream.specs.declared.phase.Phase.{Phase}
use Rattle.px_stream.specs.declared.phase.Phase.TheVariants as phase
use Rattle.px_stream.specs.declared.phase.Wanted.{Wanted}
use Rattle.px_stream.specs.declared.phase.Wanted.TheVariants as ready
use Rattle.px_stream.specs.declared.stream.Stream.{Stream}
use Rattle.px_stream.specs.Comings.{framed_by, may_stream, sends_text}
use Rattle.px_stream.specs.Goings.{may_go_up_by, sends_while, sent_by, sent_of, up_text}

-- something is there
abbrev pub IsSome : {A : Type 0} → Option A → Type 0
IsSome (Some x) = ⊤
IsSome None = ⊥

-- ---- the stage that is looked at

-- Where something is looked for, that is a stage. Behind a CONNECT nothing is: flows in sequence are never at `next`.
abbrev pub stage_of : At → Wanted → Stage
stage_of at ready.Idle = idle at
stage_of at (ready.RequestBody flow given most body held) = busy at flow (request_body given most)
stage_of at (ready.Connection flow up) = busy at flow (connection (sent_by up))
stage_of at (ready.ResponseHead flow server up) = busy at flow (response_head server (sent_of up))
stage_of at (ready.ResponseBody flow server up most body held) = busy at flow (response_body server (sent_of up) most)
stage_of at (ready.ComingDown flow server up sent) = busy at flow (coming_down server (sent_of up))
stage_of at (ready.Upgraded flow server) = busy at flow (upgraded server)
stage_of at (ready.GivenHead flow) = busy at flow given_head
stage_of at (ready.GivenBody flow) = busy at flow given_body
stage_of at (ready.Connects address) = next at
stage_of at ready.Over = over

-- the content that was read of a body
abbrev pub content_in : Wanted → List ℕ
content_in (ready.RequestBody flow given most body held) = body
content_in (ready.ResponseBody flow server up most body held) = body
content_in looked = []

-- and what is held beside it: of a request that may yet be streamed, and of a response
abbrev pub held_up_in : Wanted → Option HeldRequest
held_up_in (ready.RequestBody flow given most body held) = held
held_up_in looked = None

abbrev pub held_in : Wanted → Option Held
held_in (ready.ResponseBody flow server up most body held) = held
held_in looked = None

-- a request that is streamed, whose server is to be dialled
abbrev pub going_in : Wanted → Option Going
going_in (ready.Connection flow up) = up
going_in looked = None

-- how the request stands, behind that
abbrev pub up_in : Wanted → Sending
up_in (ready.ResponseHead flow server up) = up
up_in (ready.ResponseBody flow server up most body held) = up
up_in (ready.ComingDown flow server up sent) = up
up_in looked = sending.All

-- a response that is streamed, as it is sent
abbrev pub sent_in : Wanted → Option Response
sent_in (ready.ComingDown flow server up sent) = Some sent
sent_in looked = None

-- ---- what is asked about: the flow with what was read for it. How the request stands meanwhile is told apart (`AskedRequest`).

abbrev pub judged_asked : Terms → At → ReadRequest → Judged → ℕ → Option Asked
judged_asked terms at head (Accepted message) now = Some (asked.Idle (flow_of terms at.flow message now) (expects head))
judged_asked terms at head made now = None

abbrev pub head_asked : Terms → At → Option ReadRequest → ℕ → Option Asked
head_asked terms at None now = None
head_asked terms at (Some head) now = judged_asked terms at head (judged terms.place head) now

abbrev pub body_asked : Flow → Item ReadRequest → ℕ → Option Asked
body_asked flow (complete head body trailers used) now = Some (asked.RequestBody (with_body flow body.content trailers now))
body_asked flow item now = None

abbrev pub answer_asked : Flow → ℕ → Option ReadResponse → ℕ → Option Asked
answer_asked flow server None now = None
answer_asked flow server (Some head) now = Some (asked.ResponseHead (with_answer flow (response_of head) now) server sending.All)

abbrev pub returned_asked : Flow → ℕ → Item ReadResponse → ℕ → Option Asked
returned_asked flow server (complete head body trailers size) now = Some (asked.ResponseBody (with_returned flow body.content trailers now) server sending.All)
returned_asked flow server item now = None

abbrev pub asked_for : At → Flow → Doing → Sight → Option Asked
asked_for at flow (request_body given most) seen = body_asked flow (request_in seen) seen.now
asked_for at flow (connection sent) seen = Some (asked.Connection flow at.dials None)
asked_for at flow (response_head server sent) seen = answer_asked flow server (head_in (answers_in flow.request seen).final) seen.now
asked_for at flow (response_body server sent most) seen = returned_asked flow server (answers_in flow.request seen).final seen.now
asked_for at flow (coming_down server sent) seen = None
asked_for at flow (upgraded server) seen = None
asked_for at flow given_head seen = Some (asked.GivenHead (given_at flow seen.now))
asked_for at flow given_body seen = Some (asked.GivenBody flow)

abbrev pub asked_in : Terms → Stage → Sight → Option Asked
asked_in terms (idle at) seen = head_asked terms at (head_in (request_in seen)) seen.now
asked_in terms (busy at flow doing) seen = asked_for at flow doing seen
asked_in terms stage seen = None

-- what was asked, but for how the request stands; and that
abbrev pub bare : Asked → Asked
bare (asked.Connection flow server up) = asked.Connection flow server None
bare (asked.ResponseHead flow server up) = asked.ResponseHead flow server sending.All
bare (asked.ResponseBody flow server up) = asked.ResponseBody flow server sending.All
bare found = found

abbrev pub going_asked : Asked → Option Going
going_asked (asked.Connection flow server up) = up
going_asked found = None

abbrev pub up_asked : Asked → Sending
up_asked (asked.ResponseHead flow server up) = up
up_asked (asked.ResponseBody flow server up) = up
up_asked found = sending.All

abbrev pub sent_asked : Asked → Sent
sent_asked (asked.Connection flow server up) = sent_by up
sent_asked found = sent_of (up_asked found)

-- how it stands at a stage
abbrev pub sent_doing : Doing → Sent
sent_doing (connection sent) = sent
sent_doing (response_head server sent) = sent
sent_doing (response_body server sent most) = sent
sent_doing (coming_down server sent) = sent
sent_doing doing = all_sent

abbrev pub sent_at : Stage → Sent
sent_at (busy at flow doing) = sent_doing doing
sent_at stage = all_sent

-- ---- the client's reader

-- the mark of a head
abbrev pub marks_at : Option ReadRequest → List Mark
marks_at None = []
marks_at (Some head) = asks head ∷ []

-- The request as its head was read, as far as framing needs it.
pub record IsRead (head : ReadRequest) (read : Request) : Type 0 where
  pub method : read.method ≡ head.method
  pub fields : read.fields ≡ fields_asked head

-- What is held says what was read; where nothing is, the request is never streamed, or its response is given.
abbrev pub HoldsNone : Option Response → Option ℕ → ReadRequest → Type 0
HoldsNone None most head = may_go_up_by (request_length (fields_asked head)) most ≡ false
HoldsNone (Some given) most head = ⊤

abbrev pub HoldsUp : Option Response → Option ℕ → ReadRequest → List Mark → Option HeldRequest → Type 0
HoldsUp given most head marks None = HoldsNone given most head
HoldsUp given most head marks (Some held) = (given ≡ None) × IsRead head held.read × (held.said.items ≡ marks_text marks)

-- Behind the head it gave these marks, whose content is this, and what is held says them. Nothing was sent of the request.
pub record ReadsBody (given : Option Response) (most : Option ℕ) (seen : Sight) (content : List ℕ) (held : Option HeldRequest) (requests : State) : Type 0 where
  pub head : ReadRequest
  pub marks : List Mark
  pub is_content : content ≡ content_of marks
  pub holds : HoldsUp given most head marks held
  pub untold : seen.told ≡ 0
  pub reads : Reads request (asks head ∷ marks) seen.client false requests

-- these bytes wait in it
pub record Waiting (bytes : List ℕ) (requests : State) : Type 0 where
  pub rest : requests.rest ≡ bytes
  pub open_still : requests.closed ≡ false

-- behind a whole message, which has no more trailers than it may
abbrev pub IsBehind : MessagePlace → Type 0
IsBehind (behind_end trailers) = fields_keep trailers ≤ most_trailers
IsBehind place = ⊥

-- and it stands behind a whole request
pub record Keeps (bytes : List ℕ) (requests : State) : Type 0 where
  pub rest : requests.rest ≡ bytes
  pub open_still : requests.closed ≡ false
  pub behind : IsBehind requests.place

-- The request is streamed, and sent as this one: behind its head the reader gave these marks.
pub record ReadsGoing (flow : Flow) (seen : Sight) (is_sent : Option Request) (marks : List Mark) (requests : State) : Type 0 where
  pub head : ReadRequest
  pub sent_as : is_sent ≡ Some (framed_up head flow.request)
  pub reads : Reads request (asks head ∷ marks) seen.client false requests

-- its server is dialled, and this is the text of what came
pub record ReadsWaiting (terms : Terms) (flow : Flow) (seen : Sight) (going : Going) (requests : State) : Type 0 where
  pub marks : List Mark
  pub going_on : ReadsGoing flow seen (Some going.sent) marks requests
  pub is_text : going.text.items ≡ up_text terms.place (Some going.sent) marks

abbrev pub WaitsUp : Terms → Flow → Sight → Option Going → State → Type 0
WaitsUp terms flow seen None requests = Keeps seen.client requests
WaitsUp terms flow seen (Some going) requests = ReadsWaiting terms flow seen going requests

-- its server is connected, and this was sent of it behind what earlier asks owed
pub record ReadsUp (terms : Terms) (flow : Flow) (seen : Sight) (sent : Request) (text : List ℕ) (requests : State) : Type 0 where
  pub marks : List Mark
  pub going_on : ReadsGoing flow seen (Some sent) marks requests
  pub within : seen.told ≤ length (up_text terms.place (Some sent) marks)
  pub is_text : text ≡ left_of seen.told (up_text terms.place (Some sent) marks)

abbrev pub GoesOnUp : Terms → Flow → Sight → Sending → List ℕ → State → Type 0
GoesOnUp terms flow seen sending.All text requests = Keeps seen.client requests
GoesOnUp terms flow seen (sending.GoingUp sent) text requests = ReadsUp terms flow seen sent text requests

-- where something is looked for, and this text was sent of a request that goes up
abbrev pub HasRequestFor : Terms → Flow → Doing → Sight → List ℕ → Wanted → State → Type 0
HasRequestFor terms flow (request_body given most) seen text looked requests = ReadsBody given most seen (content_in looked) (held_up_in looked) requests
HasRequestFor terms flow (connection sent) seen text looked requests = WaitsUp terms flow seen (going_in looked) requests
HasRequestFor terms flow (response_head server sent) seen text looked requests = GoesOnUp terms flow seen (up_in looked) text requests
HasRequestFor terms flow (response_body server sent most) seen text looked requests = GoesOnUp terms flow seen (up_in looked) text requests
HasRequestFor terms flow (coming_down server sent) seen text looked requests = GoesOnUp terms flow seen (up_in looked) text requests
HasRequestFor terms flow doing seen text looked requests = Keeps seen.client requests

abbrev pub HasRequest : Terms → Stage → Sight → List ℕ → Wanted → State → Type 0
HasRequest terms (idle at) seen text looked requests = Reads request [] seen.client false requests
HasRequest terms (busy at flow doing) seen text looked requests = HasRequestFor terms flow doing seen text looked requests
HasRequest terms (next at) seen text looked requests = ⊥
HasRequest terms over seen text looked requests = ⊤

-- And where an answer is awaited. Of a request that goes up all was sent that came then, and it was not whole.
pub record AskedUpAs (flow : Flow) (seen : Sight) (sent : Request) (requests : State) : Type 0 where
  pub marks : List Mark
  pub going_on : ReadsGoing flow seen (Some sent) marks requests
  pub all_read : (to_come requests).marks ≡ []
  pub not_whole : whole_in seen ≡ None

abbrev pub AskedUp : Flow → Stage → Sight → Sending → State → Type 0
AskedUp flow stage seen sending.All requests = Keeps (client_left stage seen) requests
AskedUp flow stage seen (sending.GoingUp sent) requests = AskedUpAs flow seen sent requests

abbrev pub AskedRequestFor : Terms → At → Flow → Doing → Sight → Asked → State → Type 0
AskedRequestFor terms at flow (connection sent) seen found requests = WaitsUp terms flow seen (going_asked found) requests
AskedRequestFor terms at flow (response_head server sent) seen found requests = AskedUp flow (busy at flow (response_head server sent)) seen (up_asked found) requests
AskedRequestFor terms at flow (response_body server sent most) seen found requests = AskedUp flow (busy at flow (response_body server sent most)) seen (up_asked found) requests
AskedRequestFor terms at flow doing seen found requests = Keeps (client_left (busy at flow doing) seen) requests

abbrev pub AskedRequest : Terms → Stage → Sight → Asked → State → Type 0
AskedRequest terms (idle at) seen found requests = Reads request (marks_at (head_in (request_in seen))) seen.client false requests
AskedRequest terms (busy at flow doing) seen found requests = AskedRequestFor terms at flow doing seen found requests
AskedRequest terms stage seen found requests = Keeps (client_left stage seen) requests

-- ---- the server's side

-- of a side's bytes the last ones stand behind these interim responses, which used the others, whatever follows
pub record Passes (asked_head : Bool) (bytes fed : List ℕ) (sent : List ReadResponse) : Type 0 where
  pub used : ℕ
  pub within : used ≤ length bytes
  pub behind : fed ≡ drop used bytes
  pub counts : (closed : Bool) (more : List ℕ) → (answer_list asked_head closed (bytes ++ more)).used ≡ used + (answer_list asked_head closed (fed ++ more)).used
  pub interim : (closed : Bool) (more : List ℕ) →
      (answer_list asked_head closed (bytes ++ more)).interim ≡ sent ++ (answer_list asked_head closed (fed ++ more)).interim
  pub final : (closed : Bool) (more : List ℕ) → (answer_list asked_head closed (bytes ++ more)).final ≡ (answer_list asked_head closed (fed ++ more)).final

-- Its reader gave these marks of the response behind those that were sent on, of the bytes of the server of this number.
pub record ReadsLink (asked_head : Bool) (number : ℕ) (bytes : List ℕ) (shut : Bool) (sent : List ReadResponse) (told : List Mark) (link : Link) : Type 0 where
  pub server : link.server ≡ number
  pub is_asked : link.asked_head ≡ asked_head
  pub closed : link.closed ≡ shut
  pub fed : List ℕ
  pub passes : Passes asked_head bytes fed sent
  pub reads : Reads (response asked_head) told fed shut link.responses

abbrev pub IsLink : Request → ℕ → Sight → List ReadResponse → List Mark → Link → Type 0
IsLink message server seen sent told link = ReadsLink (is_head message.method) server seen.server seen.shut sent told link

-- What is held says what was read; where nothing is, the response is never streamed.
abbrev pub HoldsWhole : Flow → Option ℕ → ReadResponse → Option Response → Type 0
HoldsWhole flow most head None = ⊤
HoldsWhole flow most head (Some answer) = may_stream (is_head flow.request.method) (response_of head) answer most ≡ false

abbrev pub Holds : Flow → Option ℕ → ReadResponse → List Mark → Option Held → Type 0
Holds flow most head marks None = HoldsWhole flow most head flow.response
Holds flow most head marks (Some held) = IsSome flow.response × (held.read ≡ response_of head) × (held.said.items ≡ marks_text marks)

-- behind the final head it gave these marks, whose content is this, and what is held says them
pub record ReadsReturn (flow : Flow) (server : ℕ) (most : Option ℕ) (seen : Sight) (content : List ℕ) (held : Option Held) (link : Link) : Type 0 where
  pub sent : List ReadResponse
  pub head : ReadResponse
  pub marks : List Mark
  pub is_content : content ≡ content_of marks
  pub holds : Holds flow most head marks held
  pub final : is_interim head ≡ false
  pub lasts : link.persists ≡ read_persists flow.request head
  pub is_link : IsLink flow.request server seen sent (answers head ∷ marks) link

-- The response is streamed, and as its head's hook left it; it is sent as this one.
pub record IsStreamed (flow : Flow) (head : ReadResponse) (sent : Option Response) : Type 0 where
  pub response : Response
  pub is_given : flow.response ≡ Some response
  pub is_sent : sent ≡ Some (framed_by (response_of head) response)
  pub has_body : has_no_body response.status (is_head flow.request.method) ≡ false

-- what was sent of it: its head, and what these marks behind it say
abbrev pub sent_text : Option Response → List Mark → List ℕ
sent_text None marks = []
sent_text (Some sent) marks = response_head_text sent ++ marks_text marks

-- behind the final head its reader gave these marks, and what they say was sent
pub record ReadsDown (flow : Flow) (server : ℕ) (seen : Sight) (is_sent : Option Response) (text : List ℕ) (link : Link) : Type 0 where
  pub sent : List ReadResponse
  pub head : ReadResponse
  pub marks : List Mark
  pub is_text : text ≡ sent_text is_sent marks
  pub streamed : IsStreamed flow head is_sent
  pub final : is_interim head ≡ false
  pub lasts : link.persists ≡ read_persists flow.request head
  pub is_link : IsLink flow.request server seen sent (answers head ∷ marks) link

-- the final head was read
pub record ReadsFinal (message : Request) (server : ℕ) (seen : Sight) (link : Link) : Type 0 where
  pub sent : List ReadResponse
  pub head : ReadResponse
  pub lasts : link.persists ≡ read_persists message head
  pub stands : head_in (answers_in message seen).final ≡ Some head
  pub final : is_interim head ≡ false
  pub is_link : IsLink message server seen sent (answers head ∷ []) link

-- these bytes of the server of this number wait in it
pub record LinkKeeps (number : ℕ) (bytes : List ℕ) (shut : Bool) (link : Link) : Type 0 where
  pub server : link.server ≡ number
  pub closed : link.closed ≡ shut
  pub rest : link.responses.rest ≡ bytes

-- whether the response persists that was read whole
abbrev pub whole_persists : Request → Item ReadResponse → Bool
whole_persists message (complete head body trailers size) = read_persists message head
whole_persists message item = false

-- and the response to this request was read
pub record LinkEnds (message : Request) (number : ℕ) (bytes : List ℕ) (seen : Sight) (link : Link) : Type 0 where
  pub keeps : LinkKeeps number bytes seen.shut link
  pub lasts : link.persists ≡ whole_persists message (answers_in message seen).final

-- the one side that is open is such
abbrev pub IsOpen : (Link → Type 0) → Option Link → Type 0
IsOpen holds None = ⊥
IsOpen holds (Some link) = holds link

-- it stays open, and these two are such
abbrev pub StaysOpen : (Link → Link → Type 0) → Option Link → Option Link → Type 0
StaysOpen holds (Some link) (Some later) = holds link later
StaysOpen holds old new = ⊥

-- the side of a server of which all is to be read, for the answer to a HEAD or not
abbrev pub unread_link : ℕ → Bool → List ℕ → Bool → Link
unread_link server asked_head bytes closed =
    record { server = server; asked_head = asked_head; persists = false; responses = before_all (response asked_head) bytes closed; closed = closed }

-- the parked one: nothing was heard of it, or it is kept no more
abbrev pub silent_link : Bool → ℕ → Option Link
silent_link true server = Some (unread_link server false [] false)
silent_link false server = None

abbrev pub parked_link : Option Parked → Sight → Option Link
parked_link None seen = None
parked_link (Some parked) seen = silent_link (is_silent seen.server seen.shut) parked.server

-- What was sent on of what a stage looks for: interim responses, what came of a response that is streamed, and what came of a request that
-- goes up, behind what earlier asks owed of that.
pub record SentOn : Type 0 where
  pub interim : List ReadResponse
  pub text : List ℕ
  pub up : List ℕ

abbrev pub none_sent : SentOn
none_sent = record { interim = []; text = []; up = [] }

-- where something is looked for, and this was sent on
abbrev pub HasSideFor : At → Flow → Doing → Sight → SentOn → Wanted → Option Link → Type 0
HasSideFor at flow (response_head server how) seen sent looked side = IsOpen (IsLink flow.request server seen sent.interim []) side
HasSideFor at flow (response_body server how most) seen sent looked side = IsOpen (ReadsReturn flow server most seen (content_in looked) (held_in looked)) side
HasSideFor at flow (coming_down server how) seen sent looked side = IsOpen (ReadsDown flow server seen (sent_in looked) sent.text) side
HasSideFor at flow (upgraded server) seen sent looked side = IsOpen (LinkKeeps server seen.server seen.shut) side
HasSideFor at flow doing seen sent looked side = side ≡ parked_link at.parked seen

abbrev pub HasSide : Stage → Sight → SentOn → Wanted → Option Link → Type 0
HasSide (idle at) seen sent looked side = side ≡ parked_link at.parked seen
HasSide (busy at flow doing) seen sent looked side = HasSideFor at flow doing seen sent looked side
HasSide stage seen sent looked side = ⊤

-- and where an answer is awaited
abbrev pub AskedSideFor : At → Flow → Doing → Sight → Option Link → Type 0
AskedSideFor at flow (response_head server how) seen side = IsOpen (ReadsFinal flow.request server seen) side
AskedSideFor at flow (response_body server how most) seen side = IsOpen (LinkEnds flow.request server (server_left (busy at flow (response_body server how most)) seen) seen) side
AskedSideFor at flow doing seen side = side ≡ parked_link at.parked seen

abbrev pub AskedSide : Stage → Sight → Option Link → Type 0
AskedSide (idle at) seen side = side ≡ parked_link at.parked seen
AskedSide (busy at flow doing) seen side = AskedSideFor at flow doing seen side
AskedSide stage seen side = ⊤

-- the server of the side, and whether it closed
abbrev pub used_in : Option Link → Used
used_in None = NoServer
used_in (Some link) = ByServer link.server link.closed

-- ---- all of a state

-- it looks for what the stage awaits, where this was sent on
pub record IsReady (terms : Terms) (at : At) (requests : State) (side : Option Link) (looked : Wanted) (stage : Stage) (seen : Sight) (sent : SentOn) : Type 0 where
  pub is_stage : stage_of at looked ≡ stage
  pub request : HasRequest terms stage seen sent.up looked requests
  pub has_side : HasSide stage seen sent looked side

-- it awaits the answer to what the stage asks, where the request stands as it does there
pub record IsAsked (terms : Terms) (requests : State) (side : Option Link) (found : Asked) (stage : Stage) (seen : Sight) : Type 0 where
  pub asks : asked_in terms stage seen ≡ Some (bare found)
  pub how : sent_asked found ≡ sent_at stage
  pub request : AskedRequest terms stage seen found requests
  pub has_side : AskedSide stage seen side

-- what a stage has sent on, where it has
abbrev pub sent_for : Flow → Doing → SentOn → List Command
sent_for flow (response_head server how) sent = sends_while how server sent.up ++ interim_commands flow.request sent.interim
sent_for flow (response_body server how most) sent = sends_while how server sent.up
sent_for flow (coming_down server how) sent = sends_while how server sent.up ++ sends_text sent.text
sent_for flow doing sent = []

abbrev pub sent_on : Stage → SentOn → List Command
sent_on (busy at flow doing) sent = sent_for flow doing sent
sent_on stage sent = []

-- At an end a tunnel or another protocol follows, or the conversation has ended. What stands behind on both sides is kept.
pub record IsConnecting (at : At) (connects : Connect) (seen : Sight) (requests : State) (side : Option Link) (last : Wanted) : Type 0 where
  pub phase : last ≡ ready.Connects connects.address
  pub keeps : Waiting (drop connects.used seen.client) requests
  -- the parked side waits still
  pub parked : side ≡ parked_link at.parked seen

pub record IsUpgraded (flow : Flow) (server : ℕ) (seen : Sight) (requests : State) (side : Option Link) (last : Wanted) : Type 0 where
  pub phase : last ≡ ready.Upgraded flow server
  pub keeps : Keeps seen.client requests
  pub is_open : IsOpen (LinkKeeps server seen.server seen.shut) side

abbrev pub IsLastAt : At → Option Connect → Sight → State → Option Link → Wanted → Type 0
IsLastAt at None seen requests side last = last ≡ ready.Over
IsLastAt at (Some connects) seen requests side last = IsConnecting at connects seen requests side last

abbrev pub IsLastFor : Flow → Doing → Sight → State → Option Link → Wanted → Type 0
IsLastFor flow (upgraded server) seen requests side last = IsUpgraded flow server seen requests side last
IsLastFor flow doing seen requests side last = last ≡ ready.Over

abbrev pub IsLast : Terms → Stage → Sight → State → Option Link → Wanted → Type 0
IsLast terms (idle at) seen requests side last = IsLastAt at (connect_in terms.place (request_in seen)) seen requests side last
IsLast terms (busy at flow doing) seen requests side last = IsLastFor flow doing seen requests side last
IsLast terms stage seen requests side last = last ≡ ready.Over

-- a reader gave all that had come of its message, which goes on
abbrev pub IsQuiet : State → Type 0
IsQuiet state = to_come state ≡ only goes_on

abbrev pub UpQuiet : Sending → State → Type 0
UpQuiet sending.All requests = ⊤
UpQuiet (sending.GoingUp sent) requests = IsQuiet requests

-- where nothing is awaited: what is read of a direction that keeps no body
abbrev pub HasGiven : Wanted → State → Option Link → Type 0
HasGiven ready.Idle requests side = IsQuiet requests
HasGiven (ready.ResponseHead flow server up) requests side = UpQuiet up requests × IsOpen (λ link. IsQuiet link.responses) side
HasGiven (ready.ResponseBody flow server up most body held) requests side = UpQuiet up requests
HasGiven (ready.ComingDown flow server up sent) requests side = UpQuiet up requests × IsOpen (λ link. IsQuiet link.responses) side
HasGiven looked requests side = ⊤

abbrev pub PhaseAt : Look Command → Terms → At → State → Option Link → Phase → Stage → Sight → Type 0
PhaseAt NotYet terms at requests side found stage seen =
    (looked : Wanted) × (sent : SentOn) × (found ≡ phase.Ready looked) × IsReady terms at requests side looked stage seen sent
    × ((view : View) → seen_of view (waits_at terms stage seen) ≡ seen_of view (sent_on stage sent)) × HasGiven looked requests side
PhaseAt (Asks ask) terms at requests side found stage seen = (awaits : Asked) × (found ≡ phase.Asked awaits) × IsAsked terms requests side awaits stage seen
PhaseAt (Ends owed) terms at requests side found stage seen = (last : Wanted) × (found ≡ phase.Ready last) × IsLast terms stage seen requests side last

-- where the flow stands, and whether the client has closed; where the conversation has ended that counts for nothing
pub record IsPlaced (here : At) (seen : Sight) (at : At) (closed : Bool) : Type 0 where
  pub is_here : at ≡ here
  pub client : closed ≡ seen.closed

abbrev pub HasPlace : Stage → Sight → At → Bool → Type 0
HasPlace over seen at closed = ⊤
HasPlace stage seen at closed = IsPlaced (place_of stage) seen at closed

-- where a flow uses a side, none is parked
abbrev pub NoneParkedFor : At → Doing → Type 0
NoneParkedFor at (response_head server sent) = at.parked ≡ None
NoneParkedFor at (response_body server sent most) = at.parked ≡ None
NoneParkedFor at (coming_down server sent) = at.parked ≡ None
NoneParkedFor at (upgraded server) = at.parked ≡ None
NoneParkedFor at doing = ⊤

abbrev pub NoneParked : Stage → Type 0
NoneParked (busy at flow doing) = NoneParkedFor at doing
NoneParked stage = ⊤

-- A state that was made on these terms, at this stage and in this sight.
pub record IsIn (made : Terms) (state : Stream) (stage : Stage) (seen : Sight) : Type 0 where
  pub terms : state.terms ≡ made
  pub apart : NoneParked stage
  pub place : HasPlace stage seen state.at state.client_closed
  pub phase : PhaseAt (look made stage seen) made state.at state.requests state.side state.phase stage seen

-- where the walk stopped at this stage and over this prefix
pub record IsAt (made : Terms) (state : Stream) (place : Standing) (prefix : List (Timed Event)) : Type 0 where
  pub within : IsWithin place prefix
  pub is_in : IsIn made state place.stage (sight_over place prefix)

-- ---- what is awaited

abbrev pub asked_of : Asked → Ask
asked_of (asked.Idle flow expects) = hook_of flow RequestHead
asked_of (asked.RequestBody flow) = hook_of flow RequestBody
asked_of (asked.Connection flow server up) = asking.Dial server
asked_of (asked.ResponseHead flow server up) = hook_of flow ResponseHead
asked_of (asked.ResponseBody flow server up) = hook_of flow ResponseBody
asked_of (asked.GivenHead flow) = hook_of flow ResponseHead
asked_of (asked.GivenBody flow) = hook_of flow ResponseBody

abbrev pub awaited_in : Phase → Option Ask
awaited_in (phase.Asked found) = Some (asked_of found)
awaited_in (phase.Ready found) = None

abbrev pub awaits : Stream → Option Ask
awaits state = awaited_in state.phase

-- nothing more comes of it
abbrev pub is_last : Phase → Bool
is_last (phase.Ready ready.Over) = true
is_last (phase.Ready (ready.Connects address)) = true
is_last (phase.Ready (ready.Upgraded flow server)) = true
is_last _ = false
