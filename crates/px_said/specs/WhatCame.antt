-- What was read, as it goes on over any size that is allowed, and what it is for a text to say it. A message that is kept is said once it is whole, as
-- `WhatWasRead` has it. One that is streamed is said as far as it came (RFC 9112 sections 6 and 7.1): its head, and then each chunk as its
-- sender began and ended it, each byte of the body, and the end with the trailers. Whoever gets all of it reads the same head, with its framing fields,
-- and the same chunks. Only this differs of a request: the form of its target (`KeepsTarget`), and an expectation that is met here (`is_met`).
use Rattle.std.specs.Prelude.{◌≡◌, ◌⊎◌, ℕ, ◌+◌, Bool, true, false, List, [], ◌∷◌, ◌++◌, length, map, take, ⊤, Option, Some, None}
use Rattle.px_message.specs.declared.request.Request.{Request}
use Rattle.px_event.specs.declared.command.Command.{Command}
use Rattle.px_event.specs.declared.command.Command.TheVariants as commands
use Rattle.px_event.specs.declared.event.Event.{Event}
use Rattle.px_event.specs.declared.reply.Reply.{Reply}
use Rattle.px_event.specs.declared.reply.Reply.TheVariants as reply
use Rattle.px_event.specs.declared.side.Side.TheVariants.{Client, Server}
use Rattle.px_event.specs.Chain.{Timed}
use Rattle.px_read.specs.Items.{Body, Item, complete, request_item, response_item}
use Rattle.px_read.specs.Laws.{head_in}
use Rattle.px_read.specs.Readings.{request_reading, response_reading}
use Rattle.px_read.specs.declared.head.RequestHead.{RequestHead}
use Rattle.px_read.specs.declared.head.ResponseHead.{ResponseHead}
use Rattle.px_exchange.specs.Flows.{response_of}
use Rattle.px_exchange.specs.Requests.{is_head, judged}
use Rattle.px_exchange.specs.declared.asked.Judged.{Judged}
use Rattle.px_exchange.specs.declared.asked.Judged.TheVariants.{Accepted}
use Rattle.px_exchange.specs.declared.place.Place.{Place}
use Rattle.px_exchange.specs.declared.terms.Terms.{Terms}
use Rattle.px_parts.specs.Texts.{behind_text, final_bytes, response_behind_text}
use Rattle.px_said.specs.ClosedForm.{Told, request_items, whole_request}
use Rattle.px_said.specs.Lines.{Exchange, Start, answers_to, behind_reply, client_bytes, comes_down, ends_at, goes_on_at, goes_up_over, heard_of, next_allows, next_start, side_over, streamed_request, until, used_by}
use Rattle.px_said.specs.WhatWasRead.{EndsThere, IsOwn, IsReadable, KeepsTarget, Message, Says, a_request, an_interim_response, answer_head_text, final_read, head_text, interim_known, sent_head}

-- ---- what a text says that comes

-- The text is this request as far as these bytes tell it, from its first on. Where that is all of it, whoever reads the text, whatever follows,
-- reads this head, the sender's chunks, this content and these trailers, and the next message begins where it ends.
pub record StreamsRequest (place : Place) (text : List ℕ) (head : RequestHead) (bytes : List ℕ) : Type 0 where
  pub target : List ℕ
  pub keeps : KeepsTarget place head.method head.target target
  pub is : text ≡ head_text (sent_head head target) ++ behind_text (sent_head head target).fields (request_reading bytes)
  pub reads : (body : Body) (trailers : List (List ℕ × List ℕ)) (used : ℕ) → request_item bytes ≡ complete head body trailers used →
      IsReadable (head_text (sent_head head target)) body.content trailers → (rest : List ℕ) →
      request_item (text ++ rest) ≡ complete (sent_head head target) body trailers (length text)

-- the same of a response, to HEAD or not, with its server's close behind the bytes or not
pub record StreamsResponse (asked_head : Bool) (text : List ℕ) (closed : Bool) (head : ResponseHead) (bytes : List ℕ) : Type 0 where
  pub is : text ≡ answer_head_text head ++ response_behind_text (response_of head) asked_head (response_reading asked_head closed bytes)
  pub reads : (body : Body) (trailers : List (List ℕ × List ℕ)) (used : ℕ) → response_item asked_head closed bytes ≡ complete head body trailers used →
      IsReadable (answer_head_text head) body.content trailers → (shut : Bool) (rest : List ℕ) → EndsThere asked_head head shut rest →
      response_item asked_head shut (text ++ rest) ≡ complete head body trailers (length text)

-- ---- what came

pub data Came : Type 0 where
  -- a message that is kept, whole
  whole : (message : Message) → Came
  -- a request that is streamed to the server of this number, of which these bytes came
  a_request_coming : (server : ℕ) (head : RequestHead) (bytes : List ℕ) → Came
  -- and a response to HEAD or not, with its server's close behind the bytes or not
  a_response_coming : (asked_head closed : Bool) (head : ResponseHead) (bytes : List ℕ) → Came

-- behind a response that is whole
abbrev pub came_next : Option ℕ → (ℕ → List Came) → List Came
came_next None further = []
came_next (Some ended) further = further ended

abbrev pub coming_of : Bool → Told → Option ResponseHead → List Came
coming_of asked_head told None = []
coming_of asked_head told (Some head) = a_response_coming asked_head told.shut head (final_bytes asked_head told.shut told.bytes) ∷ []

abbrev pub came_final : Bool → Bool → Told → Item ResponseHead → (streamed kept : List Came) → List Came
came_final true asked_head told final streamed kept = coming_of asked_head told (head_in final) ++ streamed
came_final false asked_head told final streamed kept = map whole (final_read asked_head final) ++ kept

-- Of an exchange, over all that is heard of it: the request, the interim responses where the client knows them, the final one, and what was read behind that.
abbrev pub came_exchange : Terms → List (Timed Event) → Start → Exchange → (List (Timed Event) → Came) → (Start → List Came) → List Came
came_exchange terms events start exchange request further =
    let ended = ends_at events exchange in
    let heard = until ended events in
    let told = heard_of exchange heard in
    let asked_head = is_head exchange.request.method in
    let answers = answers_to exchange.request told in
    let on : Start → ℕ → List Came = λ from so_many. further (next_start terms.place from exchange.served exchange.request answers so_many) in
    request heard
    ∷ (map (λ head. whole (an_interim_response head)) (interim_known exchange.request.version answers.interim)
    ++ came_final (comes_down (next_allows terms start.replies) asked_head told (head_in answers.final)) asked_head told answers.final
    (came_next ended (on (behind_reply start))) (came_next ended (on (behind_reply (behind_reply start)))))

-- ---- of a request: it goes to the new server, or to the parked side

abbrev pub came_answered : Terms → List (Timed Event) → Start → Option ℕ → Request → ℕ → List Reply → (ℕ → List (Timed Event) → Came) → (Start → List Came) → List Came
came_answered terms events start up request come (reply.Dialled ∷ replies) message further =
    came_exchange terms events (record start { server = start.server + 1; replies = replies })
    (record { request = request; up = up; served = record { server = start.server; opened = come; used = 0; went = come } }) (message start.server) further
came_answered terms events start up request come replies message further = []

abbrev pub came_to : Terms → List (Timed Event) → Start → Option ℕ → Request → ℕ → Option ℕ → (ℕ → List (Timed Event) → Came) → (Start → List Came) → List Came
came_to terms events start up request come None message further =
    came_answered terms events start up request come start.replies message further
came_to terms events start up request come (Some server) message further =
    came_exchange terms events start
    (record { request = request; up = up; served = record { server = server; opened = start.opened; used = start.used; went = come } }) (message server) further

-- streamed, or whole
abbrev pub came_way : Bool → Terms → List (Timed Event) → Start → RequestHead → Request → Item RequestHead → ℕ → (Start → List Came) → List Came
came_way true terms events start head request item come further =
    came_to terms events (record start { bytes = used_by item start.bytes }) (Some start.bytes) (streamed_request request) come (side_over terms.place start request (take come events))
    (λ server heard. a_request_coming server head (client_bytes heard start.bytes)) further
came_way false terms events start head request (complete own body trailers used) come further =
    let all = whole_request request body trailers in
    came_to terms events (behind_reply (record start { bytes = start.bytes + used })) None all come (side_over terms.place start all (take come events))
    (λ server heard. whole (a_request server own body trailers)) further
came_way false terms events start head request item come further = []

abbrev pub came_request : Terms → List (Timed Event) → Start → RequestHead → Request → Option ℕ → Item RequestHead → Option ℕ → (Start → List Came) → List Came
came_request terms events start head request allowed item None further = []
came_request terms events start head request allowed item (Some come) further =
    came_way (goes_up_over start allowed (take come events)) terms events start head request item come further

abbrev pub came_judged : Terms → List (Timed Event) → Start → RequestHead → Judged → Item RequestHead → (Start → List Came) → List Came
came_judged terms events start head (Accepted request) item further =
    let allowed = next_allows terms start.replies in
    let on = behind_reply start in came_request terms events on head request allowed item (goes_on_at events on allowed) further
came_judged terms events start head made item further = []

abbrev pub came_start : Terms → List (Timed Event) → Start → Option RequestHead → Item RequestHead → (Start → List Came) → List Came
came_start terms events start None item further = []
came_start terms events start (Some head) item further = came_judged terms events start head (judged terms.place head) item further

abbrev pub came_from : Terms → List (Timed Event) → Start → List (Item RequestHead) → List Came
came_from terms events start [] = []
came_from terms events start (item ∷ items) = came_start terms events start (head_in item) item (λ next. came_from terms events next items)

-- All that was read from this request on, in order: each of so many requests of the client's stream, and what its server answered.
abbrev pub messages_came : Terms → List (Timed Event) → Start → ℕ → List Came
messages_came terms events start flows = came_from terms events start (take flows (request_items (client_bytes events start.bytes)))

-- ---- what is sent says it

abbrev pub SaysCame : Place → Command → Came → Type 0
SaysCame place command (whole message) = Says place command message
SaysCame place (commands.Send (Server number) text) (a_request_coming server head bytes) = (number ≡ server) × StreamsRequest place text head bytes
SaysCame place (commands.Send Client text) (a_response_coming asked_head closed head bytes) = StreamsResponse asked_head text closed head bytes
SaysCame place _ _ = ⊥

-- The texts, but for the proxy's own, say the messages that were read, one behind the other without a gap, as far as they come.
abbrev pub SayWhatCame : Place → List Command → List Came → Type 0
SayWhatCame place [] messages = ⊤
SayWhatCame place (command ∷ due) [] = IsOwn command × SayWhatCame place due []
SayWhatCame place (command ∷ due) (message ∷ messages) =
    (IsOwn command × SayWhatCame place due (message ∷ messages)) ⊎ (SaysCame place command message × SayWhatCame place due messages)

-- ---- a text says one message

-- what all of a text says that is streamed of a request, no other request has, in other chunks neither
abbrev pub OneRequestComes : Type 0
OneRequestComes = (place : Place) (text : List ℕ) (head other : RequestHead) (bytes its : List ℕ) → (says : StreamsRequest place text head bytes) → (also : StreamsRequest place text other its) →
    (body : Body) (trailers : List (List ℕ × List ℕ)) (used : ℕ) → request_item bytes ≡ complete head body trailers used → IsReadable (head_text (sent_head head says.target)) body.content trailers →
    (own : Body) (more : List (List ℕ × List ℕ)) (size : ℕ) → request_item its ≡ complete other own more size → IsReadable (head_text (sent_head other also.target)) own.content more →
    (sent_head head says.target ≡ sent_head other also.target) × (body ≡ own) × (trailers ≡ more)

-- and so of a response
abbrev pub OneResponseComes : Type 0
OneResponseComes = (asked_head : Bool) (text : List ℕ) (closed shut : Bool) (head other : ResponseHead) (bytes its : List ℕ) →
    StreamsResponse asked_head text closed head bytes → StreamsResponse asked_head text shut other its →
    (body : Body) (trailers : List (List ℕ × List ℕ)) (used : ℕ) → response_item asked_head closed bytes ≡ complete head body trailers used → IsReadable (answer_head_text head) body.content trailers →
    (own : Body) (more : List (List ℕ × List ℕ)) (size : ℕ) → response_item asked_head shut its ≡ complete other own more size → IsReadable (answer_head_text other) own.content more →
    (head ≡ other) × (body ≡ own) × (trailers ≡ more)
