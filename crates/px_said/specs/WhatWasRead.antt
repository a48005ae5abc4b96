-- What was read, and what it is for a text to say it. Where every reply goes on, whoever gets what is sent reads in it what was read
-- before: of a request its method, path, version, fields, body and trailers, and of a response its version, status, reason, fields,
-- body and trailers; each name and each value as it was spelled, and the fields in their order. (Blanks around a value, and how a line
-- ends, are no part of it.) Only this differs: a target has the form that its place asks (`KeepsTarget`); `Expect: 100-continue` is met
-- here, and does not go on (`is_met`); a body in chunks goes as one chunk, or as none where it is empty (`one_chunk`); and a client of
-- version 1.0 gets no interim responses (`interim_known`). A reason that the grammar of heads does not give is read as the empty one,
-- and so it is sent.
use Rattle.std.specs.Prelude.{◌≡◌, ◌≢◌, ◌⊎◌, ◌<◌, ◌≤◌, ◌^◌, ℕ, ◌+◌, Bool, true, false, not, if◌then◌else◌, List, [], ◌∷◌, ◌++◌, codes, drop, take, filter, length, map, ⊤, Option, Some, None, Ok}
use Rattle.px_text.specs.Least.{least}
use Rattle.px_message.specs.Fields.{is_valued}
use Rattle.px_message.specs.Length.{has_no_body, is_framed_in_chunks, response_length}
use Rattle.px_message.specs.Target.{target_form}
use Rattle.px_message.specs.declared.fault.Fault.{Fault}
use Rattle.px_message.specs.declared.length.Length.TheVariants.{ToClose}
use Rattle.px_message.specs.declared.version.Version.{Version}
use Rattle.px_message.specs.declared.version.Version.TheVariants.{Http10, Http11}
use Rattle.px_event.specs.declared.command.Command.{Command}
use Rattle.px_event.specs.declared.command.Command.TheVariants as commands
use Rattle.px_event.specs.declared.event.Event.{Event}
use Rattle.px_event.specs.declared.side.Side.TheVariants.{Client, Server}
use Rattle.px_event.specs.Chain.{Timed}
use Rattle.px_read.specs.Items.{Answers, Body, Item, complete, no_body, request_item, response_item}
use Rattle.px_read.specs.declared.head.RequestHead.{RequestHead}
use Rattle.px_read.specs.declared.head.ResponseHead.{ResponseHead}
use Rattle.px_write.specs.Error.{error_text}
use Rattle.px_write.specs.ReadBack.{one_chunk}
use Rattle.px_write.specs.TargetPath.{path_said}
use Rattle.px_write.specs.Text.{body_text, fields_text, interim_text, request_line, version_text}
use Rattle.px_exchange.specs.Requests.{is_head, judged}
use Rattle.px_exchange.specs.Texts.{continue_text}
use Rattle.px_exchange.specs.declared.asked.Judged.{Judged}
use Rattle.px_exchange.specs.declared.asked.Judged.TheVariants.{Accepted}
use Rattle.px_exchange.specs.declared.place.Place.{Place}
use Rattle.px_exchange.specs.declared.place.Place.TheVariants as places
use Rattle.px_chain.specs.Chain.{parked_for}
use Rattle.px_said.specs.ClosedForm.{Point, Served, answers_at, ended_at, parked_behind, request_is_whole, request_items, still_parked, whole_request}
use Rattle.px_chain.specs.Sights.{used_by_answers}
use Rattle.px_chain.specs.Stages.{Parked}
use Rattle.px_chain.specs.Streams.{bytes_of}

-- ---- what a text says

-- A reader takes heads and trailers of up to 65,536 bytes, and memory holds the body.
pub record IsReadable (head content : List ℕ) (trailers : List (List ℕ × List ℕ)) : Type 0 where
  pub short_head : length head ≤ 65536
  pub held : length content < 2 ^ 64
  pub short_trailers : length (fields_text trailers) ≤ 65536

-- A server is sent the path that the target said, and another proxy what is read as the same host, port and path (RFC 9112 section
-- 3.2).
abbrev pub KeepsTarget : Place → (method read sent : List ℕ) → Type 0
KeepsTarget (places.Upstream proxy) method read sent = target_form method sent ≡ target_form method read
KeepsTarget place method read sent = path_said (target_form method read) ≡ Some sent

-- the field asks for `100 Continue` (RFC 9110 section 10.1.1); one of version 1.0 cannot
abbrev pub is_met : Version → List ℕ × List ℕ → Bool
is_met Http10 field = false
is_met Http11 field = is_valued (codes "Expect") (codes "100-continue") field

-- the request's head with this target, and without the expectation
abbrev pub sent_head : RequestHead → List ℕ → RequestHead
sent_head head target = record head { target = target; fields = filter (λ field. not (is_met head.version field)) head.fields }

abbrev pub head_text : RequestHead → List ℕ
head_text head = request_line head.method head.target (version_text head.version) ++ fields_text head.fields

-- The text is this request, byte by byte. Whoever reads it, whatever follows, reads this head, this body and these trailers, and the
-- next message begins where it ends.
pub record SaysRequest (place : Place) (text : List ℕ) (head : RequestHead) (body : Body) (trailers : List (List ℕ × List ℕ)) : Type 0 where
  pub target : List ℕ
  pub keeps : KeepsTarget place head.method head.target target
  pub bytes : text ≡ head_text (sent_head head target) ++ body_text head.fields body.content trailers
  pub reads : IsReadable (head_text (sent_head head target)) body.content trailers → (rest : List ℕ) →
      request_item (text ++ rest) ≡ complete (sent_head head target) (one_chunk (is_framed_in_chunks head.fields) body.content) trailers (length text)

abbrev pub answer_head_text : ResponseHead → List ℕ
answer_head_text head = interim_text head.version head.code head.reason head.fields

-- the body of a response, or nothing where it can have none
abbrev pub answer_body_text : Bool → ResponseHead → List ℕ → List (List ℕ × List ℕ) → List ℕ
answer_body_text asked_head head content trailers = if has_no_body head.code asked_head then [] else body_text head.fields content trailers

-- a body that runs to the close ends where the text does: nothing follows, and the side has closed (RFC 9112 section 6.3)
abbrev pub EndsThere : Bool → ResponseHead → Bool → List ℕ → Type 0
EndsThere asked_head head closed rest = (response_length head.code asked_head head.fields ≢ Ok ToClose) ⊎ ((closed ≡ true) × (rest ≡ []))

-- The text is this response, to HEAD or not, and is read as it.
pub record SaysResponse (asked_head : Bool) (text : List ℕ) (head : ResponseHead) (body : Body) (trailers : List (List ℕ × List ℕ)) : Type 0 where
  pub bytes : text ≡ answer_head_text head ++ answer_body_text asked_head head body.content trailers
  pub reads : IsReadable (answer_head_text head) body.content trailers → (closed : Bool) (rest : List ℕ) → EndsThere asked_head head closed rest →
      response_item asked_head closed (text ++ rest) ≡ complete head (one_chunk (is_framed_in_chunks head.fields) body.content) trailers (length text)

-- ---- what was read

-- what was read whole
pub data Message : Type 0 where
  -- a request, which goes to the server of this number
  a_request : (server : ℕ) (head : RequestHead) (body : Body) (trailers : List (List ℕ × List ℕ)) → Message
  -- what goes to the client: an interim response, and a final one, to HEAD or not
  an_interim_response : (head : ResponseHead) → Message
  a_final_response : (asked_head : Bool) (head : ResponseHead) (body : Body) (trailers : List (List ℕ × List ℕ)) → Message

-- interim responses, where the client knows them (RFC 9110 section 15.2)
abbrev pub interim_known : Version → List ResponseHead → List ResponseHead
interim_known Http10 heads = []
interim_known Http11 heads = heads

abbrev pub final_read : Bool → Item ResponseHead → List Message
final_read asked_head (complete head body trailers used) = a_final_response asked_head head body trailers ∷ []
final_read asked_head _ = []

-- what a server answered to a request of this version
abbrev pub answers_read : Version → Bool → Answers → List Message
answers_read version asked_head answers = map an_interim_response (interim_known version answers.interim) ++ final_read asked_head answers.final

-- where a request stands: the number of the next server that is dialled, how many of the client's bytes are in front of it, how many
-- events had come when the response before it was whole, and the parked side, which is heard in the events behind so many, behind so
-- many bytes
pub record Here : Type 0 where
  pub server : ℕ
  pub bytes : ℕ
  pub events : ℕ
  pub parked : Option Parked
  pub opened : ℕ
  pub used : ℕ

abbrev pub parked_by : Place → Judged → Option Parked → Option ℕ
parked_by place (Accepted request) parked = parked_for place request parked
parked_by place _ parked = None

-- the parked side, where the request of this head goes there
abbrev pub parked_for_head : Place → RequestHead → Option Parked → Option ℕ
parked_for_head place head parked = parked_by place (judged place head) parked

-- the server's side that the request goes to once so many events have come: the parked one, or that of the next server
abbrev pub served_by : Here → ℕ → Option ℕ → Served
served_by here come None = record { server = here.server; opened = come; used = 0; went = come }
served_by here come (Some server) = record { server = server; opened = here.opened; used = here.used; went = come }

-- a server that was dialled has used its number
abbrev pub next_dialled : ℕ → Option ℕ → ℕ
next_dialled server None = server + 1
next_dialled server (Some side) = server

abbrev pub parked_read : Place → Judged → Body → List (List ℕ × List ℕ) → Item ResponseHead → ℕ → Option Parked
parked_read place (Accepted request) body trailers final server = parked_behind place (whole_request request body trailers) final server
parked_read place _ body trailers final server = None

-- and where the next request stands, behind so many bytes, once its response is whole
abbrev pub behind_by : Place → List (Timed Event) → Here → RequestHead → Body → List (List ℕ × List ℕ) → ℕ → Option ℕ → Served → ℕ → Here
behind_by place events here head body trailers used side served ended =
    let answers = answers_at events served.server served.opened served.used (is_head head.method) in record {
      server = next_dialled here.server side;
      bytes = here.bytes + used;
      events = ended;
      parked = parked_read place (judged place head) body trailers answers.final served.server;
      opened = served.opened;
      used = used_by_answers answers served.used;
    }

abbrev pub messages_behind : Option ℕ → (ℕ → List Message) → List Message
messages_behind None further = []
messages_behind (Some ended) further = further ended

-- a request, what its server answered, and what was read behind that response
abbrev pub messages_at : List (Timed Event) → Served → RequestHead → Body → List (List ℕ × List ℕ) → (ℕ → List Message) → List Message
messages_at events served head body trailers further =
    let asked_head = is_head head.method in
    a_request served.server head body trailers
    ∷ (answers_read head.version asked_head (answers_at events served.server served.opened served.used asked_head)
    ++ messages_behind (ended_at events served asked_head) further)

-- it goes to this side, once so many events have come
abbrev pub messages_by : Place → List (Timed Event) → Here → RequestHead → Body → List (List ℕ × List ℕ) → ℕ → ℕ → Option ℕ → (Here → List Message) → List Message
messages_by place events here head body trailers used come side further =
    let served = served_by here come side in
    messages_at events served head body trailers (λ ended. further (behind_by place events here head body trailers used side served ended))

-- that is behind the fewest events over which it is whole
abbrev pub messages_once : Place → List (Timed Event) → Here → RequestHead → Body → List (List ℕ × List ℕ) → ℕ → Option ℕ → (Here → List Message) → List Message
messages_once place events here head body trailers used None further = []
messages_once place events here head body trailers used (Some come) further =
    let parked = still_parked (take come events) here.parked here.opened here.used in
    messages_by place events here head body trailers used come (parked_for_head place head parked) further

abbrev pub messages_of : Place → List (Timed Event) → Here → Item RequestHead → (Here → List Message) → List Message
messages_of place events here (complete head body trailers used) further =
    messages_once place events here head body trailers used (least (request_is_whole events here.bytes) here.events (length events + 1)) further
messages_of place events here _ further = []

abbrev pub messages_from : Place → List (Timed Event) → Here → List (Item RequestHead) → List Message
messages_from place events here [] = []
messages_from place events here (item ∷ items) = messages_of place events here item (λ next. messages_from place events next items)

-- where a request stands, without its number and the answers of dials
abbrev pub here_of : Point → Here
here_of point = record { server = point.server; bytes = point.bytes; events = point.events; parked = point.parked; opened = point.opened; used = point.used }

-- All that was read from this point on, in order: each of so many requests of the client's stream, and what its server answered.
abbrev pub messages_read : Place → List (Timed Event) → Point → ℕ → List Message
messages_read place events point flows =
    messages_from place events (here_of point) (take flows (request_items (drop point.bytes (bytes_of Client events))))

-- ---- what is sent says it

abbrev pub Says : Place → Command → Message → Type 0
Says place (commands.Send (Server number) text) (a_request server head body trailers) = (number ≡ server) × SaysRequest place text head body trailers
Says place (commands.Send Client text) (an_interim_response head) = SaysResponse false text head no_body []
Says place (commands.Send Client text) (a_final_response asked_head head body trailers) = SaysResponse asked_head text head body trailers
Says place _ _ = ⊥

-- a dial, or a text that this proxy makes itself, for its client: `100 Continue`, or that of a fault
abbrev pub IsOwn : Command → Type 0
IsOwn (commands.Dial server address inside) = ⊤
IsOwn (commands.Send Client text) = (text ≡ continue_text) ⊎ ((fault : Fault) × (asked_head : Bool) × (text ≡ error_text fault asked_head))
IsOwn _ = ⊥

-- The texts that are sent, but for the proxy's own, say the messages that were read, one behind the other without a gap, as far as
-- they come.
abbrev pub SayWhatWasRead : Place → List Command → List Message → Type 0
SayWhatWasRead place [] messages = ⊤
SayWhatWasRead place (command ∷ due) [] = IsOwn command × SayWhatWasRead place due []
SayWhatWasRead place (command ∷ due) (message ∷ messages) =
    (IsOwn command × SayWhatWasRead place due (message ∷ messages)) ⊎ (Says place command message × SayWhatWasRead place due messages)

-- ---- a text says one message

-- what a text of a request says, no other request has
abbrev pub OneRequestIsSaid : Type 0
OneRequestIsSaid = (place : Place) (text : List ℕ) (head other : RequestHead) (body its : Body) (trailers more : List (List ℕ × List ℕ)) →
    (said : SaysRequest place text head body trailers) → (also : SaysRequest place text other its more) →
    IsReadable (head_text (sent_head head said.target)) body.content trailers →
    IsReadable (head_text (sent_head other also.target)) its.content more →
    (sent_head head said.target ≡ sent_head other also.target) × (body.content ≡ its.content) × (trailers ≡ more)

-- and what one of a response says, no other response
abbrev pub OneResponseIsSaid : Type 0
OneResponseIsSaid = (asked_head : Bool) (text : List ℕ) (head other : ResponseHead) (body its : Body) (trailers more : List (List ℕ × List ℕ)) →
    SaysResponse asked_head text head body trailers → SaysResponse asked_head text other its more →
    IsReadable (answer_head_text head) body.content trailers → IsReadable (answer_head_text other) its.content more →
    (head ≡ other) × (body.content ≡ its.content) × (trailers ≡ more)
