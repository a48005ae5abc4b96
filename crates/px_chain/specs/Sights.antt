-- What a stage looks at, and nothing else: the joined bytes of the client and of the one server's side that is open, behind those that
-- flows before have used, whether each closed, and the moment.
use Rattle.std.specs.Prelude.{ℕ, ◌≤◌, ◌+◌, Bool, false, ◌||◌, if◌then◌else◌, List, [], ◌++◌, length, drop, Option, Some, None}
use Rattle.px_message.specs.declared.request.Request.{Request}
use Rattle.px_event.specs.declared.event.Event.{Event}
use Rattle.px_event.specs.declared.side.Side.TheVariants.{Client, Server}
use Rattle.px_event.specs.Chain.{Timed}
use Rattle.px_read.specs.Items.{Item, complete, request_item, Answers, answer_list}
use Rattle.px_read.specs.declared.head.RequestHead.{RequestHead}
use Rattle.px_exchange.specs.declared.ending.Used.{Used}
use Rattle.px_exchange.specs.declared.ending.Used.TheVariants.{NoServer, ByServer}
use Rattle.px_exchange.specs.Requests.{is_head}
use Rattle.px_chain.specs.Stages.{Parked, Stage, busy, request_body, response_body, side_of}
use Rattle.px_event.specs.Sides.{closes, piece_of}
use Rattle.px_chain.specs.Streams.{Since, bytes_of, client_closed, is_closed, now_over}

pub record Sight : Type 0 where
  -- the client's bytes behind those that flows before have used
  pub client : List ℕ
  pub closed : Bool
  -- of the server's side, the flow's own or one that is parked, likewise
  pub server : List ℕ
  pub shut : Bool
  -- how many bytes of the text of a request that goes up earlier asks owed
  pub told : ℕ
  pub now : ℕ

-- ---- what is read of it

-- the client's request
abbrev pub request_in : Sight → Item RequestHead
request_in seen = request_item seen.client

-- the responses of the server's side, to this request
abbrev pub answers_in : Request → Sight → Answers
answers_in request seen = answer_list (is_head request.method) seen.shut seen.server

-- the server of this number, whose side is open
abbrev pub server_in : ℕ → Sight → Used
server_in server seen = ByServer server seen.shut

-- the server that is parked
abbrev pub server_parked : Option Parked → Sight → Used
server_parked None seen = NoServer
server_parked (Some parked) seen = server_in parked.server seen

-- ---- what is used of it

-- how many bytes of the client, and of the one server's side that is open
pub record UsedBytes : Type 0 where
  pub client : ℕ
  pub server : ℕ

-- a complete item uses its bytes: so many more are used, and what stands behind them is left
abbrev pub used_with : {H : Type 0} → Item H → ℕ → ℕ
used_with (complete head body trailers size) used = used + size
used_with _ used = used

abbrev pub left_by : {H : Type 0} → Item H → List ℕ → List ℕ
left_by (complete head body trailers size) bytes = drop size bytes
left_by _ bytes = bytes

-- how many of the client's bytes are used where a stage goes on in this sight: those of a whole request
abbrev pub client_used : Stage → Sight → ℕ → ℕ
client_used (busy at flow (request_body given most)) seen used = used_with (request_in seen) used
client_used _ seen used = used

abbrev pub client_left : Stage → Sight → List ℕ
client_left (busy at flow (request_body given most)) seen = left_by (request_in seen) seen.client
client_left _ seen = seen.client

-- and of the server's: those of the responses to a request, where the final one is whole
abbrev pub used_by_answers : Answers → ℕ → ℕ
used_by_answers answers used = used_with answers.final (used + answers.used)

abbrev pub left_by_answers : Answers → List ℕ → List ℕ
left_by_answers answers bytes = left_by answers.final (drop answers.used bytes)

abbrev pub server_used : Stage → Sight → ℕ → ℕ
server_used (busy at flow (response_body server sent most)) seen used = used_by_answers (answers_in flow.request seen) used
server_used _ seen used = used

abbrev pub server_left : Stage → Sight → List ℕ
server_left (busy at flow (response_body server sent most)) seen = left_by_answers (answers_in flow.request seen) seen.server
server_left _ seen = seen.server

-- ---- a stage over a prefix

-- A stage, since when it stands, how many events had come when the dial of its server's side was answered (a server is heard in the
-- events behind those), how many bytes of the client and of that side flows before have used, and how many of the text of a request that
-- goes up earlier asks owed.
pub record Standing : Type 0 where
  pub stage : Stage
  pub since : Since
  pub opened : ℕ
  pub used : UsedBytes
  pub told : ℕ

abbrev pub bytes_over : Option ℕ → ℕ → List (Timed Event) → List ℕ
bytes_over None opened prefix = []
bytes_over (Some server) opened prefix = bytes_of (Server server) (drop opened prefix)

abbrev pub shut_over : Option ℕ → ℕ → List (Timed Event) → Bool
shut_over None opened prefix = false
shut_over (Some server) opened prefix = is_closed (Server server) (drop opened prefix)

abbrev pub sight_of : Option ℕ → Since → ℕ → UsedBytes → ℕ → List (Timed Event) → Sight
sight_of side since opened used told prefix = record {
  client = drop used.client (bytes_of Client prefix);
  closed = client_closed prefix;
  server = drop used.server (bytes_over side opened prefix);
  shut = shut_over side opened prefix;
  told = told;
  now = now_over since prefix;
}

abbrev pub sight_over : Standing → List (Timed Event) → Sight
sight_over place prefix = sight_of (side_of place.stage) place.since place.opened place.used place.told prefix

-- it stands since an event of the prefix, and so does its server's side; and what was used of both had come
pub record IsWithin (place : Standing) (prefix : List (Timed Event)) : Type 0 where
  pub since : place.since.events ≤ length prefix
  pub opened : place.opened ≤ length prefix
  pub client : place.used.client ≤ length (bytes_of Client prefix)
  pub server : place.used.server ≤ length (bytes_over (side_of place.stage) place.opened prefix)

-- ---- one event more

abbrev pub server_with : Option ℕ → Bool → List ℕ → Event → List ℕ
server_with None shut server event = server
server_with (Some side) shut server event = if shut then server else (server ++ piece_of (Server side) event)

abbrev pub shut_with : Option ℕ → Bool → Event → Bool
shut_with None shut event = shut
shut_with (Some side) shut event = shut || closes (Server side) event

-- the sight with one event more, at this moment, while the client has not closed
abbrev pub sight_with : Option ℕ → Sight → Event → ℕ → Sight
sight_with side seen event now = record {
  client = seen.client ++ piece_of Client event;
  closed = seen.closed || closes Client event;
  server = server_with side seen.shut seen.server event;
  shut = shut_with side seen.shut event;
  told = seen.told;
  now = now;
}
