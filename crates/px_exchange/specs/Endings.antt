-- How flows and conversations end: the bytes, the finished flow and the closes, in this order.
use Rattle.std.specs.Prelude.{ℕ, ◌+◌, ◌==◌, Bool, true, false, ◌&&◌, not, if◌then◌else◌, nat_lt, List, [], ◌∷◌, ◌++◌, codes, Some, None, Result, Ok}
use Rattle.px_message.specs.Fields.{has_element}
use Rattle.px_message.specs.Length.{response_length, stands, transfer_encoding}
use Rattle.px_message.specs.Settle.{settled_request, settled_response}
use Rattle.px_message.specs.declared.fault.Fault.{Fault}
use Rattle.px_message.specs.declared.flow.Flow.{Flow}
use Rattle.px_message.specs.declared.length.Length.{Length}
use Rattle.px_message.specs.declared.length.Length.TheVariants as lengths
use Rattle.px_message.specs.declared.request.Request.{Request}
use Rattle.px_message.specs.declared.response.Response.{Response}
use Rattle.px_message.specs.declared.version.Version.{Version}
use Rattle.px_message.specs.declared.version.Version.TheVariants.{Http10, Http11}
use Rattle.px_event.specs.declared.command.Command.{Command}
use Rattle.px_event.specs.declared.command.Command.TheVariants as commands
use Rattle.px_event.specs.declared.side.Side.TheVariants.{Client, Server}
use Rattle.px_read.specs.declared.head.ResponseHead.{ResponseHead as ReadResponse}
use Rattle.px_write.specs.Error.{error_text, fault_message}
use Rattle.px_exchange.specs.declared.ending.Used.{Used}
use Rattle.px_exchange.specs.declared.ending.Used.TheVariants.{NoServer, ByServer}
use Rattle.px_exchange.specs.Flows.{with_end}
use Rattle.px_exchange.specs.Requests.{is_head}
use Rattle.px_exchange.specs.Texts.{returned_text}

-- ---- closes: none is owed to a side whose own close was worked off

abbrev pub shut_server : Used → List Command
shut_server NoServer = []
shut_server (ByServer number closed) = if closed then [] else commands.Close (Server number) ∷ []

abbrev pub shut_client : Bool → List Command
shut_client closed = if closed then [] else commands.Close Client ∷ []

-- all sides of a conversation: its server's, then its client's
abbrev pub shut_all : Used → Bool → List Command
shut_all used closed = shut_server used ++ shut_client closed

-- ---- a flow that ends early

-- with this error at this moment
abbrev pub with_error : Flow → List ℕ → ℕ → Flow
with_error flow message moment = record flow { error = Some (record { msg = message; moment = moment }) }

-- without a response, which was not whole
abbrev pub without_response : Flow → Flow
without_response flow = record flow {
  response = None;
  times = record flow.times { response_start = None; response_end = None };
}

abbrev pub killed_message : List ℕ
killed_message = codes "killed"

abbrev pub closed_message : List ℕ
closed_message = codes "client closed"

-- the end of a flow, and of its conversation, where nothing is said to the client
abbrev pub ends_early : Flow → List ℕ → ℕ → Used → Bool → List Command
ends_early flow message moment used closed = commands.Done (with_error flow message moment) ∷ shut_all used closed

-- the end by a fault, before a byte of the response was sent: its text tells the client
abbrev pub ends_by_fault : Flow → Fault → ℕ → Used → Bool → List Command
ends_by_fault flow fault moment used closed =
    commands.Send Client (error_text fault (is_head flow.request.method))
    ∷ ends_early (without_response flow) (fault_message fault) moment used closed

-- the end by a head that makes no flow
abbrev pub refuses : Fault → Bool → Used → Bool → List Command
refuses fault asked_head used closed = commands.Send Client (error_text fault asked_head) ∷ shut_all used closed

-- ---- whether the client's connection goes on (RFC 9112 section 9.3)

-- A message of version 1.1 persists unless it says `close`. One of version 1.0 persists only where it says `keep-alive`, does
-- not say `close`, and is not framed by Transfer-Encoding, which that version does not know.
abbrev pub persists : Version → List (List ℕ × List ℕ) → Bool
persists Http11 fields = not (has_element (codes "Connection") (codes "close") fields)
persists Http10 fields =
    has_element (codes "Connection") (codes "keep-alive") fields && not (has_element (codes "Connection") (codes "close") fields)
    && not (stands transfer_encoding fields)

abbrev pub is_to_close : Result Length Fault → Bool
is_to_close (Ok lengths.ToClose) = true
is_to_close _ = false

-- the response, as it is sent, runs to the close
abbrev pub runs_to_close : Response → Bool → Bool
runs_to_close sent asked_head = is_to_close (response_length sent.status asked_head sent.fields)

-- the most flows of a conversation
abbrev pub most_flows : ℕ
most_flows = 1000000

-- behind a response, as its hooks left it, that is sent as this one
abbrev pub goes_on_behind : ℕ → Request → (response sent : Response) → Bool
goes_on_behind index request response sent =
    (persists request.version request.fields && persists response.version response.fields
    && not (runs_to_close sent (is_head request.method)))
    && nat_lt (index + 1) most_flows

-- that is sent whole
abbrev pub connection_goes_on : ℕ → Request → Response → Bool
connection_goes_on index request response = goes_on_behind index request response (settled_response (is_head request.method) response)

-- ---- whether a server's side may be kept behind a flow (RFC 9112 section 9.3)

-- The request persists, as it was sent. One of version 1.0 in chunks does not; and of one that was streamed nothing is known any more of how it was framed.
abbrev pub persists_settled : Version → Request → Bool
persists_settled Http11 request = persists Http11 (settled_request request).fields
persists_settled Http10 request = not request.streamed && persists Http10 (settled_request request).fields

abbrev pub sent_persists : Request → Bool
sent_persists request = persists_settled request.version request

-- and the response, as it was read, which does not run to the close, nor switch protocols (RFC 9110 section 15.2.2)
abbrev pub read_persists : Request → ReadResponse → Bool
read_persists request head =
    (persists head.version head.fields && not (is_to_close (response_length head.code (is_head request.method) head.fields)))
    && not (head.code == 101)

-- a side that is kept is not closed
abbrev pub unless_kept : Bool → Used → Used
unless_kept true used = NoServer
unless_kept false used = used

-- ---- a flow that is finished: its text, the flow, the close of its server's side, and the client's where it ends there

abbrev pub finished : Flow → Response → Used → List Command
finished flow response used =
    commands.Send Client (returned_text flow.request response)
    ∷ commands.Done (record flow { response = Some response }) ∷ shut_server used

-- the same of a flow whose response was sent on as it came: all but its text
abbrev pub finished_streamed : Flow → ℕ → Used → List Command
finished_streamed flow moment used = commands.Done (with_end flow moment) ∷ shut_server used

-- the closes of a parked side and of the client, unless the client's connection goes on
abbrev pub shut_unless : Bool → Used → Bool → List Command
shut_unless true used closed = []
shut_unless false used closed = shut_all used closed
