-- A response that is streamed: sent on as it comes, and no hook is asked about it behind its head's (RFC 9112 sections 6 and 7.1). It is
-- told by the response as that hook left it, the head as it was read, and the joined bytes; so no cut shows.
use Rattle.std.specs.Prelude.{ℕ, ◌+◌, Bool, true, false, ◌&&◌, not, nat_lt, List, [], ◌∷◌, ◌++◌, Option, Some, None}
use Rattle.px_message.specs.Settle.{settled_streamed}
use Rattle.px_message.specs.declared.flow.Flow.{Flow}
use Rattle.px_message.specs.declared.request.Request.{Request}
use Rattle.px_message.specs.declared.response.Response.{Response}
use Rattle.px_event.specs.declared.command.Command.{Command}
use Rattle.px_event.specs.declared.command.Command.TheVariants as commands
use Rattle.px_event.specs.declared.reply.Reply.{Reply}
use Rattle.px_event.specs.declared.reply.Reply.TheVariants as reply
use Rattle.px_event.specs.declared.side.Side.TheVariants.{Client}
use Rattle.px_read.specs.Items.{Item, complete}
use Rattle.px_read.specs.Laws.{head_in}
use Rattle.px_read.specs.declared.head.ResponseHead.{ResponseHead as ReadResponse}
use Rattle.px_exchange.specs.declared.ending.Used.{Used}
use Rattle.px_exchange.specs.Endings.{most_flows, persists, runs_to_close, shut_server}
use Rattle.px_exchange.specs.Flows.{with_end}
use Rattle.px_exchange.specs.Requests.{is_head}
use Rattle.px_parts.specs.Streamed.{response_streams}
use Rattle.px_parts.specs.Texts.{final_bytes, final_so_far}
use Rattle.px_chain.specs.Sights.{Sight, answers_in}

-- ---- which are streamed

-- the most that is kept of a body, by the reply to its head's hook: a reply that brings no response counts as going on with the flow
-- as it was asked, and tells no size
abbrev pub told_with : Option Response → Option ℕ → Option ℕ
told_with (Some response) most = most
told_with None most = None

-- in a conversation that streams at all
abbrev pub allowed_by : Bool → Reply → Option ℕ
allowed_by true (reply.Go flow most) = told_with flow.response most
allowed_by streams answer = None

-- as its head's hook left it, and by what came of it
abbrev pub streams_by : Option Response → Request → Option ℕ → (closed : Bool) → List ℕ → Bool
streams_by None request most closed bytes = false
streams_by (Some response) request most closed bytes =
    let asked_head = is_head request.method in
    response_streams response.status asked_head closed most (final_bytes asked_head closed bytes)

abbrev pub streams_in : Flow → Option ℕ → Sight → Bool
streams_in flow most seen = streams_by flow.response flow.request most seen.shut seen.server

-- the flow says that its response is streamed, and keeps no body
abbrev pub as_streamed : Option Response → Option Response
as_streamed None = None
as_streamed (Some response) = Some (record response { streamed = true })

abbrev pub streaming : Flow → Flow
streaming flow = record flow { response = as_streamed flow.response }

-- ---- what is sent of it

-- framed as it was read
abbrev pub framed_as : ReadResponse → Response → Response
framed_as head response = record response { fields = settled_streamed head.fields response.fields }

-- its text as far as it came
abbrev pub coming_by : Option Response → Option ReadResponse → Request → (closed : Bool) → List ℕ → List ℕ
coming_by (Some response) (Some head) request closed bytes = final_so_far (framed_as head response) (is_head request.method) closed bytes
coming_by response head request closed bytes = []

abbrev pub coming_text : Flow → Sight → List ℕ
coming_text flow seen = coming_by flow.response (head_in (answers_in flow.request seen).final) flow.request seen.shut seen.server

abbrev pub sends_coming : Flow → Sight → List Command
sends_coming flow seen = commands.Send Client (coming_text flow seen) ∷ []

-- ---- where it is whole

-- a whole response: as its head's hook left it, and its head as it was read
pub record Came : Type 0 where
  pub response : Response
  pub head : ReadResponse

abbrev pub came_by : Option Response → Item ReadResponse → Option Came
came_by (Some response) (complete head body trailers size) = Some (record { response = response; head = head })
came_by response item = None

abbrev pub came_in : Flow → Sight → Option Came
came_in flow seen = came_by flow.response (answers_in flow.request seen).final

-- Whether the client's connection goes on behind it (RFC 9112 section 9.3): what was said of a message that is sent whole, of the
-- response as it is sent.
abbrev pub goes_on_behind : ℕ → Request → Came → Bool
goes_on_behind index request came =
    (persists request.version request.fields && persists came.response.version came.response.fields
    && not (runs_to_close (framed_as came.head came.response) (is_head request.method)))
    && nat_lt (index + 1) most_flows

-- the rest of its text, the flow, and the close of its server's side
abbrev pub finished_coming : Flow → Sight → Used → List Command
finished_coming flow seen served = sends_coming flow seen ++ commands.Done (with_end flow seen.now) ∷ shut_server served
