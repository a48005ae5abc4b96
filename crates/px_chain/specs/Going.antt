-- A request that is streamed: sent on as it comes, and the hook of its body is not asked (RFC 9112 sections 6 and 7.1). It is told by the
-- request as its head's hook left it, the head as it was read, and the joined bytes; so no cut shows.
use Rattle.std.specs.Prelude.{ℕ, Bool, true, false, List, [], ◌∷◌, length, Option, Some, None}
use Rattle.px_message.specs.Settle.{settled_streamed}
use Rattle.px_message.specs.declared.flow.Flow.{Flow}
use Rattle.px_message.specs.declared.request.Request.{Request}
use Rattle.px_event.specs.declared.command.Command.{Command}
use Rattle.px_event.specs.declared.command.Command.TheVariants as commands
use Rattle.px_event.specs.declared.reply.Reply.{Reply}
use Rattle.px_event.specs.declared.reply.Reply.TheVariants as reply
use Rattle.px_event.specs.declared.side.Side.TheVariants.{Server}
use Rattle.px_read.specs.Items.{Item, complete}
use Rattle.px_read.specs.Laws.{head_in}
use Rattle.px_read.specs.declared.head.RequestHead.{RequestHead as ReadRequest}
use Rattle.px_exchange.specs.declared.place.Place.{Place}
use Rattle.px_exchange.specs.Places.{form_at}
use Rattle.px_parts.specs.Streamed.{request_streams}
use Rattle.px_parts.specs.Texts.{left_of, request_so_far}
use Rattle.px_write.specs.declared.form.Form.{Form}
use Rattle.px_chain.specs.Sights.{Sight, request_in}
use Rattle.px_chain.specs.Stages.{Doing, Sent, Stage, all_sent, busy, coming_down, connection, going_up, response_body, response_head}

-- ---- which are streamed

-- the most that is kept of its body, by the reply to its head's hook, in a conversation that streams at all
abbrev pub allowed_up_by : Bool → Reply → Option ℕ
allowed_up_by true (reply.Go flow most) = most
allowed_up_by streams answer = None

-- by what came of it
abbrev pub goes_up : Option ℕ → Sight → Bool
goes_up most seen = request_streams most seen.client

-- the flow says that its request is streamed, and keeps no body
abbrev pub sending_on : Flow → Flow
sending_on flow = record flow { request = record flow.request { streamed = true } }

-- ---- what is sent of it

-- framed as it was read
abbrev pub framed_up : ReadRequest → Request → Request
framed_up head request = record request { fields = settled_streamed head.fields request.fields }

-- its text as far as it came
abbrev pub going_by : Option ReadRequest → Request → Form → List ℕ → List ℕ
going_by None request form bytes = []
going_by (Some head) request form bytes = request_so_far (framed_up head request) form bytes

abbrev pub going_text : Place → Flow → Sight → List ℕ
going_text place flow seen = going_by (head_in (request_in seen)) flow.request (form_at place) seen.client

-- what earlier asks did not owe of it
abbrev pub sends_going : Place → Flow → ℕ → Sight → List Command
sends_going place flow server seen = commands.Send (Server server) (left_of seen.told (going_text place flow seen)) ∷ []

-- while it goes up
abbrev pub sends_up : Place → Flow → ℕ → Sent → Sight → List Command
sends_up place flow server all_sent seen = []
sends_up place flow server going_up seen = sends_going place flow server seen

-- how many bytes of it an ask of this stage owed, with those that earlier ones did: none where it does not go up
abbrev pub told_up : Place → Flow → Sent → Sight → ℕ
told_up place flow all_sent seen = 0
told_up place flow going_up seen = length (going_text place flow seen)

abbrev pub told_doing : Place → Flow → Doing → Sight → ℕ
told_doing place flow (response_head server sent) seen = told_up place flow sent seen
told_doing place flow (response_body server sent most) seen = told_up place flow sent seen
told_doing place flow (coming_down server sent) seen = told_up place flow sent seen
told_doing place flow _ seen = 0

abbrev pub told_behind : Place → Stage → Sight → ℕ
told_behind place (busy at flow doing) seen = told_doing place flow doing seen
told_behind place _ seen = 0

-- it goes up, or its server is dialled for that
abbrev pub is_up : Sent → Bool
is_up all_sent = false
is_up going_up = true

abbrev pub is_going_up : Doing → Bool
is_going_up (connection sent) = is_up sent
is_going_up (response_head server sent) = is_up sent
is_going_up (response_body server sent most) = is_up sent
is_going_up (coming_down server sent) = is_up sent
is_going_up doing = false

-- ---- where it is whole

-- all of it was sent
abbrev pub is_sent : Sent → Bool
is_sent all_sent = true
is_sent going_up = false

-- how many bytes it has, where it is whole
abbrev pub whole_by : {H : Type 0} → Item H → Option ℕ
whole_by (complete head body trailers size) = Some size
whole_by item = None

abbrev pub whole_in : Sight → Option ℕ
whole_in seen = whole_by (request_in seen)

-- the moment at which it came whole, behind the connection to its server
abbrev pub with_whole : Flow → ℕ → Flow
with_whole flow moment = record flow { times = record flow.times { request_end = Some moment } }
