-- What the calls of a stream do, in its own fields: an event is heard, an answer is taken, and then it looks once.
use Rattle.std.specs.Prelude.{◌≡◌, ◌++◌, ◌&&◌, ℕ, Bool, true, false, List, [], Option, Some, None, ⊤}
use Rattle.px_event.specs.declared.command.Command.{Command}
use Rattle.px_event.specs.declared.event.Event.{Event}
use Rattle.px_event.specs.declared.reply.Reply.{Reply}
use Rattle.px_event.specs.declared.reply.Reply.TheVariants as replies
use Rattle.px_event.specs.Chain.{Timed, Turn}
use Rattle.px_read.specs.Reader.{State, request, before_all}
use Rattle.px_exchange.specs.declared.ending.Used.{Used}
use Rattle.px_exchange.specs.declared.place.Place.{Place}
use Rattle.px_exchange.specs.declared.terms.Terms.{Terms}
use Rattle.px_exchange.specs.Dials.{connected_owes}
use Rattle.px_exchange.specs.declared.taken.Taken.{Taken}
use Rattle.px_exchange.specs.Endings.{sent_persists}
use Rattle.px_exchange.specs.Replies.{taken_at_body_of, taken_at_head_of, taken_at_request_body, taken_at_request_head}
use Rattle.px_exchange.specs.Requests.{is_head}
use Rattle.px_message.specs.declared.flow.Flow.{Flow}
use Rattle.px_message.specs.declared.request.Request.{Request}
use Rattle.px_message.specs.declared.response.Response.{Response}
use Rattle.px_chain.specs.Chain.{sequence, stops, turn_dial, turn_taken_answer, turn_taken_body, turn_taken_given, turn_taken_head, turn_taken_returned, turn_taken_whole}
use Rattle.px_chain.specs.Coming.{allowed_by}
use Rattle.px_chain.specs.Keeping.{is_silent}
use Rattle.px_chain.specs.Going.{allowed_up_by}
use Rattle.px_chain.specs.Sights.{Sight, server_in, server_parked}
use Rattle.px_chain.specs.Stages.{At, Doing, Parked, Stage, busy, coming_down, idle, response_body, response_head, upgraded}
use Rattle.px_stream.specs.declared.going.Going.{Going}
use Rattle.px_stream.specs.declared.going.HeldRequest.{HeldRequest}
use Rattle.px_stream.specs.declared.going.Sending.{Sending}
use Rattle.px_stream.specs.declared.going.Sending.TheVariants as sending
use Rattle.px_stream.specs.declared.link.Link.{Link}
use Rattle.px_stream.specs.declared.phase.Asked.{Asked}
use Rattle.px_stream.specs.declared.phase.Asked.TheVariants as asked
use Rattle.px_stream.specs.declared.phase.Wanted.{Wanted}
use Rattle.px_stream.specs.declared.stream.Stream.{Stream}
use Rattle.px_stream.specs.declared.coming.Held.{Held}
use Rattle.px_stream.specs.declared.phase.Wanted.TheVariants as ready
use Rattle.px_stream.specs.Comings.{IsHeldFor}
use Rattle.px_stream.specs.Heard.{closes_client, requests_take, side_takes, side_with}
use Rattle.px_stream.specs.Looks.{LookFound}
use Rattle.px_stream.specs.Goings.{IsHeldUpFor, sends_to, sent_by, sent_of}
use Rattle.px_stream.specs.Stands.{HasPlace, IsReady, SentOn, content_in, sent_on, stage_of, unread_link, used_in}

-- ---- what an answer brings to what was asked

-- by what the reply was taken for, where the flow has the response that its hook is about
abbrev pub taken_turn : Option (Taken Response) → (Taken Response → Turn Stage Command) → Turn Stage Command
taken_turn None goes = stops
taken_turn (Some taken) goes = goes taken

-- The side that a flow used may be kept behind the response to this request that was read on it: nothing stands behind that, its server has not closed, and both messages persist.
abbrev pub link_keeps_on : Request → Link → Bool
link_keeps_on message link = is_silent link.responses.rest link.closed && (sent_persists message && link.persists)

abbrev pub keeps_on : Request → Option Link → Bool
keeps_on message None = false
keeps_on message (Some link) = link_keeps_on message link

-- it is read from its beginning by the next flow
abbrev pub new_side : Option Link → Option Link
new_side side = side_with (λ link. unread_link link.server false [] false) side

-- the place without a parked side that is kept no more
abbrev pub with_open : At → Option Link → At
with_open at None = record at { parked = None }
with_open at (Some link) = at

-- in this sight, beside this open side, which is used or parked so, and by whether the client has closed
abbrev pub asked_turn : Terms → At → Asked → Sight → Option Link → Used → Bool → Timed Reply → Turn Stage Command
asked_turn terms at (asked.Idle flow expected) seen side used closed answer =
    turn_taken_head at flow expected (allowed_up_by terms.streams answer.value) (taken_at_request_head flow.request answer.value) answer.moment seen
asked_turn terms at (asked.RequestBody flow) seen side used closed answer =
    turn_taken_body terms.place at flow (taken_at_request_body flow.request answer.value) answer.moment seen
asked_turn terms at (asked.Connection flow server up) seen side used closed answer = turn_dial terms.place at flow (sent_by up) answer closed
asked_turn terms at (asked.ResponseHead flow server up) seen side used closed answer =
    taken_turn (taken_at_head_of flow.response answer.value) (λ taken. turn_taken_answer at flow server (sent_of up) (allowed_by terms.streams answer.value) taken answer.moment used closed)
asked_turn terms at (asked.ResponseBody flow server up) seen side used closed answer =
    taken_turn (taken_at_body_of flow.response answer.value)
    (λ taken. turn_taken_whole terms.place at flow server (sent_of up) (keeps_on flow.request side) taken answer.moment used closed)
asked_turn terms at (asked.GivenHead flow) seen side used closed answer =
    taken_turn (taken_at_head_of flow.response answer.value) (λ taken. turn_taken_given at flow taken answer.moment used closed)
asked_turn terms at (asked.GivenBody flow) seen side used closed answer =
    taken_turn (taken_at_body_of flow.response answer.value) (λ taken. turn_taken_returned at flow taken answer.moment used closed)

abbrev pub turned_by : Terms → At → Option Asked → Sight → Option Link → Used → Bool → Timed Reply → Turn Stage Command
turned_by terms at None seen side used closed answer = stops
turned_by terms at (Some found) seen side used closed answer = asked_turn terms at found seen side used closed answer

-- The sight shows the side that is used there, and whether the client has closed.
abbrev pub used_at : At → Asked → Sight → Used
used_at at (asked.ResponseHead flow server up) seen = server_in server seen
used_at at (asked.ResponseBody flow server up) seen = server_in server seen
used_at at found seen = server_parked at.parked seen

pub record Shows (at : At) (found : Asked) (used : Used) (closed : Bool) (seen : Sight) : Type 0 where
  pub is_used : used_at at found seen ≡ used
  pub is_closed : seen.closed ≡ closed

-- ---- the readers behind it

-- the next request begins with what waits behind the one before
abbrev pub requests_behind : Stage → State → State
requests_behind (idle at) requests = before_all request requests.rest false
requests_behind stage requests = requests

abbrev pub is_dial : Asked → Bool
is_dial (asked.Connection flow server up) = true
is_dial found = false

-- A server that was dialled has sent nothing yet, nor has one that was parked.
abbrev pub opened_side : Bool → ℕ → Bool → Option Link → Option Link
opened_side true server asked_head side = Some (unread_link server asked_head [] false)
opened_side false server asked_head side = side_with (λ link. unread_link link.server asked_head link.responses.rest link.closed) side

-- No side is open that neither a flow uses nor waits for one.
abbrev pub unless_parked : Option Parked → Option Link → Option Link
unless_parked None side = None
unless_parked (Some parked) side = side

abbrev pub side_for : Bool → At → Flow → Doing → Option Link → Option Link
side_for dials at flow (response_head server sent) side = opened_side dials server (is_head flow.request.method) side
side_for dials at flow (response_body server sent most) side = side
side_for dials at flow (coming_down server sent) side = side
side_for dials at flow (upgraded server) side = side
side_for dials at flow doing side = unless_parked at.parked side

abbrev pub side_behind : Bool → Stage → Option Link → Option Link
side_behind dials (idle at) side = unless_parked at.parked side
side_behind dials (busy at flow doing) side = side_for dials at flow doing side
side_behind dials stage side = side

-- Behind a flow that used a side the next one reads it from its beginning, where it is kept; any other answer leaves it as it was.
abbrev pub SideTurned : Asked → Wanted → Option Link → Option Link → Type 0
SideTurned (asked.ResponseBody flow server up) ready.Idle side later = later ≡ new_side side
SideTurned found ready.Over side later = ⊤
SideTurned found looked side later = later ≡ side

-- what is held of a response's body where it is first looked for, of the response that was asked about
abbrev pub IsHeldBehind : Bool → Option Response → Response → Option ℕ → Option Held → Type 0
IsHeldBehind asked_head None response most held = held ≡ None
IsHeldBehind asked_head (Some read) response most held = IsHeldFor asked_head read response most held

abbrev pub HeldBehind : Flow → Option Response → Option Response → Option ℕ → Option Held → Type 0
HeldBehind flow read None most held = ⊥
HeldBehind flow read (Some response) most held = IsHeldBehind (is_head flow.request.method) read response most held

abbrev pub HeldFirst : Option Response → Wanted → Type 0
HeldFirst read (ready.ResponseBody flow server up most body held) = HeldBehind flow read flow.response most held
HeldFirst read looked = ⊤

-- and of a request's body, of the request that was asked about
abbrev pub HeldUpBehind : Option Response → (read : Request) → Option ℕ → Option HeldRequest → Type 0
HeldUpBehind None read most held = IsHeldUpFor read most held
HeldUpBehind (Some given) read most held = held ≡ None

abbrev pub HeldUpFirst : (read : Request) → Wanted → Type 0
HeldUpFirst read (ready.RequestBody flow given most body held) = HeldUpBehind given read most held
HeldUpFirst read looked = ⊤

abbrev pub FirstHeld : Asked → Wanted → Type 0
FirstHeld (asked.Idle flow expects) looked = HeldUpFirst flow.request looked
FirstHeld (asked.ResponseHead flow server up) looked = HeldFirst flow.response looked
FirstHeld found looked = ⊤

-- ---- a request that goes up

-- behind the connection to its server
abbrev pub connected_up : Option Going → Sending
connected_up None = sending.All
connected_up (Some going) = sending.GoingUp going.sent

-- It goes on as it did.
abbrev pub GoesUpFrom : Sending → Wanted → Type 0
GoesUpFrom up (ready.ResponseHead flow server next) = next ≡ up
GoesUpFrom up (ready.ResponseBody flow server next most body held) = next ≡ up
GoesUpFrom up looked = ⊤

abbrev pub KeepsUp : Asked → Wanted → Type 0
KeepsUp (asked.Connection flow server up) looked = GoesUpFrom (connected_up up) looked
KeepsUp (asked.ResponseHead flow server up) looked = GoesUpFrom up looked
KeepsUp found looked = ⊤

-- what a server is sent that is connected: the request, or what came of one that goes up
abbrev pub connects : Place → Flow → ℕ → Option Going → List Command
connects place flow server None = connected_owes place flow server
connects place flow server (Some going) = sends_to server going.text.items

-- where its server is connected, the text of what came is sent
abbrev pub going_sent : ℕ → Option Going → List Command
going_sent server None = []
going_sent server (Some going) = sends_to server going.text.items

abbrev pub dialled_sends : ℕ → Option Going → Reply → List Command
dialled_sends server up replies.Dialled = going_sent server up
dialled_sends server up answer = []

abbrev pub first_sent : At → Asked → Reply → List Command
first_sent at (asked.Connection flow server up) answer = dialled_sends at.dials up answer
first_sent at found answer = []

-- what is given in all, where this is owed
abbrev pub turn_gives : At → Asked → Reply → List Command → List Command
turn_gives at (asked.Connection flow server up) answer owed = owed ++ dialled_sends at.dials up answer
turn_gives at found answer owed = owed

-- ---- the calls

-- What a turn of the chain is for a machine that looks for that, in the sight behind it, and that sent this of where it leads.
pub record Turned (terms : Terms) (stage : Stage) (seen : Sight) (at : At) (requests : State) (side : Option Link) (looked : Wanted) (closed : Bool) (given : List Command) : Type 0 where
  pub sent : SentOn
  pub sent_is : sent_on stage sent ≡ given
  pub is_ready : IsReady terms at requests side looked stage seen sent
  pub place : HasPlace stage seen at closed

-- It took this answer to what it asked, and is to look for that.
pub record TurnsTo (before after : Stream) (moment : ℕ) (reply : Reply) (found : Asked) (looked : Wanted) (out longer : List Command) : Type 0 where
  pub terms : after.terms ≡ before.terms
  pub client : after.client_closed ≡ before.client_closed
  pub gives : (seen : Sight) → Shows (with_open before.at before.side) found (used_in before.side) before.client_closed seen →
      longer ≡ out ++ turn_gives before.at found reply
      (asked_turn before.terms (with_open before.at before.side) found seen before.side (used_in before.side) before.client_closed (record { moment = moment; value = reply })).owed
  pub leads : (seen : Sight) → Shows (with_open before.at before.side) found (used_in before.side) before.client_closed seen →
      stage_of after.at looked
      ≡ sequence (asked_turn before.terms (with_open before.at before.side) found seen before.side (used_in before.side) before.client_closed (record { moment = moment; value = reply })).stage
  pub content : content_in looked ≡ []
  pub held : FirstHeld found looked
  pub up : KeepsUp found looked
  pub requests : after.requests ≡ requests_behind (stage_of after.at looked) before.requests
  pub middle : Option Link
  pub turned_side : SideTurned found looked before.side middle
  pub side : after.side ≡ side_behind (is_dial found) (stage_of after.at looked) middle

-- It looked once.
pub record LooksOnce (before after : Stream) (moment : ℕ) (looked : Wanted) (out longer : List Command) : Type 0 where
  pub terms : after.terms ≡ before.terms
  pub at : after.at ≡ before.at
  pub client : after.client_closed ≡ before.client_closed
  pub looks : LookFound before.terms before.at (used_in before.side) moment before.client_closed looked before.requests after.requests before.side after.side out longer after.phase

-- Its readers heard this event, while a flow uses the open side or none does.
pub record Hears (uses : Bool) (before after : Stream) (event : Event) : Type 0 where
  pub terms : after.terms ≡ before.terms
  pub at : after.at ≡ before.at
  pub client : after.client_closed ≡ closes_client event before.client_closed
  pub requests : after.requests ≡ requests_take event before.requests
  pub side : after.side ≡ side_takes uses event before.side
