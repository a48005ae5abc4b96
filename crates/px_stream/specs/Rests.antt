-- What a flow did not use of the bytes of its two sides.
use Rattle.std.specs.Prelude.{◌≡◌, ℕ, Bool, false, List, [], drop, Option, Some, None, ⊤}
use Rattle.px_event.specs.declared.command.Command.{Command}
use Rattle.px_event.specs.Chain.{Look, NotYet, Asks, Ends}
use Rattle.px_message.specs.declared.flow.Flow.{Flow}
use Rattle.px_read.specs.Marks.{Mark}
use Rattle.px_read.specs.Reader.{Message, request, response, Reads, State}
use Rattle.px_read.specs.declared.head.ResponseHead.{ResponseHead as ReadResponse}
use Rattle.px_exchange.specs.declared.place.Place.{Place}
use Rattle.px_exchange.specs.Requests.{is_head}
use Rattle.px_chain.specs.Chain.{Connect, connect_in}
use Rattle.px_chain.specs.Sights.{Sight, client_left, request_in, server_left}
use Rattle.px_chain.specs.Stages.{Sent, Stage, all_sent, busy, coming_down, going_up, idle, request_body, response_body, response_head, upgraded}
use Rattle.px_stream.specs.Stands.{Passes, sent_doing}

-- A reader that was fed these bytes of a message keeps that rest: what it gave, followed by what the rest tells from where it
-- stands, is what all of them tell, whatever follows.
pub record IsUnread (message : Message) (fed : List ℕ) (closed : Bool) (rest : List ℕ) : Type 0 where
  pub told : List Mark
  pub state : State
  pub reads : Reads message told fed closed state
  pub keeps : rest ≡ state.rest

-- The same of a server's bytes, behind the interim responses that were sent on.
pub record IsUnreadAnswer (asked_head : Bool) (bytes : List ℕ) (shut : Bool) (rest : List ℕ) : Type 0 where
  pub sent : List ReadResponse
  pub fed : List ℕ
  pub passes : Passes asked_head bytes fed sent
  pub unread : IsUnread (response asked_head) fed shut rest

-- those behind a whole request, or those of one that goes up
abbrev pub BehindSent : Sent → Sight → List ℕ → Type 0
BehindSent all_sent seen rest = rest ≡ seen.client
BehindSent going_up seen rest = IsUnread request seen.client false rest

-- the client's bytes, where something is looked for
abbrev pub ClientWaiting : Stage → Sight → List ℕ → Type 0
ClientWaiting (idle at) seen rest = IsUnread request seen.client false rest
ClientWaiting (busy at flow (request_body given most)) seen rest = IsUnread request seen.client false rest
ClientWaiting (busy at flow doing) seen rest = BehindSent (sent_doing doing) seen rest
ClientWaiting stage seen rest = rest ≡ seen.client

-- where a question is open
abbrev pub ClientAsked : Stage → Sight → List ℕ → Type 0
ClientAsked (idle at) seen rest = IsUnread request seen.client false rest
ClientAsked (busy at flow (request_body given most)) seen rest = rest ≡ client_left (busy at flow (request_body given most)) seen
ClientAsked (busy at flow doing) seen rest = BehindSent (sent_doing doing) seen rest
ClientAsked stage seen rest = rest ≡ client_left stage seen

-- and at the end: behind a CONNECT, and behind the request of a flow that another protocol follows
abbrev pub ClientBehind : Option Connect → Sight → List ℕ → Type 0
ClientBehind None seen rest = ⊤
ClientBehind (Some connects) seen rest = rest ≡ drop connects.used seen.client

abbrev pub ClientLast : Place → Stage → Sight → List ℕ → Type 0
ClientLast place (idle at) seen rest = ClientBehind (connect_in place (request_in seen)) seen rest
ClientLast place (busy at flow (upgraded server)) seen rest = rest ≡ seen.client
ClientLast place stage seen rest = ⊤

-- the server's bytes
abbrev pub ServerWaiting : Stage → Sight → List ℕ → Type 0
ServerWaiting (busy at flow (response_head server how)) seen rest = IsUnreadAnswer (is_head flow.request.method) seen.server seen.shut rest
ServerWaiting (busy at flow (response_body server how most)) seen rest = IsUnreadAnswer (is_head flow.request.method) seen.server seen.shut rest
ServerWaiting (busy at flow (coming_down server how)) seen rest = IsUnreadAnswer (is_head flow.request.method) seen.server seen.shut rest
ServerWaiting stage seen rest = rest ≡ []

abbrev pub ServerAsked : Stage → Sight → List ℕ → Type 0
ServerAsked (busy at flow (response_head server how)) seen rest = IsUnreadAnswer (is_head flow.request.method) seen.server seen.shut rest
ServerAsked (busy at flow (response_body server how most)) seen rest = rest ≡ server_left (busy at flow (response_body server how most)) seen
ServerAsked stage seen rest = rest ≡ []

-- and at the end: behind a response of code 101
abbrev pub ServerLast : Stage → Sight → List ℕ → Type 0
ServerLast (busy at flow (upgraded server)) seen rest = rest ≡ seen.server
ServerLast stage seen rest = rest ≡ []

-- the flow there
abbrev pub flow_last : Stage → Option Flow
flow_last (busy at flow (upgraded server)) = Some flow
flow_last stage = None

-- What is left of the client's and of the server's bytes, and the flow that another protocol follows, where the walk stopped with
-- this look.
abbrev pub LeavesRests : Place → Look Command → Stage → Sight → List ℕ → List ℕ → Option Flow → Type 0
LeavesRests place NotYet stage seen client server flow = ClientWaiting stage seen client × ServerWaiting stage seen server × (flow ≡ None)
LeavesRests place (Asks ask) stage seen client server flow = ClientAsked stage seen client × ServerAsked stage seen server × (flow ≡ None)
LeavesRests place (Ends owed) stage seen client server flow = ClientLast place stage seen client × ServerLast stage seen server × (flow ≡ flow_last stage)
