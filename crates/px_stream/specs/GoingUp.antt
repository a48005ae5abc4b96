-- Passing, of a request: what comes of one that is streamed, or may yet be, is sent on while nothing else is awaited for it.
use Rattle.std.specs.Prelude.{◌≡◌, ◌++◌, ℕ, Bool, true, false, List, [], length, Option, Some, None, ⊤}
use Rattle.px_message.specs.declared.flow.Flow.{Flow}
use Rattle.px_message.specs.declared.request.Request.{Request}
use Rattle.px_message.specs.declared.response.Response.{Response}
use Rattle.px_event.specs.declared.command.Command.{Command}
use Rattle.px_event.specs.View.{View, seen_of}
use Rattle.px_read.specs.Reader.{State, to_come}
use Rattle.px_write.specs.Text.{request_head_text}
use Rattle.px_parts.specs.Texts.{last_text}
use Rattle.px_exchange.specs.declared.body.Progress.{Progress}
use Rattle.px_exchange.specs.declared.body.Progress.TheVariants as progress
use Rattle.px_exchange.specs.declared.place.Place.{Place}
use Rattle.px_exchange.specs.declared.terms.Terms.{Terms}
use Rattle.px_exchange.specs.Bodies.{IsReading}
use Rattle.px_exchange.specs.Places.{form_at}
use Rattle.px_exchange.specs.Requests.{is_head}
use Rattle.px_chain.specs.Chain.{begin_up, end_up, gone_by, gone_up, going_at, parked_for, reached, sight_begun, sight_gone}
use Rattle.px_chain.specs.Going.{goes_up, sending_on, whole_in, with_whole}
use Rattle.px_chain.specs.Sights.{Sight}
use Rattle.px_chain.specs.Stages.{At, Doing, Stage, busy, request_body, unparked}
use Rattle.px_stream.specs.declared.going.Going.{Going}
use Rattle.px_stream.specs.declared.going.HeldRequest.{HeldRequest}
use Rattle.px_stream.specs.declared.going.Sending.{Sending}
use Rattle.px_stream.specs.declared.going.Sending.TheVariants as sending
use Rattle.px_stream.specs.declared.link.Link.{Link}
use Rattle.px_stream.specs.declared.phase.Wanted.{Wanted}
use Rattle.px_stream.specs.declared.phase.Wanted.TheVariants as ready
use Rattle.px_stream.specs.declared.stream.Stream.{Stream}
use Rattle.px_stream.specs.Comings.{GoesOver, GoesOverHeld}
use Rattle.px_stream.specs.Goings.{framed_up_by, goes_up_with, sends_to}
use Rattle.px_stream.specs.Stands.{IsReady, SentOn, sent_on}
use Rattle.px_stream.specs.Turns.{opened_side, with_open}

-- ---- where anything is sent on of a request

abbrev pub is_held_up : Option HeldRequest → Bool
is_held_up None = false
is_held_up (Some held) = true

abbrev pub is_rising_by : Sending → Bool
is_rising_by sending.All = false
is_rising_by (sending.GoingUp sent) = true

-- a body that may be streamed, or a request that goes up
abbrev pub is_rising : Wanted → Bool
is_rising (ready.RequestBody flow given most body held) = is_held_up held
is_rising (ready.ResponseHead flow server up) = is_rising_by up
is_rising (ready.ResponseBody flow server up most body held) = is_rising_by up
is_rising (ready.ComingDown flow server up sent) = is_rising_by up
is_rising looked = false

-- what its reader has to be at
abbrev pub MayReadUp : Sending → State → Type 0
MayReadUp sending.All requests = ⊤
MayReadUp (sending.GoingUp sent) requests = IsReading requests

abbrev pub MayGoUp : Wanted → State → Type 0
MayGoUp (ready.RequestBody flow given most body (Some held)) requests = IsReading requests
MayGoUp (ready.ResponseHead flow server up) requests = MayReadUp up requests
MayGoUp (ready.ResponseBody flow server up most body held) requests = MayReadUp up requests
MayGoUp (ready.ComingDown flow server up sent) requests = MayReadUp up requests
MayGoUp looked requests = ⊤

-- ---- a request that goes up: as it is sent, and this text came of it, up to its end

abbrev pub up_gives : ℕ → (sent : Request) → Progress → List ℕ → List Command
up_gives server sent (progress.Whole trailers) text = sends_to server (text ++ last_text sent.fields trailers)
up_gives server sent got text = sends_to server text

abbrev pub up_flow : Progress → Flow → ℕ → Flow
up_flow (progress.Whole trailers) flow moment = with_whole flow moment
up_flow got flow moment = flow

abbrev pub up_next : Progress → (sent : Request) → Sending
up_next (progress.Whole trailers) sent = sending.All
up_next got sent = sending.GoingUp sent

-- the flow is this one then, and its request stands so
pub record WentUp (moment : ℕ) (flow : Flow) (server : ℕ) (sent : Request) (got : Progress) (text : List ℕ) (told : Flow) (next : Sending) (out longer : List Command) : Type 0 where
  pub gives : longer ≡ out ++ up_gives server sent got text
  pub is_told : told ≡ up_flow got flow moment
  pub is_next : next ≡ up_next got sent

-- its reader gave what had come
pub record ReadUp (moment : ℕ) (flow : Flow) (server : ℕ) (sent : Request) (told : Flow) (next : Sending) (old new : State) (out longer : List Command) : Type 0 where
  pub got : Progress
  pub text : List ℕ
  pub read : GoesOver got old [] new text
  pub went : WentUp moment flow server sent got text told next out longer

pub record StaysUp (flow told : Flow) (next : Sending) (old new : State) (out longer : List Command) : Type 0 where
  pub is_told : told ≡ flow
  pub is_next : next ≡ sending.All
  pub same : new ≡ old
  pub gives : longer ≡ out

abbrev pub RaisedBy : Sending → ℕ → Flow → ℕ → Flow → Sending → State → State → List Command → List Command → Type 0
RaisedBy sending.All moment flow server told next old new out longer = StaysUp flow told next old new out longer
RaisedBy (sending.GoingUp sent) moment flow server told next old new out longer = ReadUp moment flow server sent told next old new out longer

-- while that is looked for
pub record RaisedTo (there : Flow → Sending → Wanted) (moment : ℕ) (flow : Flow) (server : ℕ) (up : Sending) (next : Wanted) (old new : State) (out longer : List Command) : Type 0 where
  pub told : Flow
  pub goes : Sending
  pub raised : RaisedBy up moment flow server told goes old new out longer
  pub is_there : next ≡ there told goes

-- and the place and the side stay
pub record Raised (there : Flow → Sending → Wanted) (at now : At) (moment : ℕ) (flow : Flow) (server : ℕ) (up : Sending) (next : Wanted) (old new : State) (side later : Option Link) (out longer : List Command) : Type 0 where
  pub told : Flow
  pub goes : Sending
  pub raised : RaisedBy up moment flow server told goes old new out longer
  pub is_there : next ≡ there told goes
  pub same : now ≡ at
  pub same_side : later ≡ side

-- ---- a request that may yet be streamed

-- its server is to be dialled, and the text waits for that
pub record DialsUp (at now : At) (flow : Flow) (sent : Request) (text : List ℕ) (next : Wanted) (side later : Option Link) (out longer : List Command) : Type 0 where
  pub going : Going
  pub sent_as : going.sent ≡ sent
  pub says : going.text.items ≡ text
  pub is_there : next ≡ ready.Connection flow (Some going)
  pub same : now ≡ at
  pub same_side : later ≡ side
  pub gives : longer ≡ out

-- or it goes to the side that is parked
pub record TakesSide (place : Place) (at now : At) (moment : ℕ) (flow : Flow) (server : ℕ) (sent : Request) (got : Progress) (text : List ℕ) (next : Wanted) (side later : Option Link) (out longer : List Command) : Type 0 where
  pub told : Flow
  pub goes : Sending
  pub went : WentUp moment (reached place flow) server sent got text told goes out longer
  pub is_there : next ≡ ready.ResponseHead told server goes
  pub unparks : now ≡ unparked at
  pub opens : later ≡ opened_side false server (is_head flow.request.method) side

abbrev pub LedUp : Option ℕ → Place → At → At → ℕ → Flow → Request → Progress → List ℕ → Wanted → Option Link → Option Link → List Command → List Command → Type 0
LedUp None place at now moment flow sent got text next side later out longer = DialsUp at now flow sent text next side later out longer
LedUp (Some server) place at now moment flow sent got text next side later out longer = TakesSide place at now moment flow server sent got text next side later out longer

-- the first that is sent of it, or is to be
pub record StartedUp (place : Place) (at now : At) (moment : ℕ) (flow : Flow) (read : Request) (got : Progress) (said : List ℕ) (next : Wanted) (side later : Option Link) (out longer : List Command) : Type 0 where
  pub sent : Request
  pub sent_as : sent ≡ framed_up_by read (sending_on flow).request
  pub led : LedUp (parked_for place flow.request (with_open at side).parked) place at now moment (sending_on flow) sent got (request_head_text sent (form_at place) ++ said) next side later out longer

-- nothing changes
pub record RestsUp (at now : At) (next there : Wanted) (side later : Option Link) (out longer : List Command) : Type 0 where
  pub same : now ≡ at
  pub is_there : next ≡ there
  pub same_side : later ≡ side
  pub gives : longer ≡ out

abbrev pub HeldUpWent : Bool → Place → At → At → ℕ → Flow → Option Response → Option ℕ → List ℕ → HeldRequest → Progress → Wanted → Option Link → Option Link → List Command → List Command → Type 0
HeldUpWent true place at now moment flow given most body held got next side later out longer =
    StartedUp place at now moment flow held.read got held.said.items next side later out longer
HeldUpWent false place at now moment flow given most body held got next side later out longer =
    RestsUp at now next (ready.RequestBody flow given most body (Some held)) side later out longer

pub record HeldUpPassed (place : Place) (at now : At) (moment : ℕ) (flow : Flow) (given : Option Response) (most : Option ℕ) (content : List ℕ) (held : HeldRequest) (next : Wanted) (old new : State) (side later : Option Link) (out longer : List Command) : Type 0 where
  pub got : Progress
  pub body : List ℕ
  pub more : HeldRequest
  pub same : more.read ≡ held.read
  pub read : GoesOverHeld got old content held.said.items new body more.said.items
  pub went : HeldUpWent (goes_up_with held.read most (length body)) place at now moment flow given most body more got next side later out longer

-- ---- whatever is looked for

abbrev pub GoesUp : Place → At → At → ℕ → Wanted → Wanted → State → State → Option Link → Option Link → List Command → List Command → Type 0
GoesUp place at now moment (ready.RequestBody flow given most body (Some held)) next old new side later out longer =
    HeldUpPassed place at now moment flow given most body held next old new side later out longer
GoesUp place at now moment (ready.ResponseHead flow server up) next old new side later out longer =
    Raised (λ told goes. ready.ResponseHead told server goes) at now moment flow server up next old new side later out longer
GoesUp place at now moment (ready.ResponseBody flow server up most body held) next old new side later out longer =
    Raised (λ told goes. ready.ResponseBody told server goes most body held) at now moment flow server up next old new side later out longer
GoesUp place at now moment (ready.ComingDown flow server up sent) next old new side later out longer =
    Raised (λ told goes. ready.ComingDown told server goes sent) at now moment flow server up next old new side later out longer
GoesUp place at now moment looked next old new side later out longer = RestsUp at now next looked side later out longer × (new ≡ old)

-- A stream sent on once what came of a request.
pub record GoesUpOnce (before after : Stream) (moment : ℕ) (looked next : Wanted) (out longer : List Command) : Type 0 where
  pub terms : after.terms ≡ before.terms
  pub client : after.client_closed ≡ before.client_closed
  pub goes : GoesUp before.terms.place before.at after.at moment looked next before.requests after.requests before.side after.side out longer

-- ---- beside the chain

-- a request that goes up is not whole
abbrev pub IsNotWhole : Doing → Sight → Type 0
IsNotWhole doing seen = gone_by (going_at doing) (whole_in seen) ≡ None

-- That has been done already: a request that is kept does not go up yet, and one that goes up is not whole.
abbrev pub IsGoneFor : Place → At → Flow → Doing → Sight → Type 0
IsGoneFor place at flow (request_body None most) seen = goes_up most seen ≡ false
IsGoneFor place at flow (request_body (Some given) most) seen = ⊤
IsGoneFor place at flow doing seen = IsNotWhole doing seen

abbrev pub IsGone : Place → Stage → Sight → Type 0
IsGone place (busy at flow doing) seen = IsGoneFor place at flow doing seen
IsGone place stage seen = ⊤

-- Its reader has no more to give of what had come: so a look reads nothing of it.
abbrev pub NoMoreUp : Sending → State → Type 0
NoMoreUp sending.All requests = ⊤
NoMoreUp (sending.GoingUp sent) requests = (to_come requests).marks ≡ []

abbrev pub HasNoMoreUp : Wanted → State → Type 0
HasNoMoreUp (ready.RequestBody flow given most body (Some held)) requests = (to_come requests).marks ≡ []
HasNoMoreUp (ready.ResponseHead flow server up) requests = NoMoreUp up requests
HasNoMoreUp (ready.ResponseBody flow server up most body held) requests = NoMoreUp up requests
HasNoMoreUp (ready.ComingDown flow server up sent) requests = NoMoreUp up requests
HasNoMoreUp looked requests = ⊤

-- What was sent before and what was added are, in each view, what is owed where a request goes up, and what is sent of where it leads; and the machine
-- looks for what is awaited there, in what is left of the sight.
pub record GoneTo (terms : Terms) (stage : Stage) (seen : Sight) (at : At) (requests : State) (side : Option Link) (looked : Wanted) (before out longer : List Command) : Type 0 where
  pub sent : SentOn
  pub more : List Command
  pub grown : longer ≡ out ++ more
  pub owes : (view : View) → seen_of view (before ++ more)
      ≡ seen_of view ((end_up terms (begin_up terms stage seen) (sight_begun stage seen)).owed ++ sent_on (gone_up terms stage seen) sent)
  pub is_ready : IsReady terms at requests side looked (gone_up terms stage seen) (sight_gone terms stage seen) sent
  pub is_gone : IsGone terms.place (gone_up terms stage seen) (sight_gone terms stage seen)
  pub no_more : HasNoMoreUp looked requests
