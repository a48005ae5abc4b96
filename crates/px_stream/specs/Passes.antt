-- Passing, of a response: where a flow goes on without an answer. A response's body that may be streamed is read as far as it has come.
use Rattle.std.specs.Prelude.{◌≡◌, ◌<◌, ◌++◌, ℕ, Bool, true, false, ◌&&◌, List, [], length, Option, Some, None, ⊤}
use Rattle.px_message.specs.declared.flow.Flow.{Flow}
use Rattle.px_message.specs.declared.response.Response.{Response}
use Rattle.px_event.specs.declared.command.Command.{Command}
use Rattle.px_read.specs.Reader.{State, to_come}
use Rattle.px_write.specs.Text.{response_head_text}
use Rattle.px_parts.specs.Texts.{last_text}
use Rattle.px_exchange.specs.declared.body.Progress.{Progress}
use Rattle.px_exchange.specs.declared.body.Progress.TheVariants as progress
use Rattle.px_exchange.specs.declared.ending.Used.{Used}
use Rattle.px_exchange.specs.declared.ending.Used.TheVariants.{NoServer}
use Rattle.px_exchange.specs.declared.place.Place.{Place}
use Rattle.px_exchange.specs.declared.terms.Terms.{Terms}
use Rattle.px_exchange.specs.Bodies.{IsReading}
use Rattle.px_exchange.specs.Endings.{finished_streamed, goes_on_behind, shut_unless, unless_kept}
use Rattle.px_exchange.specs.Requests.{is_head}
use Rattle.px_event.specs.View.{View, seen_of}
use Rattle.px_chain.specs.Chain.{behind_flow, come_down, pass, sequence, sight_come, sight_past}
use Rattle.px_chain.specs.Going.{is_sent}
use Rattle.px_chain.specs.Keeping.{parks}
use Rattle.px_chain.specs.Sights.{Sight}
use Rattle.px_chain.specs.Coming.{came_in, streaming, streams_in}
use Rattle.px_chain.specs.Stages.{At, Stage, busy, coming_down, over, response_body}
use Rattle.px_stream.specs.declared.coming.Held.{Held}
use Rattle.px_stream.specs.declared.going.Sending.{Sending}
use Rattle.px_stream.specs.declared.link.Link.{Link}
use Rattle.px_stream.specs.declared.phase.Wanted.{Wanted}
use Rattle.px_stream.specs.declared.phase.Wanted.TheVariants as ready
use Rattle.px_stream.specs.declared.stream.Stream.{Stream}
use Rattle.px_stream.specs.Comings.{GoesOver, GoesOverHeld, framed_by, sends_text, streams_with}
use Rattle.px_stream.specs.Stands.{IsOpen, IsReady, IsSome, SentOn, StaysOpen, sent_on, stage_of, used_in}
use Rattle.px_stream.specs.GoingUp.{GoesUpOnce, HasNoMoreUp, IsGone}
use Rattle.px_stream.specs.Goings.{sent_of}
use Rattle.px_stream.specs.Turns.{LooksOnce, keeps_on, new_side, requests_behind, side_behind}

-- ---- where anything is passed

abbrev pub is_held : Option Held → Bool
is_held None = false
is_held (Some held) = true

-- a body that may be streamed, or is
abbrev pub is_passing : Wanted → Bool
is_passing (ready.ResponseBody flow server up most body held) = is_held held
is_passing (ready.ComingDown flow server up sent) = true
is_passing looked = false

-- what the side and the place have to be
pub record MayRead (at : At) (flow : Flow) (side : Option Link) : Type 0 where
  pub few : at.flow < 1000000
  pub given : IsSome flow.response
  pub reads : IsOpen (λ link. IsReading link.responses) side

abbrev pub MayPass : At → Wanted → Option Link → Type 0
MayPass at (ready.ResponseBody flow server up most body (Some held)) side = MayRead at flow side
MayPass at (ready.ComingDown flow server up sent) side = MayRead at flow side
MayPass at looked side = ⊤

-- ---- a response that is streamed: as it is sent, and this text came of it, up to its end

-- The flow is finished, whose response its head's hook left so. The conversation goes on behind it only where all of its request was sent.
abbrev pub stays_behind : ℕ → Flow → Sending → (response sent : Response) → Bool
stays_behind index flow up response sent = is_sent (sent_of up) && goes_on_behind index flow.request response sent

-- There its side is kept, where it may be.
abbrev pub ended_gives : ℕ → Flow → Sending → Option Response → (sent : Response) → (keeps : Bool) → ℕ → Used → Bool → List Command
ended_gives index flow up None sent keeps moment used closed = []
ended_gives index flow up (Some response) sent keeps moment used closed =
    finished_streamed flow moment (unless_kept (stays_behind index flow up response sent && keeps) used) ++ shut_unless (stays_behind index flow up response sent) NoServer closed

abbrev pub ended_leads : Place → At → Flow → ℕ → Sending → Option Response → (sent : Response) → (keeps : Bool) → Stage
ended_leads place at flow server up None sent keeps = over
ended_leads place at flow server up (Some response) sent keeps =
    sequence (behind_flow (stays_behind at.flow flow up response sent) (parks (stays_behind at.flow flow up response sent && keeps) place at flow.request server))

abbrev pub down_gives : ℕ → Flow → Sending → (sent : Response) → (keeps : Bool) → Progress → List ℕ → ℕ → Used → Bool → List Command
down_gives index flow up sent keeps (progress.Whole trailers) text moment used closed =
    sends_text (text ++ last_text sent.fields trailers) ++ ended_gives index flow up flow.response sent keeps moment used closed
down_gives index flow up sent keeps got text moment used closed = sends_text text

abbrev pub DownLeads : Progress → Place → At → At → Flow → ℕ → Sending → (sent : Response) → (keeps : Bool) → Wanted → Type 0
DownLeads (progress.Whole trailers) place at new flow server up sent keeps next = stage_of new next ≡ ended_leads place at flow server up flow.response sent keeps
DownLeads got place at new flow server up sent keeps next = (new ≡ at) × (next ≡ ready.ComingDown flow server up sent)

-- the next flow reads the side from its beginning, where it is kept
abbrev pub SideCame : Wanted → Option Link → Option Link → Type 0
SideCame ready.Idle side later = later ≡ new_side side
SideCame ready.Over side later = ⊤
SideCame next side later = later ≡ side

pub record WentDown (place : Place) (at new : At) (moment : ℕ) (used : Used) (closed : Bool) (flow : Flow) (server : ℕ) (up : Sending) (sent : Response) (got : Progress) (text : List ℕ) (next : Wanted) (side later : Option Link) (out longer : List Command) : Type 0 where
  pub gives : longer ≡ out ++ down_gives at.flow flow up sent (keeps_on flow.request side) got text moment used closed
  pub leads : DownLeads got place at new flow server up sent (keeps_on flow.request side) next
  pub is_side : SideCame next side later

-- its reader gave what had come
pub record SaysMore (got : Progress) (text longer : List ℕ) (old new : Link) : Type 0 where
  pub same : new ≡ record old { responses = new.responses }
  pub read : GoesOver got old.responses text new.responses longer

pub record DownPassed (place : Place) (at new : At) (moment : ℕ) (used : Used) (closed : Bool) (flow : Flow) (server : ℕ) (up : Sending) (sent : Response) (next : Wanted) (side later : Option Link) (out longer : List Command) : Type 0 where
  pub got : Progress
  pub text : List ℕ
  pub heard : Option Link
  pub read : StaysOpen (SaysMore got [] text) side heard
  pub went : WentDown place at new moment used closed flow server up sent got text next heard later out longer

-- ---- a response that may yet be streamed

pub record HoldsMore (got : Progress) (content said body longer : List ℕ) (old new : Link) : Type 0 where
  pub same : new ≡ record old { responses = new.responses }
  pub read : GoesOverHeld got old.responses content said new.responses body longer

-- it is streamed as its head was read, and as that head's hook left it
abbrev pub streams_by : Flow → Option Response → (read : Response) → Option ℕ → (heard : ℕ) → Bool
streams_by flow None read most heard = false
streams_by flow (Some response) read most heard = streams_with (is_head flow.request.method) read response most heard

-- the first that is sent of it
pub record StartedDown (place : Place) (at new : At) (moment : ℕ) (used : Used) (closed : Bool) (flow : Flow) (server : ℕ) (up : Sending) (read : Response) (got : Progress) (said : List ℕ) (next : Wanted) (side later : Option Link) (out longer : List Command) : Type 0 where
  pub response : Response
  pub is_given : (streaming flow).response ≡ Some response
  pub went : WentDown place at new moment used closed (streaming flow) server up (framed_by read response) got (response_head_text (framed_by read response) ++ said) next side later out longer

-- it is held on
pub record HeldOn (at new : At) (next there : Wanted) (out longer : List Command) : Type 0 where
  pub same : new ≡ at
  pub is_there : next ≡ there
  pub gives : longer ≡ out

abbrev pub HeldWent : Bool → Place → At → At → ℕ → Used → Bool → Flow → ℕ → Sending → Option ℕ → List ℕ → Held → Progress → Wanted → Option Link → Option Link → List Command → List Command → Type 0
HeldWent true place at new moment used closed flow server up most body held got next side later out longer =
    StartedDown place at new moment used closed flow server up held.read got held.said.items next side later out longer
HeldWent false place at new moment used closed flow server up most body held got next side later out longer =
    HeldOn at new next (ready.ResponseBody flow server up most body (Some held)) out longer × (later ≡ side)

pub record HeldPassed (place : Place) (at new : At) (moment : ℕ) (used : Used) (closed : Bool) (flow : Flow) (server : ℕ) (up : Sending) (most : Option ℕ) (content : List ℕ) (held : Held) (next : Wanted) (side later : Option Link) (out longer : List Command) : Type 0 where
  pub got : Progress
  pub body : List ℕ
  pub more : Held
  pub same : more.read ≡ held.read
  pub heard : Option Link
  pub read : StaysOpen (HoldsMore got content held.said.items body more.said.items) side heard
  pub went : HeldWent (streams_by flow flow.response held.read most (length body)) place at new moment used closed flow server up most body more got next heard later out longer

-- ---- whatever is looked for

abbrev pub Passed : Place → At → At → ℕ → Used → Bool → Wanted → Wanted → Option Link → Option Link → List Command → List Command → Type 0
Passed place at new moment used closed (ready.ResponseBody flow server up most body (Some held)) next side later out longer =
    HeldPassed place at new moment used closed flow server up most body held next side later out longer
Passed place at new moment used closed (ready.ComingDown flow server up sent) next side later out longer =
    DownPassed place at new moment used closed flow server up sent next side later out longer
Passed place at new moment used closed looked next side later out longer = HeldOn at new next looked out longer × (later ≡ side)

-- A stream went on once without an answer, and its readers followed.
abbrev pub PassedBy : Bool → Stream → Stream → ℕ → Wanted → Wanted → Option Link → List Command → List Command → Type 0
PassedBy false before after moment looked next middle out longer = HeldOn before.at after.at next looked out longer × (after.requests ≡ before.requests) × (after.side ≡ before.side)
PassedBy true before after moment looked next middle out longer =
    Passed before.terms.place before.at after.at moment (used_in before.side) before.client_closed looked next before.side middle out longer
    × (after.requests ≡ requests_behind (stage_of after.at next) before.requests) × (after.side ≡ side_behind false (stage_of after.at next) middle)

pub record PassesOnce (before after : Stream) (moment : ℕ) (looked next : Wanted) (out longer : List Command) : Type 0 where
  pub terms : after.terms ≡ before.terms
  pub client : after.client_closed ≡ before.client_closed
  pub middle : Option Link
  pub passes : PassedBy (is_passing looked) before after moment looked next middle out longer

-- ---- beside the chain

-- Passing has gone on already, where a response's body is read that may be streamed.
abbrev pub IsCome : Stage → Sight → Type 0
IsCome (busy at flow (response_body server sent most)) seen = streams_in flow most seen ≡ false
IsCome (busy at flow (coming_down server sent)) seen = came_in flow seen ≡ None
IsCome stage seen = ⊤

-- Of such a body its reader has no more to give of what had come: so a look reads nothing.
abbrev pub HasNoMoreDown : Wanted → Option Link → Type 0
HasNoMoreDown (ready.ResponseBody flow server up most body (Some held)) side = IsOpen (λ link. (to_come link.responses).marks ≡ []) side
HasNoMoreDown (ready.ComingDown flow server up sent) side = IsOpen (λ link. (to_come link.responses).marks ≡ []) side
HasNoMoreDown looked side = ⊤

-- Both halves have gone on already.
pub record IsPassed (place : Place) (stage : Stage) (seen : Sight) : Type 0 where
  pub gone : IsGone place stage seen
  pub come : IsCome stage seen

pub record HasNoMore (looked : Wanted) (requests : State) (side : Option Link) : Type 0 where
  pub up : HasNoMoreUp looked requests
  pub down : HasNoMoreDown looked side

-- What was sent before and what was added are, in each view, what is owed where a response comes down, and what is sent of where it leads; and it
-- looks for what is awaited there, in what is left of the sight.
pub record CameTo (terms : Terms) (stage : Stage) (seen : Sight) (at : At) (requests : State) (side : Option Link) (looked : Wanted) (before out longer : List Command) : Type 0 where
  pub sent : SentOn
  pub more : List Command
  pub grown : longer ≡ out ++ more
  pub owes : (view : View) → seen_of view (before ++ more)
      ≡ seen_of view ((come_down terms stage seen).owed ++ sent_on (sequence (come_down terms stage seen).stage) sent)
  pub is_ready : IsReady terms at requests side looked (sequence (come_down terms stage seen).stage) (sight_come stage seen) sent
  pub is_passed : IsPassed terms.place (sequence (come_down terms stage seen).stage) (sight_come stage seen)
  pub no_more : HasNoMore looked requests side

-- So it is of both, one behind the other: that is what passing owes.
pub record PassedTo (terms : Terms) (stage : Stage) (seen : Sight) (at : At) (requests : State) (side : Option Link) (looked : Wanted) (before out longer : List Command) : Type 0 where
  pub sent : SentOn
  pub more : List Command
  pub grown : longer ≡ out ++ more
  pub owes : (view : View) → seen_of view (before ++ more)
      ≡ seen_of view ((pass terms stage seen).owed ++ sent_on (sequence (pass terms stage seen).stage) sent)
  pub is_ready : IsReady terms at requests side looked (sequence (pass terms stage seen).stage) (sight_past terms stage seen) sent
  pub is_passed : IsPassed terms.place (sequence (pass terms stage seen).stage) (sight_past terms stage seen)
  pub no_more : HasNoMore looked requests side

-- ---- both halves, and then it looks once

pub record Advances (before after : Stream) (moment : ℕ) (looked : Wanted) (out longer : List Command) : Type 0 where
  pub risen : Stream
  pub gone : Wanted
  pub raised : List Command
  pub rises : GoesUpOnce before risen moment looked gone out raised
  pub between : Stream
  pub next : Wanted
  pub given : List Command
  pub passes : PassesOnce risen between moment gone next raised given
  pub looks : LooksOnce between after moment next given longer
