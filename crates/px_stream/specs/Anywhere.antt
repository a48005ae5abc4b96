-- What the calls of a stream do beside a chain that flows in sequence are a part of, wherever they stand there. So whoever has other things
-- before or behind those flows, over the same events, has these calls for the part that is theirs.
use Rattle.std.specs.Prelude.{◌≡◌, ◌≤◌, ◌<◌, ◌+◌, ℕ, Bool, true, false, List, [], ◌∷◌, ◌++◌, drop, Option, Some, None, ⊤}
use Rattle.px_message.specs.declared.flow.Flow.{Flow}
use Rattle.px_message.specs.declared.response.Response.{Response}
use Rattle.px_event.specs.declared.command.Command.{Command}
use Rattle.px_event.specs.declared.event.Event.{Event}
use Rattle.px_event.specs.declared.reply.Reply.{Reply}
use Rattle.px_event.specs.Chain.{Timed}
use Rattle.px_event.specs.Laws.{owed_over}
use Rattle.px_event.specs.View.{View, seen_of}
use Rattle.px_event.proofs.Steps.{Takes, Resumes}
use Rattle.px_read.specs.Reader.{State, before_all, behind_end, request}
use Rattle.px_exchange.specs.Dials.{connected_owes}
use Rattle.px_exchange.specs.declared.place.Place.{Place}
use Rattle.px_exchange.specs.declared.terms.Terms.{Terms}
use Rattle.px_chain.specs.Chain.{http_chain, reached, sequence}
use Rattle.px_chain.specs.Sights.{IsWithin, Sight, Standing, sight_over}
use Rattle.px_chain.specs.Stages.{At, Doing, Parked, Sent, Stage, all_sent, busy, connection, given_head, going_up, idle, next, over, request_body, response_head}
use Rattle.px_chain.specs.Streams.{client_closed, now_over}
use Rattle.px_stream.specs.declared.link.Link.{Link}
use Rattle.px_stream.specs.declared.phase.Phase.TheVariants as phase
use Rattle.px_stream.specs.declared.phase.Wanted.TheVariants as ready
use Rattle.px_stream.specs.declared.stream.Stream.{Stream}
use Rattle.px_stream.specs.Stands.{IsAt, parked_link, unread_link}

-- The flow is one of those that a conversation may have, and its servers are few: at most so many more than the flows before it.
pub record IsCounted (ahead : ℕ) (at : At) : Type 0 where
  pub few : at.flow < 1000000
  pub dials : at.dials ≤ at.flow + ahead

-- one more where the flow has dialled, or may have
abbrev pub IsFewFor : ℕ → At → Doing → Type 0
IsFewFor ahead at (request_body given most) = IsCounted ahead at
IsFewFor ahead at (connection sent) = IsCounted ahead at
IsFewFor ahead at doing = IsCounted (ahead + 1) at

abbrev pub IsFew : ℕ → Stage → Type 0
IsFew ahead (idle at) = IsCounted ahead at
IsFew ahead (busy at flow doing) = IsFewFor ahead at doing
IsFew ahead (next at) = IsCounted ahead at
IsFew ahead over = ⊤

-- A state that was made on these terms, where a walk over flows in sequence stopped: each flow dials once at most, and a server
-- may have been dialled before them all.
pub record IsInSequence (made : Terms) (ahead : ℕ) (state : Stream) (place : Standing) (prefix : List (Timed Event)) : Type 0 where
  pub is_at : IsAt made state place prefix
  pub few : IsFew ahead place.stage
  pub small : ahead ≤ 1

-- it stands where some such walk stopped
abbrev pub Somewhere : Stream → Type 0
Somewhere state = (made : Terms) × (ahead : ℕ) × (place : Standing) × (prefix : List (Timed Event)) × IsInSequence made ahead state place prefix

-- It took an event: wherever it stood, it goes one event on, or has ended.
pub record TakesAnywhere (before after : Stream) (moment : ℕ) (event : Event) (out longer : List Command) : Type 0 where
  pub more : List Command
  pub grown : longer ≡ out ++ more
  pub takes : (made : Terms) (ahead : ℕ) (place : Standing) (prefix : List (Timed Event)) → IsInSequence made ahead before place prefix →
      Takes (http_chain sequence made) (IsInSequence made ahead) after moment event more place prefix

-- And a reply.
pub record ResumesAnywhere (before after : Stream) (moment : ℕ) (reply : Reply) (out longer : List Command) : Type 0 where
  pub more : List Command
  pub grown : longer ≡ out ++ more
  pub resumes : (made : Terms) (ahead : ℕ) (place : Standing) (prefix : List (Timed Event)) → IsInSequence made ahead before place prefix →
      Resumes (http_chain sequence made) (IsInSequence made ahead) after moment reply more place prefix

-- ---- a stream that begins where others have been

-- a parked side of which nothing was heard yet
abbrev pub unheard : Option Parked → Option Link
unheard None = None
unheard (Some parked) = Some (unread_link parked.server false [] false)

-- It was handed nothing yet. A side that is kept from before is parked.
pub record IsNew (state : Stream) : Type 0 where
  pub requests : state.requests ≡ before_all request [] false
  pub client : state.client_closed ≡ false
  pub side : state.side ≡ unheard state.at.parked
  pub phase : state.phase ≡ phase.Ready ready.Idle

-- of the parked side these bytes wait that others have not used, and its server has not closed
abbrev pub Waits : Option Parked → Sight → List ℕ → Type 0
Waits None seen waiting = ⊤
Waits (Some parked) seen waiting = (seen.server ≡ waiting) × (seen.shut ≡ false)

-- A new stream may begin at this place and over this prefix, where a request is awaited: it was made for it, these are the client's
-- bytes that were not used before and those of the parked side (by which that is kept no more), and it is known whether the client has closed.
pub record MayBegin (made : Terms) (ahead : ℕ) (state : Stream) (moment : ℕ) (closed : Bool) (rest waiting : List ℕ) (place : Standing) (prefix : List (Timed Event)) : Type 0 where
  pub terms : state.terms ≡ made
  pub stage : place.stage ≡ idle state.at
  pub few : IsCounted ahead state.at
  pub small : ahead ≤ 1
  pub come : (sight_over place prefix).client ≡ rest
  pub client : client_closed prefix ≡ closed
  pub waits : Waits state.at.parked (sight_over place prefix) waiting
  pub within : IsWithin place prefix
  pub now : moment ≡ now_over place.since prefix

-- It looked once: it is where the chain is there, and gave what is owed there.
pub record BeginsThere (made : Terms) (ahead : ℕ) (after : Stream) (more : List Command) (place : Standing) (prefix : List (Timed Event)) : Type 0 where
  pub is_there : IsInSequence made ahead after ((http_chain sequence made).pass place prefix).stage prefix
  pub gives : (view : View) → seen_of view more ≡ seen_of view (owed_over (http_chain sequence made) place prefix)

pub record Begins (before after : Stream) (moment : ℕ) (closed : Bool) (rest waiting : List ℕ) (out longer : List Command) : Type 0 where
  pub more : List Command
  pub grown : longer ≡ out ++ more
  pub begins : (made : Terms) (ahead : ℕ) (place : Standing) (prefix : List (Timed Event)) → MayBegin made ahead before moment closed rest waiting place prefix →
      BeginsThere made ahead after more place prefix

-- What follows a whole request that others have read and asked about, by the response that was given in place of the server's, if one was.
abbrev pub doing_by : Option Response → Doing
doing_by None = connection all_sent
doing_by (Some response) = given_head

-- A new stream may go on with this flow at this place and over this prefix: it was made for it, and the client has sent nothing that is not used, and has not closed.
pub record MayGoOn (made : Terms) (ahead : ℕ) (state : Stream) (moment : ℕ) (flow : Flow) (place : Standing) (prefix : List (Timed Event)) : Type 0 where
  pub terms : state.terms ≡ made
  pub stage : place.stage ≡ busy state.at flow (doing_by flow.response)
  pub few : IsCounted ahead state.at
  pub small : ahead ≤ 1
  pub come : (sight_over place prefix).client ≡ []
  pub client : client_closed prefix ≡ false
  pub parked : state.side ≡ parked_link state.at.parked (sight_over place prefix)
  pub within : IsWithin place prefix
  pub now : moment ≡ now_over place.since prefix

-- a reader that stands behind a request which others have read
abbrev pub ended_reader : State
ended_reader = record { place = behind_end []; rest = []; closed = false }

pub record GoesOnWith (before after : Stream) (moment : ℕ) (flow : Flow) (out longer : List Command) : Type 0 where
  pub more : List Command
  pub grown : longer ≡ out ++ more
  pub goes_on : (made : Terms) (ahead : ℕ) (place : Standing) (prefix : List (Timed Event)) → MayGoOn made ahead before moment flow place prefix →
      BeginsThere made ahead after more place prefix

-- ---- a stream whose server is dialled, while others connect it

-- Where the client has closed, it closed while the parked side was open: that side was not heard behind the close either.
abbrev pub OpensInTime : Option Parked → ℕ → List (Timed Event) → Type 0
OpensInTime None opened prefix = ⊤
OpensInTime (Some parked) opened prefix = client_closed prefix ≡ true → client_closed (drop opened prefix) ≡ true

-- It heard an event while the dial of its server is awaited: wherever it stood, it stands there one event on.
pub record HearsWaiting (before after : Stream) (event : Event) : Type 0 where
  pub hears : (made : Terms) (ahead : ℕ) (place : Standing) (prefix : List (Timed Event)) (moment : ℕ) (at : At) (flow : Flow) (sent : Sent) →
      place.stage ≡ busy at flow (connection sent) → OpensInTime at.parked place.opened prefix → IsInSequence made ahead before place prefix →
      IsInSequence made ahead after place (prefix ++ (record { moment = moment; value = event }) ∷ [])

-- The flow of a state that stands where its server is dialled may be connected at this place: its side is that of the dial, these are
-- the side's bytes that others have not used, and nothing has closed it. Nothing was owed of its request before.
pub record MayReach (made : Terms) (ahead : ℕ) (state : Stream) (moment : ℕ) (rest : List ℕ) (from to : Standing) (prefix : List (Timed Event)) : Type 0 where
  pub at : At
  pub flow : Flow
  pub sent : Sent
  pub dialling : from.stage ≡ busy at flow (connection sent)
  pub there : IsInSequence made ahead state from prefix
  pub stage : to.stage ≡ busy (record at { dials = at.dials + 1; parked = None }) (reached made.place flow) (response_head at.dials sent)
  pub client : to.used.client ≡ from.used.client
  pub told : to.told ≡ 0
  pub come : (sight_over to prefix).server ≡ rest
  pub unshut : (sight_over to prefix).shut ≡ false
  pub within : IsWithin to prefix
  pub now : moment ≡ now_over to.since prefix

-- a whole request goes to the server at once, and of one that goes up its stage owes what came
abbrev pub reached_owes : Sent → Place → Flow → ℕ → List Command
reached_owes all_sent place flow server = connected_owes place flow server
reached_owes going_up place flow server = []

-- Its request went to the server, and it looked once: it is where the chain is there, and gave what is owed there.
pub record ReachesThere (made : Terms) (ahead : ℕ) (after : Stream) (more : List Command) (to : Standing) (prefix : List (Timed Event)) (at : At) (flow : Flow) (sent : Sent) : Type 0 where
  pub is_there : IsInSequence made ahead after ((http_chain sequence made).pass to prefix).stage prefix
  pub gives : (view : View) → seen_of view more ≡ seen_of view (reached_owes sent made.place flow at.dials ++ owed_over (http_chain sequence made) to prefix)

pub record Reaches (before after : Stream) (moment : ℕ) (rest : List ℕ) (out longer : List Command) : Type 0 where
  pub more : List Command
  pub grown : longer ≡ out ++ more
  pub reaches : (made : Terms) (ahead : ℕ) (from to : Standing) (prefix : List (Timed Event)) → (may : MayReach made ahead before moment rest from to prefix) →
      ReachesThere made ahead after more to prefix may.at may.flow may.sent
