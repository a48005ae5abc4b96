-- What a request that is sent again stands for.
use Rattle.std.specs.Prelude.{◌≡◌, List, [], Option, None, ⊤}
use Rattle.std.specs.Global.{Box}
use Rattle.px_message.specs.declared.request.Request.{Request}
use Rattle.px_event.specs.declared.ask.Ask.{Ask}
use Rattle.px_event.specs.declared.command.Command.{Command}
use Rattle.px_event.specs.declared.event.Event.{Event}
use Rattle.px_event.specs.declared.reply.Reply.{Reply}
use Rattle.px_event.specs.Chain.{Chain, Look, NotYet, Asks, Ends, Timed}
use Rattle.px_event.specs.Layer.{Move}
use Rattle.px_event.specs.Stands.{StandsAt}
use Rattle.px_exchange.specs.declared.terms.Terms.{Terms}
use Rattle.px_chain.specs.Sights.{Standing}
use Rattle.px_chain.specs.Stages.{At, all_sent, busy, connection, request_body}
use Rattle.px_chain.specs.Stages as flows
use Rattle.px_stream.specs.declared.stream.Stream.{Stream}
use Rattle.px_stream.specs.Anywhere.{IsInSequence}
use Rattle.px_stream.specs.Stands.{sent_at}
use Rattle.px_resend.specs.Chain.{Stage, asks_head, asks_whole, goes_on, over, resend_chain, terms_by, waiting}
use Rattle.px_resend.specs.Heard.{all_of_servers}
use Rattle.px_resend.specs.Kept.{awaited_by}
use Rattle.px_resend.specs.declared.child.Child.{Child}
use Rattle.px_resend.specs.declared.child.Child.TheVariants as children
use Rattle.px_resend.specs.declared.resend.Resend.{Resend}

-- how its flow is made
abbrev pub terms_in : Resend → Terms
terms_in made = terms_by made.conv made.proxy

-- its chain
abbrev pub chain_of : Resend → Chain Stage Event Reply Command
chain_of made = resend_chain (terms_in made) made.request

-- The flow's request is read no more: this holds where its server is dialled, and that behind it.
abbrev pub ByDial : (At → Type 0) → Type 0 → flows.Stage → Type 0
ByDial dialling behind (busy at flow (request_body given most)) = ⊥
ByDial dialling behind (busy at flow (connection how)) = dialling at
ByDial dialling behind stage = behind

-- and this in both
abbrev pub IsPastRequest : flows.Stage → Type 0
IsPastRequest stage = ByDial (λ at. ⊤) ⊤ stage

-- While it goes on no side is parked, since none was before it. Behind its end its own may be kept.
abbrev pub NoneParked : flows.Stage → Type 0
NoneParked (busy at flow doing) = at.parked ≡ None
NoneParked stage = ⊤

-- and all of its request was sent on then, or is at once where its server is dialled: none is streamed
pub record IsUnparked (stage : flows.Stage) : Type 0 where
  pub dial : IsPastRequest stage
  pub none : NoneParked stage
  pub whole : sent_at stage ≡ all_sent

-- the stream of a flow that goes on, at this place
pub record IsGoing (terms : Terms) (place : Standing) (prefix : List (Timed Event)) (child : Child) : Type 0 where
  pub stream : Box Stream
  pub is : child ≡ children.GoesOn stream
  pub there : IsInSequence terms 0 stream.value place (all_of_servers prefix)
  pub unparked : IsUnparked place.stage

-- it has not begun only while nothing was heard of it
abbrev pub Keeps : Terms → Child → Stage → List (Timed Event) → Type 0
Keeps terms child waiting prefix = (child ≡ children.Waiting) × (prefix ≡ [])
Keeps terms child (asks_head flow) prefix = child ≡ children.AsksHead flow
Keeps terms child (asks_whole flow) prefix = child ≡ children.AsksWhole flow
Keeps terms child (goes_on place) prefix = IsGoing terms place prefix child
Keeps terms child over prefix = ⊥

-- where the end is found nothing is kept
abbrev pub KeepsBy : Look Command → Terms → Child → Stage → List (Timed Event) → Type 0
KeepsBy NotYet terms child stage prefix = Keeps terms child stage prefix
KeepsBy (Asks ask) terms child stage prefix = Keeps terms child stage prefix
KeepsBy (Ends owed) terms child stage prefix = child ≡ children.Over

-- what is kept where the walk stopped at this stage and over this prefix
abbrev pub IsChild : Terms → Request → Child → Stage → List (Timed Event) → Type 0
IsChild terms recorded child stage prefix = KeepsBy ((resend_chain terms recorded).look stage prefix) terms child stage prefix

-- and it is so somewhere
abbrev pub IsSomewhere : Terms → Request → Child → Type 0
IsSomewhere terms recorded child = (stage : Stage) × (prefix : List (Timed Event)) × IsChild terms recorded child stage prefix

-- where the walk stopped at this stage and over this prefix
pub record IsAt (made state : Resend) (stage : Stage) (prefix : List (Timed Event)) : Type 0 where
  pub conv : state.conv ≡ made.conv
  pub proxy : state.proxy ≡ made.proxy
  pub request : state.request ≡ made.request
  pub child : IsChild (terms_in made) made.request state.child stage prefix

abbrev pub ResendStands : Resend → Resend → List Move → List Command → Type 0
ResendStands made state moves given = StandsAt (chain_of made) waiting (IsAt made) state moves given

abbrev pub awaits : Resend → Option Ask
awaits state = awaited_by state.child
