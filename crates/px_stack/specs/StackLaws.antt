-- The laws of a conversation as a layer whose due is a chain.
use Rattle.std.proofs.Common.{◌≡◌, ℕ, Bool, true, false, List, [], Some, None, refl, ap, sym, ◌∙◌, subst}
use Rattle.px_message.specs.declared.flow.Flow.{Flow}
use Rattle.px_event.specs.declared.ask.Ask.{Ask}
use Rattle.px_event.specs.declared.command.Command.{Command}
use Rattle.px_event.specs.declared.event.Event.{Event}
use Rattle.px_event.specs.Chain.{Timed, Look, NotYet, Asks, Ends}
use Rattle.px_event.specs.Laws.{Settles, SoFarGrows}
use Rattle.px_event.specs.Layer.{Move}
use Rattle.px_event.specs.Stands.{AwaitsWhatItAsks, EndsWhereItEnds, StandsAt, due_by}
use Rattle.px_event.specs.View.{View, seen_of}
use Rattle.px_core.specs.Conversation.{AllNamed}
use Rattle.px_exchange.specs.Places.{terms_of}
use Rattle.px_chain.specs.Chain.{sequence}
use Rattle.px_relay.specs.declared.layer.WsLayer.{WsLayer}
use Rattle.px_relay.specs.Chain.{look as frames_look}
use Rattle.px_relay.specs.Stages.{Stage as Frames, holding, over as frames_over, relaying}
use Rattle.px_relay.specs.Stands.{awaited_in, awaits as frames_awaits}
use Rattle.px_socks.specs.declared.layer.SocksLayer.{SocksLayer}
use Rattle.px_socks.specs.Chain as socks
use Rattle.px_socks.specs.Stages as fronts
use Rattle.px_socks.specs.Stages.{Sight as FrontSight, Stage as Front}
use Rattle.px_socks.specs.Stands.{IsIn as IsInFront, awaits as front_awaits, awaits_in as front_awaits_in}
use Rattle.px_stream.proofs.StateLaws.{awaits_what_it_asks}
use Rattle.px_stack.specs.declared.child.Child.{Child}
use Rattle.px_stack.specs.declared.child.Child.TheVariants as children
use Rattle.px_stack.specs.declared.stack.Stack.{Stack}
use Rattle.px_stack.specs.Chain.{front_sight, socket_terms, stack_chain, tunnel_found}
use Rattle.px_stack.specs.Kept.{awaited_by, is_over}
use Rattle.px_stack.specs.Laws.{settles, so_far_grows}
use Rattle.px_stack.specs.Names.{IsOfIt, stack_names}
use Rattle.px_stack.specs.Stack.{IsAt, StackStands, awaits, chain_of, start_by, start_of, visitor_of}
use Rattle.px_stack.specs.Stages.{Ends as TunnelEnds, Stage, Visitor, asking, connecting, http, over, raw, reaching, socket, undecided}
use Rattle.px_stack.specs.Stands.{IsChild, IsFraming, Keeps, KeepsBy}

-- ---- what is found in HTTP and in a tunnel

never_asks : (ends : Bool) (owed : List Command) (ask : Command) → tunnel_found ends owed ≡ Asks ask → ⊥
never_asks true owed ask is = let no : Ends owed ≡ Asks ask = is in cc
never_asks false owed ask is = let no : NotYet ≡ Asks ask = is in cc

-- a client of SOCKS asks exactly where its stage does
front_free : (front : Front) (layer : SocksLayer) (seen : FrontSight) → IsInFront layer front seen → front_awaits layer ≡ None → (ask : Command) → socks.look front ≡ Asks ask → ⊥
front_free fronts.greeting layer seen is free ask asks = let no : NotYet ≡ Asks ask = asks in cc
front_free (fronts.requesting used) layer seen is free ask asks = let no : NotYet ≡ Asks ask = asks in cc
front_free (fronts.dialling used address) layer seen is free ask asks = let no : Some _ ≡ None = ap front_awaits_in (sym is.phase_is) ∙ free in cc
front_free (fronts.opened used address) layer seen is free ask asks = let no : Ends [] ≡ Asks ask = asks in cc
front_free fronts.over layer seen is free ask asks = let no : Ends [] ≡ Asks ask = asks in cc

front_waits : (front : Front) (layer : SocksLayer) (seen : FrontSight) → IsInFront layer front seen → (ask : Ask) → front_awaits layer ≡ Some ask → socks.look front ≡ NotYet → ⊥
front_waits fronts.greeting layer seen is ask waits found = let no : None ≡ Some ask = ap front_awaits_in (sym is.phase_is) ∙ waits in cc
front_waits (fronts.requesting used) layer seen is ask waits found = let no : None ≡ Some ask = ap front_awaits_in (sym is.phase_is) ∙ waits in cc
front_waits (fronts.dialling used address) layer seen is ask waits found = let no : socks.look (fronts.dialling used address) ≡ NotYet = found in cc
front_waits (fronts.opened used address) layer seen is ask waits found = let no : Ends [] ≡ NotYet = found in cc
front_waits fronts.over layer seen is ask waits found = let no : Ends [] ≡ NotYet = found in cc

-- a WebSocket's layer asks exactly where its stage does
socket_free : (key : List ℕ) (ends : TunnelEnds) (flow : Flow) (frames : Frames) (prefix : List (Timed Event)) (layer : WsLayer) → IsFraming key ends flow frames prefix layer →
    frames_awaits layer ≡ None → (ask : Command) → frames_look (socket_terms key ends flow) frames ≡ Asks ask → ⊥
socket_free key ends flow (relaying at) prefix layer is free ask asks = let no : NotYet ≡ Asks ask = asks in cc
socket_free key ends flow (holding from message at) prefix layer is free ask asks =
    let no : Some _ ≡ None = ap (λ p. awaited_in layer.flow p) (sym is.there.phase) ∙ free in cc
socket_free key ends flow frames_over prefix layer is free ask asks = let no : Ends [] ≡ Asks ask = asks in cc

socket_asks : (key : List ℕ) (ends : TunnelEnds) (flow : Flow) (frames : Frames) (prefix : List (Timed Event)) (layer : WsLayer) → IsFraming key ends flow frames prefix layer →
    (ask : Ask) → frames_awaits layer ≡ Some ask → (command : Command) × (frames_look (socket_terms key ends flow) frames ≡ Asks command)
socket_asks key ends flow (relaying at) prefix layer is ask waits =
    absurd (let no : None ≡ Some ask = ap (λ p. awaited_in layer.flow p) (sym is.there.ready.between.phase) ∙ waits in cc)
socket_asks key ends flow (holding from message at) prefix layer is ask waits = (_, refl)
socket_asks key ends flow frames_over prefix layer is ask waits =
    absurd (let no : None ≡ Some ask = ap (λ p. awaited_in layer.flow p) (sym is.there) ∙ waits in cc)

module _ (conv : ℕ) (client : Visitor) where
  -- ---- what is awaited

  free_by : (child : Child) (stage : Stage) (prefix : List (Timed Event)) (ask : Command) → Keeps conv client child stage prefix → awaited_by child ≡ None →
      (stack_chain conv client).look stage prefix ≡ Asks ask → ⊥
  free_by child (asking front) prefix ask kept free asks =
      front_free front kept.layer (front_sight prefix) kept.there (ap awaited_by (sym kept.is) ∙ free) ask asks
  free_by child (http place standing) prefix ask kept free asks =
      (awaits_what_it_asks sequence (terms_of conv client.address place)).free kept.flows.value.stream standing prefix ask kept.there.is_at
      (ap awaited_by (sym kept.is) ∙ free) asks
  free_by child (connecting tunnel) prefix ask kept free asks =
      let no : awaited_by (children.Connecting kept.kept kept.closed) ≡ None = ap awaited_by (sym kept.is) ∙ free in cc
  free_by child (reaching goal link since) prefix ask kept free asks = let no : NotYet ≡ Asks ask = asks in cc
  free_by child (undecided tunnel link since) prefix ask kept free asks = never_asks _ _ ask asks
  free_by child (raw ends) prefix ask kept free asks = never_asks _ _ ask asks
  free_by child (socket ends flow frames) prefix ask kept free asks =
      socket_free client.key ends flow frames prefix kept.layer.value kept.framing (ap awaited_by (sym kept.is) ∙ free) ask asks
  free_by child over prefix ask kept free asks = kept

  waits_by : (child : Child) (stage : Stage) (prefix : List (Timed Event)) (ask : Ask) → Keeps conv client child stage prefix → awaited_by child ≡ Some ask →
      (stack_chain conv client).look stage prefix ≡ NotYet → ⊥
  waits_by child (asking front) prefix ask kept waits found =
      front_waits front kept.layer (front_sight prefix) kept.there ask (ap awaited_by (sym kept.is) ∙ waits) found
  waits_by child (http place standing) prefix ask kept waits found =
      let asked = (awaits_what_it_asks sequence (terms_of conv client.address place)).asks kept.flows.value.stream standing prefix ask kept.there.is_at (ap awaited_by (sym kept.is) ∙ waits) in
      let no : Asks asked.0 ≡ NotYet = sym asked.1 ∙ found in cc
  waits_by child (connecting tunnel) prefix ask kept waits found = let no : (stack_chain conv client).look (connecting tunnel) prefix ≡ NotYet = found in cc
  waits_by child (reaching goal link since) prefix ask kept waits found = let no : None ≡ Some ask = ap awaited_by (sym kept.is) ∙ waits in cc
  waits_by child (undecided tunnel link since) prefix ask kept waits found =
      let no : None ≡ Some ask = ap awaited_by (sym kept.is) ∙ waits in cc
  waits_by child (raw ends) prefix ask kept waits found = let no : None ≡ Some ask = ap awaited_by (sym kept.is) ∙ waits in cc
  waits_by child (socket ends flow frames) prefix ask kept waits found =
      let asked = socket_asks client.key ends flow frames prefix kept.layer.value kept.framing ask (ap awaited_by (sym kept.is) ∙ waits) in
      let no : Asks asked.0 ≡ NotYet = sym asked.1 ∙ found in cc
  waits_by child over prefix ask kept waits found = kept

  asks_by : (child : Child) (stage : Stage) (prefix : List (Timed Event)) (ask : Ask) (l : Look Command) → (stack_chain conv client).look stage prefix ≡ l →
      KeepsBy l conv client child stage prefix → awaited_by child ≡ Some ask → (command : Command) × (l ≡ Asks command)
  asks_by child stage prefix ask NotYet is kept waits = absurd (waits_by child stage prefix ask kept waits is)
  asks_by child stage prefix ask (Asks command) is kept waits = (command, refl)
  asks_by child stage prefix ask (Ends owed) is kept waits = absurd (let no : None ≡ Some ask = ap awaited_by (sym kept) ∙ waits in cc)

  -- ---- whether it has ended

  goes_on : (child : Child) (stage : Stage) (prefix : List (Timed Event)) → Keeps conv client child stage prefix → is_over child ≡ true → ⊥
  goes_on child (asking front) prefix kept ended = let no : false ≡ true = ap is_over (sym kept.is) ∙ ended in cc
  goes_on child (http place standing) prefix kept ended = let no : false ≡ true = ap is_over (sym kept.is) ∙ ended in cc
  goes_on child (connecting tunnel) prefix kept ended = let no : false ≡ true = ap is_over (sym kept.is) ∙ ended in cc
  goes_on child (reaching goal link since) prefix kept ended = let no : false ≡ true = ap is_over (sym kept.is) ∙ ended in cc
  goes_on child (undecided tunnel link since) prefix kept ended = let no : false ≡ true = ap is_over (sym kept.is) ∙ ended in cc
  goes_on child (raw ends) prefix kept ended = let no : false ≡ true = ap is_over (sym kept.is) ∙ ended in cc
  goes_on child (socket ends flow frames) prefix kept ended = let no : false ≡ true = ap is_over (sym kept.is) ∙ ended in cc
  goes_on child over prefix kept ended = kept

  ends_by : (child : Child) (stage : Stage) (prefix : List (Timed Event)) (l : Look Command) → KeepsBy l conv client child stage prefix →
      is_over child ≡ true → (owed : List Command) × (l ≡ Ends owed)
  ends_by child stage prefix NotYet kept ended = absurd (goes_on child stage prefix kept ended)
  ends_by child stage prefix (Asks ask) kept ended = absurd (goes_on child stage prefix kept ended)
  ends_by child stage prefix (Ends owed) kept ended = (owed, refl)

  -- what is kept where this is found
  found_there : (child : Child) (stage : Stage) (prefix : List (Timed Event)) (l : Look Command) → (stack_chain conv client).look stage prefix ≡ l →
      IsChild conv client child stage prefix → KeepsBy l conv client child stage prefix
  found_there child stage prefix l is there =
      let P : Look Command → Type 0 = λ found. KeepsBy found conv client child stage prefix in subst P is there

-- ---- the layer

pub stands_there : (made state : Stack) (moves : List Move) (given : List Command) → StackStands made state moves given →
    StandsAt (chain_of made) (start_of made) (IsAt made) state moves given
stands_there made state moves given stands = stands

pub settles_there : (made : Stack) → Settles (chain_of made)
settles_there made = settles made.conv (visitor_of made)

pub grows_there : (made : Stack) (view : View) → SoFarGrows (chain_of made) (seen_of view)
grows_there made view = so_far_grows made.conv (visitor_of made) view

pub asks_there : (made : Stack) → AwaitsWhatItAsks (chain_of made) (IsAt made) awaits
asks_there made = record {
  free = λ state stage prefix ask at is asks.
      free_by made.conv (visitor_of made) state.child stage prefix ask (found_there made.conv (visitor_of made) state.child stage prefix (Asks ask) asks at.child) is asks;
  asks = λ state stage prefix ask at is.
      asks_by made.conv (visitor_of made) state.child stage prefix ask ((chain_of made).look stage prefix) refl at.child is;
}

pub ends_there : (made : Stack) → EndsWhereItEnds (chain_of made) (IsAt made) (λ state. is_over state.child)
ends_there made = record {
  ends = λ state stage prefix at ended. ends_by made.conv (visitor_of made) state.child stage prefix ((chain_of made).look stage prefix) at.child ended;
  there = λ state stage prefix owed at is. ap is_over (found_there made.conv (visitor_of made) state.child stage prefix (Ends owed) is at.child);
}

-- ---- its number

start_is : (conv : ℕ) (client : Visitor) (child : Child) → IsOfIt conv client (start_by child)
start_is conv client (children.Asking layer) = tt
start_is conv client (children.Http flows) = refl
start_is conv client (children.Connecting opening closed) = tt
start_is conv client (children.Reaching kept) = tt
start_is conv client (children.Undecided opening server) = tt
start_is conv client (children.Raw relay) = tt
start_is conv client (children.Socket kept) = tt
start_is conv client children.Over = tt

-- What is due names flows of the conversation alone.
pub names_there : (made : Stack) (moves : List Move) → AllNamed made.conv (due_by (chain_of made) (start_of made) moves)
names_there made moves = stack_names made.conv (visitor_of made) (start_of made) (start_is made.conv (visitor_of made) made.child) moves

-- no move changes its number
pub keeps_number : (made state : Stack) (moves : List Move) (given : List Command) → StackStands made state moves given → state.conv ≡ made.conv
keeps_number made state moves given stands = stands.place.conv
