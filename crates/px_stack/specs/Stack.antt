-- What a conversation stands for.
use Rattle.std.specs.Prelude.{◌≡◌, List, Option}
use Rattle.rand_chacha.specs.ChaCha.{key_of}
use Rattle.px_event.specs.declared.ask.Ask.{Ask}
use Rattle.px_event.specs.declared.command.Command.{Command}
use Rattle.px_event.specs.declared.event.Event.{Event}
use Rattle.px_event.specs.declared.reply.Reply.{Reply}
use Rattle.px_event.specs.Chain.{Chain, Timed}
use Rattle.px_event.specs.Layer.{Move}
use Rattle.px_event.specs.Stands.{StandsAt}
use Rattle.px_chain.specs.Chain.{begin}
use Rattle.px_chain.specs.Stages.{idle}
use Rattle.px_stack.specs.declared.child.Child.{Child}
use Rattle.px_stack.specs.declared.child.Child.TheVariants as children
use Rattle.px_stack.specs.declared.stack.Stack.{Stack}
use Rattle.px_stack.specs.Chain.{stack_chain}
use Rattle.px_stack.specs.Kept.{awaited_by}
use Rattle.px_socks.specs.Stages.{greeting}
use Rattle.px_stack.specs.Stages.{Stage, Visitor, asking, http, over}
use Rattle.px_stack.specs.Stands.{IsChild}

-- its client, and the key of masks
abbrev pub visitor_of : Stack → Visitor
visitor_of made = record { address = made.client; key = key_of made.mask_key }

-- its chain
abbrev pub chain_of : Stack → Chain Stage Event Reply Command
chain_of made = stack_chain made.conv (visitor_of made)

-- where it starts: one that was made has HTTP, or a client of SOCKS
abbrev pub start_by : Child → Stage
start_by (children.Http flows) = http flows.value.stream.terms.place (begin (idle flows.value.stream.at))
start_by (children.Asking layer) = asking greeting
start_by child = over

abbrev pub start_of : Stack → Stage
start_of made = start_by made.child

-- where the walk stopped at this stage and over this prefix
pub record IsAt (made state : Stack) (stage : Stage) (prefix : List (Timed Event)) : Type 0 where
  pub conv : state.conv ≡ made.conv
  pub client : state.client ≡ made.client
  pub mask_key : state.mask_key ≡ made.mask_key
  pub child : IsChild made.conv (visitor_of made) state.child stage prefix

abbrev pub StackStands : Stack → Stack → List Move → List Command → Type 0
StackStands made state moves given = StandsAt (chain_of made) (start_of made) (IsAt made) state moves given

abbrev pub awaits : Stack → Option Ask
awaits state = awaited_by state.child
