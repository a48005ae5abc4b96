-- What a request that is sent again awaits, how many answers it may still ask for, and what it keeps.
use Rattle.std.specs.Prelude.{ℕ, ◌+◌, Bool, true, false, Option, Some, None}
use Rattle.px_event.specs.declared.ask.Ask.{Ask}
use Rattle.px_event.specs.declared.ask.Hook.TheVariants.{RequestHead, RequestBody}
use Rattle.px_exchange.specs.Flows.{hook_of}
use Rattle.px_chain.specs.Left.{behind_left}
use Rattle.px_stream.specs.Tells.{sequence_left, stream_keeps}
use Rattle.px_stream.specs.Tells as streams
use Rattle.px_stream.specs.Stands.{awaits}
use Rattle.px_resend.specs.declared.child.Child.{Child}
use Rattle.px_resend.specs.declared.child.Child.TheVariants as children

-- what is awaited
abbrev pub awaited_by : Child → Option Ask
awaited_by (children.AsksHead flow) = Some (hook_of flow RequestHead)
awaited_by (children.AsksWhole flow) = Some (hook_of flow RequestBody)
awaited_by (children.GoesOn stream) = awaits stream.value
awaited_by child = None

-- how many answers a flow may ask for that goes on
abbrev pub going_left : ℕ
going_left = behind_left 0 + 5

abbrev pub left_by : Child → ℕ
left_by children.Waiting = going_left + 3
left_by (children.AsksHead flow) = going_left + 2
left_by (children.AsksWhole flow) = going_left + 1
left_by (children.GoesOn stream) = sequence_left stream.value
left_by children.Over = 0

-- nothing is awaited, and neither of its directions keeps a body
abbrev pub keeps_no_body : Child → Bool
keeps_no_body (children.GoesOn stream) = streams.keeps_no_body stream.value.phase
keeps_no_body child = false

-- the flow and what was recorded do not count
abbrev pub kept_by : Child → ℕ
kept_by (children.GoesOn stream) = stream_keeps stream.value
kept_by child = 0

abbrev pub is_over : Child → Bool
is_over children.Over = true
is_over child = false
