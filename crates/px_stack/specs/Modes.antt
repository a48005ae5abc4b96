-- What is due of conversations in each mode.
use Rattle.std.specs.Prelude.{ℕ, List}
use Rattle.px_event.specs.Stands.{due_by}
use Rattle.px_core.specs.Due.{Due}
use Rattle.px_exchange.specs.declared.mode.Mode.{Mode}
use Rattle.px_stack.specs.Chain.{begins, stack_chain}

-- what is due in this mode, with this key of eight words for masks, in the conversation of this number, whose client is at the other end of
-- its connection there, if that is known, by these calls
abbrev pub mode_due : Mode → List ℕ → Due
mode_due mode key conv peer moves = due_by (stack_chain conv (record { address = peer; key = key })) (begins mode) moves
