-- What is due of the conversations of a run.
use Rattle.std.specs.Prelude.{ℕ, List}
use Rattle.px_message.specs.declared.flow.Flow.{Flow}
use Rattle.px_core.specs.Due.{Due}
use Rattle.px_exchange.specs.declared.mode.Mode.{Mode}
use Rattle.px_resend.specs.Chain.{proxy_in}
use Rattle.px_resend.specs.Due.{due_with}
use Rattle.px_stack.specs.Modes.{mode_due}

-- in this mode, with this key of masks: what is due of those with a client; and the recorded requests of these flows are sent again
abbrev pub run_due : Mode → List ℕ → List Flow → Due
run_due mode key resent = due_with (mode_due mode key) (proxy_in mode) resent
