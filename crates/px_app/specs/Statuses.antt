-- The statuses of a run, and the words on its trace that they speak of.
use Rattle.std.specs.Prelude.{ℕ, Bool, true, false, [], ◌∷◌}
use Rattle.std.specs.List.{count_by}
use Rattle.px_event.specs.declared.heard.Heard.{Heard}
use Rattle.px_event.specs.declared.heard.Heard.TheVariants as heard
use Rattle.px_event.specs.declared.step.Step.{Step}
use Rattle.px_event.specs.declared.step.Step.TheVariants as steps
use Rattle.px_event.specs.Trace.{Trace}
use Rattle.px_outside.specs.declared.net.NetError.{NetError}
use Rattle.px_outside.specs.declared.net.NetError.TheVariants as net
use Rattle.px_app.specs.declared.status.Status.{Status}
use Rattle.px_app.specs.declared.status.Status.TheVariants.{Ended, NetFault, BudgetSpent, OutputFailed, NoMemory}

-- the number with which a run that served ends
abbrev pub code_of : Status → ℕ
code_of Ended = 0
code_of NetFault = 5
code_of BudgetSpent = 6
code_of OutputFailed = 7
code_of NoMemory = 8

-- the status of a net that failed
abbrev pub status_of : NetError → Status
status_of net.Fault = NetFault
status_of net.NoMemory = NoMemory

abbrev pub is_heard : Step → Bool
is_heard (steps.Heard moment what) = true
is_heard _ = false

-- how many things were heard
abbrev pub heard_count : Trace → ℕ
heard_count trace = count_by is_heard trace

abbrev pub is_end : Heard → Bool
is_end heard.End = true
is_end _ = false

-- whether the last thing heard is the end, after one more step
abbrev pub ends_by : Bool → Step → Bool
ends_by ended (steps.Heard moment what) = is_end what
ends_by ended _ = ended

abbrev pub ends_from : Bool → Trace → Bool
ends_from ended [] = ended
ends_from ended (step ∷ trace) = ends_from (ends_by ended step) trace

-- whether the last thing heard is the end
abbrev pub ends_heard : Trace → Bool
ends_heard trace = ends_from false trace
