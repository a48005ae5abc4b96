-- What a wire took, against what was sent and what is due.
use Rattle.std.specs.Prelude.{◌≡◌, ◌⊎◌, ℕ, ◌==◌, Bool, false, List, [], ◌++◌, Option, Some}
use Rattle.std.specs.List.{list_any}
use Rattle.px_text.specs.Prefix.{IsPrefixOf}
use Rattle.px_event.specs.Trace.{Trace}
use Rattle.px_event.specs.View.{bytes_in, line}
use Rattle.px_event.specs.declared.heard.Heard.TheVariants as heard
use Rattle.px_event.specs.declared.side.Door.TheVariants.{Control}
use Rattle.px_event.specs.declared.side.Side.{Side}
use Rattle.px_event.specs.declared.step.Step.{Step}
use Rattle.px_event.specs.declared.step.Step.TheVariants as steps
use Rattle.px_core.specs.Due.{Due, due_in}
use Rattle.px_exchange.specs.declared.mode.Mode.{Mode}
use Rattle.px_options.specs.Options.{Settings}
use Rattle.px_options.specs.View.{mode_view}
use Rattle.px_app.specs.Loaded.{Loaded, behind_loaded, loaded}
use Rattle.px_app.specs.Dues.{run_due}
use Rattle.px_app.specs.Opened.{Opened, says}
use Rattle.px_wire.specs.Calls.{Calls, steps_of}
use Rattle.px_wire.specs.Taken.{TakesWhatWasSent, taken_for}
use Rattle.px_proxy.specs.Quits.{QuitsLast}

-- the step accepts a connection of this number at the control door
abbrev pub accepts_operator : ℕ → Step → Bool
accepts_operator conv (steps.Heard moment (heard.Accepted number Control peer)) = number == conv
accepts_operator conv _ = false

-- an operator's number: its connection was accepted at the control door
abbrev pub is_operators : ℕ → Trace → Bool
is_operators conv trace = list_any (accepts_operator conv) trace

-- What the wire took for each side begins what was sent to it, as what operators are answered. Of each number that is no operator's it begins the bytes of what is due
-- to the side by the steps that the calls tell.
pub record TakesWhatIsDue (due : Due) (list : Calls) : Type 0 where
  pub as_sent : TakesWhatWasSent list
  pub as_due : (conv : ℕ) (side : Side) → is_operators conv (steps_of list) ≡ false → IsPrefixOf (taken_for conv side list) (bytes_in (due_in due (line side) conv (steps_of list)))

-- so it is at every moment: after each of the calls
abbrev pub AlwaysTakesWhatIsDue : Due → Calls → Type 0
AlwaysTakesWhatIsDue due list = (prefix : Calls) (rest : Calls) → list ≡ prefix ++ rest → TakesWhatIsDue due prefix

-- the wire took what is due, and the statuses of an end came only of an operator's order
pub record WiredSo (due : Due) (status : ℕ) (list : Calls) : Type 0 where
  pub takes : AlwaysTakesWhatIsDue due list
  pub quits : (status ≡ 0) ⊎ (status ≡ 7) → QuitsLast (steps_of list)

-- Where the flow files of these options came to that, and the wire, which had told no step before, made these calls: what it took is what is due by the options, with this key of
-- masks and these flows whose requests are sent again.
abbrev pub IsWiredWith : List ℕ → Settings → Loaded → ℕ → Option Trace → Option Calls → Type 0
IsWiredWith key settings (loaded resent) status steps told =
    (mode : Mode) (list : Calls) → settings.mode ≡ mode_view mode → steps ≡ Some [] → told ≡ Some list → WiredSo (run_due mode key resent) status list
IsWiredWith key settings came status steps told = Unit {0}

-- so it is by what a run's start came to
abbrev pub IsWiredBy : List ℕ → Opened → ℕ → Option Trace → Option Calls → Type 0
IsWiredBy key (says bytes settings reads recorded resent) status steps told = IsWiredWith key settings (behind_loaded recorded resent) status steps told
IsWiredBy key opened status steps told = Unit {0}
