-- The operators of a run: who is one, and what is heard of them.
use Rattle.std.specs.Prelude.{◌≡◌, ℕ, Bool, true, if◌then◌else◌, ◌&&◌, not, Option, Some, None, is_some, nat_eq}
use Rattle.std.specs.HashSet.{contains}
use Rattle.px_event.specs.declared.heard.Heard.{Heard}
use Rattle.px_event.specs.declared.heard.Heard.TheVariants as heard
use Rattle.px_event.specs.declared.side.Door.{Door}
use Rattle.px_event.specs.declared.side.Door.TheVariants.{Control, Proxy}
use Rattle.px_event.specs.declared.side.Side.TheVariants.{Client}
use Rattle.px_event.specs.Trace.{Trace}
use Rattle.px_core.specs.Calls.{calls}
use Rattle.px_core.specs.declared.router.Router.{Router}
use Rattle.px_core.specs.Router.{is_known}
use Rattle.px_view.specs.Desk.{Stand, stand_of}
use Rattle.px_app.specs.Operators.{operator_stand}
use Rattle.px_app.specs.declared.operators.Operators.{Operators}
use Rattle.px_app.specs.declared.operators.Spoken.{Spoken}
use Rattle.px_app.specs.declared.operators.Spoken.TheVariants as spoken

-- whether the connection is open
abbrev pub is_open : Operators → ℕ → Bool
is_open operators conv = contains nat_eq operators.open conv

-- where the lines of a connection stand; none where it is not open
abbrev pub stand_in : Operators → ℕ → Stand
stand_in operators conv = if is_open operators conv then stand_of operators.desk conv else None

-- Of each number that has begun no conversation they have where its lines stand, and of what is open more lines may come.
pub record OperatorsStand (operators : Operators) (trace : Trace) : Type 0 where
  pub at : (conv : ℕ) → (calls conv trace).peer ≡ None → stand_in operators conv ≡ operator_stand conv trace
  pub go_on : (conv : ℕ) → is_open operators conv ≡ true → is_some (stand_of operators.desk conv) ≡ true

-- an operator's connection is one that is open, and whose number has begun no conversation
abbrev pub speaks : {C A : Type 0} → Operators → Router C A → ℕ → Bool
speaks operators router conv = is_open operators conv && not (is_known router conv)

-- what something heard is, by the test who is an operator
abbrev pub spoken_of : (ℕ → Bool) → Heard → Spoken
spoken_of is_operator (heard.Piece conv Client bytes) = if is_operator conv then spoken.Says conv bytes else spoken.Nothing (heard.Piece conv Client bytes)
spoken_of is_operator (heard.Closed conv Client) = if is_operator conv then spoken.Leaves conv else spoken.Nothing (heard.Closed conv Client)
spoken_of is_operator what = spoken.Nothing what

-- the number of a connection that was accepted at the control door
abbrev pub accepted_at : ℕ → Door → Option ℕ
accepted_at conv Control = Some conv
accepted_at conv Proxy = None

abbrev pub accepted_by : Heard → Option ℕ
accepted_by (heard.Accepted conv door peer) = accepted_at conv door
accepted_by what = None
