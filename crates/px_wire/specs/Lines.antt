-- What lines are to their caller.
use Rattle.std.specs.Prelude.{ℕ, Bool, true, false, Option, None}
use Rattle.px_wire.specs.declared.table.Table.{Table}
use Rattle.px_wire.specs.Calls.{Calls}
use Rattle.px_wire.specs.Found.{Loose}
use Rattle.px_wire.specs.Stands.{Rests}

-- the wire, what is kept of it, the faults of the lines themselves, and whether memory ran out while something was heard
pub record LinesState (W : Type 0) : Type 0 where
  pub wire : W
  pub table : Table
  pub faults : ℕ
  pub is_spent : Bool

-- What is kept stands for the calls of the wire. Once memory ran out while something was heard, that may be left unheard.
abbrev pub Keeps : Bool → Table → Option Calls → Type 0
Keeps false table told = Rests None table told
Keeps true table told = Loose table told
