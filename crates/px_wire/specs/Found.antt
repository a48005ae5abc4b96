-- One of the slots, among the others.
use Rattle.std.specs.Prelude.{◌≡◌, ◌+◌, ℕ, Bool, true, false, if◌then◌else◌, List, [], ◌∷◌, ◌++◌, Option}
use Rattle.std.specs.List.{list_any}
use Rattle.px_event.specs.declared.heard.Heard.{Heard}
use Rattle.px_wire.specs.declared.endpoint.Endpoint.{Endpoint}
use Rattle.px_wire.specs.declared.table.Table.{Table}
use Rattle.px_wire.specs.declared.endpoints.Endpoints.{Endpoints}
use Rattle.px_wire.specs.Calls.{Calls}
use Rattle.px_wire.specs.Holds.{Holds}
use Rattle.px_wire.specs.Endpoints.{is_open_to_read, is_over}
use Rattle.px_wire.specs.Stands.{Rests}

-- the slot of this number stands between these others
pub record IsAt (t : Endpoints) (slot : ℕ) (front : List Endpoint) (endpoint : Endpoint) (back : List Endpoint) : Type 0 where
  pub held : Holds t (front ++ endpoint ∷ back)
  pub slot_is : endpoint.slot ≡ slot

-- none passes
abbrev pub Missing : (Endpoint → Bool) → List Endpoint → Type 0
Missing test endpoints = list_any test endpoints ≡ false

-- It is this slot's turn, among these others: it may be read, none before it may, and no close is to be heard.
pub record HasTurn (front : List Endpoint) (endpoint : Endpoint) (back : List Endpoint) : Type 0 where
  pub opens : is_open_to_read (front ++ endpoint ∷ back) endpoint ≡ true
  pub first : list_any (is_open_to_read (front ++ endpoint ∷ back)) front ≡ false
  pub alive : list_any is_over (front ++ endpoint ∷ back) ≡ false

-- how many are readable
abbrev pub readable_count : List (ℕ × Endpoint) → ℕ
readable_count [] = 0
readable_count (entry ∷ entries) = (if entry.1.is_readable then 1 else 0) + readable_count entries

-- what is kept once out of memory: something that the wire told or gave may not have been heard
abbrev pub Loose : Table → Option Calls → Type 0
Loose table told = (owed : Option Heard) × Rests owed table told
