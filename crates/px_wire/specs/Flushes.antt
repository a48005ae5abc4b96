-- What a flush makes of one slot among those that are kept.
use Rattle.std.specs.Prelude.{◌≡◌, ℕ, ◌<◌, true, List, ◌∷◌, ◌++◌, length, Option}
use Rattle.px_event.specs.declared.heard.Heard.{Heard}
use Rattle.px_wire.specs.declared.endpoint.Flushed.{Flushed}
use Rattle.px_wire.specs.declared.endpoint.Flushed.TheVariants as flushes
use Rattle.px_wire.specs.declared.endpoint.Endpoint.{Endpoint}
use Rattle.px_wire.specs.declared.endpoints.Endpoints.{Endpoints}
use Rattle.px_wire.specs.Calls.{Calls}
use Rattle.px_wire.specs.Holds.{Changes}
use Rattle.px_wire.specs.Puts.{FlushedSo}
use Rattle.px_wire.specs.Stands.{StandsFor, putting, flushed, name_of}

-- the slot has changed, and what was put of what waited is told
pub record Flushes (outcome : Flushed) (slot : ℕ) (endpoint : Endpoint) (old new : Endpoints) (before after : Option Calls) : Type 0 where
  pub changed : Endpoint
  pub changes : Changes old new slot endpoint changed
  pub name : name_of changed ≡ name_of endpoint
  pub turn : changed.turn ≡ endpoint.turn
  pub stands : (owed : Option Heard) (front back : List Endpoint) (accepted moment : ℕ) → StandsFor (putting endpoint.slot) owed (front ++ endpoint ∷ back) accepted moment before →
      StandsFor (flushed endpoint.slot) owed (front ++ changed ∷ back) accepted moment after
  pub does : FlushedSo outcome endpoint.slot endpoint.queue before after
  pub left : outcome ≡ flushes.Blocked → 0 < length changed.queue
  pub over : outcome ≡ flushes.Broken → changed.is_over ≡ true
