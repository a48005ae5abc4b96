use Rattle.std.proofs.Common.{◌⊎◌, ℕ, ◌-◌, length, drop, nat_eq}
use Rattle.std.specs.HashMap.{get}
use Rattle.px_wire.specs.Holds.{IsIn, AllTurns, StillReady, IsLookedAt}
use Rattle.px_wire.proofs.endpoints.gather_all.Given as goal

-- what was found ready still is, and what is not left was looked at
abbrev pub invariant-loop-at : goal.invariant-loop-at
invariant-loop-at l = record {
  still : StillReady (λ s. get nat_eq l.by_slot s) l.initial.ready l.ready;
  turned : AllTurns (λ s. get nat_eq l.by_slot s) l.initial.ready → AllTurns (λ s. get nat_eq l.by_slot s) l.ready;
  looked : (slot : ℕ) → IsIn slot l.slots → IsIn slot (drop l.at l.slots) ⊎ IsLookedAt (λ s. get nat_eq l.by_slot s) l.ready slot;
}

abbrev pub decreases-loop-at : goal.decreases-loop-at
decreases-loop-at l = length l.slots - l.at
