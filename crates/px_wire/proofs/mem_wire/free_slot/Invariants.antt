use Rattle.std.proofs.Common.{◌≡◌, ◌<◌, ◌≤◌, ◌-◌, ◌^◌, ℕ, true}
use Rattle.px_wire.specs.MemWire.{first_dialled, in_use}
use Rattle.px_wire.proofs.mem_wire.free_slot.Given as goal

-- those before it are in use
abbrev pub invariant-loop-slot : goal.invariant-loop-slot
invariant-loop-slot l = record {
  for_dials : first_dialled ≤ l.slot;
  least : (other : ℕ) → first_dialled ≤ other → other < l.slot → in_use l.slots other ≡ true;
}

abbrev pub decreases-loop-slot : goal.decreases-loop-slot
decreases-loop-slot l = 2 ^ 32 - l.slot
