use Rattle.std.proofs.Common.{◌≡◌, ℕ, None, length}
use Rattle.px_wire.specs.Asked.{AnsweredSince}
use Rattle.px_wire.specs.Calls.{Calls}
use Rattle.px_wire.specs.Found.{readable_count}
use Rattle.px_wire.specs.Stands.{Rests}
use Rattle.px_wire.proofs.hear.hear_waiting.Given as goal

-- what is kept stands still
abbrev pub invariant-loop-slot : goal.invariant-loop-slot
invariant-loop-slot g l = record {
  stands : Rests None l.initial.table (g.W.Wire.calls l.initial.wire) → Rests None l.table (g.W.Wire.calls l.wire);
  room : length l.room ≡ length l.initial.room;
  steps : g.W.Wire.steps l.wire ≡ g.W.Wire.steps l.initial.wire;
  listening : g.W.Wire.listening l.wire ≡ g.W.Wire.listening l.initial.wire;
  faults : g.W.Wire.faults l.wire ≡ g.W.Wire.faults l.initial.wire;
  kept : (past : Calls) (times : ℕ) → AnsweredSince past times (g.W.Wire.calls l.initial.wire) → AnsweredSince past times (g.W.Wire.calls l.wire);
  asks : g.W.Wire.asks l.wire ≡ g.W.Wire.asks l.initial.wire;
}

abbrev pub decreases-loop-slot : goal.decreases-loop-slot
decreases-loop-slot g l = readable_count l.table.endpoints.by_slot.entries
