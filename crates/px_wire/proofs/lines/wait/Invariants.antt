use Rattle.std.proofs.Common.{◌≡◌, ℕ, ◌≤◌, ◌<◌, ◌-◌, ◌^◌, None, length}
use Rattle.px_wire.specs.Asked.{AnsweredSince}
use Rattle.px_wire.specs.Calls.{Calls, AsksMore}
use Rattle.px_wire.specs.Stands.{Rests, IsCalm}
use Rattle.px_wire.proofs.lines.wait.Given as goal

-- nothing was heard, and the wire was asked once for each time that is no longer left
abbrev pub invariant-loop-left : goal.invariant-loop-left
invariant-loop-left g l = record {
  stands : Rests None l.initial.table (g.W.Wire.calls l.initial.wire) → Rests None l.table (g.W.Wire.calls l.wire);
  calm : IsCalm l.table.endpoints;
  room : 0 < length l.room;
  steps : g.W.Wire.steps l.wire ≡ g.W.Wire.steps l.initial.wire;
  listening : g.W.Wire.listening l.wire ≡ g.W.Wire.listening l.initial.wire;
  later : g.W.Wire.faults l.initial.wire ≤ g.W.Wire.faults l.wire;
  most : l.left ≤ 2 ^ 64 - 1;
  kept : (past : Calls) (times : ℕ) → AnsweredSince past times (g.W.Wire.calls l.initial.wire) → AnsweredSince past times (g.W.Wire.calls l.wire);
  answered : (past : Calls) → AnsweredSince past 0 (g.W.Wire.calls l.initial.wire) → AnsweredSince past (2 ^ 64 - 1 - l.left) (g.W.Wire.calls l.wire);
  asks : AsksMore (2 ^ 64 - 1 - l.left) (g.W.Wire.asks l.initial.wire) (g.W.Wire.asks l.wire);
}

abbrev pub decreases-loop-left : goal.decreases-loop-left
decreases-loop-left g l = l.left
