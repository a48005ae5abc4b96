use Rattle.std.proofs.Common.{length, ◌-◌, ◌≤◌}
use Rattle.px_read.specs.ChunkLoops.{Waits}
use Rattle.px_read.proofs.chunk_reader.ChunkReader.step.Given as goal

-- the bytes so far told nothing
abbrev pub invariant-loop-at : goal.invariant-loop-at
invariant-loop-at l = (l.at ≤ length l.bytes) × Waits l.fn.self l.bytes l.at l.self

abbrev pub decreases-loop-at : goal.decreases-loop-at
decreases-loop-at l = length l.bytes - l.at
