use Rattle.std.proofs.Common.{length, ◌-◌, ◌≤◌}
use Rattle.px_read.specs.ChunkLoops.{FeedsInto}
use Rattle.px_read.proofs.chunk_reader.ChunkReader.feed.Given as goal

-- the bytes so far gave the parts that were added
abbrev pub invariant-loop-step : goal.invariant-loop-step
invariant-loop-step l = (l.at ≤ length l.bytes) × FeedsInto l.fn.self l.bytes l.at l.fn.out.items l.out.items l.self

abbrev pub decreases-loop-step : goal.decreases-loop-step
decreases-loop-step l = length l.bytes - l.at
