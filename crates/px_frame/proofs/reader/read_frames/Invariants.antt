use Rattle.std.proofs.Common.{length, ◌-◌}
use Rattle.px_frame.proofs.ReadLemmas.{Given}
use Rattle.px_frame.proofs.reader.read_frames.Given as goal

-- the bytes so far gave the frames that were added
abbrev pub invariant-frames : goal.invariant-frames
invariant-frames l = Given l.masked l.fn.at l.bytes l.fn.out.items l.used l.out.items l.at

abbrev pub decreases-frames : goal.decreases-frames
decreases-frames l = length l.bytes - l.used
