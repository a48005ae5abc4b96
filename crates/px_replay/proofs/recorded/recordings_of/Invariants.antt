use Rattle.std.proofs.Common.{◌≡◌}
use Rattle.px_replay.specs.Replaying.{recordings}
use Rattle.px_replay.proofs.recorded.recordings_of.Given as goal

-- the list of the flows so far
abbrev pub invariant-loop-flow : goal.invariant-loop-flow
invariant-loop-flow l = l.made.items ≡ recordings l.fn.how l.yielded
