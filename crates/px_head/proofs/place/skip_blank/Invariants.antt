use Rattle.std.proofs.Common.{◌≡◌, ◌≤◌, ◌+◌, ◌-◌, drop, length}
use Rattle.px_head.specs.Front.{blank_lines}
use Rattle.px_head.proofs.place.skip_blank.Given as goal

-- the empty lines from here are the rest of those from the start
abbrev pub invariant-loop-at : goal.invariant-loop-at
invariant-loop-at l =
    (l.at ≤ length l.bytes) × (l.at + blank_lines (drop l.at l.bytes) ≡ blank_lines l.bytes)

abbrev pub decreases-loop-at : goal.decreases-loop-at
decreases-loop-at l = length l.bytes - l.at
