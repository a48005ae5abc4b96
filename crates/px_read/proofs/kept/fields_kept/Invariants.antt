use Rattle.std.proofs.Common.{◌≡◌, ◌-◌, ◌^◌, min, ◌≤◌, length, take}
use Rattle.px_read.specs.Kept.{fields_keep}
use Rattle.px_read.proofs.kept.fields_kept.Given as goal

-- the size of the fields so far
abbrev pub invariant-loop-at : goal.invariant-loop-at
invariant-loop-at l = (l.at ≤ length l.fields) × (l.size ≡ min (fields_keep (take l.at l.fields)) (2 ^ 64 - 1))

abbrev pub decreases-loop-at : goal.decreases-loop-at
decreases-loop-at l = length l.fields - l.at
