use Rattle.std.proofs.Common.{◌≡◌, ◌++◌}
use Rattle.px_relay.specs.Messages.{cut_lengths}
use Rattle.px_relay.proofs.sender.cut_lengths.Given as goal

abbrev pub invariant-cuts : goal.invariant-cuts
invariant-cuts l = l.lengths ++ cut_lengths l.left ≡ cut_lengths l.count

abbrev pub decreases-cuts : goal.decreases-cuts
decreases-cuts l = l.left
