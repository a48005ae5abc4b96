use Rattle.std.proofs.Common.{◌≡◌, length}
use Rattle.px_relay.specs.Lengths.{lengths_behind}
use Rattle.px_relay.proofs.lengths.next_run.Given as goal

abbrev pub invariant-parts : goal.invariant-parts
invariant-parts l = lengths_behind 0 l.pairs ≡ lengths_behind l.part l.rest

abbrev pub decreases-parts : goal.decreases-parts
decreases-parts l = length l.rest
