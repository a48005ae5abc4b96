use Rattle.std.proofs.Common.{◌≡◌, length}
use Rattle.px_map.specs.Served.{unrooted}
use Rattle.px_map.proofs.served.unrooted.Given as goal

abbrev pub invariant-loop-rest : goal.invariant-loop-rest
invariant-loop-rest l = unrooted l.rest ≡ unrooted l.text

abbrev pub decreases-loop-rest : goal.decreases-loop-rest
decreases-loop-rest l = length l.rest
