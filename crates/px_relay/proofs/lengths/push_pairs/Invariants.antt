use Rattle.px_relay.proofs.LengthLemmas.{Parted}
use Rattle.px_relay.proofs.lengths.push_pairs.Given as goal

abbrev pub invariant-parts : goal.invariant-parts
invariant-parts l = Parted l.length l.left l.initial.pairs l.pairs

abbrev pub decreases-parts : goal.decreases-parts
decreases-parts l = l.left
