use Rattle.px_relay.proofs.LengthLemmas.{Run}
use Rattle.px_relay.proofs.lengths.push_run.Given as goal

abbrev pub invariant-runs : goal.invariant-runs
invariant-runs l = Run l.length l.times l.left l.initial.pairs l.pairs

abbrev pub decreases-runs : goal.decreases-runs
decreases-runs l = l.left
