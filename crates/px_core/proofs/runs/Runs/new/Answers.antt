use Rattle.px_core.proofs.RunsLemmas.{no_runs}
use Rattle.px_core.proofs.runs.Runs.new.Goals as goal

pub invariant_of-result : goal.invariant_of-result
invariant_of-result c = no_runs c.new.result c.new.ensures.ordered c.new.ensures.empty
