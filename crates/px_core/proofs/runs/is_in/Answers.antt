use Rattle.px_core.proofs.RunsLemmas.{run_tells, none_tells}
use Rattle.px_core.proofs.runs.is_in.Goals as goal

pub returns-in-Some : goal.returns-in-Some
returns-in-Some c = run_tells c.args.lasts.now c.run_at.ensures.ordered c.requires.runs c.args.number c.in-Some.field-0-0 c.in-Some.last c.in-Some.ensures.some

pub returns-in-None : goal.returns-in-None
returns-in-None c = none_tells c.args.lasts.now c.run_at.ensures.ordered c.args.number (c.run_at.ensures.none c.in-None.is)
