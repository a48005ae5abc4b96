use Rattle.std.proofs.Common.{sym}
use Rattle.px_core.proofs.RunsLemmas.{first_alone, first_none}
use Rattle.px_core.proofs.runs.first_of.Goals as goal

pub returns-else-is_next : goal.returns-else-is_next
returns-else-is_next c = first_alone c.args.lasts.now c.run_at.ensures.ordered c.requires.runs c.args.number c.in-Some.first c.in-Some.last c.in-Some.ensures.some (sym c.if-is_next.ensures)

pub returns-in-None : goal.returns-in-None
returns-in-None c = first_none c.args.lasts.now c.run_at.ensures.ordered c.requires.runs c.args.number (c.run_at.ensures.none c.in-None.is)
