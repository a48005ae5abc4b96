use Rattle.px_app.proofs.SavedLemmas.{puts_after_failure}
use Rattle.px_app.proofs.printing.Printing.put_flow.Goals as goal

pub returns-in-Failed-clause-puts : goal.returns-in-Failed-clause-puts
returns-in-Failed-clause-puts g c = puts_after_failure _ c.args.self c.args.flow _ _ c.in-Failed.is
