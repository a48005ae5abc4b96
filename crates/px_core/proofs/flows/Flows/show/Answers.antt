use Rattle.px_core.proofs.FlowsLemmas.{shows_copy}
use Rattle.px_core.proofs.flows.Flows.show.Goals as goal

pub returns-in-Ok : goal.returns-in-Ok
returns-in-Ok c = record { shows = shows_copy c.args.self.now (record { asked = c.insert.new.self }) c.args.flow.now c.in_ok-copy.copy c.in_ok-copy.ensures c.in-Ok.ensures.updates }
