use Rattle.std.proofs.Common.{None}
use Rattle.px_core.proofs.FlowsLemmas.{shows_of}
use Rattle.px_core.proofs.flows.Flows.hide.Goals as goal

pub returns : goal.returns
returns c = record { shows = shows_of c.args.self.now (record { asked = c.remove.new.self }) c.args.id.conv c.args.id.index None c.remove.ensures.updates }
