use Rattle.std.proofs.Common.{refl}
use Rattle.px_said.proofs.FlowPlaces.{flow_begins}
use Rattle.px_said.proofs.WalkLemmas.{all_flows, due_along}
use Rattle.px_said.proofs.laws.what_is_due_goes_on_from_each_place.Goals as goal

pub returns-clause-on : goal.returns-clause-on
returns-clause-on c = due_along

pub returns-clause-moves : goal.returns-clause-moves
returns-clause-moves c = λ made place moves. refl

pub returns-clause-flows : goal.returns-clause-flows
returns-clause-flows c = flow_begins

pub returns-clause-whole : goal.returns-clause-whole
returns-clause-whole c = all_flows
