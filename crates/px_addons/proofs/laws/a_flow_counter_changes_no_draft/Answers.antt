use Rattle.std.proofs.Common.{ap}
use Rattle.px_core.specs.declared.answerer.Draft.{Draft}
use Rattle.px_addons.proofs.laws.a_flow_counter_changes_no_draft.Goals as goal

pub returns-clause-sizes : goal.returns-clause-sizes
returns-clause-sizes c hook old draft new after moved = ap (λ (d : Draft). d.stream) moved.0
