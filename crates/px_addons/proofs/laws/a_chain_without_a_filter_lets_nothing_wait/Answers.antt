use Rattle.std.proofs.Common.{ap}
use Rattle.px_addons.specs.declared.rules.Rules.{Rules}
use Rattle.px_addons.proofs.WaitLemmas.{nothing_waits}
use Rattle.px_addons.proofs.laws.a_chain_without_a_filter_lets_nothing_wait.Goals as goal

pub returns-clause-nothing : goal.returns-clause-nothing
returns-clause-nothing g c hook flow rules new_rules files new_files old new answer draft none given =
    nothing_waits rules hook given.end draft answer none given.answered

pub returns-clause-stays : goal.returns-clause-stays
returns-clause-stays g c hook flow rules new_rules files new_files old new answer given = ap (λ (r : Rules). r.intercept) given.rules
