use Rattle.px_rule.proofs.LawLemmas as lemmas
use Rattle.px_rule.proofs.laws.body_rules_that_hold_nowhere_change_nothing.Goals as goal

pub returns : goal.returns
returns c = lemmas.bodies_hold_nowhere
