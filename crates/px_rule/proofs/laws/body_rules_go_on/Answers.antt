use Rattle.px_rule.proofs.LawLemmas as lemmas
use Rattle.px_rule.proofs.laws.body_rules_go_on.Goals as goal

pub returns : goal.returns
returns c = lemmas.bodies_go_on
