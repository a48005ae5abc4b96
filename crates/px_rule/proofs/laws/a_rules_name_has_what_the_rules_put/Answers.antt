use Rattle.px_rule.proofs.LawLemmas as lemmas
use Rattle.px_rule.proofs.laws.a_rules_name_has_what_the_rules_put.Goals as goal

pub returns : goal.returns
returns c = lemmas.ruled
