use Rattle.px_rule.proofs.LawLemmas as lemmas
use Rattle.px_rule.proofs.laws.header_rules_that_hold_nowhere_change_nothing.Goals as goal

pub returns : goal.returns
returns c = lemmas.headers_hold_nowhere
