use Rattle.px_rule.proofs.LawLemmas as lemmas
use Rattle.px_rule.proofs.laws.a_header_rule_puts_a_field.Goals as goal

pub returns : goal.returns
returns c = lemmas.header_puts_field
