use Rattle.px_rule.proofs.LawLemmas as lemmas
use Rattle.px_rule.proofs.laws.another_name_keeps_its_values.Goals as goal

pub returns : goal.returns
returns c = lemmas.unruled
