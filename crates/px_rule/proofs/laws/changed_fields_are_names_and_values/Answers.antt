use Rattle.px_rule.proofs.LawLemmas as lemmas
use Rattle.px_rule.proofs.laws.changed_fields_are_names_and_values.Goals as goal

pub returns : goal.returns
returns c = lemmas.changed_valid
