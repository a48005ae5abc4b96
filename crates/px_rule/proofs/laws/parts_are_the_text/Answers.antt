use Rattle.px_rule.proofs.LawLemmas as lemmas
use Rattle.px_rule.proofs.laws.parts_are_the_text.Goals as goal

pub returns : goal.returns
returns c = lemmas.split_joined
