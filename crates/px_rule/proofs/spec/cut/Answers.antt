use Rattle.px_rule.proofs.SpecLemmas as lemmas
use Rattle.px_rule.proofs.spec.cut.Goals as goal

pub returns-in-None : goal.returns-in-None
returns-in-None c = lemmas.whole _ _ c.utf8.text c.in-None.ensures.cases

pub returns-in-Some : goal.returns-in-Some
returns-in-Some c = lemmas.cut _ _ _ _ c.ranges.separator.0 c.utf8.text c.in-Some.ensures.cases
