use Rattle.px_rule.proofs.spec.split_rest.Goals as goal

pub returns-in-None : goal.returns-in-None
returns-in-None c = rw (c.in-None.ensures 1)

pub returns-in-Some : goal.returns-in-Some
returns-in-Some c = rw (c.in-Some.ensures.0 0, c.in-Some.ensures.1)
