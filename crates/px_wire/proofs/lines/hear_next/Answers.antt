use Rattle.px_wire.proofs.lines.hear_next.Goals as goal

pub returns-in-None-clause-kept : goal.returns-in-None-clause-kept
returns-in-None-clause-kept g c = λ past times since. c.wait.ensures.kept past times (c.in_ok-heard.ensures.kept past times since)

pub returns-in-None-clause-answered : goal.returns-in-None-clause-answered
returns-in-None-clause-answered g c = λ past since is. c.wait.ensures.answered past (c.in_ok-heard.ensures.kept past 0 since) is
