use Rattle.std.proofs.Common.{◌+◌}
use Rattle.px_wire.proofs.lines.hear_once.Goals as goal

pub returns-in_err-heard-clause-kept : goal.returns-in_err-heard-clause-kept
returns-in_err-heard-clause-kept g c = λ past times since. c.in_err-heard.ensures.kept past times (c.in_ok-told.ensures.kept past times since)

pub returns-clause-kept : goal.returns-clause-kept
returns-clause-kept g c = λ past times since. c.in_ok-heard.ensures.kept past times (c.in_ok-told.ensures.kept past times since)

pub returns-clause-answered : goal.returns-clause-answered
returns-clause-answered g c = λ past times since. c.in_ok-heard.ensures.kept past (times + 1) (c.in_ok-told.ensures.answered past times since)
