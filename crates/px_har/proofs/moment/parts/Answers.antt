use Rattle.px_har.proofs.DateLemmas.{day_small, month_small}
use Rattle.px_har.proofs.moment.parts.Goals as goal

pub returns-clause-month : goal.returns-clause-month
returns-clause-month c = month_small c.args.date

pub returns-clause-day : goal.returns-clause-day
returns-clause-day c = day_small c.args.date
