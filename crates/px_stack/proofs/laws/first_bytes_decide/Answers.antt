use Rattle.px_stack.proofs.DecideLemmas.{answer_decides, http_stays, raw_stays}
use Rattle.px_stack.proofs.laws.first_bytes_decide.Goals as goal

pub returns-clause-http : goal.returns-clause-http
returns-clause-http c = http_stays

pub returns-clause-raw : goal.returns-clause-raw
returns-clause-raw c = raw_stays

pub returns-clause-answered : goal.returns-clause-answered
returns-clause-answered c = answer_decides
