use Rattle.px_stack.proofs.AnswerLemmas.{unheard}
use Rattle.px_stack.proofs.ProxyLemmas.{mode_one_request}
use Rattle.px_stack.proofs.laws.proxies_answer_first.Goals as goal

pub returns-clause-one : goal.returns-clause-one
returns-clause-one c = mode_one_request

pub returns-clause-unheard : goal.returns-clause-unheard
returns-clause-unheard c = unheard
