use Rattle.px_said.proofs.LineWalk.{sent_begins, sent_exactly}
use Rattle.px_said.proofs.laws.what_goes_on_is_sent_on_as_it_comes.Goals as goal

pub returns-clause-begins : goal.returns-clause-begins
returns-clause-begins c = sent_begins

pub returns-clause-all : goal.returns-clause-all
returns-clause-all c = sent_exactly
