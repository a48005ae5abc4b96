use Rattle.px_said.proofs.ClosedWalk.{said_begins, said_exactly}
use Rattle.px_said.proofs.laws.what_goes_on_is_sent_on.Goals as goal

pub returns-clause-begins : goal.returns-clause-begins
returns-clause-begins c = λ made here at flows is goes. said_begins made here at flows is goes

pub returns-clause-all : goal.returns-clause-all
returns-clause-all c = λ made here at flows is goes never. said_exactly made here at flows is goes never
