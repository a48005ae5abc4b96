use Rattle.px_exchange.proofs.OrderLemmas.{dial_ends, early_ends, fault_ends, finished_ends, refuses_ends}
use Rattle.px_exchange.proofs.laws.ends_are_in_order.Goals as goal

pub returns-clause-early : goal.returns-clause-early
returns-clause-early c = λ flow message moment used closed. early_ends flow message moment used closed

pub returns-clause-fault : goal.returns-clause-fault
returns-clause-fault c = λ flow fault moment used closed. fault_ends flow fault moment used closed

pub returns-clause-refused : goal.returns-clause-refused
returns-clause-refused c = λ fault asked_head parked closed. refuses_ends fault asked_head parked closed

pub returns-clause-finished : goal.returns-clause-finished
returns-clause-finished c = λ flow response used parked stays closed. finished_ends flow response used parked stays closed

pub returns-clause-dial : goal.returns-clause-dial
returns-clause-dial c = λ flow server answer moment closed. dial_ends flow server answer moment closed
