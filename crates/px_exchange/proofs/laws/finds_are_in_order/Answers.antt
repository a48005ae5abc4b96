use Rattle.px_exchange.proofs.OrderLemmas.{answer_ends, body_ends, head_ends, returned_ends}
use Rattle.px_exchange.proofs.laws.finds_are_in_order.Goals as goal

pub returns-clause-head : goal.returns-clause-head
returns-clause-head c = λ terms index item moment parked closed. head_ends terms index item moment parked closed

pub returns-clause-body : goal.returns-clause-body
returns-clause-body c = λ flow item moment parked closed. body_ends flow item moment parked closed

pub returns-clause-answer : goal.returns-clause-answer
returns-clause-answer c = λ flow item moment used closed. answer_ends flow item moment used closed

pub returns-clause-returned : goal.returns-clause-returned
returns-clause-returned c = λ flow item moment used closed. returned_ends flow item moment used closed
