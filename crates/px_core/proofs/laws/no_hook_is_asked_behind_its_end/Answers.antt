use Rattle.px_event.specs.Stands.{events_in, replies_in}
use Rattle.px_core.proofs.OrderedLemmas.{due_ordered, in_order}
use Rattle.px_core.proofs.laws.no_hook_is_asked_behind_its_end.Goals as goal

pub returns-clause-due : goal.returns-clause-due
returns-clause-due g c = λ chain is_stage past leaves start first events replies. due_ordered chain is_stage past leaves start first events replies

pub returns-clause-calls : goal.returns-clause-calls
returns-clause-calls g c = λ chain is_stage past leaves start first moves. due_ordered chain is_stage past leaves start first (events_in 1 moves) (replies_in 1 moves)

pub returns-clause-traces : goal.returns-clause-traces
returns-clause-traces g c = λ due ordered trace within. in_order due ordered trace within
