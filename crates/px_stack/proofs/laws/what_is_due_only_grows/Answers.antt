use Rattle.px_stack.specs.Laws.{settles, so_far_grows}
use Rattle.px_stack.proofs.laws.what_is_due_only_grows.Goals as goal

pub returns-clause-settles : goal.returns-clause-settles
returns-clause-settles c = settles

pub returns-clause-grows : goal.returns-clause-grows
returns-clause-grows c = so_far_grows
