use Rattle.px_stack.proofs.SilentLemmas.{mode_nothing_yet, mode_silent}
use Rattle.px_stack.proofs.laws.servers_hear_nothing_early.Goals as goal

pub returns-clause-silent : goal.returns-clause-silent
returns-clause-silent c = mode_silent

pub returns-clause-before_all : goal.returns-clause-before_all
returns-clause-before_all c = mode_nothing_yet
