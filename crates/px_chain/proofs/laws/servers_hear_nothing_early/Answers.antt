use Rattle.px_chain.proofs.BelowLemmas.{nothing_yet, silent_from, silent_with}
use Rattle.px_chain.proofs.laws.servers_hear_nothing_early.Goals as goal

pub returns-clause-silent : goal.returns-clause-silent
returns-clause-silent c = λ onward made at server moves goes alone first none. silent_from onward goes made at alone first server moves none

pub returns-clause-parked : goal.returns-clause-parked
returns-clause-parked c = λ onward made at server moves goes below few. silent_with onward goes made at below server moves few

pub returns-clause-before_all : goal.returns-clause-before_all
returns-clause-before_all c = λ onward made at goes. nothing_yet onward goes made at
