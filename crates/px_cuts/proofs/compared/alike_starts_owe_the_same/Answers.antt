use Rattle.px_cuts.specs.Cuts.{as_it_is, no_moment}
use Rattle.px_cuts.proofs.CutLemmas.{starts}
use Rattle.px_cuts.proofs.compared.alike_starts_owe_the_same.Goals as goal

pub returns-clause-exactly : goal.returns-clause-exactly
returns-clause-exactly c = λ onward made start other events replies goes place. starts as_it_is onward goes made start other events replies place

pub returns-clause-at_any_moments : goal.returns-clause-at_any_moments
returns-clause-at_any_moments c = λ onward made start other events replies goes place. starts no_moment onward goes made start other events replies place
