use Rattle.px_cuts.proofs.CutLemmas.{exactly_joined, joined_but_for_moments}
use Rattle.px_cuts.proofs.cuts.joined_pieces_owe_the_same.Goals as goal

pub returns-clause-exactly : goal.returns-clause-exactly
returns-clause-exactly c = λ onward made start before after replies stamp side first rest goes may none waits.
    exactly_joined onward goes made start may before after replies side stamp first rest none waits

pub returns-clause-at_any_moments : goal.returns-clause-at_any_moments
returns-clause-at_any_moments c = λ onward made start before after replies stamp side first rest goes may none.
    joined_but_for_moments onward goes made start may before after replies side stamp first rest none
