use Rattle.std.proofs.Common.{refl}
use Rattle.px_event.specs.Chain.{walk_from}
use Rattle.px_chain.specs.Chain.{http_chain}
use Rattle.px_cuts.specs.Cuts.{as_it_is, piece_at}
use Rattle.px_cuts.proofs.PieceLemmas.{all_may_come, equal}
use Rattle.px_cuts.proofs.CutLemmas.{cut, halves_owe}
use Rattle.px_cuts.proofs.cuts.cut_pieces_owe_the_same.Goals as goal

pub returns-clause-exactly : goal.returns-clause-exactly
returns-clause-exactly c = λ onward made start before after replies stamp side bytes more goes may follows waits.
    let w = walk_from (http_chain onward made) start before replies in
    equal _ _ (cut as_it_is onward goes made start before after replies stamp stamp stamp side bytes more may follows
    (all_may_come (piece_at stamp side more) w.unused waits) refl refl)

pub returns-clause-at_any_moments : goal.returns-clause-at_any_moments
returns-clause-at_any_moments c = λ onward made start before after replies stamp first second side bytes more goes may follows.
    halves_owe onward goes made start may before after replies side stamp first second bytes more follows
