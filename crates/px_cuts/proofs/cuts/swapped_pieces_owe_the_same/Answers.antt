use Rattle.std.proofs.Common.{refl}
use Rattle.px_event.specs.Chain.{walk_from}
use Rattle.px_chain.specs.Chain.{http_chain}
use Rattle.px_cuts.specs.Cuts.{as_it_is, no_moment, piece_at}
use Rattle.px_cuts.proofs.PieceLemmas.{all_may_come, any_may_come, equal}
use Rattle.px_cuts.proofs.CutLemmas.{swap}
use Rattle.px_cuts.proofs.cuts.swapped_pieces_owe_the_same.Goals as goal

pub returns-clause-exactly : goal.returns-clause-exactly
returns-clause-exactly c = λ onward made start before after replies stamp side other bytes more goes may two aside aside' none heard heard' waits.
    let w = walk_from (http_chain onward made) start before replies in
    equal _ _ (swap as_it_is onward goes made start before after replies stamp stamp side other bytes more may two aside aside' none heard heard'
    (all_may_come (piece_at stamp side bytes) w.unused waits) (all_may_come (piece_at stamp other more) w.unused waits) refl)

pub returns-clause-at_any_moments : goal.returns-clause-at_any_moments
returns-clause-at_any_moments c = λ onward made start before after replies first second side other bytes more goes may two aside aside' none heard heard'.
    let w = walk_from (http_chain onward made) start before replies in
    swap no_moment onward goes made start before after replies first second side other bytes more may two aside aside' none heard heard'
    (any_may_come (piece_at first side bytes) w.unused) (any_may_come (piece_at second other more) w.unused) refl
