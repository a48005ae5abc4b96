use Rattle.px_cuts.proofs.MomentLemmas.{streams_owe}
use Rattle.px_cuts.proofs.cuts.same_streams_owe_the_same.Goals as goal

pub returns : goal.returns
returns c = λ onward made start these those replies answers goes may same given none none'.
    streams_owe onward goes made start may these those replies answers same given none none'
