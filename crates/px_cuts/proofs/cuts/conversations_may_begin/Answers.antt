use Rattle.px_cuts.proofs.PlaceLaws.{begins}
use Rattle.px_cuts.proofs.cuts.conversations_may_begin.Goals as goal

pub returns : goal.returns
returns c = λ made at below. begins made at below
