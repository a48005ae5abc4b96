use Rattle.px_head.proofs.FrontLemmas.{front-stays}
use Rattle.px_head.proofs.laws.front_stays.Goals as goal

pub returns : goal.returns
returns c = front-stays
