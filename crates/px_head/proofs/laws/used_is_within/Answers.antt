use Rattle.px_head.proofs.FrontLemmas.{used-within}
use Rattle.px_head.proofs.laws.used_is_within.Goals as goal

pub returns : goal.returns
returns c = used-within
