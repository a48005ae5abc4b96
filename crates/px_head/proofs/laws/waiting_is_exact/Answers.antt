use Rattle.px_head.proofs.SizeLemmas.{waiting-exact}
use Rattle.px_head.proofs.laws.waiting_is_exact.Goals as goal

pub returns : goal.returns
returns c = waiting-exact
