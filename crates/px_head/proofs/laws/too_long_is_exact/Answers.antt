use Rattle.px_head.proofs.SizeLemmas.{too_long-exact}
use Rattle.px_head.proofs.laws.too_long_is_exact.Goals as goal

pub returns : goal.returns
returns c = too_long-exact
