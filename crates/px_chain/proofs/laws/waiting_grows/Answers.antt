use Rattle.px_chain.proofs.ChainLaws.{so_far_grows}
use Rattle.px_chain.proofs.laws.waiting_grows.Goals as goal

pub returns : goal.returns
returns c = λ onward made view goes. so_far_grows onward goes made view
