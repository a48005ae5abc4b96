use Rattle.px_chain.proofs.ChainLaws.{settles}
use Rattle.px_chain.proofs.laws.passing_settles.Goals as goal

pub returns : goal.returns
returns c = λ onward made goes. settles onward goes made
