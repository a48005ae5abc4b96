use Rattle.px_cuts.proofs.CutLemmas.{compared}
use Rattle.px_cuts.proofs.compared.conversations_are_compared.Goals as goal

pub returns : goal.returns
returns c = λ see onward made goes. compared see onward goes made
