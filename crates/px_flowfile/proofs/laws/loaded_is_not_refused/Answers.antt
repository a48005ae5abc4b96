use Rattle.px_flowfile.proofs.ExactLemmas.{not_refused}
use Rattle.px_flowfile.proofs.laws.loaded_is_not_refused.Goals as goal

pub returns : goal.returns
returns c = not_refused
