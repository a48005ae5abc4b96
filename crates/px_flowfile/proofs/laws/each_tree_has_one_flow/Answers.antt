use Rattle.px_flowfile.proofs.ExactLemmas.{one_flow}
use Rattle.px_flowfile.proofs.laws.each_tree_has_one_flow.Goals as goal

pub returns : goal.returns
returns c = one_flow
