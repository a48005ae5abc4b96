use Rattle.px_flowfile.proofs.ExactLemmas.{one_refusal}
use Rattle.px_flowfile.proofs.laws.each_tree_has_one_refusal.Goals as goal

pub returns : goal.returns
returns c = one_refusal
