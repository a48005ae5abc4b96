use Rattle.px_tnet.specs.Items.{most_deep}
use Rattle.px_tnet.proofs.OneLemmas.{one_tree}
use Rattle.px_tnet.proofs.laws.each_text_has_one_tree.Goals as goal

pub returns : goal.returns
returns c = one_tree most_deep
