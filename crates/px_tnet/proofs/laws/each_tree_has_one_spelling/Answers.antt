use Rattle.px_tnet.specs.Items.{most_deep}
use Rattle.px_tnet.proofs.SpellLemmas.{spelled}
use Rattle.px_tnet.proofs.laws.each_tree_has_one_spelling.Goals as goal

pub returns : goal.returns
returns c = spelled most_deep
