use Rattle.px_map.proofs.BlockLemmas as lemmas
use Rattle.px_map.proofs.laws.the_first_block_rule_that_holds_decides.Goals as goal

pub returns : goal.returns
returns c = lemmas.first_decides
