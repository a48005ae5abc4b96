use Rattle.px_map.proofs.BlockLemmas as lemmas
use Rattle.px_map.proofs.laws.block_rules_that_hold_nowhere_block_nothing.Goals as goal

pub returns : goal.returns
returns c = lemmas.none_decides
