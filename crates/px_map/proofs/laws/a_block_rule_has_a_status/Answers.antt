use Rattle.px_map.proofs.BlockLemmas as lemmas
use Rattle.px_map.proofs.laws.a_block_rule_has_a_status.Goals as goal

pub returns : goal.returns
returns c = lemmas.has_status
