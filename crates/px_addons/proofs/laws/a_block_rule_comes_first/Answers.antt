use Rattle.px_addons.proofs.BlockLemmas.{block_answers, block_failures}
use Rattle.px_addons.proofs.laws.a_block_rule_comes_first.Goals as goal

pub returns-clause-given : goal.returns-clause-given
returns-clause-given g c flow status rules new_rules files new_files old new answer holds given =
    block_answers _ _ _ flow status rules new_rules old new files new_files answer holds given

pub returns-clause-failed : goal.returns-clause-failed
returns-clause-failed g c flow status rules files new_files old holds failed = block_failures _ _ _ flow status rules old files new_files holds failed
