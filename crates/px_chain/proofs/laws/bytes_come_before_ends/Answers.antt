use Rattle.px_chain.proofs.EndLemmas.{behind_closes, looks_in_order, passes_in_order, turns_in_order}
use Rattle.px_chain.proofs.laws.bytes_come_before_ends.Goals as goal

pub returns-clause-replies : goal.returns-clause-replies
returns-clause-replies c = λ made stage seen answer. turns_in_order made stage seen answer

pub returns-clause-passes : goal.returns-clause-passes
returns-clause-passes c = λ made stage seen. passes_in_order made stage seen

pub returns-clause-ends : goal.returns-clause-ends
returns-clause-ends c = λ made stage seen. looks_in_order made stage seen

pub returns-clause-asks : goal.returns-clause-asks
returns-clause-asks c = λ stage seen. behind_closes stage seen
