use Rattle.px_filter.proofs.GrammarLemmas.{one_expression}
use Rattle.px_filter.proofs.laws.each_text_has_one_expression.Goals as goal

pub returns : goal.returns
returns c = one_expression
