use Rattle.px_text.proofs.NumberLemmas.{number_value_by_cases}
use Rattle.px_text.proofs.number.read_decimal.Goals as goal

pub returns-clause-value : goal.returns-clause-value
returns-clause-value c = number_value_by_cases _ _ _ c.read_number.ensures
