use Rattle.px_filter.proofs.MovedLemmas.{moved}
use Rattle.px_filter.proofs.laws.places_change_no_expression.Goals as goal

pub returns : goal.returns
returns c = moved
