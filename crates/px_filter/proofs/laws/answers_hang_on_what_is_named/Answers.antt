use Rattle.px_filter.proofs.HoldLemmas.{same_holds}
use Rattle.px_filter.proofs.laws.answers_hang_on_what_is_named.Goals as goal

pub returns : goal.returns
returns c = same_holds
