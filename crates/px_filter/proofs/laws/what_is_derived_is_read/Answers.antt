use Rattle.px_filter.proofs.GrammarLemmas.{filter_read}
use Rattle.px_filter.proofs.laws.what_is_derived_is_read.Goals as goal

pub returns : goal.returns
returns c = filter_read
