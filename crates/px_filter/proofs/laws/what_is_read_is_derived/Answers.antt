use Rattle.px_filter.proofs.SoundLemmas.{read_filter}
use Rattle.px_filter.proofs.laws.what_is_read_is_derived.Goals as goal

pub returns : goal.returns
returns c = read_filter
