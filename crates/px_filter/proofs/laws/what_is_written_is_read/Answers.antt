use Rattle.px_filter.proofs.WrittenLemmas.{written_read}
use Rattle.px_filter.proofs.laws.what_is_written_is_read.Goals as goal

pub returns : goal.returns
returns c = written_read
