use Rattle.px_read.proofs.ReaderLemmas.{end-whole}
use Rattle.px_read.proofs.laws.end_is_whole.Goals as goal

pub returns : goal.returns
returns c = end-whole
