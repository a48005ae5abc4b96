use Rattle.px_read.proofs.ReaderLemmas.{told-read}
use Rattle.px_read.proofs.laws.told_is_read.Goals as goal

pub returns : goal.returns
returns c = told-read
