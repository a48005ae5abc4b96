use Rattle.px_read.proofs.ReaderLemmas.{bad-refused}
use Rattle.px_read.proofs.laws.bad_is_refused.Goals as goal

pub returns : goal.returns
returns c = bad-refused
