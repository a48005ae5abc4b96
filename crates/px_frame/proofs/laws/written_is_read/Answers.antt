use Rattle.px_frame.proofs.WrittenLemmas.{written_read}
use Rattle.px_frame.proofs.laws.written_is_read.Goals as goal

pub returns : goal.returns
returns c = written_read
