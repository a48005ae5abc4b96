use Rattle.px_frame.proofs.WrittenLemmas.{written_behind}
use Rattle.px_frame.proofs.laws.written_is_read_behind.Goals as goal

pub returns : goal.returns
returns c = written_behind
