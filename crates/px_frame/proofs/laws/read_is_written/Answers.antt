use Rattle.px_frame.proofs.FormLemmas.{read_written}
use Rattle.px_frame.proofs.laws.read_is_written.Goals as goal

pub returns : goal.returns
returns c = read_written
