use Rattle.px_frame.proofs.FramesLemmas.{all_read}
use Rattle.px_frame.proofs.laws.all_is_read.Goals as goal

pub returns : goal.returns
returns c = all_read
