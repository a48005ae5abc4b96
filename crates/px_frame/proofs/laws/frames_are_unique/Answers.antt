use Rattle.px_frame.proofs.FramesLemmas.{unique}
use Rattle.px_frame.proofs.laws.frames_are_unique.Goals as goal

pub returns : goal.returns
returns c = unique
