use Rattle.px_frame.proofs.FrontLemmas.{stands_stays}
use Rattle.px_frame.proofs.laws.frames_stay.Goals as goal

pub returns : goal.returns
returns c = stands_stays
