use Rattle.px_frame.proofs.FramesLemmas.{cuts_hidden}
use Rattle.px_frame.proofs.laws.cuts_do_not_show.Goals as goal

pub returns : goal.returns
returns c = cuts_hidden
