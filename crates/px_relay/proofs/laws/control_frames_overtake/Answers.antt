use Rattle.px_relay.proofs.OrderLemmas.{passes_them}
use Rattle.px_relay.proofs.laws.control_frames_overtake.Goals as goal

pub returns : goal.returns
returns c = passes_them
