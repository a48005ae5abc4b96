use Rattle.px_relay.proofs.OrderLemmas.{keeps_order}
use Rattle.px_relay.proofs.laws.control_frames_keep_their_order.Goals as goal

pub returns : goal.returns
returns c = keeps_order
