use Rattle.px_relay.specs.Laws.{so_far_grows}
use Rattle.px_relay.proofs.laws.waiting_grows.Goals as goal

pub returns : goal.returns
returns c = so_far_grows
