use Rattle.px_relay.specs.Laws.{settles}
use Rattle.px_relay.proofs.laws.passing_settles.Goals as goal

pub returns : goal.returns
returns c = settles
