use Rattle.px_tunnel.specs.Laws.{settles}
use Rattle.px_tunnel.proofs.laws.passing_settles.Goals as goal

pub returns : goal.returns
returns c = settles
