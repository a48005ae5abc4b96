use Rattle.px_tunnel.specs.Laws.{keeps_none}
use Rattle.px_tunnel.proofs.laws.keeps_nothing_once_begun.Goals as goal

pub returns : goal.returns
returns c = keeps_none
