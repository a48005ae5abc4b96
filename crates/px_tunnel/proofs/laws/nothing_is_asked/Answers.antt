use Rattle.px_tunnel.specs.Laws.{awaits_what_it_asks}
use Rattle.px_tunnel.proofs.laws.nothing_is_asked.Goals as goal

pub returns : goal.returns
returns c = awaits_what_it_asks
