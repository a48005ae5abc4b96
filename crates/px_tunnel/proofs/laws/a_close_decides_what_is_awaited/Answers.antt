use Rattle.px_tunnel.proofs.UpstreamLemmas.{at_its_close}
use Rattle.px_tunnel.proofs.laws.a_close_decides_what_is_awaited.Goals as goal

pub returns : goal.returns
returns c = at_its_close
