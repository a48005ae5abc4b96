use Rattle.px_tunnel.proofs.UpstreamLemmas.{granted_stays}
use Rattle.px_tunnel.proofs.laws.granted_stays_granted.Goals as goal

pub returns : goal.returns
returns c = granted_stays
