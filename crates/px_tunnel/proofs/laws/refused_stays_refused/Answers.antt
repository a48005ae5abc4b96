use Rattle.px_tunnel.proofs.UpstreamLemmas.{refused_stays}
use Rattle.px_tunnel.proofs.laws.refused_stays_refused.Goals as goal

pub returns : goal.returns
returns c = refused_stays
