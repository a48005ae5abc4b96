use Rattle.px_socks.proofs.RequestLemmas.{requests_within}
use Rattle.px_socks.proofs.laws.requests_are_within.Goals as goal

pub returns : goal.returns
returns c = requests_within
