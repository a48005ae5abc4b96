use Rattle.px_socks.proofs.RequestLemmas.{requests_stay}
use Rattle.px_socks.proofs.laws.requests_stay.Goals as goal

pub returns : goal.returns
returns c = requests_stay
