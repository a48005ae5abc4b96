use Rattle.px_socks.proofs.RequestLemmas.{requests_wait}
use Rattle.px_socks.proofs.laws.requests_wait.Goals as goal

pub returns : goal.returns
returns c = requests_wait
