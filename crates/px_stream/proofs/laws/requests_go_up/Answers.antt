use Rattle.px_stream.proofs.RequestLemmas.{requests_go_up}
use Rattle.px_stream.proofs.laws.requests_go_up.Goals as goal

pub returns : goal.returns
returns c = requests_go_up
