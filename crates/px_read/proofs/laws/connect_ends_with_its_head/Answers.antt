use Rattle.px_read.proofs.TunnelLemmas.{connect-ends}
use Rattle.px_read.proofs.laws.connect_ends_with_its_head.Goals as goal

pub returns : goal.returns
returns c = connect-ends
