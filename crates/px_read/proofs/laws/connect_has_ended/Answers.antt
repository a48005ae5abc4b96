use Rattle.px_read.proofs.TunnelLemmas.{connect-ended}
use Rattle.px_read.proofs.laws.connect_has_ended.Goals as goal

pub returns : goal.returns
returns c = connect-ended
