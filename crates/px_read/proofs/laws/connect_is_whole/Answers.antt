use Rattle.px_read.proofs.TunnelLemmas.{connect-whole}
use Rattle.px_read.proofs.laws.connect_is_whole.Goals as goal

pub returns : goal.returns
returns c = connect-whole
