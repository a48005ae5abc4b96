use Rattle.px_read.proofs.TunnelLemmas.{connect-read}
use Rattle.px_read.proofs.laws.connect_is_read.Goals as goal

pub returns : goal.returns
returns c = connect-read
