use Rattle.std.proofs.Common.{length}
use Rattle.px_read.proofs.RequestEndLemmas.{connect_last}
use Rattle.px_read.proofs.laws.connect_is_last.Goals as goal

pub returns : goal.returns
returns c bytes front behind item is connects = connect_last (length bytes) bytes front behind item is connects
