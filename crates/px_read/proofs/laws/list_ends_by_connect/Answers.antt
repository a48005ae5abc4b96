use Rattle.std.proofs.Common.{length}
use Rattle.px_read.proofs.RequestEndLemmas.{list_ends}
use Rattle.px_read.proofs.laws.list_ends_by_connect.Goals as goal

pub returns : goal.returns
returns c bytes none = list_ends (length bytes) bytes none
