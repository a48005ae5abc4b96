use Rattle.std.proofs.Common.{length}
use Rattle.px_read.proofs.RequestListLemmas.{whole_within}
use Rattle.px_read.proofs.laws.whole_requests_are_within.Goals as goal

pub returns : goal.returns
returns c bytes = whole_within (length bytes) bytes
