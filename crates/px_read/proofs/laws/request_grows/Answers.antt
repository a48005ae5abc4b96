use Rattle.px_read.proofs.GrowthLemmas.{request_grows}
use Rattle.px_read.proofs.LawLemmas.{chunk_laws}
use Rattle.px_read.proofs.laws.request_grows.Goals as goal

pub returns : goal.returns
returns c bytes more = (request_grows chunk_laws bytes more).marks
