use Rattle.px_read.proofs.ItemLemmas.{request_carries}
use Rattle.px_read.proofs.LawLemmas.{chunk_laws}
use Rattle.px_read.proofs.laws.request_stays.Goals as goal

pub returns : goal.returns
returns c bytes more = (request_carries chunk_laws bytes more).stays
