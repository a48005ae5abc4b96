use Rattle.px_read.proofs.ItemLemmas.{response_carries}
use Rattle.px_read.proofs.LawLemmas.{chunk_laws}
use Rattle.px_read.proofs.laws.response_head_stays.Goals as goal

pub returns : goal.returns
returns c asked_head closed bytes more = (response_carries chunk_laws asked_head closed bytes more).head
