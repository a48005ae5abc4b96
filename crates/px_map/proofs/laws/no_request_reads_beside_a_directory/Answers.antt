use Rattle.px_map.specs.Served.{local_names}
use Rattle.px_map.proofs.LocalLemmas.{answer_begins}
use Rattle.px_map.proofs.WithinLemmas.{reads_stay_within}
use Rattle.px_map.proofs.laws.no_request_reads_beside_a_directory.Goals as goal

pub returns-clause-begun : goal.returns-clause-begun
returns-clause-begun c = reads_stay_within

pub returns-clause-answered : goal.returns-clause-answered
returns-clause-answered c = λ rules flow made answer h. reads_stay_within rules flow made (answer_begins (local_names rules flow) made answer h)
