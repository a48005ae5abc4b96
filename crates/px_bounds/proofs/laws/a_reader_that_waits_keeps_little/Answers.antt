use Rattle.px_bounds.proofs.ChunkLemmas.{room_all}
use Rattle.px_bounds.proofs.WaitLemmas.{waits_behind, waits_few}
use Rattle.px_bounds.proofs.laws.a_reader_that_waits_keeps_little.Goals as goal

pub returns-clause-waits : goal.returns-clause-waits
returns-clause-waits c = waits_few

pub returns-clause-more : goal.returns-clause-more
returns-clause-more c = waits_behind

pub returns-clause-room : goal.returns-clause-room
returns-clause-room c = room_all
