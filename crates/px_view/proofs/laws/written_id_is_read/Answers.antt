use Rattle.px_view.proofs.IdLemmas.{read_back}
use Rattle.px_view.proofs.laws.written_id_is_read.Goals as goal

pub returns : goal.returns
returns c = read_back
