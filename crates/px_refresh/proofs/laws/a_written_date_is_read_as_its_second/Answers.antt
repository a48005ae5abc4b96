use Rattle.px_refresh.proofs.DateLemmas.{date_is_read}
use Rattle.px_refresh.proofs.laws.a_written_date_is_read_as_its_second.Goals as goal

pub returns : goal.returns
returns c second below = date_is_read second below
