use Rattle.px_tnet.specs.Items.{most_deep}
use Rattle.px_tnet.proofs.OneLemmas.{read_or_refused}
use Rattle.px_tnet.proofs.laws.what_is_read_is_not_refused.Goals as goal

pub returns : goal.returns
returns c tree text rest cause = read_or_refused most_deep tree text rest cause
