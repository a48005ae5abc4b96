use Rattle.px_read.proofs.HeedLemmas.{unclosed-fed}
use Rattle.px_read.proofs.laws.fed_behind_close.Goals as goal

pub returns : goal.returns
returns c = unclosed-fed
