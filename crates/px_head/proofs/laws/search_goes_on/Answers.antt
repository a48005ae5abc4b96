use Rattle.px_head.proofs.SearchLemmas.{first_looks, next_looks}
use Rattle.px_head.proofs.laws.search_goes_on.Goals as goal

pub returns : goal.returns
returns c = (first_looks, next_looks)
