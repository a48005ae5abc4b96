use Rattle.px_refresh.proofs.KeyLemmas.{cookie_decides}
use Rattle.px_refresh.proofs.laws.keys_are_compared_whole.Goals as goal

pub returns : goal.returns
returns c a b = cookie_decides a b
