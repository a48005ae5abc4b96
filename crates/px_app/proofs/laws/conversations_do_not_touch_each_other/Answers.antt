use Rattle.px_app.proofs.OwnLemmas.{isolated}
use Rattle.px_app.proofs.laws.conversations_do_not_touch_each_other.Goals as goal

pub returns : goal.returns
returns c = λ due trace own. isolated due trace own
