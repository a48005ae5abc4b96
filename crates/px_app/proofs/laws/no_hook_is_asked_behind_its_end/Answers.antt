use Rattle.px_core.proofs.OrderedLemmas.{in_order}
use Rattle.px_app.specs.Dues.{run_due}
use Rattle.px_app.proofs.OrderLemmas.{run_ordered}
use Rattle.px_app.proofs.laws.no_hook_is_asked_behind_its_end.Goals as goal

pub returns : goal.returns
returns c = λ mode key resent trace within. in_order (run_due mode key resent) (run_ordered mode key resent) trace within
