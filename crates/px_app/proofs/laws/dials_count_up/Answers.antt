use Rattle.px_app.specs.Dues.{run_due}
use Rattle.px_app.proofs.RunServers.{run_counts}
use Rattle.px_app.proofs.ServerLemmas.{always_counts}
use Rattle.px_app.proofs.laws.dials_count_up.Goals as goal

pub returns : goal.returns
returns c = λ mode key resent trace within. always_counts (run_due mode key resent) (run_counts mode key resent) trace within
