use Rattle.px_gen.proofs.HeardLemmas.{ended_run}
use Rattle.px_gen.proofs.laws.an_ended_run_heard_the_script.Goals as goal

pub returns : goal.returns
returns c = record { heard = λ count trace hears ended. ended_run count trace hears ended }
