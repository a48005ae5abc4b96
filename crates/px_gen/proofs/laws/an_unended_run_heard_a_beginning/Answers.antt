use Rattle.px_gen.proofs.HeardLemmas.{few_heard, unended_run}
use Rattle.px_gen.proofs.laws.an_unended_run_heard_a_beginning.Goals as goal

pub returns-clause-begun : goal.returns-clause-begun
returns-clause-begun c = λ count trace hears ended. unended_run count trace hears ended

pub returns-clause-few : goal.returns-clause-few
returns-clause-few c = λ count trace hears ended. few_heard count trace hears ended
