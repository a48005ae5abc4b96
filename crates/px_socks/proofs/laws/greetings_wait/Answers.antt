use Rattle.px_socks.proofs.GreetingLemmas.{greetings_wait}
use Rattle.px_socks.proofs.laws.greetings_wait.Goals as goal

pub returns : goal.returns
returns c = greetings_wait
