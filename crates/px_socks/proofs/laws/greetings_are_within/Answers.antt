use Rattle.px_socks.proofs.GreetingLemmas.{greetings_within}
use Rattle.px_socks.proofs.laws.greetings_are_within.Goals as goal

pub returns : goal.returns
returns c = greetings_within
