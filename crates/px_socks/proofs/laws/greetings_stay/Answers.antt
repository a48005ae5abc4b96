use Rattle.px_socks.proofs.GreetingLemmas.{greetings_stay}
use Rattle.px_socks.proofs.laws.greetings_stay.Goals as goal

pub returns : goal.returns
returns c = greetings_stay
