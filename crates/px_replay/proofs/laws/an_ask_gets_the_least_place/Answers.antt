use Rattle.px_replay.proofs.RunLemmas.{replayed}
use Rattle.px_replay.proofs.laws.an_ask_gets_the_least_place.Goals as goal

pub returns : goal.returns
returns c how reuse extra flows asked = replayed how reuse extra flows asked
