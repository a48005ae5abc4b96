use Rattle.px_stream.proofs.HearLemmas.{place_on, ready_on, strays_on}
use Rattle.px_stream.proofs.laws.readers_follow.Goals as goal

pub returns-clause-ready : goal.returns-clause-ready
returns-clause-ready c = ready_on

pub returns-clause-strays : goal.returns-clause-strays
returns-clause-strays c = strays_on

pub returns-clause-place : goal.returns-clause-place
returns-clause-place c = place_on
