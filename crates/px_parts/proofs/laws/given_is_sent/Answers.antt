use Rattle.px_parts.proofs.GivenLemmas.{given-sent}
use Rattle.px_parts.proofs.laws.given_is_sent.Goals as goal

pub returns : goal.returns
returns c = given-sent
