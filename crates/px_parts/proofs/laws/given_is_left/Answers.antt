use Rattle.px_parts.proofs.GivenLemmas.{given-left}
use Rattle.px_parts.proofs.laws.given_is_left.Goals as goal

pub returns : goal.returns
returns c = given-left
