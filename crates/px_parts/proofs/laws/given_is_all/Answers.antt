use Rattle.px_parts.proofs.GivenLemmas.{given-all}
use Rattle.px_parts.proofs.laws.given_is_all.Goals as goal

pub returns : goal.returns
returns c = given-all
