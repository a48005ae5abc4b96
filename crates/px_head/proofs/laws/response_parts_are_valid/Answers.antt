use Rattle.px_head.proofs.FrontLemmas.{response_parts_valid}
use Rattle.px_head.proofs.laws.response_parts_are_valid.Goals as goal

pub returns : goal.returns
returns c = response_parts_valid
