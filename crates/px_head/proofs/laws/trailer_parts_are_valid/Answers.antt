use Rattle.px_head.proofs.FrontLemmas.{trailer_parts_valid}
use Rattle.px_head.proofs.laws.trailer_parts_are_valid.Goals as goal

pub returns : goal.returns
returns c = trailer_parts_valid
