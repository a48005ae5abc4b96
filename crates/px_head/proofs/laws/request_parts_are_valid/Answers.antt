use Rattle.px_head.proofs.FrontLemmas.{request_parts_valid}
use Rattle.px_head.proofs.laws.request_parts_are_valid.Goals as goal

pub returns : goal.returns
returns c = request_parts_valid
