use Rattle.std.proofs.Common.{refl}
use Rattle.std.specs.Fmt.{digits}
use Rattle.px_examples.proofs.settled.requests_are_settled.Goals as goal

pub returns : goal.returns
unfolding digits
returns c = refl
