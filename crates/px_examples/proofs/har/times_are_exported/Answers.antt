use Rattle.std.proofs.Common.{refl}
use Rattle.px_har.proofs.OnLiterals.{har_on_literals}
use Rattle.px_examples.proofs.har.times_are_exported.Goals as goal

pub returns : goal.returns
unfolding har_on_literals
returns c = refl
