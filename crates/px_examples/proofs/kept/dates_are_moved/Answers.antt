use Rattle.std.proofs.Common.{refl}
use Rattle.httpdate.proofs.OnLiterals.{httpdate_on_literals}
use Rattle.px_refresh.specs.Date.{days_after}
use Rattle.px_examples.proofs.kept.dates_are_moved.Goals as goal

pub returns : goal.returns
unfolding httpdate_on_literals days_after
returns c = refl
