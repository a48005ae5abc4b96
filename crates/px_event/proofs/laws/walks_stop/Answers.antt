use Rattle.std.proofs.Common.{[]}
use Rattle.px_event.specs.Chain.{never}
use Rattle.px_event.proofs.Walk.{stopped}
use Rattle.px_event.proofs.laws.walks_stop.Goals as goal

pub returns : goal.returns
returns g c = λ chain law start events replies. stopped chain law replies never [] start [] events
