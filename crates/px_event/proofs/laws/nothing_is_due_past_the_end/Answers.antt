use Rattle.std.proofs.Common.{[]}
use Rattle.px_event.specs.Chain.{never}
use Rattle.px_event.proofs.Stops.{behind_end}
use Rattle.px_event.proofs.laws.nothing_is_due_past_the_end.Goals as goal

pub returns : goal.returns
returns g c = λ chain law start events more replies further owed is.
    behind_end chain law replies further never [] start [] events more owed is
