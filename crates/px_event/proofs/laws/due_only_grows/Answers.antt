use Rattle.std.proofs.Common.{[]}
use Rattle.px_event.specs.Chain.{never}
use Rattle.px_event.specs.View.{seen_of}
use Rattle.px_event.proofs.Growth.{grows_by_events, grows_by_replies}
use Rattle.px_event.proofs.Seen.{seen_is_view}
use Rattle.px_event.proofs.laws.due_only_grows.Goals as goal

pub returns-clause-events : goal.returns-clause-events
returns-clause-events g c = λ chain law view grows start events more replies.
    grows_by_events chain (seen_of view) (seen_is_view view) grows law replies never [] start [] events more

pub returns-clause-replies : goal.returns-clause-replies
returns-clause-replies g c = λ chain law view grows start events replies more.
    grows_by_replies chain (seen_of view) (seen_is_view view) grows law replies more never [] start [] events
