use Rattle.std.proofs.Common.{[]}
use Rattle.px_event.specs.Chain.{never}
use Rattle.px_event.proofs.Walk.{more_events, more_replies}
use Rattle.px_event.proofs.laws.walks_resume.Goals as goal

pub returns-clause-events : goal.returns-clause-events
returns-clause-events g c = λ chain law start events more replies. more_events chain law replies never [] start [] events more

pub returns-clause-replies : goal.returns-clause-replies
returns-clause-replies g c = λ chain law start events replies more. more_replies chain law replies more never [] start [] events
