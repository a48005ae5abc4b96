use Rattle.px_resend.proofs.SilentLemmas.{nothing_yet, resend_silent}
use Rattle.px_resend.proofs.laws.servers_hear_nothing_early.Goals as goal

pub returns-clause-silent : goal.returns-clause-silent
returns-clause-silent c = resend_silent

pub returns-clause-before_all : goal.returns-clause-before_all
returns-clause-before_all c = nothing_yet
