use Rattle.px_core.proofs.RouteLemmas.{admits_out}
use Rattle.px_core.proofs.AnswerLemmas.{after_none}
use Rattle.px_core.proofs.router.Router.admit.Goals as goal

pub returns-clause-admits : goal.returns-clause-admits
returns-clause-admits g c =
    admits_out g.C.Conversation.stands g.C.Conversation.awaited g.C.Conversation.number g.C.Owes.due g.met.C.Owes.gave g.C.Owes.grows g.A.Answerer.answers c.args.conv c.args.moment c.args.conversation c.args.self.now.table _ _ _ _ _ c.new-steps.ensures.items c.in_ok-append.ensures.items c.in_ok-begin.ensures.admits

pub returns-then-self-clause-files : goal.returns-then-self-clause-files
returns-then-self-clause-files g c = after_none _
