use Rattle.px_core.proofs.RouteLemmas.{routes_out}
use Rattle.px_core.proofs.AnswerLemmas.{after_none}
use Rattle.px_core.proofs.router.Router.take.Goals as goal

pub returns-clause-routes : goal.returns-clause-routes
returns-clause-routes g c =
    routes_out g.C.Conversation.stands g.C.Conversation.awaited g.C.Conversation.number g.C.Owes.due g.met.C.Owes.gave g.C.Owes.grows g.A.Answerer.answers c.args.moment c.args.heard c.args.self.now.table _ _ _ _ _ c.new-steps.ensures.items c.in_ok-append.ensures.items c.in_ok-hear.ensures.routes

pub returns-then-self-clause-files : goal.returns-then-self-clause-files
returns-then-self-clause-files g c = after_none _
