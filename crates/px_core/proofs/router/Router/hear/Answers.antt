use Rattle.std.proofs.Common.{sym, ◌∙◌}
use Rattle.std.proofs.lemmas.Result.{on_ok_weaker}
use Rattle.px_core.proofs.RouteLemmas.{routes_of, routes_none}
use Rattle.px_core.proofs.AnswerLemmas.{after_none}
use Rattle.px_core.specs.Answers.{by_none}
use Rattle.px_core.proofs.router.Router.hear.Goals as goal

pub returns-in-Some-clause-routes : goal.returns-in-Some-clause-routes
returns-in-Some-clause-routes g c = on_ok_weaker c.hand.result
    (routes_of g.C.Conversation.stands g.C.Conversation.awaited g.C.Conversation.number g.C.Owes.due g.met.C.Owes.gave g.C.Owes.grows g.A.Answerer.answers
    c.args.moment c.args.heard c.in-Some.conv c.in-Some.news c.args.self.now.table c.hand.new.self.table _ _ (sym c.news_of.ensures ∙ c.in-Some.is)) c.hand.ensures.hands

pub returns-in-None-clause-routes : goal.returns-in-None-clause-routes
returns-in-None-clause-routes g c =
    routes_none g.C.Conversation.stands g.C.Conversation.awaited g.C.Conversation.number g.C.Owes.due g.met.C.Owes.gave g.C.Owes.grows g.A.Answerer.answers
    c.args.moment c.args.heard c.args.self.now.table _ (sym c.news_of.ensures ∙ c.in-None.is)

pub returns-in-None-clause-files : goal.returns-in-None-clause-files
returns-in-None-clause-files g c = after_none _

pub returns-in-None-clause-given : goal.returns-in-None-clause-given
returns-in-None-clause-given g c = by_none _
