use Rattle.std.proofs.Common.{◌∙◌, ap, is_some}
use Rattle.px_core.proofs.StandsLemmas.{known_begun}
use Rattle.px_core.proofs.router.Router.knows.Goals as goal

pub returns-clause-begun : goal.returns-clause-begun
returns-clause-begun g c = λ due course files trace stands.
    c.is_some.ensures ∙ (ap is_some c.place.ensures.place
    ∙ known_begun g.C.Conversation.stands g.C.Conversation.awaited g.C.Conversation.number g.C.Owes.due g.A.Answerer.answers due c.args.self.now.table trace c.args.conv stands)
