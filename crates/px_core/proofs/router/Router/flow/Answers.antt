use Rattle.std.proofs.Common.{◌≡◌, true, sym, ◌∙◌, ap}
use Rattle.std.specs.Prelude.{option_copied}
use Rattle.px_core.specs.Live.{IsLastAsked, is_live}
use Rattle.px_core.proofs.OperateLemmas.{last_asked, not_asked, shown_flow}
use Rattle.px_core.proofs.router.Router.flow.Goals as goal

pub returns-clause-shown : goal.returns-clause-shown
returns-clause-shown g c = λ due course files trace stands.
    shown_flow c.get.result _ (λ flow. (is_live c.args.id trace ≡ true) × IsLastAsked g.A.Answerer.answers due course trace c.args.id flow) c.get.ensures.value
    (λ flow is. last_asked g.C.Conversation.stands g.C.Conversation.awaited g.C.Conversation.number g.C.Owes.due g.met.C.Owes.gave g.C.Owes.grows g.A.Answerer.answers due c.args.self.now.table trace c.args.id flow stands is)

pub returns-clause-none : goal.returns-clause-none
returns-clause-none g c = λ due course files trace stands none.
    not_asked g.C.Conversation.stands g.C.Conversation.awaited g.C.Conversation.number g.C.Owes.due g.met.C.Owes.gave g.C.Owes.grows g.A.Answerer.answers due c.args.self.now.table trace c.args.id stands (sym c.get.ensures.value ∙ ap option_copied none)
