use Rattle.std.proofs.Common.{Some, ap, sym, ◌∙◌}
use Rattle.px_core.specs.Router.{found_at, found_by}
use Rattle.px_core.proofs.StandsLemmas.{keeps_little}
use Rattle.px_core.proofs.router.Router.kept.Goals as goal

pub returns-in-Some-clause-bound : goal.returns-in-Some-clause-bound
returns-in-Some-clause-bound g c = λ due course files trace stands keeps.
    let place = sym c.place.ensures.place ∙ (c.in-Some-Live.is ∙ ap Some c.in-Some-Live.field-0-is) in
    let there = ap (found_by c.args.self.now.table.live) place ∙ ap found_at (sym c.in-Some.ensures) in
    keeps_little g.C.Conversation.stands g.C.Conversation.awaited g.C.Conversation.number g.C.Owes.due g.A.Answerer.answers due g.C.Conversation.kept g.C.Conversation.keeps_no_body c.args.self.now.table trace c.args.conv c.in-Some.held.now c.kept.result stands there
    c.kept.ensures.bound c.kept.ensures.kept keeps
