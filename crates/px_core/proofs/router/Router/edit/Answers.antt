use Rattle.std.proofs.Common.{sym}
use Rattle.px_core.proofs.EditLemmas.{edit_no_flow}
use Rattle.px_core.proofs.router.Router.edit.Goals as goal

pub returns-else-shows-clause-refused : goal.returns-else-shows-clause-refused
returns-else-shows-clause-refused g c = λ due course now names trace stands other.
    edit_no_flow g.C.Conversation.stands g.C.Conversation.awaited g.C.Conversation.number g.C.Owes.due g.met.C.Owes.gave g.C.Owes.grows g.A.Answerer.answers due names c.args.self.now.table trace c.args.id c.args.change.now stands (sym c.if-shows.ensures)
