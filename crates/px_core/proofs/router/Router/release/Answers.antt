use Rattle.std.proofs.Common.{sym}
use Rattle.px_core.proofs.AnswerLemmas.{after_none}
use Rattle.px_core.proofs.OperateLemmas.{no_such_flow}
use Rattle.px_core.proofs.router.Router.release.Goals as goal

pub returns-else-shows-clause-refused : goal.returns-else-shows-clause-refused
returns-else-shows-clause-refused g c = λ due course trace stands other.
    no_such_flow g.C.Conversation.stands g.C.Conversation.awaited g.C.Conversation.number g.C.Owes.due g.met.C.Owes.gave g.C.Owes.grows g.A.Answerer.answers due c.args.self.now.table trace c.args.id _ stands (sym c.if-shows.ensures)

pub returns-else-shows-clause-files : goal.returns-else-shows-clause-files
returns-else-shows-clause-files g c = after_none _
