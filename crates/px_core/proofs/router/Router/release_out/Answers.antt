use Rattle.px_core.proofs.OperateLemmas.{operates_out}
use Rattle.px_core.proofs.router.Router.release_out.Goals as goal

pub returns-clause-operates : goal.returns-clause-operates
returns-clause-operates g c =
    operates_out g.C.Conversation.stands g.C.Conversation.awaited g.C.Conversation.number g.C.Owes.due g.met.C.Owes.gave g.C.Owes.grows g.A.Answerer.answers c.args.call.moment c.args.operation.now c.args.self.now.table _ _ _ _ _ c.new-steps.ensures.items c.in_ok-append.ensures.items c.in_ok-release_in.ensures.operates
