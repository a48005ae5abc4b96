use Rattle.px_core.proofs.ResultLemmas.{on_ok_both}
use Rattle.px_core.proofs.RouteLemmas.{at_key}
use Rattle.px_core.proofs.NextLemmas.{ended_stays}
use Rattle.px_core.proofs.OperateLemmas.{operates_live_at, operates_ended_at}
use Rattle.px_core.proofs.router.Router.release_in.Goals as goal

pub release_at-requires-clause-held : goal.release_at-requires-clause-held
release_at-requires-clause-held g c =
    at_key g.C.Conversation.stands g.C.Conversation.awaited g.C.Conversation.number g.C.Owes.due g.met.C.Owes.gave g.C.Owes.grows g.A.Answerer.answers c.requires.sound.0 c.args.self.now.table c.requires.sound.3 c.args.call.conv c.args.key c.requires.sound.4 c.requires.place

pub returns-then-over-clause-operates : goal.returns-then-over-clause-operates
returns-then-over-clause-operates g c = on_ok_both c.end.result
    (λ removed noted. operates_ended_at g.C.Conversation.stands g.C.Conversation.awaited g.C.Conversation.number g.C.Owes.due g.met.C.Owes.gave g.C.Owes.grows g.A.Answerer.answers g.C.Conversation.ended (ended_stays g.C.Conversation.stands g.C.Owes.due g.C.Conversation.ended g.C.Owes.is_over g.met.C.Owes.ends g.C.Owes.over) g.met.C.Owes.rests
    c.args.call.moment c.args.key c.args.call.conv c.args.operation.now c.requires.flow.0 c.args.self.now.table c.release_at.new.self.table _ _ _ _ c.requires.flow.1 c.requires.flow.2 c.requires.sound
    c.if-over.true removed c.end.ensures.flows c.requires.place c.in_ok-over.ensures.releases noted) c.end.ensures.live c.end.ensures.places

pub returns-else-over-clause-operates : goal.returns-else-over-clause-operates
returns-else-over-clause-operates g c =
    operates_live_at g.C.Conversation.stands g.C.Conversation.awaited g.C.Conversation.number g.C.Owes.due g.met.C.Owes.gave g.C.Owes.grows g.A.Answerer.answers g.C.Conversation.ended (ended_stays g.C.Conversation.stands g.C.Owes.due g.C.Conversation.ended g.C.Owes.is_over g.met.C.Owes.ends g.C.Owes.over) g.met.C.Owes.rests
    c.args.call.moment c.args.key c.args.call.conv c.args.operation.now c.requires.flow.0 c.args.self.now.table _ _ _ _ c.requires.flow.1 c.requires.flow.2 c.requires.sound c.requires.place c.in_ok-over.ensures.releases
