use Rattle.std.proofs.lemmas.Result.{on_ok_weaker}
use Rattle.px_core.proofs.AnswerLemmas.{after_none}
use Rattle.px_core.proofs.WorkLemmas.{tell_next, tell_works, works_on}
use Rattle.px_core.proofs.held.Held.work_off.Goals as goal

pub answer_all-requires-clause-next : goal.answer_all-requires-clause-next
answer_all-requires-clause-next g c = tell_next g.C.Conversation.stands g.C.Conversation.awaited g.C.Conversation.number g.C.Owes.due g.met.C.Owes.gave g.A.Answerer.answers c.args.call.conv c.args.self.now c.args.commands.items _ c.requires.named c.requires.ready c.in_ok-open.ensures.asked

pub returns-clause-works : goal.returns-clause-works
returns-clause-works g c = on_ok_weaker c.answer_all.result
    (λ asks. works_on g.C.Conversation.stands g.C.Conversation.awaited g.C.Conversation.number g.C.Owes.due g.met.C.Owes.gave g.A.Answerer.answers c.args.call.conv c.args.call.moment c.args.commands.items c.args.self.now _ _ _ _ _ _ _ _ _ _
    (tell_works g.C.Conversation.stands g.C.Conversation.awaited g.C.Conversation.number g.C.Owes.due g.met.C.Owes.gave g.A.Answerer.answers
    c.args.call.conv c.args.call.moment c.args.self.now _ _ c.args.commands.items _ _ _ c.requires.named c.requires.ready c.in_ok-open.ensures.asked c.in_ok-open.ensures.told c.in_ok-open.ensures.shows) asks)
    c.answer_all.ensures.asks

pub returns-in_err-open-clause-files : goal.returns-in_err-open-clause-files
returns-in_err-open-clause-files g c = after_none _
