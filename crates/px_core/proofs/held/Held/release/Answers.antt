use Rattle.std.proofs.Common.{sym, ◌∙◌}
use Rattle.std.proofs.lemmas.Result.{on_ok_weaker}
use Rattle.px_core.proofs.AnswerLemmas.{after_none}
use Rattle.px_core.proofs.WorkLemmas.{release_works, replied_next}
use Rattle.px_core.proofs.held.Held.release.Goals as goal

pub returns-in_err-reply-clause-files : goal.returns-in_err-reply-clause-files
returns-in_err-reply-clause-files g c = after_none _

pub returns-in_err-open-clause-files : goal.returns-in_err-open-clause-files
returns-in_err-open-clause-files g c = after_none _

pub answer_all-requires-clause-next : goal.answer_all-requires-clause-next
answer_all-requires-clause-next g c = replied_next g.C.Conversation.stands g.C.Conversation.awaited g.C.Conversation.number g.C.Owes.due g.met.C.Owes.gave g.A.Answerer.answers c.args.call.conv c.args.call.moment _ _ _ _ _ _ _ _ _ c.in_ok-open.ensures.replies

pub returns-clause-releases : goal.returns-clause-releases
returns-clause-releases g c = on_ok_weaker c.answer_all.result
    (λ asks. release_works g.C.Conversation.stands g.C.Conversation.awaited g.C.Conversation.number g.C.Owes.due g.met.C.Owes.gave g.A.Answerer.answers c.args.call.conv c.args.call.moment c.args.operation.now c.in-Some-Some.draft c.in-Some-Some.ask _ _
    c.args.self.now c.reply.new.self _ _ _ _ _ _ _ _ _ _ c.requires.waits (sym c.take.ensures.value ∙ c.in-Some-Some.is-1) (sym c.waiting.ensures ∙ c.in-Some-Some.is-0)
    c.in_ok-reply.ensures c.in_ok-open.ensures.number c.in_ok-open.ensures.replies asks)
    c.answer_all.ensures.asks
