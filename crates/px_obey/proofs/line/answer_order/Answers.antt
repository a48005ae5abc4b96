use Rattle.px_core.proofs.RunLemmas.{on_err}
use Rattle.px_obey.proofs.OrderLemmas.{breaks_unanswered, goes_answered, rests}
use Rattle.px_obey.proofs.line.answer_order.Goals as goal

pub returns-clause-ok : goal.returns-clause-ok
returns-clause-ok g c = goes_answered c.args.conv c.args.order.now c.in_ok-text.text.items _ c.outcome_of.ensures c.in_ok-text.ensures.ok c.in_ok-say.ensures.ok

pub returns-in_err-say-clause-err : goal.returns-in_err-say-clause-err
returns-in_err-say-clause-err g c = on_err c.from_residual-in_err-say.result (breaks_unanswered c.args.order.now c.in_ok-text.text.items (rests g.C.Conversation.stands g.C.Conversation.awaited g.C.Conversation.number g.C.Owes.due g.A.Answerer.answers _ _) c.in_ok-text.ensures.ok c.in_err-say.ensures.err)
