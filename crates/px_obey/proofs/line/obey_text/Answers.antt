use Rattle.std.proofs.lemmas.Result.{IfOk-weaker, on_err_weaker}
use Rattle.px_view.specs.declared.desk.Line.TheVariants as line
use Rattle.px_obey.proofs.OrderLemmas.{breaks_ordered, breaks_untold, goes_ordered, goes_wrong, rests}
use Rattle.px_obey.proofs.line.obey_text.Goals as goal

pub returns-in-Ok-clause-ok : goal.returns-in-Ok-clause-ok
returns-in-Ok-clause-ok g c = IfOk-weaker c.answer_order.result _ _ (λ outcome goes. goes_ordered c.args.conv c.args.text.now c.in-Ok.order outcome c.in-Ok.ensures.ok goes) c.answer_order.ensures.ok

pub returns-in-Ok-clause-err : goal.returns-in-Ok-clause-err
returns-in-Ok-clause-err g c = on_err_weaker c.answer_order.result (breaks_ordered c.args.conv c.args.text.now c.in-Ok.order c.in-Ok.ensures.ok) c.answer_order.ensures.err

pub returns-in-Err-clause-ok : goal.returns-in-Err-clause-ok
returns-in-Err-clause-ok g c = IfOk-weaker c.say_wrong.result _ _ (λ outcome wrong. goes_wrong c.args.conv c.args.text.now c.in-Err.error outcome c.in-Err.ensures.refused wrong) c.say_wrong.ensures.ok

pub returns-in-Err-clause-err : goal.returns-in-Err-clause-err
returns-in-Err-clause-err g c = on_err_weaker c.say_wrong.result (breaks_untold c.args.conv (line.Text c.args.text.now) (rests g.C.Conversation.stands g.C.Conversation.awaited g.C.Conversation.number g.C.Owes.due g.A.Answerer.answers _ _)) c.say_wrong.ensures.err
