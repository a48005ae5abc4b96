use Rattle.std.proofs.lemmas.Result.{IfOk-weaker}
use Rattle.px_view.specs.declared.command.Order.TheVariants as order
use Rattle.px_view.specs.Answers.{answer_text}
use Rattle.px_core.proofs.RunLemmas.{on_err}
use Rattle.px_obey.proofs.OrderLemmas.{breaks_untexted, goes_texted, rests}
use Rattle.px_obey.proofs.order.act_order.Goals as goal

pub returns-clause-ok : goal.returns-clause-ok
returns-clause-ok g c =
    IfOk-weaker c.line_of.result _ _ (λ text is. goes_texted (order.Act c.args.operation.now) (answer_text c.in_ok-answer.answer) text.items is c.in_ok-answer.ensures.ok) c.line_of.ensures

pub returns-clause-err : goal.returns-clause-err
returns-clause-err g c = on_err c.line_of.result
    (breaks_untexted (order.Act c.args.operation.now) (answer_text c.in_ok-answer.answer) (rests g.C.Conversation.stands g.C.Conversation.awaited g.C.Conversation.number g.C.Owes.due g.A.Answerer.answers _ _) c.in_ok-answer.ensures.ok)
