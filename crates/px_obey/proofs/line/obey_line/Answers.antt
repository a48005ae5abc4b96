use Rattle.std.proofs.Common.{ap, sym, ◌∙◌}
use Rattle.std.proofs.lemmas.Result.{IfOk-weaker, on_err_weaker}
use Rattle.px_view.specs.declared.desk.Line.TheVariants as line
use Rattle.px_obey.proofs.OrderLemmas.{breaks_line, breaks_long, goes_line, goes_long, rests}
use Rattle.px_obey.proofs.line.obey_line.Goals as goal

pub returns-in-TooLong-clause-ok : goal.returns-in-TooLong-clause-ok
returns-in-TooLong-clause-ok g c = IfOk-weaker c.close_long.result _ _ (λ outcome long. goes_line c.args.conv c.args.line.now line.TooLong outcome c.in-TooLong.is (goes_long c.args.conv outcome long)) c.close_long.ensures.ok

pub returns-in-TooLong-clause-err : goal.returns-in-TooLong-clause-err
returns-in-TooLong-clause-err g c = on_err_weaker c.close_long.result (λ long. breaks_line c.args.conv c.args.line.now line.TooLong c.in-TooLong.is (breaks_long c.args.conv (rests g.C.Conversation.stands g.C.Conversation.awaited g.C.Conversation.number g.C.Owes.due g.A.Answerer.answers _ _) long)) c.close_long.ensures.err

pub returns-in-Text-clause-ok : goal.returns-in-Text-clause-ok
returns-in-Text-clause-ok g c = IfOk-weaker c.obey_text.result _ _
    (λ outcome goes. goes_line c.args.conv c.args.line.now (line.Text c.as_slice.result.now) outcome (c.in-Text.is ∙ ap (λ t. line.Text t) (sym c.as_slice.ensures)) goes) c.obey_text.ensures.ok

pub returns-in-Text-clause-err : goal.returns-in-Text-clause-err
returns-in-Text-clause-err g c = on_err_weaker c.obey_text.result
    (breaks_line c.args.conv c.args.line.now (line.Text c.as_slice.result.now) (c.in-Text.is ∙ ap (λ t. line.Text t) (sym c.as_slice.ensures))) c.obey_text.ensures.err
