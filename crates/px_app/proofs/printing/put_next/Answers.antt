use Rattle.std.proofs.Common.{inr}
use Rattle.px_app.proofs.PrintLemmas.{at_ok}
use Rattle.px_app.proofs.SavedLemmas.{line_failed, line_whole, puts_flow, puts_line_broke, puts_line_failed}
use Rattle.px_app.proofs.printing.put_next.Goals as goal

pub returns-in-Ok-Whole-clause-puts : goal.returns-in-Ok-Whole-clause-puts
returns-in-Ok-Whole-clause-puts g c =
    puts_flow _ c.args.flow c.save.result _ _ _ _ (line_whole c.in-Ok-Whole.field-0 _ _ _ c.in-Ok-Whole.field-0-is c.in-Ok-Whole.ensures.prints) c.save.ensures.saves

pub returns-in-Ok-Whole-clause-failed : goal.returns-in-Ok-Whole-clause-failed
returns-in-Ok-Whole-clause-failed g c = λ first losing bound bound_losses. at_ok c.save.result _ _ (λ now rose failed. inr (rose failed)) (c.save.ensures.failed losing bound_losses)

pub returns-in-Ok-Failed-clause-puts : goal.returns-in-Ok-Failed-clause-puts
returns-in-Ok-Failed-clause-puts g c =
    puts_line_failed _ c.args.flow _ _ _ (line_failed c.in-Ok-Failed.field-0 _ _ _ c.in-Ok-Failed.field-0-is c.in-Ok-Failed.ensures.prints)

pub returns-in-Err-clause-puts : goal.returns-in-Err-clause-puts
returns-in-Err-clause-puts g c = puts_line_broke _ c.args.flow _ _ _ _ c.in-Err.ensures.err
