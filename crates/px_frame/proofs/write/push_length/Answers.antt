use Rattle.px_text.proofs.PrefixLemmas.{err_nothing}
use Rattle.px_frame.proofs.write.push_length.Goals as goal

pub returns-in_err-push-clause-err : goal.returns-in_err-push-clause-err
returns-in_err-push-clause-err c = err_nothing c.from_residual.result _ _ _ c.in_err-push.ensures.items

pub returns-in_err-push-2-clause-err : goal.returns-in_err-push-2-clause-err
returns-in_err-push-2-clause-err c = err_nothing c.from_residual-in_err-push-2.result _ _ _ c.in_err-push-2.ensures.items
