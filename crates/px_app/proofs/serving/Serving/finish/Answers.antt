use Rattle.px_app.proofs.NetLemmas.{on_err}
use Rattle.px_app.proofs.serving.Serving.finish.Goals as goal

pub returns-in_err-over-clause-breaks : goal.returns-in_err-over-clause-breaks
returns-in_err-over-clause-breaks g c = λ due course trace told owes stands operators is.
    on_err c.from_residual.result _ (c.in_err-over.ensures.breaks due course trace told owes stands operators is)
