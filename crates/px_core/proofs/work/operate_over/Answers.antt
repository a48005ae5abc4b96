use Rattle.std.proofs.Common.{sym, ◌∙◌}
use Rattle.px_core.proofs.EditLemmas.{refused_as}
use Rattle.px_core.proofs.OperateRunLemmas.{if_err_all}
use Rattle.px_core.proofs.work.operate_over.Goals as goal

pub returns-in-Ok-clause-ok : goal.returns-in-Ok-clause-ok
returns-in-Ok-clause-ok g c = λ due course trace stands now. c.in-Ok.ensures.ok due course trace stands now

pub returns-in-Ok-clause-done : goal.returns-in-Ok-clause-done
returns-in-Ok-clause-done g c = λ due course trace stands. c.in-Ok.ensures.done due course trace stands

pub returns-in-Err-NoMemory-clause-breaks : goal.returns-in-Err-NoMemory-clause-breaks
returns-in-Err-NoMemory-clause-breaks g c = λ due course trace told stands now is.
    if_err_all c.out_of_memory.result _ (c.in-Err-NoMemory.ensures.breaks due course trace told stands now is c.in-Err-NoMemory.field-0-is)

pub returns-in-Err-NoSuchFlow-clause-refused : goal.returns-in-Err-NoSuchFlow-clause-refused
returns-in-Err-NoSuchFlow-clause-refused g c = λ due course trace stands other.
    refused_as g.A.Answerer.answers due (g.A.Answerer.names (g.A.Answerer.state c.args.router.now.answerer)) trace c.args.operation.now _ _ c.in-Err-NoSuchFlow.field-0-is
    (c.in-Err-NoSuchFlow.ensures.refused due course trace stands (λ same. other (sym c.in-Err-NoSuchFlow.field-0-is ∙ same)))

pub returns-in-Err-NotWaiting-clause-refused : goal.returns-in-Err-NotWaiting-clause-refused
returns-in-Err-NotWaiting-clause-refused g c = λ due course trace stands other.
    refused_as g.A.Answerer.answers due (g.A.Answerer.names (g.A.Answerer.state c.args.router.now.answerer)) trace c.args.operation.now _ _ c.in-Err-NotWaiting.field-0-is
    (c.in-Err-NotWaiting.ensures.refused due course trace stands (λ same. other (sym c.in-Err-NotWaiting.field-0-is ∙ same)))

pub returns-in-Err-NotThere-clause-refused : goal.returns-in-Err-NotThere-clause-refused
returns-in-Err-NotThere-clause-refused g c = λ due course trace stands other.
    refused_as g.A.Answerer.answers due (g.A.Answerer.names (g.A.Answerer.state c.args.router.now.answerer)) trace c.args.operation.now _ _ c.in-Err-NotThere.field-0-is
    (c.in-Err-NotThere.ensures.refused due course trace stands (λ same. other (sym c.in-Err-NotThere.field-0-is ∙ same)))

pub returns-in-Err-BadValue-clause-refused : goal.returns-in-Err-BadValue-clause-refused
returns-in-Err-BadValue-clause-refused g c = λ due course trace stands other.
    refused_as g.A.Answerer.answers due (g.A.Answerer.names (g.A.Answerer.state c.args.router.now.answerer)) trace c.args.operation.now _ _ c.in-Err-BadValue.field-0-is
    (c.in-Err-BadValue.ensures.refused due course trace stands (λ same. other (sym c.in-Err-BadValue.field-0-is ∙ same)))

pub returns-in-Err-NoSuchAddon-clause-refused : goal.returns-in-Err-NoSuchAddon-clause-refused
returns-in-Err-NoSuchAddon-clause-refused g c = λ due course trace stands other.
    refused_as g.A.Answerer.answers due (g.A.Answerer.names (g.A.Answerer.state c.args.router.now.answerer)) trace c.args.operation.now _ _ c.in-Err-NoSuchAddon.field-0-is
    (c.in-Err-NoSuchAddon.ensures.refused due course trace stands (λ same. other (sym c.in-Err-NoSuchAddon.field-0-is ∙ same)))
