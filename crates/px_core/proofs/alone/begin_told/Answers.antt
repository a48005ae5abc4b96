use Rattle.px_core.proofs.BegunRunLemmas.{begun_all, begun_none, begun_part}
use Rattle.px_core.proofs.ResultLemmas.{on_ok_both}
use Rattle.px_core.proofs.RunLemmas.{at_err, on_err, on_ok_each, taken_all, taken_front, taken_none}
use Rattle.px_core.specs.Router.{RouterStands}
use Rattle.px_core.proofs.alone.begin_told.Goals as goal

pub returns-in_err-steps-clause-breaks : goal.returns-in_err-steps-clause-breaks
returns-in_err-steps-clause-breaks g c = λ due course trace told owes stands now is.
    on_err c.from_residual.result
    (begun_none g.C.Conversation.stands g.C.Conversation.awaited g.C.Conversation.number g.C.Owes.due g.A.Answerer.answers g.A.Answerer.fails
    due course _ _ c.args.router.now.table trace told c.args.conv _ stands c.route_alone.ensures.files is)

pub returns-clause-ok : goal.returns-clause-ok
returns-clause-ok g c = λ due course trace owes stands now.
    on_ok_each c.tell_all.result
    (λ tells. begun_all _ c.args.conv trace c.in_ok-steps.steps.items _ _ c.in_ok-steps.ensures.begun (c.in_ok-steps.ensures.stands due course trace owes stands now) tells)
    c.tell_all.ensures.told

pub returns-clause-breaks : goal.returns-clause-breaks
returns-clause-breaks g c = λ due course trace told owes stands now is.
    at_err c.tell_all.result
    (λ part. begun_part g.C.Conversation.stands g.C.Conversation.awaited g.C.Conversation.number g.C.Owes.due g.A.Answerer.answers g.A.Answerer.fails
    due course _ _ _ c.args.router.now.table _ trace told c.in_ok-steps.steps.items c.args.conv _ _ _ stands (c.in_ok-steps.ensures.stands due course trace owes stands now)
    c.route_alone.ensures.files c.in_ok-steps.ensures.begun part)
    (c.tell_all.ensures.part told is)

pub returns-clause-taken : goal.returns-clause-taken
returns-clause-taken g c = λ trace told before.
    on_ok_both c.tell_all.result (λ all taken. taken_all trace c.in_ok-steps.steps.items _ _ _ before all taken) (c.tell_all.ensures.told trace told) c.tell_all.ensures.taken

pub returns-in_err-steps-clause-taken_part : goal.returns-in_err-steps-clause-taken_part
returns-in_err-steps-clause-taken_part g c = λ trace told before. on_err c.from_residual.result (taken_none trace _ _ before told)

pub returns-clause-taken_part : goal.returns-clause-taken_part
returns-clause-taken_part g c = λ trace told before. at_err c.tell_all.result (λ part. taken_front trace c.in_ok-steps.steps.items _ _ _ before part) (c.tell_all.ensures.part trace told)
