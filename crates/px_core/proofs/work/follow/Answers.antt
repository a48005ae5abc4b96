use Rattle.px_core.proofs.HeardRunLemmas.{heard_none, heard_part}
use Rattle.px_core.proofs.ResultLemmas.{on_ok_both}
use Rattle.px_core.proofs.RunLemmas.{at_err, on_err, on_ok_each, taken_all, taken_front, taken_none, tells_by, tells_none}
use Rattle.px_core.proofs.work.follow.Goals as goal

pub returns-in_err-steps-clause-breaks : goal.returns-in_err-steps-clause-breaks
returns-in_err-steps-clause-breaks g c = λ due course trace told owes stands is.
    on_err c.from_residual.result
    (heard_none g.C.Conversation.stands g.C.Conversation.awaited g.C.Conversation.number g.C.Owes.due g.met.C.Owes.gave g.C.Owes.grows g.A.Answerer.answers g.A.Answerer.fails
    due course _ _ c.args.router.now.table trace told c.args.moment c.args.heard _ stands c.route.ensures.files is)

pub returns-clause-ok : goal.returns-clause-ok
returns-clause-ok g c = λ due course trace owes stands.
    on_ok_each c.tell_all.result
    (λ tells. record { more = c.in_ok-steps.steps.items; own = c.in_ok-steps.ensures.own; holds = c.in_ok-steps.ensures.stands due course trace owes stands; tells = tells })
    c.tell_all.ensures.told

pub returns-clause-breaks : goal.returns-clause-breaks
returns-clause-breaks g c = λ due course trace told owes stands is.
    at_err c.tell_all.result
    (λ part. heard_part g.C.Conversation.stands g.C.Conversation.awaited g.C.Conversation.number g.C.Owes.due g.met.C.Owes.gave g.C.Owes.grows g.A.Answerer.answers g.A.Answerer.fails
    due course _ _ _ c.args.router.now.table _ trace told c.in_ok-steps.steps.items c.args.moment c.args.heard _ _ _ stands (c.in_ok-steps.ensures.stands due course trace owes stands)
    c.route.ensures.files c.in_ok-steps.ensures.own part)
    (c.tell_all.ensures.part told is)

pub returns-clause-taken : goal.returns-clause-taken
returns-clause-taken g c = λ trace told before.
    on_ok_both c.tell_all.result (λ all taken. taken_all trace c.in_ok-steps.steps.items _ _ _ before all taken) (c.tell_all.ensures.told trace told) c.tell_all.ensures.taken

pub returns-in_err-steps-clause-taken_part : goal.returns-in_err-steps-clause-taken_part
returns-in_err-steps-clause-taken_part g c = λ trace told before. on_err c.from_residual.result (taken_none trace _ _ before told)

pub returns-clause-taken_part : goal.returns-clause-taken_part
returns-clause-taken_part g c = λ trace told before. at_err c.tell_all.result (λ part. taken_front trace c.in_ok-steps.steps.items _ _ _ before part) (c.tell_all.ensures.part trace told)

pub returns-in_err-steps-clause-own : goal.returns-in_err-steps-clause-own
returns-in_err-steps-clause-own g c = λ trace told. tells_none c.args.heard trace _ told

pub returns-clause-own : goal.returns-clause-own
returns-clause-own g c = λ trace told.
    tells_by c.tell_all.result c.args.heard trace c.in_ok-steps.steps.items _ _ _
    c.in_ok-steps.ensures.own (c.tell_all.ensures.told _ told) (c.tell_all.ensures.part _ told)
