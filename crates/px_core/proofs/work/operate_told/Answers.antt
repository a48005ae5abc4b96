use Rattle.px_core.proofs.OperateRunLemmas.{adds_all, any_tellable, breaks_none, breaks_part, if_err_of, operated_own}
use Rattle.px_core.proofs.ResultLemmas.{on_ok_both, on_ok_of}
use Rattle.px_core.proofs.RunLemmas.{at_err, on_ok_each, taken_all, taken_front}
use Rattle.px_core.specs.Router.{caused_in}
use Rattle.px_core.proofs.work.operate_told.Goals as goal

pub tell_operated-requires : goal.tell_operated-requires
tell_operated-requires g c = record { tellable = any_tellable (caused_in c.args.operation.now) c.operate.new.out.items (operated_own g.C.Conversation.stands g.C.Conversation.awaited g.C.Conversation.number g.C.Owes.due g.A.Answerer.answers c.args.moment c.args.operation.now c.args.router.now.table c.operate.new.self.table _ c.operate.new.out.items c.new-steps.ensures.items c.in-Ok.ensures.operates) }

pub returns-in-Ok-clause-ok : goal.returns-in-Ok-clause-ok
returns-in-Ok-clause-ok g c = λ due course trace stands now.
    on_ok_each c.tell_operated.result
    (λ tells. adds_all g.C.Conversation.stands g.C.Conversation.awaited g.C.Conversation.number g.C.Owes.due g.A.Answerer.answers c.args.moment c.args.operation.now c.args.router.now.table c.operate.new.self.table _ c.operate.new.out.items _ _ c.new-steps.ensures.items c.in-Ok.ensures.operates due course trace now stands tells)
    c.tell_operated.ensures.told

pub returns-in-Ok-clause-breaks : goal.returns-in-Ok-clause-breaks
returns-in-Ok-clause-breaks g c = λ due course trace told stands now is.
    if_err_of c.tell_operated.result _
    (λ part. breaks_part g.C.Conversation.stands g.C.Conversation.awaited g.C.Conversation.number g.C.Owes.due g.A.Answerer.answers g.A.Answerer.fails c.args.moment c.args.operation.now c.args.router.now.table c.operate.new.self.table _ c.operate.new.out.items _ _ _ _ c.new-steps.ensures.items c.in-Ok.ensures.operates due course trace told now stands c.operate.ensures.files part)
    (c.tell_operated.ensures.part told is)

pub returns-in-Ok-clause-done : goal.returns-in-Ok-clause-done
returns-in-Ok-clause-done g c = λ due course trace stands. on_ok_of c.tell_operated.result (c.in-Ok.ensures.done due course trace stands)

pub returns-in-Ok-clause-taken : goal.returns-in-Ok-clause-taken
returns-in-Ok-clause-taken g c = λ trace told same.
    on_ok_both c.tell_operated.result (λ all taken. taken_all trace c.operate.new.out.items _ _ _ same all taken) (c.tell_operated.ensures.told trace told) c.tell_operated.ensures.taken

pub returns-in-Ok-clause-taken_part : goal.returns-in-Ok-clause-taken_part
returns-in-Ok-clause-taken_part g c = λ trace told same.
    at_err c.tell_operated.result (λ part. taken_front trace c.operate.new.out.items _ _ _ same part) (c.tell_operated.ensures.part trace told)

pub returns-in-Err-clause-breaks : goal.returns-in-Err-clause-breaks
returns-in-Err-clause-breaks g c = λ due course trace told stands now is ran.
    breaks_none g.C.Conversation.stands g.C.Conversation.awaited g.C.Conversation.number g.C.Owes.due g.A.Answerer.answers g.A.Answerer.fails due course _ _ c.args.router.now.table trace told c.args.operation.now _ stands c.operate.ensures.files is
