use Rattle.std.proofs.Common.{◌∙◌}
use Rattle.std.proofs.lemmas.Result.{IfOk-weaker, on_err_weaker}
use Rattle.px_addons.proofs.TurnLemmas.{answered, failed, judging}
use Rattle.px_addons.proofs.chain.ChainAnswerer.answer.Goals as goal

pub returns-in-Ok-clause-answers : goal.returns-in-Ok-clause-answers
returns-in-Ok-clause-answers g c = IfOk-weaker c.answer_by.result _ _
    (λ answer is. answered _ _ _ c.args.self.now.rules c.args.hook c.args.flow _ _ c.args.self.now.replay c.ask_parts.new.replay c.args.self.now.cookies c.ask_parts.new.cookies c.args.self.now.auth c.ask_parts.new.auth
    c.args.self.now.addons.items c.deref_mut.result.now c.parts.result.now
    c.ask_parts.new.draft c.ask_parts.new.addons c.args.self.now.addons.len c.may_stream-streams.result c.allowed_size-draft.result answer c.in-Ok.ensures.moved c.parts.ensures c.deref_mut.ensures.value
    (c.ask_parts.auto.addons ∙ c.deref_mut.ensures.len) c.may_stream-streams.ensures c.allowed_size-draft.ensures is)
    c.answer_by.ensures.answers

pub returns-in-Ok-clause-fails : goal.returns-in-Ok-clause-fails
returns-in-Ok-clause-fails g c = on_err_weaker c.answer_by.result
    (λ judged. judging _ _ _ c.args.self.now.rules c.args.hook c.args.flow _ _ c.args.self.now.replay c.args.self.now.cookies c.args.self.now.auth c.args.self.now.addons.items c.deref_mut.result.now c.parts.result.now
    c.ask_parts.new.draft _ c.in-Ok.ensures.moved c.parts.ensures c.deref_mut.ensures.value judged)
    c.answer_by.ensures.judged

pub returns-in-Err-clause-fails : goal.returns-in-Err-clause-fails
returns-in-Err-clause-fails g c =
    failed _ _ _ c.args.self.now.rules c.args.hook c.args.flow _ _ c.args.self.now.replay c.args.self.now.cookies c.args.self.now.auth c.args.self.now.addons.items c.deref_mut.result.now c.parts.result.now
    c.in-Err.ensures.failed c.parts.ensures c.deref_mut.ensures.value
