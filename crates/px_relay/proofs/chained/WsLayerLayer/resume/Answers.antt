use Rattle.std.proofs.lemmas.Result.{on_ok_weaker}
use Rattle.px_event.specs.Layer.{Replied}
use Rattle.px_event.proofs.Steps.{sound_after}
use Rattle.px_relay.specs.Stands.{WsStands}
use Rattle.px_relay.proofs.StandLemmas.{asked_goes, may_answer, sound_somewhere}
use Rattle.px_relay.proofs.chained.WsLayerLayer.resume.Goals as goal

pub answer-requires-clause-somewhere : goal.answer-requires-clause-somewhere
answer-requires-clause-somewhere c = sound_somewhere c.args.self.now c.requires.sound

pub answer-requires-clause-asked : goal.answer-requires-clause-asked
answer-requires-clause-asked c = may_answer c.args.self.now c.args.reply c.requires.answers

pub returns-clause-goes : goal.returns-clause-goes
returns-clause-goes c = on_ok_weaker c.answer.result
    (asked_goes c.args.self.now c.answer.new.self c.args.moment c.args.reply c.args.out.now.items c.answer.new.out.items c.requires.answers)
    c.answer.ensures.answers

pub returns-clause-sound : goal.returns-clause-sound
returns-clause-sound c = on_ok_weaker c.answer.result
    (λ answers. sound_after WsStands c.args.self.now c.answer.new.self (Replied c.args.moment c.args.reply) c.args.out.now.items c.answer.new.out.items c.requires.sound
    (asked_goes c.args.self.now c.answer.new.self c.args.moment c.args.reply c.args.out.now.items c.answer.new.out.items c.requires.answers answers))
    c.answer.ensures.answers
