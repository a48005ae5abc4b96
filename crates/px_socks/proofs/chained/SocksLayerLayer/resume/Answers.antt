use Rattle.std.proofs.lemmas.Result.{on_ok_weaker}
use Rattle.px_event.specs.Layer.{Replied}
use Rattle.px_event.proofs.Steps.{sound_after}
use Rattle.px_socks.specs.Stands.{SocksStands}
use Rattle.px_socks.proofs.StandLemmas.{may_answer, reply_goes}
use Rattle.px_socks.proofs.chained.SocksLayerLayer.resume.Goals as goal

pub returns-clause-goes : goal.returns-clause-goes
returns-clause-goes c = on_ok_weaker c.answer.result
    (λ answers. reply_goes c.args.self.now c.answer.new.self c.args._moment c.args.reply c.args.out.now.items c.answer.new.out.items answers
    (may_answer c.args.self.now c.args.reply c.requires.answers))
    c.answer.ensures.answers

pub returns-clause-sound : goal.returns-clause-sound
returns-clause-sound c = on_ok_weaker c.answer.result
    (λ answers. sound_after SocksStands c.args.self.now c.answer.new.self (Replied c.args._moment c.args.reply) c.args.out.now.items c.answer.new.out.items c.requires.sound
    (reply_goes c.args.self.now c.answer.new.self c.args._moment c.args.reply c.args.out.now.items c.answer.new.out.items answers
    (may_answer c.args.self.now c.args.reply c.requires.answers)))
    c.answer.ensures.answers
