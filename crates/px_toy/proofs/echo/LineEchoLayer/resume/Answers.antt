use Rattle.std.proofs.Common.{refl}
use Rattle.std.proofs.lemmas.Result.{on_ok_weaker}
use Rattle.px_event.specs.Layer.{Replied}
use Rattle.px_event.proofs.Steps.{sound_after}
use Rattle.px_toy.specs.Stands.{EchoStands}
use Rattle.px_toy.proofs.echo.LineEchoLayer.resume.Goals as goal

pub returns-clause-goes : goal.returns-clause-goes
returns-clause-goes c = c.answer.ensures.goes c.args._moment

pub returns-clause-sound : goal.returns-clause-sound
returns-clause-sound c = on_ok_weaker c.answer.result
    (sound_after EchoStands c.args.self.now c.answer.new.self (Replied c.args._moment c.args.reply) c.args.out.now.items c.answer.new.out.items c.requires.sound)
    (c.answer.ensures.goes c.args._moment)

pub returns-clause-asks : goal.returns-clause-asks
returns-clause-asks c = c.answer.ensures.asks

pub returns-clause-left : goal.returns-clause-left
returns-clause-left c = c.answer.ensures.left

pub returns-clause-rate : goal.returns-clause-rate
returns-clause-rate c = on_ok_weaker c.answer.result (λ less. refl) c.answer.ensures.left
