use Rattle.std.proofs.Common.{◌+◌, ◌≤◌, length, arith}
use Rattle.std.proofs.lemmas.Result.{on_ok_weaker}
use Rattle.px_event.specs.Layer.{Took, weight}
use Rattle.px_event.proofs.Steps.{sound_after}
use Rattle.px_toy.specs.Stands.{EchoStands}
use Rattle.px_toy.proofs.echo.LineEchoLayer.take.Goals as goal

pub returns-clause-goes : goal.returns-clause-goes
returns-clause-goes c = c.hear.ensures.goes c.args._moment

pub returns-clause-sound : goal.returns-clause-sound
returns-clause-sound c = on_ok_weaker c.hear.result
    (sound_after EchoStands c.args.self.now c.hear.new.self (Took c.args._moment c.args.event) c.args.out.now.items c.hear.new.out.items c.requires.sound)
    (c.hear.ensures.goes c.args._moment)

pub returns-clause-asks : goal.returns-clause-asks
returns-clause-asks c = c.hear.ensures.asks

pub returns-clause-left : goal.returns-clause-left
returns-clause-left c = on_ok_weaker c.hear.result (λ (l : length c.hear.new.self.unread.items ≤ length c.args.self.now.unread.items + weight c.args.event). omega arith) c.hear.ensures.left
