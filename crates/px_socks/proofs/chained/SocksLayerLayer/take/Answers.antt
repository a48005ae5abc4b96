use Rattle.std.proofs.lemmas.Result.{on_ok_weaker}
use Rattle.px_event.specs.Layer.{Took}
use Rattle.px_event.proofs.Steps.{sound_after}
use Rattle.px_socks.specs.Stands.{SocksStands}
use Rattle.px_socks.proofs.StandLemmas.{event_goes}
use Rattle.px_socks.proofs.chained.SocksLayerLayer.take.Goals as goal

pub returns-clause-goes : goal.returns-clause-goes
returns-clause-goes c = on_ok_weaker c.hear.result
    (λ hears. event_goes c.args.self.now c.hear.new.self c.args._moment c.args.event c.args.out.now.items c.hear.new.out.items hears c.requires.free)
    c.hear.ensures.hears

pub returns-clause-sound : goal.returns-clause-sound
returns-clause-sound c = on_ok_weaker c.hear.result
    (λ hears. sound_after SocksStands c.args.self.now c.hear.new.self (Took c.args._moment c.args.event) c.args.out.now.items c.hear.new.out.items c.requires.sound
    (event_goes c.args.self.now c.hear.new.self c.args._moment c.args.event c.args.out.now.items c.hear.new.out.items hears c.requires.free))
    c.hear.ensures.hears
