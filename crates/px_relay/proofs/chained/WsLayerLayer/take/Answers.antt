use Rattle.std.proofs.Common.{◌+◌, ◌≤◌, arith}
use Rattle.std.proofs.lemmas.Result.{on_ok_weaker}
use Rattle.px_event.specs.Layer.{Took, weight}
use Rattle.px_event.proofs.Steps.{sound_after}
use Rattle.px_relay.specs.Kept.{ws_left}
use Rattle.px_relay.specs.Stands.{WsStands}
use Rattle.px_relay.proofs.StandLemmas.{event_goes, sound_somewhere}
use Rattle.px_relay.proofs.chained.WsLayerLayer.take.Goals as goal

pub hear-requires-clause-somewhere : goal.hear-requires-clause-somewhere
hear-requires-clause-somewhere c = sound_somewhere c.args.self.now c.requires.sound

pub returns-clause-goes : goal.returns-clause-goes
returns-clause-goes c = on_ok_weaker c.hear.result
    (event_goes c.args.self.now c.hear.new.self c.args.moment c.args.event c.args.out.now.items c.hear.new.out.items c.requires.free)
    c.hear.ensures.hears

pub returns-clause-sound : goal.returns-clause-sound
returns-clause-sound c = on_ok_weaker c.hear.result
    (λ hears. sound_after WsStands c.args.self.now c.hear.new.self (Took c.args.moment c.args.event) c.args.out.now.items c.hear.new.out.items c.requires.sound
    (event_goes c.args.self.now c.hear.new.self c.args.moment c.args.event c.args.out.now.items c.hear.new.out.items c.requires.free hears))
    c.hear.ensures.hears

pub returns-clause-left : goal.returns-clause-left
returns-clause-left c = on_ok_weaker c.hear.result (λ (l : ws_left c.hear.new.self ≤ ws_left c.args.self.now + weight c.args.event). omega arith) c.hear.ensures.left
