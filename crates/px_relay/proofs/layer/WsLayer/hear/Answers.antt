use Rattle.std.proofs.lemmas.Result.{on_ok_weaker}
use Rattle.px_relay.proofs.AskLemmas.{event_asks, event_somewhere}
use Rattle.px_relay.proofs.StandLemmas.{relaying_client, relaying_server}
use Rattle.px_relay.proofs.layer.WsLayer.hear.Goals as goal

pub hear_event-requires-clause-client : goal.hear_event-requires-clause-client
hear_event-requires-clause-client c = relaying_client c.args.self.now c.requires.somewhere

pub hear_event-requires-clause-server : goal.hear_event-requires-clause-server
hear_event-requires-clause-server c = relaying_server c.args.self.now c.requires.somewhere

pub returns-clause-asks : goal.returns-clause-asks
returns-clause-asks c =
    on_ok_weaker c.hear_event.result
    (event_asks c.args.moment c.args.event.now c.args.self.now c.hear_event.new.self c.args.out.now.items c.hear_event.new.out.items c.requires.somewhere c.requires.free)
    c.hear_event.ensures.hears

pub returns-clause-somewhere : goal.returns-clause-somewhere
returns-clause-somewhere c =
    on_ok_weaker c.hear_event.result
    (event_somewhere c.args.moment c.args.event.now c.args.self.now c.hear_event.new.self c.args.out.now.items c.hear_event.new.out.items c.requires.somewhere c.requires.free)
    c.hear_event.ensures.hears
