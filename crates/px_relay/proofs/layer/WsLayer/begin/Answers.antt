use Rattle.std.proofs.lemmas.Result.{on_ok_weaker}
use Rattle.px_relay.proofs.AskLemmas.{begin_asks, begin_somewhere}
use Rattle.px_relay.proofs.HearLemmas.{begins_so}
use Rattle.px_relay.proofs.StandLemmas.{relaying_client, relaying_server}
use Rattle.px_relay.proofs.layer.WsLayer.begin.Goals as goal

pub open-requires-clause-client : goal.open-requires-clause-client
open-requires-clause-client c = relaying_client c.args.self.now c.requires.somewhere c.requires.relaying

pub open-requires-clause-server : goal.open-requires-clause-server
open-requires-clause-server c = relaying_server c.args.self.now c.requires.somewhere c.requires.relaying

pub returns-clause-begins : goal.returns-clause-begins
returns-clause-begins c =
    begins_so c.open.result c.args.moment c.args.shut c.args.self.now c.open.new.self c.args.out.now.items c.open.new.out.items c.open.ensures.opens

pub returns-clause-asks : goal.returns-clause-asks
returns-clause-asks c =
    on_ok_weaker c.open.result
    (begin_asks c.args.moment c.args.shut c.args.self.now c.open.new.self c.args.out.now.items c.open.new.out.items c.requires.somewhere c.requires.relaying)
    (begins_so c.open.result c.args.moment c.args.shut c.args.self.now c.open.new.self c.args.out.now.items c.open.new.out.items c.open.ensures.opens)

pub returns-clause-somewhere : goal.returns-clause-somewhere
returns-clause-somewhere c =
    on_ok_weaker c.open.result
    (begin_somewhere c.args.moment c.args.shut c.args.self.now c.open.new.self c.args.out.now.items c.open.new.out.items c.requires.somewhere c.requires.relaying)
    (begins_so c.open.result c.args.moment c.args.shut c.args.self.now c.open.new.self c.args.out.now.items c.open.new.out.items c.open.ensures.opens)
