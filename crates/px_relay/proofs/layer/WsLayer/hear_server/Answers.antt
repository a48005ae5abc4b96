use Rattle.std.proofs.Common.{subst}
use Rattle.px_relay.specs.Calls.{Hears}
use Rattle.px_relay.proofs.HearLemmas.{server_hears}
use Rattle.px_relay.proofs.layer.WsLayer.hear_server.Goals as goal

pub returns-clause-hears : goal.returns-clause-hears
returns-clause-hears c =
    server_hears c.go_on_server.result c.args.self.now c.go_on_server.new.self c.hear.new.self c.args.bytes.now c.args.out.now.items c.go_on_server.new.out.items
    (subst (λ n. Hears c.args.self.now.server c.args.bytes.now n c.hear.new.self) c.left-left.ensures c.in_ok-hear.ensures.hears)
    c.go_on_server.ensures.goes c.go_on_server.ensures.rests
