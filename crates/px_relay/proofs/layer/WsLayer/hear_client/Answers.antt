use Rattle.std.proofs.Common.{subst}
use Rattle.px_relay.specs.Calls.{Hears}
use Rattle.px_relay.proofs.HearLemmas.{client_hears}
use Rattle.px_relay.proofs.layer.WsLayer.hear_client.Goals as goal

pub returns-clause-hears : goal.returns-clause-hears
returns-clause-hears c =
    client_hears c.go_on.result c.args.self.now c.go_on.new.self c.hear.new.self c.args.bytes.now c.args.out.now.items c.go_on.new.out.items
    (subst (λ n. Hears c.args.self.now.client c.args.bytes.now n c.hear.new.self) c.left-left.ensures c.in_ok-hear.ensures.hears)
    c.go_on.ensures.goes c.go_on.ensures.rests
