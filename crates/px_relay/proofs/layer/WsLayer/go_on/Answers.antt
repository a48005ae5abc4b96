use Rattle.std.proofs.Common.{subst}
use Rattle.std.proofs.lemmas.Result.{on_ok_weaker}
use Rattle.px_relay.specs.declared.peer.Peer.TheVariants.{Client}
use Rattle.px_relay.specs.Stands.{Drains}
use Rattle.px_relay.proofs.GoesLemmas.{client_goes, client_stops}
use Rattle.px_relay.proofs.layer.WsLayer.go_on.Goals as goal

pub returns-then-not-branch-clause-goes : goal.returns-then-not-branch-clause-goes
returns-then-not-branch-clause-goes c =
    client_stops c.args.self.now c.drain.new.self c.args.out.now.items c.drain.new.out.items
    (subst (λ b. Drains Client c.args.self.now c.drain.new.self b c.args.out.now.items c.drain.new.out.items) c.if-not-branch.true c.in_ok-drain.ensures.drains)

pub returns-clause-goes : goal.returns-clause-goes
returns-clause-goes c =
    on_ok_weaker c.go_on_server.result
    (client_goes c.args.self.now c.drain.new.self c.hear_pending.new.self c.go_on_server.new.self c.args.out.now.items c.drain.new.out.items c.go_on_server.new.out.items
    (subst (λ b. Drains Client c.args.self.now c.drain.new.self b c.args.out.now.items c.drain.new.out.items) c.if-not-branch.false c.in_ok-drain.ensures.drains)
    c.in_ok-hear_pending.ensures.hears)
    c.go_on_server.ensures.goes
