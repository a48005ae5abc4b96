use Rattle.std.proofs.Common.{subst}
use Rattle.std.proofs.lemmas.Result.{on_ok_weaker}
use Rattle.px_relay.specs.declared.peer.Peer.TheVariants.{Server}
use Rattle.px_relay.specs.Stands.{Drains}
use Rattle.px_relay.proofs.GoesLemmas.{server_rests, server_stops}
use Rattle.px_relay.proofs.layer.WsLayer.go_on_server.Goals as goal

pub returns-then-not-branch-clause-goes : goal.returns-then-not-branch-clause-goes
returns-then-not-branch-clause-goes c =
    server_stops c.args.self.now c.drain.new.self c.args.out.now.items c.drain.new.out.items
    (subst (λ b. Drains Server c.args.self.now c.drain.new.self b c.args.out.now.items c.drain.new.out.items) c.if-not-branch.true c.in_ok-drain.ensures.drains)

pub returns-clause-goes : goal.returns-clause-goes
returns-clause-goes c =
    on_ok_weaker c.come_to_rest.result
    (server_rests c.args.self.now c.drain.new.self c.come_to_rest.new.self c.args.out.now.items c.drain.new.out.items c.come_to_rest.new.out.items
    (subst (λ b. Drains Server c.args.self.now c.drain.new.self b c.args.out.now.items c.drain.new.out.items) c.if-not-branch.false c.in_ok-drain.ensures.drains))
    c.come_to_rest.ensures.comes
