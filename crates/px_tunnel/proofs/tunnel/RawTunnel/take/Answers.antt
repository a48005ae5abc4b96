use Rattle.px_tunnel.proofs.TunnelSteps.{asks_none, heard_going, heard_over}
use Rattle.px_tunnel.proofs.tunnel.RawTunnel.take.Goals as goal

pub returns-then-self-clause-goes : goal.returns-then-self-clause-goes
returns-then-self-clause-goes c = λ moment. heard_over c.args.self.now moment c.args.event.now c.args.out.now.items c.if-self.true

pub returns-clause-goes : goal.returns-clause-goes
returns-clause-goes c = λ moment.
    heard_going c.args.self.now c.go_on.new.self moment c.args.event.now c.args.out.now.items c.go_on.new.out.items c.if-self.false
    c.in_ok-go_on.ensures.server c.in_ok-go_on.ensures.rests c.in_ok-go_on.ensures.closed c.in_ok-go_on.ensures.gives

pub returns-clause-asks : goal.returns-clause-asks
returns-clause-asks c =
    asks_none c.args.self.now.server c.args.self.now.rests c.args.event.now c.args.out.now.items c.go_on.new.out.items c.in_ok-go_on.ensures.gives
