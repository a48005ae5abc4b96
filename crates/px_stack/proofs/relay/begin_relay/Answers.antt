use Rattle.px_stack.proofs.RelayLemmas.{begins_over, begins_raw, closed_ends, shut_ends}
use Rattle.px_stack.proofs.relay.begin_relay.Goals.{then-sides-via-then-sides, then-sides-via-else-sides+then-sides-2}
use Rattle.px_stack.proofs.relay.begin_relay.Goals as goal

pub returns-then-sides-clause-relays : goal.returns-then-sides-clause-relays
returns-then-sides-clause-relays c =
    begins_over c.args.sides c.args.rests c.args.flow c.in_ok-tunnel.tunnel c.args.out.now.items c.go_on.new.out.items
    c.in_ok-tunnel.ensures.server c.in_ok-tunnel.ensures.rests c.in_ok-go_on.ensures.gives c.end_relay.new.out.items c.end_relay.result
    c.end_relay.ensures.over c.end_relay.ensures.gives
    (elim c.then-sides.branch [
      | then-sides-via-then-sides w ↦ shut_ends c.args.sides w.if-sides.true
      | then-sides-via-else-sides+then-sides-2 w ↦ closed_ends c.args.sides w.if-sides-2.true
    ])

pub returns-clause-relays : goal.returns-clause-relays
returns-clause-relays c =
    begins_raw c.args.sides c.args.rests c.args.flow c.in_ok-tunnel.tunnel c.args.out.now.items c.go_on.new.out.items
    c.in_ok-tunnel.ensures.server c.in_ok-tunnel.ensures.rests c.in_ok-go_on.ensures.gives c.go_on.new.self
    c.go_on.ensures.server c.in_ok-go_on.ensures.rests c.in_ok-go_on.ensures.closed c.if-sides.false c.if-sides-2.false
