use Rattle.std.proofs.Common.{sym, ◌∙◌}
use Rattle.px_stack.proofs.RelayLemmas.{takes_on, takes_over}
use Rattle.px_stack.proofs.relay.relay_takes.Goals as goal

pub returns-in-Some-clause-takes : goal.returns-in-Some-clause-takes
returns-in-Some-clause-takes c =
    takes_over c.args.relay c.args.event.now c.args.out.now.items c.end_relay.new.out.items
    c.in-Some.sides (sym c.closed_by.ensures ∙ c.in-Some.is) c.end_relay.result c.end_relay.ensures.over c.end_relay.ensures.gives

pub returns-in-None-clause-takes : goal.returns-in-None-clause-takes
returns-in-None-clause-takes c =
    takes_on c.args.relay c.args.event.now c.args.out.now.items c.go_on.new.out.items
    (sym c.closed_by.ensures ∙ c.in-None.is) c.go_on.result c.go_on.ensures
