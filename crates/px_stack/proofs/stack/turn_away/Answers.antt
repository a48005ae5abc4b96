use Rattle.px_stack.proofs.LetLemmas.{away_given, flow_waits, refused_asks, refused_given, refused_left, refuses_asks}
use Rattle.px_message.specs.declared.fault.Fault.TheVariants.{UpstreamRefused}
use Rattle.std.proofs.Common.{false}
use Rattle.px_stack.proofs.stack.turn_away.Goals as goal

pub refuse_flow-requires : goal.refuse_flow-requires
refuse_flow-requires c = record { waits = flow_waits c.args.goal c.in-Flow.http c.in-Flow.is c.requires.there }

pub returns-in_ok-refuse-in-Tunnel-clause-turns_away : goal.returns-in_ok-refuse-in-Tunnel-clause-turns_away
returns-in_ok-refuse-in-Tunnel-clause-turns_away c =
    away_given c.args.goal c.in-Tunnel.opening c.in-Tunnel.closed c.args.used c.args.now.client_closed c.args.now.moment c.args.out.now.items c.refuse.new.out.items c.in-Tunnel.is
    c.in_ok-refuse-in-Tunnel.ensures

pub returns-in_ok-refuse-in-Tunnel-clause-asks : goal.returns-in_ok-refuse-in-Tunnel-clause-asks
returns-in_ok-refuse-in-Tunnel-clause-asks c =
    refuses_asks UpstreamRefused false c.args.used c.args.now.client_closed c.args.out.now.items c.refuse.new.out.items c.in_ok-refuse-in-Tunnel.ensures

pub returns-in-Flow-clause-turns_away : goal.returns-in-Flow-clause-turns_away
returns-in-Flow-clause-turns_away c =
    refused_given c.args.goal c.in-Flow.http c.args.used c.args.now.client_closed c.args.now.moment c.args.out.now.items c.refuse_flow.new.out.items c.refuse_flow.result c.in-Flow.is
    (flow_waits c.args.goal c.in-Flow.http c.in-Flow.is c.requires.there) c.refuse_flow.ensures.over c.refuse_flow.ensures.gives

pub returns-in-Flow-clause-asks : goal.returns-in-Flow-clause-asks
returns-in-Flow-clause-asks c =
    refused_asks c.in-Flow.http c.args.used c.args.now.client_closed c.args.now.moment c.args.out.now.items c.refuse_flow.new.out.items c.refuse_flow.result
    (flow_waits c.args.goal c.in-Flow.http c.in-Flow.is c.requires.there) c.refuse_flow.ensures.over c.refuse_flow.ensures.gives

pub returns-in-Flow-clause-left : goal.returns-in-Flow-clause-left
returns-in-Flow-clause-left c =
    refused_left c.in-Flow.http c.args.used c.args.now.client_closed c.args.now.moment c.args.out.now.items c.refuse_flow.new.out.items c.args.goal c.refuse_flow.result c.refuse_flow.ensures.over
