use Rattle.px_stack.proofs.GoalLemmas.{flow_heard, tunnel_left_alike, tunnel_result}
use Rattle.px_stack.proofs.LetLemmas.{flow_somewhere, flow_waits}
use Rattle.px_http.specs.declared.conversation.HttpConv.{HttpConv}
use Rattle.px_stream.specs.Anywhere.{Somewhere}
use Rattle.px_stream.specs.Tells.{IsDialling}
use Rattle.std.proofs.Common.{sym, subst}
use Rattle.px_stack.proofs.reaching.hear_goal.Goals as goal

pub hear_waiting-requires-clause-waits : goal.hear_waiting-requires-clause-waits
hear_waiting-requires-clause-waits c =
    let P : HttpConv → Type 0 = λ h. IsDialling h.stream.phase in
    subst P (sym c.deref_mut.ensures.value) (flow_waits c.args.goal c.in-Flow.http c.in-Flow.is c.requires.there)

pub hear_waiting-requires-clause-somewhere : goal.hear_waiting-requires-clause-somewhere
hear_waiting-requires-clause-somewhere c =
    let P : HttpConv → Type 0 = λ h. Somewhere h.stream in
    subst P (sym c.deref_mut.ensures.value) (flow_somewhere c.args.goal c.in-Flow.http c.in-Flow.is c.requires.there)

pub returns-in-Tunnel-clause-hears : goal.returns-in-Tunnel-clause-hears
returns-in-Tunnel-clause-hears c =
    tunnel_result c.args.goal c.in-Tunnel.opening c.in-Tunnel.closed c.args.event.now c.in-Tunnel.is c.hear_tunnel.result c.hear_tunnel.ensures

pub returns-in-Tunnel-clause-left : goal.returns-in-Tunnel-clause-left
returns-in-Tunnel-clause-left c = tunnel_left_alike c.args.goal c.in-Tunnel.opening c.in-Tunnel.closed c.args.event.now c.in-Tunnel.is c.hear_tunnel.result c.hear_tunnel.ensures

pub returns-in_ok-hear_waiting-in-Flow-clause-hears : goal.returns-in_ok-hear_waiting-in-Flow-clause-hears
returns-in_ok-hear_waiting-in-Flow-clause-hears c =
    flow_heard c.args.goal c.in-Flow.http c.deref_mut.result.now c.hear_waiting.new.self c.args.event.now c.in-Flow.is c.deref_mut.ensures.value
    c.in_ok-hear_waiting-in-Flow.ensures.hears c.in_ok-hear_waiting-in-Flow.ensures.phase
