use Rattle.std.proofs.Common.{ap, sym, ◌∙◌}
use Rattle.rand_chacha.specs.ChaCha.{key_of}
use Rattle.px_http.specs.declared.conversation.HttpConv.{HttpConv}
use Rattle.px_stack.specs.Chain.{unless_closed}
use Rattle.px_stack.proofs.LetLemmas.{few_let, flow_let, reach_let, tunnel_let}
use Rattle.px_stack.proofs.stack.Stack.let_through.Goals as goal
use Rattle.px_stack.specs.Stack.{visitor_of}

pub tell-requires : goal.tell-requires
tell-requires c = record { few = few_let c.args.server c.in-Tunnel.opening c.in-Tunnel.closed c.args.goal c.args.rest c.args.moment c.in-Tunnel.is c.requires.there }

pub reach-requires : goal.reach-requires
reach-requires c = record {
  there =
      reach_let c.args.server c.in-Flow.http c.args.goal c.args.rest c.unless_closed-rest-in-Flow.result c.args.moment c.in-Flow.is
      (c.unless_closed-rest-in-Flow.ensures ∙ ap (λ b. unless_closed b c.args.rest) (c.client_closed.ensures ∙ ap (λ (h : HttpConv). h.stream.client_closed) c.deref.ensures))
      c.requires.there;
}

pub returns-in-Tunnel-clause-lets_through : goal.returns-in-Tunnel-clause-lets_through
returns-in-Tunnel-clause-lets_through c =
    tunnel_let c.args.self.now.conv (visitor_of c.args.self.now) c.args.server c.args.goal c.args.rest c.unless_closed-rest.result c.args.moment c.tell.result c.in-Tunnel.opening c.in-Tunnel.closed
    c.args.out.now.items c.tell.new.out.items c.in-Tunnel.is c.unless_closed-rest.ensures c.tell.ensures.tells

pub returns-in-Flow-clause-lets_through : goal.returns-in-Flow-clause-lets_through
returns-in-Flow-clause-lets_through c =
    flow_let c.args.self.now.conv (visitor_of c.args.self.now) c.args.server c.args.goal c.args.rest c.unless_closed-rest-in-Flow.result c.args.moment c.reach.result (key_of c.means.result.mask_key) c.in-Flow.http
    c.args.out.now.items c.reach.new.out.items (sym c.means.ensures) c.in-Flow.is
    (c.unless_closed-rest-in-Flow.ensures ∙ ap (λ b. unless_closed b c.args.rest) (c.client_closed.ensures ∙ ap (λ (h : HttpConv). h.stream.client_closed) c.deref.ensures))
    c.reach.ensures.leads
