use Rattle.std.proofs.Common.{ap, sym, ◌++◌, ◌∙◌}
use Rattle.px_message.specs.declared.fault.Fault.TheVariants.{UpstreamRefused}
use Rattle.px_exchange.specs.Endings.{ends_by_fault}
use Rattle.px_http.specs.declared.conversation.HttpConv.{HttpConv}
use Rattle.px_stream.specs.Tells.{dialled_flow}
use Rattle.px_stack.proofs.LetLemmas.{none_dialled, same_flow}
use Rattle.px_stack.proofs.stack.refuse_flow.Goals as goal

pub returns-clause-gives : goal.returns-clause-gives
returns-clause-gives c = λ flow dialled.
    c.in_ok-end_by_fault-in-Some.ensures
    ∙ ap (λ f. c.args.out.now.items ++ ends_by_fault f UpstreamRefused c.args.now.moment c.args.used c.args.now.client_closed)
    (same_flow c.in-Some.flow flow
    (sym c.in-Some.is ∙ (c.into_dialled.ensures ∙ (ap (λ (h : HttpConv). dialled_flow h.stream.phase) c.into_inner.ensures ∙ dialled))))

pub unreachable-requires : goal.unreachable-requires
unreachable-requires c =
    none_dialled c.args.http.value.stream.phase c.requires.waits
    (ap (λ (h : HttpConv). dialled_flow h.stream.phase) (sym c.into_inner.ensures) ∙ (sym c.into_dialled.ensures ∙ c.in-None.is))
