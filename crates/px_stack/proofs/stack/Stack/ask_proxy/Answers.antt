use Rattle.std.proofs.Common.{ap, ◌∙◌}
use Rattle.px_chain.specs.Stages.{At}
use Rattle.px_http.specs.declared.conversation.HttpConv.{HttpConv}
use Rattle.px_stack.proofs.AskLemmas.{led_resumed}
use Rattle.px_stack.proofs.stack.Stack.ask_proxy.Goals as goal
use Rattle.px_stack.specs.Stack.{visitor_of}

pub returns-clause-resumes : goal.returns-clause-resumes
returns-clause-resumes c = λ moment.
    led_resumed c.args.self.now.conv (visitor_of c.args.self.now) c.args.http moment c.behind-deref.inside.dials c.client_closed.result c.args.address.now c.new.result c.in_ok-connect_text.field-0
    c.args.out.now.items c.send.new.out.items
    (ap (λ (a : At). a.dials) (c.behind-deref.view_is ∙ c.at.ensures) ∙ ap (λ (h : HttpConv). h.stream.at.dials) c.deref.ensures)
    (c.client_closed.ensures ∙ ap (λ (h : HttpConv). h.stream.client_closed) c.deref-2.ensures) c.requires.leads c.new.ensures.heard c.in_ok-connect_text.ensures.text
    c.in_ok-send.ensures
