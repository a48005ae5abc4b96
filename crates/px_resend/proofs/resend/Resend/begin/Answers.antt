use Rattle.std.proofs.Common.{[], ◌∷◌, ◌++◌, ap, ◌∙◌}
use Rattle.px_message.specs.declared.flow.Flow.{Flow}
use Rattle.px_message.specs.declared.request.Request.{Request}
use Rattle.px_event.specs.declared.ask.Hook.TheVariants.{RequestHead}
use Rattle.px_exchange.specs.Flows.{ask_of}
use Rattle.px_resend.specs.Chain.{first_flow}
use Rattle.px_resend.specs.Stands.{terms_in}
use Rattle.px_resend.proofs.RequestLemmas.{begins}
use Rattle.px_resend.proofs.resend.Resend.begin.Goals as goal

pub returns-clause-begins : goal.returns-clause-begins
returns-clause-begins c = record {
  more = ask_of c.in_ok-flow.flow RequestHead ∷ [];
  grown = c.in_ok-ask.ensures ∙ ap (λ (f : Flow). c.args.out.now.items ++ ask_of f RequestHead ∷ []) c.deref.ensures;
  holds = λ event. begins (terms_in c.args.self.now) c.args.self.now.request c.in_ok-flow.flow c.args.moment event
      (c.in_ok-flow.ensures ∙ ap (λ (r : Request). first_flow (terms_in c.args.self.now) r c.args.moment) c.get.ensures);
}
