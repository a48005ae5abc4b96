use Rattle.std.proofs.Common.{◌≡◌, true, List, subst}
use Rattle.px_event.specs.Chain.{Timed}
use Rattle.px_event.specs.declared.event.Event.{Event}
use Rattle.px_exchange.specs.declared.terms.Terms.{Terms}
use Rattle.px_chain.specs.Sights.{Standing}
use Rattle.px_http.specs.declared.conversation.HttpConv.{HttpConv}
use Rattle.px_stream.specs.Stands.{IsAt}
use Rattle.px_stream.specs.Tells.{KeepsLittle, keeps_no_body}
use Rattle.px_stack.proofs.HttpLemmas.{http_little}
use Rattle.px_stack.proofs.child.Child.kept.Goals as goal

pub returns-in-Http-clause-bound : goal.returns-in-Http-clause-bound
returns-in-Http-clause-bound c = λ conv client stage prefix is keeps.
    let P : HttpConv → Type 0 = λ h. (made : Terms) (place : Standing) (over : List (Timed Event)) → IsAt made h.stream place over → keeps_no_body h.stream.phase ≡ true → KeepsLittle h.stream in
    http_little conv client c.args.self.now c.in-Http.http stage prefix c.in-Http.is (subst P c.deref.ensures c.kept-in-Http.ensures.there) is keeps
