use Rattle.std.proofs.Common.{◌≡◌, true, List, subst}
use Rattle.px_event.specs.Chain.{Timed}
use Rattle.px_event.specs.declared.event.Event.{Event}
use Rattle.px_exchange.specs.declared.terms.Terms.{Terms}
use Rattle.px_chain.specs.Sights.{Standing}
use Rattle.px_stream.specs.declared.stream.Stream.{Stream}
use Rattle.px_stream.specs.Stands.{IsAt}
use Rattle.px_stream.specs.Tells.{KeepsLittle, keeps_no_body}
use Rattle.px_resend.proofs.GoingLemmas.{flow_little}
use Rattle.px_resend.proofs.child.Child.kept.Goals as goal

pub returns-in-GoesOn-clause-bound : goal.returns-in-GoesOn-clause-bound
returns-in-GoesOn-clause-bound c = λ terms recorded stage prefix is keeps.
    let P : Stream → Type 0 = λ s. (made : Terms) (place : Standing) (over : List (Timed Event)) → IsAt made s place over → keeps_no_body s.phase ≡ true → KeepsLittle s in
    flow_little terms recorded c.args.self.now c.in-GoesOn.stream stage prefix c.in-GoesOn.is (subst P c.deref.ensures c.kept.ensures.bound) is keeps
