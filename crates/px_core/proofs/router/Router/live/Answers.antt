use Rattle.std.proofs.Common.{◌≡◌, ◌++◌, List, Option, [], ap, sym, ◌∙◌, subst}
use Rattle.std.proofs.lemmas.List.{append-nil}
use Rattle.std.specs.Map.{keys_of}
use Rattle.std.specs.Ordering.{eq_by_cmp}
use Rattle.std.specs.Set.{is_member}
use Rattle.px_message.specs.declared.flow.FlowId.{FlowId}
use Rattle.px_event.specs.declared.ask.Hook.{Hook}
use Rattle.px_core.specs.Live.{AreLive, pair_cmp}
use Rattle.px_core.proofs.OperateLemmas.{are_live, listed}
use Rattle.px_core.proofs.router.Router.live.Goals as goal

pub returns : goal.returns
returns g c = record {
  live = λ due course files trace stands.
      let table = c.args.self.now.table in
      let numbers = keys_of table.flows.asked.entries in
      let list = c.loop-number.list.items in
      let whole = sym c.loop-number.invariant.split ∙ (ap (λ l. list ++ listed g.C.Conversation.awaited table l) c.in-None.ensures.steps.0 ∙ append-nil list) in
      let P : List (FlowId × Option Hook) → Type 0 = AreLive trace in
      subst P whole (are_live g.C.Conversation.stands g.C.Conversation.awaited g.C.Conversation.number g.C.Owes.due g.met.C.Owes.gave g.C.Owes.grows g.A.Answerer.answers due table trace stands numbers
      c.keys-number-items.ensures.ordered (λ q. c.keys-number-items.ensures.has q ∙ ap (λ l. is_member (eq_by_cmp pair_cmp) l q) c.keys-number-items.ensures.rest));
}
