use Rattle.std.proofs.Common.{◌∙◌, ap, sym, take, map, drop, Ok, ◌+◌}
use Rattle.std.specs.List.{take-map}
use Rattle.px_rule.proofs.ListLemmas.{mapped_more}
use Rattle.px_map.specs.Remote.{remote_rules}
use Rattle.px_map.specs.View.{remote_view}
use Rattle.px_map.proofs.ListLemmas.{around_item}
use Rattle.px_map.proofs.RemoteLemmas.{one_more, one_refused}
use Rattle.px_map.proofs.remote.RemoteRules.apply.Goals as goal

pub loop-rule-preserved : goal.loop-rule-preserved
loop-rule-preserved c =
    let items = c.deref-rule-items.result.now in
    ap (λ rules. remote_rules rules c.args.flow.now) (mapped_more remote_view items c.loop-rule.rule-index c.rule-item.result c.loop-rule-test.true c.rule-item.is)
    ∙ one_more (map remote_view (take c.loop-rule.rule-index items)) (remote_view c.rule-item.result) c.args.flow.now _ _ c.loop-rule.invariant c.in-Ok.ensures.changed

pub returns-in-Err-clause-refused : goal.returns-in-Err-clause-refused
returns-in-Err-clause-refused c is =
    let items = c.deref-rule-items.result.now in
    ap (λ rules. remote_rules (map remote_view rules) c.args.flow.now) (sym c.deref-rule-items.ensures.value)
    ∙ ap (λ rules. remote_rules rules c.args.flow.now) (around_item remote_view items c.loop-rule.rule-index c.rule-item.result c.loop-rule-test.true c.rule-item.is)
    ∙ one_refused (map remote_view (take c.loop-rule.rule-index items)) (map remote_view (drop (c.loop-rule.rule-index + 1) items)) (remote_view c.rule-item.result)
    c.args.flow.now _ (c.loop-rule.invariant ∙ ap Ok (sym c.in-Err.ensures.unchanged)) (rw c.in-Err.ensures.unchanged (c.in-Err.ensures.refused is))

pub returns-in-Err-clause-stopped : goal.returns-in-Err-clause-stopped
returns-in-Err-clause-stopped c is = (
  c.loop-rule.rule-index,
  ap (λ rules. remote_rules rules c.args.flow.now)
      (take-map remote_view c.loop-rule.rule-index c.args.self.now.rules.items
      ∙ ap (λ items. map remote_view (take c.loop-rule.rule-index items)) (sym c.deref-rule-items.ensures.value))
      ∙ c.loop-rule.invariant ∙ ap Ok (sym c.in-Err.ensures.unchanged),
)
