use Rattle.std.proofs.Common.{◌∙◌, ap, sym, take, map}
use Rattle.std.specs.List.{take-map}
use Rattle.px_rule.specs.Body.{body_rules, body_step}
use Rattle.px_rule.specs.View.{body_view}
use Rattle.px_rule.proofs.BodyLemmas.{on_err, rules_more}
use Rattle.px_rule.proofs.ListLemmas.{mapped_more}
use Rattle.px_rule.proofs.body.BodyRules.apply_to.Goals as goal

pub returns-in_err-apply_one-clause-stopped : goal.returns-in_err-apply_one-clause-stopped
returns-in_err-apply_one-clause-stopped c =
    on_err c.from_residual.result _ (
      c.loop-rule.rule-index,
      c.in_err-apply_one.ensures.unchanged ∙ c.loop-rule.invariant
          ∙ ap (λ rules. body_rules c.args.content rules c.args.flow.now)
          (ap (λ items. map body_view (take c.loop-rule.rule-index items)) c.deref-rule-items.ensures.value
          ∙ sym (take-map body_view c.loop-rule.rule-index c.args.self.now.rules.items)),
    )

pub loop-rule-preserved : goal.loop-rule-preserved
loop-rule-preserved c =
    let items = c.deref-rule-items.result.now in
    c.in_ok-apply_one.ensures.changed
    ∙ ap (body_step c.args.content (body_view c.rule-item.result)) c.loop-rule.invariant
    ∙ sym (rules_more c.args.content (map body_view (take c.loop-rule.rule-index items)) (body_view c.rule-item.result) c.args.flow.now)
    ∙ ap (λ rules. body_rules c.args.content rules c.args.flow.now)
    (sym (mapped_more body_view items c.loop-rule.rule-index c.rule-item.result c.loop-rule-test.true c.rule-item.is))
