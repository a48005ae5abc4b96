use Rattle.std.proofs.Common.{◌∙◌, ap, ap₂, sym, take}
use Rattle.px_message.specs.Fields.{without}
use Rattle.px_rule.specs.Header.{spared}
use Rattle.px_rule.specs.View.{header_view, lent_views}
use Rattle.px_rule.proofs.HeaderLemmas.{spared_more, spared_none}
use Rattle.px_rule.proofs.ListLemmas.{mapped_more}
use Rattle.px_rule.proofs.header.remove_all.Goals as goal

pub loop-rule-init : goal.loop-rule-init
loop-rule-init c = sym (spared_none c.args.fields.now)

pub loop-rule-preserved : goal.loop-rule-preserved
loop-rule-preserved c =
    let item = c.rule-item.result in
    let so_far = lent_views (take c.loop-rule.rule-index c.args.rules.now) in
    c.in_ok-remove.ensures.removed ∙ ap₂ without c.bytes.ensures.bytes c.loop-rule.invariant
    ∙ sym (spared_more so_far (header_view item.now) c.args.fields.now)
    ∙ ap (λ rules. spared rules c.args.fields.now)
    (sym (mapped_more (λ r. header_view r.now) c.args.rules.now c.loop-rule.rule-index item c.loop-rule-test.true c.rule-item.is))
