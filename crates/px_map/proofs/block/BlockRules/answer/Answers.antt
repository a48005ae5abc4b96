use Rattle.std.proofs.Common.{◌≡◌, ◌∙◌, ◌∷◌, ap, sym, map, drop, length, ◌≤◌, ◌+◌, Some, true, false, List, option_map, arith}
use Rattle.std.proofs.lemmas.List.{drop_all}
use Rattle.px_filter.specs.View.{expression}
use Rattle.px_rule.specs.Rule.{applies}
use Rattle.px_map.specs.Block.{block_status}
use Rattle.px_map.specs.View.{block_view}
use Rattle.px_map.specs.declared.block.BlockRule as held
use Rattle.px_map.proofs.ListLemmas.{next_item}
use Rattle.px_map.proofs.block.BlockRules.answer.Goals as goal

pub returns-then-branch-clause-first : goal.returns-then-branch-clause-first
returns-then-branch-clause-first c =
    let items = c.deref-rule-items.result.now in
    let rule = c.rule-item.result in
    let flow = c.args.flow.now in
    let holds : applies (option_map expression rule.filter) flow ≡ true = sym c.in_ok-applies.ensures ∙ c.if-branch.true in
    let here : block_status (map block_view (rule ∷ drop (c.loop-rule.rule-index + 1) items)) flow ≡ Some rule.status = rw holds in
    ap Some c.code.ensures.code
    ∙ sym (ap (λ rules. block_status (map block_view rules) flow) (sym c.deref-rule-items.ensures.value)
    ∙ c.loop-rule.invariant
    ∙ next_item (λ (rules : List held.BlockRule). block_status (map block_view rules) flow) items c.loop-rule.rule-index rule c.loop-rule-test.true c.rule-item.is ∙ here)

pub loop-rule-preserved : goal.loop-rule-preserved
loop-rule-preserved c =
    let items = c.deref-rule-items.result.now in
    let rule = c.rule-item.result in
    let flow = c.args.flow.now in
    let not_here : applies (option_map expression rule.filter) flow ≡ false = sym c.in_ok-applies.ensures ∙ c.if-branch.false in
    let later : block_status (map block_view (rule ∷ drop (c.loop-rule.rule-index + 1) items)) flow ≡ block_status (map block_view (drop (c.loop-rule.rule-index + 1) items)) flow = rw not_here in
    c.loop-rule.invariant
    ∙ next_item (λ (rules : List held.BlockRule). block_status (map block_view rules) flow) items c.loop-rule.rule-index rule c.loop-rule-test.true c.rule-item.is ∙ later

pub returns-clause-first : goal.returns-clause-first
returns-clause-first c =
    let items = c.deref-rule-items.result.now in
    let flow = c.args.flow.now in
    let past : length items ≤ c.loop-rule.rule-index = omega (arith, c.loop-rule-test.false) in
    sym (ap (λ rules. block_status (map block_view rules) flow) (sym c.deref-rule-items.ensures.value)
    ∙ c.loop-rule.invariant
    ∙ ap (λ (rules : List held.BlockRule). block_status (map block_view rules) flow) (drop_all c.loop-rule.rule-index items past))
