use Rattle.std.proofs.Common.{◌≡◌, map, take}
use Rattle.px_rule.specs.Body.{body_rules}
use Rattle.px_rule.specs.View.{body_view}
use Rattle.px_rule.proofs.body.BodyRules.apply_to.Given as goal

-- the flow as the rules so far left it
abbrev pub invariant-loop-rule : goal.invariant-loop-rule
invariant-loop-rule l = l.flow ≡ body_rules l.content (map body_view (take l.rule-index l.rule-items)) l.fn.flow
