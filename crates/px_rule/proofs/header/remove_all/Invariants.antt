use Rattle.std.proofs.Common.{◌≡◌, take}
use Rattle.px_rule.specs.Header.{spared}
use Rattle.px_rule.specs.View.{lent_views}
use Rattle.px_rule.proofs.header.remove_all.Given as goal

-- what the rules so far leave
abbrev pub invariant-loop-rule : goal.invariant-loop-rule
invariant-loop-rule l = l.fields ≡ spared (lent_views (take l.rule-index l.rules)) l.fn.fields
