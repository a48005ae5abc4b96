use Rattle.std.proofs.Common.{◌≡◌, map, take}
use Rattle.px_rule.specs.Header.{holding}
use Rattle.px_rule.specs.View.{header_view, lent_views}
use Rattle.px_rule.proofs.header.holding.Given as goal

-- the rules so far that hold
abbrev pub invariant-loop-rule : goal.invariant-loop-rule
invariant-loop-rule l = lent_views l.held.items ≡ holding l.fn.flow (map header_view (take l.rule-index l.rules))
