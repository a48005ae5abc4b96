use Rattle.std.proofs.Common.{◌≡◌, ◌++◌, take}
use Rattle.px_rule.specs.Header.{put}
use Rattle.px_rule.specs.View.{lent_views}
use Rattle.px_rule.proofs.header.add_all.Given as goal

-- what the rules so far add
abbrev pub invariant-loop-rule : goal.invariant-loop-rule
invariant-loop-rule l = l.fields ≡ l.fn.fields ++ put (lent_views (take l.rule-index l.rules))
