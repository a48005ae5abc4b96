use Rattle.std.proofs.Common.{◌≡◌, map, take, Ok}
use Rattle.px_map.specs.Remote.{remote_rules}
use Rattle.px_map.specs.View.{remote_view}
use Rattle.px_map.proofs.remote.RemoteRules.apply.Given as goal

-- the flow as the rules so far left it
abbrev pub invariant-loop-rule : goal.invariant-loop-rule
invariant-loop-rule l = remote_rules (map remote_view (take l.rule-index l.rule-items)) l.fn.flow ≡ Ok l.flow
