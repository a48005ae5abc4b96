use Rattle.std.proofs.Common.{◌≡◌, ◌++◌}
use Rattle.px_resend.specs.Heard.{to_servers}
use Rattle.px_resend.proofs.pass_on.pass_on.Given as goal

abbrev pub invariant-loop-command : goal.invariant-loop-command
invariant-loop-command l = l.out.items ≡ l.initial.out.items ++ to_servers l.yielded
