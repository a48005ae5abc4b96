use Rattle.px_resend.proofs.HeardLemmas.{passed_one}
use Rattle.px_resend.proofs.pass_on.pass_on.Goals as goal

pub loop-command-preserved : goal.loop-command-preserved
loop-command-preserved c =
    passed_one c.args.out.now.items c.loop-command.out.items c.pass_one.new.out.items c.loop-command.yielded c.in-Some.command c.loop-command.invariant c.in_ok-pass_one.ensures
