use Rattle.px_relay.proofs.LengthLemmas.{with_run_is, with_run_whole}
use Rattle.px_relay.proofs.lengths.with_run.Goals as goal

pub returns-clause-whole : goal.returns-clause-whole
returns-clause-whole c = with_run_whole c.args.pairs c.push_run.new.pairs c.args.length c.args.times c.requires.whole c.in_ok-push_run.ensures

pub returns-clause-run : goal.returns-clause-run
returns-clause-run c = with_run_is c.args.pairs c.push_run.new.pairs c.args.length c.args.times c.requires.whole c.in_ok-push_run.ensures
