use Rattle.px_tnet.specs.View.{view}
use Rattle.px_flowfile.proofs.PlaceLemmas.{bad_host, bad_port}
use Rattle.px_flowfile.proofs.ends.read_place.Goals as goal

pub returns-in-Err-clause-err : goal.returns-in-Err-clause-err
returns-in-Err-clause-err c =
    bad_port c.args.key (view c.args.tree.now) (view c.in_ok-first.first.now) (view c.in_ok-first.second.now) c.in_ok-host.host.now c.in-Err.e
    c.in_ok-first.ensures.ok c.in_ok-host.ensures.ok c.in-Err.ensures.err

pub returns-in-Err-host_of-clause-err : goal.returns-in-Err-host_of-clause-err
returns-in-Err-host_of-clause-err c =
    bad_host c.args.key (view c.args.tree.now) (view c.in_ok-first.first.now) (view c.in_ok-first.second.now) c.in_ok-host.host.now c.in-Ok.port
    c.in-Err-host_of.e c.in_ok-first.ensures.ok c.in_ok-host.ensures.ok c.in-Ok.ensures.ok c.in-Err-host_of.ensures.err
