use Rattle.std.proofs.Common.{arith}
use Rattle.std.proofs.lemmas.Result.{on_ok_weaker}
use Rattle.px_relay.proofs.LengthLemmas.{run_ends, run_more}
use Rattle.px_relay.proofs.lengths.push_run.Goals as goal

pub runs-preserved : goal.runs-preserved
runs-preserved c =
    run_more c.args.length c.args.times c.runs.left c.args.pairs.now c.runs.pairs c.push_pairs.new.pairs (let long = c.runs-test.true in omega arith)
    c.in_ok-push_pairs.ensures c.runs.invariant

pub returns : goal.returns
returns c =
    on_ok_weaker c.push_pairs-2.result
    (λ goes. run_ends c.args.length c.args.times c.runs.left c.args.pairs.now c.runs.pairs c.push_pairs-2.new.pairs goes c.runs.invariant) c.push_pairs-2.ensures
