use Rattle.std.proofs.Common.{arith}
use Rattle.std.proofs.lemmas.Result.{on_ok_weaker}
use Rattle.px_relay.proofs.LengthLemmas.{parted_ends, parted_more}
use Rattle.px_relay.proofs.lengths.push_pairs.Goals as goal

pub parts-preserved : goal.parts-preserved
parts-preserved c =
    parted_more c.args.length c.parts.left c.args.pairs.now c.parts.pairs c.add.new.self (let small = c.ranges.length in omega arith)
    (let long = c.parts-test.true in omega arith) c.in_ok-add.ensures c.parts.invariant

pub returns : goal.returns
returns c =
    on_ok_weaker c.add-2.result
    (λ grown. parted_ends c.args.length c.parts.left c.args.more c.args.pairs.now c.parts.pairs c.add-2.new.self (let small = c.ranges.length in omega arith)
    c.requires grown c.parts.invariant) c.add-2.ensures
