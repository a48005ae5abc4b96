use Rattle.std.proofs.Common.{◌∙◌, ◌++◌, ◌-◌, ℕ, List, ap, arith, sym}
use Rattle.px_relay.specs.Messages.{cut_lengths}
use Rattle.px_relay.proofs.TextLemmas.{cut_long, cut_step}
use Rattle.px_relay.proofs.sender.cut_lengths.Goals as goal

pub cuts-preserved : goal.cuts-preserved
cuts-preserved c =
    cut_step c.cuts.lengths c.push.new.self _ c.cuts.left c.cuts-test.true c.in_ok-push.ensures c.cuts.invariant

pub cuts-init : goal.cuts-init
cuts-init c =
    ap (λ (l : List ℕ). l ++ cut_lengths (c.args.count - 4000)) c.new-lengths.ensures
    ∙ sym (cut_long c.args.count (let long = c.if-count-le-MOST_IN_FRAME.false in omega arith))
