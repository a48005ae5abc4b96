use Rattle.std.proofs.Common.{arith}
use Rattle.px_options.proofs.ShownLemmas.{one_part}
use Rattle.px_options.proofs.shown.behind_parts.Goals as goal

pub loop-i-preserved : goal.loop-i-preserved
loop-i-preserved c =
    let more = one_part c.args.separator c.args.spec.now c.loop-i.i c.part.result.now c.part.ensures in
    omega (arith, more, c.loop-i.invariant, c.saturating_add.ensures, c.saturating_add-place.ensures)
