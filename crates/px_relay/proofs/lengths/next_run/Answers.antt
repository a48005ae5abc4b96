use Rattle.px_relay.proofs.LengthLemmas.{run_ended, run_goes_on}
use Rattle.px_relay.proofs.lengths.next_run.Goals as goal

pub returns-then-more : goal.returns-then-more
returns-then-more c =
    run_ended c.args.pairs.now c.parts.rest.now c.parts.part c.from-then-more.result c.from.result c.saturating_add-length.result c.in-len2-up.len_at_least
    c.parts.invariant c.if-more.true c.from-then-more.ensures c.from.ensures c.saturating_add-length.ensures

pub parts-preserved : goal.parts-preserved
parts-preserved c =
    run_goes_on c.args.pairs.now c.parts.rest.now c.parts.part c.from.result c.saturating_add-length.result c.in-len2-up.len_at_least
    c.parts.invariant c.if-more.false c.from.ensures c.saturating_add-length.ensures
