use Rattle.std.proofs.Common.{◌∙◌, ◌++◌, ap, sym}
use Rattle.px_replay.proofs.LeftLemmas.{one_more}
use Rattle.px_replay.specs.Replaying.{recording}
use Rattle.px_replay.proofs.recorded.recordings_of.Goals as goal

pub loop-flow-preserved : goal.loop-flow-preserved
loop-flow-preserved c =
    c.in_ok-add.ensures ∙ ap (λ l. l ++ recording c.args.how.now c.in-Some.flow) c.loop-flow.invariant
    ∙ sym (one_more c.args.how.now c.loop-flow.yielded c.in-Some.flow)
