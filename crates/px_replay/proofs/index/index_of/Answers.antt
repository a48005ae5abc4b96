use Rattle.std.proofs.Common.{◌∙◌, rules}
use Rattle.px_replay.proofs.KeyLemmas.{in_order}
use Rattle.px_replay.proofs.LeftLemmas.{index_more}
use Rattle.px_replay.specs.contracts.key.MatchKeyOrd.TheImpl.{ghosts}
use Rattle.px_replay.specs.contracts.key.MatchKeyOrd.TheImpl.Laws.{matches_eq-law}
use Rattle.px_replay.proofs.index.index_of.Goals as goal

pub loop-place-preserved : goal.loop-place-preserved
loop-place-preserved c =
    index_more ghosts.cmp (λ a b. in_order a b ∙ matches_eq-law a b) c.args.recordings.now c.loop-place.place c.index-recordings-place.result c.loop-place.index c.add.new.index
    (search rules) c.loop-place.invariant c.in_ok-add.ensures.adds
