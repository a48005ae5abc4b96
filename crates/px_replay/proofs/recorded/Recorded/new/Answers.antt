use Rattle.std.proofs.Common.{◌∙◌, subst}
use Rattle.px_replay.proofs.KeyLemmas.{in_order}
use Rattle.px_replay.proofs.LeftLemmas.{index_started}
use Rattle.px_replay.specs.Left.{IsIndex, places_from}
use Rattle.px_replay.specs.Same.{is_same_key}
use Rattle.px_replay.specs.contracts.key.MatchKeyOrd.TheImpl.{ghosts}
use Rattle.px_replay.specs.contracts.key.MatchKeyOrd.TheImpl.Laws.{matches_eq-law}
use Rattle.px_replay.proofs.recorded.Recorded.new.Goals as goal

pub invariant_of-result : goal.invariant_of-result
invariant_of-result c =
    index_started ghosts.cmp (λ a b. in_order a b ∙ matches_eq-law a b) c.args.how c.args.reuse c.args.flows.items c.in_ok-recordings.recordings.items c.in_ok-index.index
    c.in_ok-recordings.ensures
    (subst (λ rs. IsIndex ghosts.cmp c.in_ok-index.index (λ key. places_from 0 (λ r. is_same_key r.key key) rs)) c.as_slice.ensures.value
    c.in_ok-index.ensures.index)
