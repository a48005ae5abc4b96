use Rattle.std.proofs.Common.{◌∙◌, ◌≡◌, Some, subst, sym}
use Rattle.std.specs.List.{position}
use Rattle.px_replay.proofs.KeyLemmas.{in_order}
use Rattle.px_replay.proofs.LeftLemmas.{index_marked}
use Rattle.px_replay.specs.Left.{IsIndex, places_from}
use Rattle.px_replay.specs.Replaying.{Replaying, may_answer}
use Rattle.px_replay.specs.contracts.key.MatchKeyOrd.TheImpl.{ghosts}
use Rattle.px_replay.specs.contracts.key.MatchKeyOrd.TheImpl.Laws.{matches_eq-law}
use Rattle.px_replay.proofs.recorded.Recorded.mark.Goals as goal

pub invariant_of-self : goal.invariant_of-self
invariant_of-self c =
    let old = c.self.inside in
    let key = c.args.key.now in
    let first = subst (λ (s : Replaying). position (may_answer s.reuse key) s.recordings ≡ Some c.args.place) (sym c.self.view_is) c.requires.first in
    subst (λ rs. IsIndex ghosts.cmp c.give_unless.new.index (λ k. places_from 0 (may_answer old.reuse k) rs)) (sym c.use_place.ensures)
    (index_marked ghosts.cmp (λ a b. in_order a b ∙ matches_eq-law a b) old.reuse key c.args.place old.recordings.items old.index c.give_unless.new.index first c.self.invariant
    c.give_unless.ensures.given)
