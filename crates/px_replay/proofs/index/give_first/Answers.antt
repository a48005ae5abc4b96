use Rattle.std.proofs.Common.{◌∙◌, rules}
use Rattle.px_replay.proofs.KeyLemmas.{in_order}
use Rattle.px_replay.proofs.LeftLemmas.{gives_none, gives_one}
use Rattle.px_replay.specs.contracts.key.MatchKeyOrd.TheImpl.{ghosts}
use Rattle.px_replay.specs.contracts.key.MatchKeyOrd.TheImpl.Laws.{matches_eq-law}
use Rattle.px_replay.proofs.index.give_first.Goals as goal

pub returns-in-Some : goal.returns-in-Some
returns-in-Some c = record {
  gives = gives_one ghosts.cmp (λ a b. in_order a b ∙ matches_eq-law a b) c.args.key.now c.in-Some.places.now c.give_first.new.self c.args.index.now
      (c.get_mut.follows.lender c.give_first.new.self) c.in-Some.ensures.value c.give_first.ensures ((c.get_mut.follows.holds c.give_first.new.self).3 (search rules));
}

pub returns-in_default : goal.returns-in_default
returns-in_default c = record {
  gives = gives_none ghosts.cmp (λ a b. in_order a b ∙ matches_eq-law a b) c.args.key.now c.args.index.now c.get_mut.follows.lender-at-none c.in_default.ensures.value
      c.get_mut.follows.holds-at-none;
}
