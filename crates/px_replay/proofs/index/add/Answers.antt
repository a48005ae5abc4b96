use Rattle.std.proofs.Common.{◌∙◌, ◌∷◌, ◌++◌, [], ap, rules}
use Rattle.std.specs.BTreeMap.{get}
use Rattle.std.specs.BTreeMap.Entry.{map_with_value}
use Rattle.std.specs.Option.{unwrap_or}
use Rattle.px_replay.proofs.KeyLemmas.{in_order}
use Rattle.px_replay.proofs.LeftLemmas.{adds_at}
use Rattle.px_replay.specs.contracts.key.MatchKeyOrd.TheImpl.{ghosts}
use Rattle.px_replay.specs.contracts.key.MatchKeyOrd.TheImpl.Laws.{matches_eq-law}
use Rattle.px_replay.proofs.index.add.Goals as goal

pub returns : goal.returns
returns c =
    let copy = c.in_ok-try_clone.field-0 in
    let old = c.args.index.now in
    let now = c.push.new.self in
    record {
      adds = adds_at ghosts.cmp (λ a b. in_order a b ∙ matches_eq-law a b) c.args.key.now copy c.args.place now old (map_with_value c.in_ok-index.field-0 now) _
          (c.in_ok-push.ensures ∙ ap (λ l. l ++ c.args.place ∷ []) (c.or_insert-places.ensures.value
          ∙ ap (λ o. unwrap_or o c.none.result) c.in_ok-index.ensures.value ∙ ap (λ l. unwrap_or (get ghosts.cmp old copy) l) c.none.ensures))
          c.in_ok-try_clone.ensures (c.in_ok-index.ensures.update.0 now) (search rules);
    }
