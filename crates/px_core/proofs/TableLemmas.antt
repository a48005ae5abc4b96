-- The places of a table's numbers, one change further.
use Rattle.std.proofs.Common.{◌≡◌, ℕ, Bool, true, false, ◌==◌, ◌||◌, List, [], Option, Some, None, refl, ap, ◌∙◌}
use Rattle.std.proofs.lemmas.Bool.{ne_eqb}
use Rattle.std.specs.BTreeMap as tree
use Rattle.std.specs.BTreeMap.{BTreeMap}
use Rattle.std.specs.Map.{lookup}
use Rattle.std.specs.Ordering.{nat_cmp}
use Rattle.px_core.specs.declared.table.Entry.TheVariants as place
use Rattle.px_core.specs.declared.table.Conversations.{Conversations}
use Rattle.px_core.specs.Router.{placed, place_of, PutsPlace}
use Rattle.px_core.specs.Runs.{has}
use Rattle.px_core.proofs.CallLemmas.{same_number}
use Rattle.px_core.proofs.RunsLemmas.{not_at}

placed_by : (was now : Bool) (key new_key : Option ℕ) → now ≡ was → new_key ≡ key → placed now new_key ≡ placed was key
placed_by was now key new_key same same_key = ap (λ b. placed b new_key) same ∙ ap (placed was) same_key

-- what has no place has not ended
not_ended : (ended : Bool) (key : Option ℕ) → placed ended key ≡ None → ended ≡ false
not_ended true key is = let wrong : Some place.Ended ≡ None = is in absurd (cc)
not_ended false key is = refl

-- where nothing was admitted
pub no_place : (ended : List (ℕ × ℕ)) (keys : BTreeMap ℕ ℕ) (conv : ℕ) → ended ≡ [] → tree.IsEmpty keys → placed (has ended conv) (tree.get nat_cmp keys conv) ≡ None
no_place ended keys conv none empty =
    placed_by false (has ended conv) None (tree.get nat_cmp keys conv) (ap (λ r. has r conv) none) (ap (lookup (tree.is_at (nat_cmp conv))) empty)

-- a key is put in for a number that had no place
pub place_added : {C : Type 0} (before after : Conversations C) (conv key : ℕ) → after.ended ≡ before.ended → tree.Updates nat_cmp before.keys after.keys conv (Some key) → place_of before conv ≡ None →
    PutsPlace before after conv (Some (place.Live key))
place_added before after conv key same put unknown = record {
  here = placed_by false (has after.ended conv) (Some key) (tree.get nat_cmp after.keys conv)
      (ap (λ r. has r conv) same ∙ not_ended (has before.ended conv) (tree.get nat_cmp before.keys conv) unknown) put.1;
  others = λ other apart.
      placed_by (has before.ended other) (has after.ended other) (tree.get nat_cmp before.keys other) (tree.get nat_cmp after.keys other) (ap (λ r. has r other) same) (put.2 other (not_at conv other apart));
}

-- a number is added to those that have ended, and its key is taken out
pub place_ended : {C : Type 0} (before after : Conversations C) (conv : ℕ) → ((other : ℕ) → has after.ended other ≡ ((conv == other) || has before.ended other)) →
    tree.Updates nat_cmp before.keys after.keys conv None → PutsPlace before after conv (Some place.Ended)
place_ended before after conv added taken = record {
  here = ap (λ b. placed b (tree.get nat_cmp after.keys conv)) (added conv ∙ ap (λ b. b || has before.ended conv) (same_number conv));
  others = λ other apart.
      placed_by (has before.ended other) (has after.ended other) (tree.get nat_cmp before.keys other) (tree.get nat_cmp after.keys other)
      (added other ∙ ap (λ b. b || has before.ended other) (ne_eqb conv other apart)) (taken.2 other (not_at conv other apart));
}
