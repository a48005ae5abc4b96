-- Numbers as runs of neighbours, by the map from the first number of each to its last.
use Rattle.std.proofs.Common.{List, length, ◌≡◌, ◌≢◌, ◌⊎◌, nat_le, inl, inr, ℕ, ◌+◌, ◌<◌, ◌≤◌, Bool, true, false, ◌==◌, ◌||◌, Option, Some, None, IsSome, refl, ap, sym, ◌∙◌, subst, arith}
use Rattle.std.specs.BTreeMap as tree
use Rattle.std.specs.BTreeMap.{BTreeMap, is_at}
use Rattle.std.specs.List.{Contains, Any}
use Rattle.std.specs.Ordering.{nat_cmp}
use Rattle.std.proofs.lemmas.Bool.{le-leb, leb-true, and_from, and_parts}
use Rattle.std.proofs.lemmas.Bool.Decides.{eqb_tells, leb_tells, nat_tests}
use Rattle.std.proofs.lemmas.Cmp.{nat_cmp_total}
use Rattle.std.proofs.lemmas.List.Folds.{Any-from_list_any, list_any-from_Any}
use Rattle.std.proofs.lemmas.Map.Lookups.{exact_unsigned}
use Rattle.std.proofs.lemmas.Map.Views.{btree_map_get_iff}
use Rattle.px_core.proofs.ResultLemmas.{same_some}
use Rattle.px_core.specs.Runs.{is_within, has, AreRuns, IsRunAt, IsFirstOf, IsLastOf}

-- no run is empty, and none touches another
pub record Apart (lasts : ℕ → Option ℕ) : Type 0 where
  pub whole : (first last : ℕ) → lasts first ≡ Some last → first ≤ last
  pub apart : (first last later end : ℕ) → lasts first ≡ Some last → lasts later ≡ Some end → first < later → last + 1 < later

-- a number is in a run
abbrev pub Covers : (ℕ → Option ℕ) → ℕ → Type 0
Covers lasts number = (first : ℕ) × (last : ℕ) × (lasts first ≡ Some last) × (first ≤ number) × (number ≤ last)

-- the run is put in, and the one behind the number is taken out
pub record Puts (before after : ℕ → Option ℕ) (number first last : ℕ) : Type 0 where
  pub at : after first ≡ Some last
  pub gone : after (number + 1) ≡ None
  pub others : (other : ℕ) → other ≢ first → other ≢ number + 1 → after other ≡ before other

first_below : (lasts : ℕ → Option ℕ) (number first : ℕ) → Apart lasts → IsFirstOf lasts number first → first ≤ number
first_below lasts number first w (inl (is, none)) = omega (arith, is)
first_below lasts number first w (inr (end, at, next)) = omega (arith, w.whole first end at, next)

last_above : (lasts : ℕ → Option ℕ) (number last : ℕ) → Apart lasts → IsLastOf lasts number last → number ≤ last
last_above lasts number last w (inl (is, none)) = omega (arith, is)
last_above lasts number last w (inr at) = omega (arith, w.whole (number + 1) last at)

-- a run of the new map is the new one, or was there
came : (before after : ℕ → Option ℕ) (number first last : ℕ) → Puts before after number first last → (other end : ℕ) → after other ≡ Some end →
    ((other ≡ first) × (end ≡ last)) ⊎ ((before other ≡ Some end) × (other ≢ first) × (other ≢ number + 1))
came before after number first last p other end is = by (eqb_tells other first) (eqb_tells other (number + 1))
  where
    by : ((other == first) ≡ true) × (other ≡ first) ⊎ ((other == first) ≡ false) × (other ≢ first) →
        ((other == number + 1) ≡ true) × (other ≡ number + 1) ⊎ ((other == number + 1) ≡ false) × (other ≢ number + 1) →
        ((other ≡ first) × (end ≡ last)) ⊎ ((before other ≡ Some end) × (other ≢ first) × (other ≢ number + 1))
    by (inl same) _ = inl (same.1, same_some end last (sym is ∙ (ap after same.1 ∙ p.at)))
    by (inr apart) (inl gone) = absurd (let no : Some end ≡ None = sym is ∙ (ap after gone.1 ∙ p.gone) in cc)
    by (inr apart) (inr other_one) = inr (sym (p.others other apart.1 other_one.1) ∙ is, apart.1, other_one.1)

module _ (before after : ℕ → Option ℕ) (number first last : ℕ) (w : Apart before) (new : Covers before number → ⊥) (f : IsFirstOf before number first) (l : IsLastOf before number last)
    (p : Puts before after number first last) where
  -- a run that begins at or before the number ends before it
  ends_before : (other end : ℕ) → before other ≡ Some end → other ≤ number → end < number
  ends_before other end at below = by (leb_tells number end)
    where
      by : ((nat_le number end) ≡ true) × (number ≤ end) ⊎ ((nat_le number end) ≡ false) × (end < number) → end < number
      by (inl inside) = absurd (new (other, end, at, below, inside.1))
      by (inr short) = short.1

  -- one that begins behind the new one leaves room before it
  room_behind : (later end : ℕ) → before later ≡ Some end → later ≢ number + 1 → first < later → IsFirstOf before number first → IsLastOf before number last → last + 1 < later
  room_behind later end at apart above f' l' = by (leb_tells later number) f' l'
    where
      by : ((nat_le later number) ≡ true) × (later ≤ number) ⊎ ((nat_le later number) ≡ false) × (number < later) → IsFirstOf before number first → IsLastOf before number last → last + 1 < later
      by (inl below) (inl (is, none)) _ = absurd (let no : first < first = omega (arith, is, below.1, above) in omega (arith, no))
      by (inl below) (inr (at_end, joined, next)) _ = absurd (let no : at_end + 1 < later = w.apart first at_end later end joined at above in omega (arith, no, next, below.1))
      by (inr behind) _ (inl (is, none)) = omega (arith, is, behind.1, apart)
      by (inr behind) _ (inr joined) = let far : number + 1 < later = omega (arith, behind.1, apart) in w.apart (number + 1) last later end joined at far

  -- one that begins before the new one leaves room behind it
  room_before : (other end : ℕ) → before other ≡ Some end → other < first → IsFirstOf before number first → end + 1 < first
  room_before other end at below (inl (is, none)) =
      let short : end < number = ends_before other end at (omega (arith, is, below)) in
      let apart : end + 1 ≢ number = none other end at in omega (arith, short, apart, is)
  room_before other end at below (inr (at_end, joined, next)) = w.apart other end first at_end at joined below

  still_apart : Apart after
  still_apart = record {
    whole = λ other end is. whole_by other end (came before after number first last p other end is);
    apart = λ other end later stop is at above. apart_by other end later stop (came before after number first last p other end is) (came before after number first last p later stop at) above;
  }
    where
      whole_by : (other end : ℕ) → ((other ≡ first) × (end ≡ last)) ⊎ ((before other ≡ Some end) × (other ≢ first) × (other ≢ number + 1)) → other ≤ end
      whole_by other end (inl new_one) = omega (arith, new_one.0, new_one.1, first_below before number first w f, last_above before number last w l)
      whole_by other end (inr old_one) = w.whole other end old_one.0

      apart_by : (other end later stop : ℕ) → ((other ≡ first) × (end ≡ last)) ⊎ ((before other ≡ Some end) × (other ≢ first) × (other ≢ number + 1)) →
          ((later ≡ first) × (stop ≡ last)) ⊎ ((before later ≡ Some stop) × (later ≢ first) × (later ≢ number + 1)) → other < later → end + 1 < later
      apart_by other end later stop (inl a) (inl b) above = absurd (let no : first < first = omega (arith, a.0, b.0, above) in omega (arith, no))
      apart_by other end later stop (inl a) (inr b) above =
          let behind : last + 1 < later = room_behind later stop b.0 b.2 (omega (arith, a.0, above)) f l in omega (arith, behind, a.1)
      apart_by other end later stop (inr a) (inl b) above =
          let ahead : end + 1 < first = room_before other end a.0 (omega (arith, b.0, above)) f in omega (arith, ahead, b.0)
      apart_by other end later stop (inr a) (inr b) above = w.apart other end later stop a.0 b.0 above

  -- what the new run has is the number, or was there
  inside : (other : ℕ) → first ≤ other → other ≤ last → IsFirstOf before number first → IsLastOf before number last → (other ≡ number) ⊎ Covers before other
  inside other low high f' l' = by (leb_tells other number) (eqb_tells other number) f' l'
    where
      by : ((nat_le other number) ≡ true) × (other ≤ number) ⊎ ((nat_le other number) ≡ false) × (number < other) →
          ((other == number) ≡ true) × (other ≡ number) ⊎ ((other == number) ≡ false) × (other ≢ number) →
          IsFirstOf before number first → IsLastOf before number last → (other ≡ number) ⊎ Covers before other
      by _ (inl same) _ _ = inl same.1
      by (inl below) (inr apart) (inl (is, none)) _ = absurd (let no : number < number = omega (arith, is, low, below.1, apart.1) in omega (arith, no))
      by (inl below) (inr apart) (inr (end, joined, next)) _ = inr (first, end, joined, low, omega (arith, next, below.1, apart.1))
      by (inr above) (inr apart) _ (inl (is, none)) = absurd (let no : number < number = omega (arith, is, high, above.1) in omega (arith, no))
      by (inr above) (inr apart) _ (inr joined) = inr (number + 1, last, joined, omega (arith, above.1), high)

  pub covers_less : (other : ℕ) → Covers after other → (other ≡ number) ⊎ Covers before other
  covers_less other (start, end, at, low, high) = by (came before after number first last p start end at)
    where
      by : ((start ≡ first) × (end ≡ last)) ⊎ ((before start ≡ Some end) × (start ≢ first) × (start ≢ number + 1)) → (other ≡ number) ⊎ Covers before other
      by (inl new_one) = inside other (omega (arith, new_one.0, low)) (omega (arith, new_one.1, high)) f l
      by (inr old_one) = inr (start, end, old_one.0, low, high)

  -- the new run has them
  in_new : (other : ℕ) → first ≤ other → other ≤ last → Covers after other
  in_new other low high = (first, last, p.at, low, high)

  pub covers_number : Covers after number
  covers_number = in_new number (first_below before number first w f) (last_above before number last w l)

  -- the run that the new one begins with ends before it does
  joined_first : (end : ℕ) → before first ≡ Some end → IsFirstOf before number first → end ≤ last
  joined_first end at (inl (is, none)) = absurd (let here : before number ≡ Some end = sym (ap before is) ∙ at in new (number, end, here, omega arith, w.whole number end here))
  joined_first end at (inr (at_end, joined, next)) =
      let same : at_end ≡ end = same_some at_end end (sym joined ∙ at) in omega (arith, same, next, last_above before number last w l)

  -- and the one that it ends with is that one
  joined_last : (end : ℕ) → before (number + 1) ≡ Some end → IsLastOf before number last → end ≡ last
  joined_last end at (inl (is, none)) = absurd (let no : Some end ≡ None = sym at ∙ none in cc)
  joined_last end at (inr joined) = same_some end last (sym at ∙ joined)

  pub covers_more : (other : ℕ) → Covers before other → Covers after other
  covers_more other (start, end, at, low, high) = by (eqb_tells start first) (eqb_tells start (number + 1))
    where
      by : ((start == first) ≡ true) × (start ≡ first) ⊎ ((start == first) ≡ false) × (start ≢ first) →
          ((start == number + 1) ≡ true) × (start ≡ number + 1) ⊎ ((start == number + 1) ≡ false) × (start ≢ number + 1) → Covers after other
      by (inl same) _ = let short : end ≤ last = joined_first end (sym (ap before same.1) ∙ at) f in in_new other (omega (arith, same.1, low)) (omega (arith, short, high))
      by (inr apart) (inl same) =
          let is : end ≡ last = joined_last end (sym (ap before same.1) ∙ at) l in
          in_new other (omega (arith, same.1, low, first_below before number first w f)) (omega (arith, is, high))
      by (inr apart) (inr other_one) = (start, end, p.others start apart.1 other_one.1 ∙ at, low, high)

eqb_yes : (a b : ℕ) → a ≡ b → (a == b) ≡ true
eqb_yes a b is = grind (arith, nat_tests)

-- the runs of a map are those of the function that it is
module _ (m : BTreeMap ℕ ℕ) (o : tree.IsOrdered nat_cmp m) where
  listed : (first last : ℕ) → tree.get nat_cmp m first ≡ Some last → Contains m.entries (first, last)
  listed first last = (btree_map_get_iff nat_cmp_total exact_unsigned m o first last).0

  found : (first last : ℕ) → Contains m.entries (first, last) → tree.get nat_cmp m first ≡ Some last
  found first last = (btree_map_get_iff nat_cmp_total exact_unsigned m o first last).1

  pub apart_of : AreRuns m.entries → Apart (tree.get nat_cmp m)
  apart_of w = record {
    whole = λ first last at. w.whole first last (listed first last at);
    apart = λ first last later end a b above. w.apart first last later end (listed first last a) (listed later end b) above;
  }

  pub runs_of : Apart (tree.get nat_cmp m) → AreRuns m.entries
  runs_of w = record {
    ascend = o;
    whole = λ first last at. w.whole first last (found first last at);
    apart = λ first last later end a b above. w.apart first last later end (found first last a) (found later end b) above;
  }

  pub covers_of : (number : ℕ) → has m.entries number ≡ true → Covers (tree.get nat_cmp m) number
  covers_of number is = by (Any-from_list_any (is_within number) m.entries is)
    where
      by : Any (λ run. is_within number run ≡ true) m.entries → Covers (tree.get nat_cmp m) number
      by (k, (first, last), in_list, at, within) =
          let both = and_parts (nat_le first number) (nat_le number last) within in
          (first, last, found first last (k, in_list, at), leb-true first number both.0, leb-true number last both.1)

  pub has_of : (number : ℕ) → Covers (tree.get nat_cmp m) number → has m.entries number ≡ true
  has_of number (first, last, at, low, high) = by (listed first last at)
    where
      by : Contains m.entries (first, last) → has m.entries number ≡ true
      by (k, in_list, is) =
          list_any-from_Any (is_within number) m.entries
          (k, (first, last), in_list, is, and_from (nat_le first number) (nat_le number last) (le-leb first number low) (le-leb number last high))

-- a map with no entries has no runs
pub no_runs : (m : BTreeMap ℕ ℕ) → tree.IsOrdered nat_cmp m → tree.IsEmpty m → AreRuns m.entries
no_runs m o empty = record {
  ascend = o;
  whole = λ first last at. absurd (none first last at);
  apart = λ first last later end at there above. absurd (none first last at);
}
  where
    none : (first last : ℕ) → Contains m.entries (first, last) → ⊥
    none first last (k, in_list, is) = let less : k < 0 = subst (λ (l : List (ℕ × ℕ)). k < length l) empty in_list in omega (arith, less)

-- one is true where the other is
pub same_bool : (a b : Bool) → (a ≡ true → b ≡ true) → (b ≡ true → a ≡ true) → a ≡ b
same_bool true b to from = sym (to refl)
same_bool false true to from = from refl
same_bool false false to from = refl

no_true : (a : Bool) → (a ≡ true → ⊥) → a ≡ false
no_true true never = absurd (never refl)
no_true false never = refl

-- the last run that begins at or before a number tells whether the number is in one
pub run_tells : (m : BTreeMap ℕ ℕ) → tree.IsOrdered nat_cmp m → AreRuns m.entries → (number first last : ℕ) → IsRunAt (tree.get nat_cmp m) number first last → nat_le number last ≡ has m.entries number
run_tells m o w number first last r = same_bool (nat_le number last) (has m.entries number)
    (λ high. has_of m o number (first, last, r.at, r.below, leb-true number last high))
    (λ is. le-leb number last (by (covers_of m o number is)))
  where
    by : Covers (tree.get nat_cmp m) number → number ≤ last
    by (start, end, at, low, high) = at_most (eqb_tells start first)
      where
        at_most : ((start == first) ≡ true) × (start ≡ first) ⊎ ((start == first) ≡ false) × (start ≢ first) → number ≤ last
        at_most (inl same) = let is : end ≡ last = same_some end last (sym at ∙ (ap (tree.get nat_cmp m) same.1 ∙ r.at)) in omega (arith, is, high)
        at_most (inr apart) =
            let there : IsSome (tree.get nat_cmp m start) = rw at refl in
            let below : start ≤ first = r.greatest start low there in
            let room : end + 1 < first = (apart_of m o w).apart start end first last at r.at (omega (arith, below, apart.1)) in
            absurd (let no : number < number = omega (arith, room, high, r.below) in omega (arith, no))

pub none_tells : (m : BTreeMap ℕ ℕ) → tree.IsOrdered nat_cmp m → (number : ℕ) → ((other : ℕ) → other ≤ number → tree.get nat_cmp m other ≡ None) → false ≡ has m.entries number
none_tells m o number none = sym (no_true (has m.entries number) (λ is. by (covers_of m o number is)))
  where
    by : Covers (tree.get nat_cmp m) number → ⊥
    by (first, last, at, low, high) = let no : Some last ≡ None = sym at ∙ none first low in cc

-- no run ends right before a number where the last that begins before it does not
pub first_alone : (m : BTreeMap ℕ ℕ) → tree.IsOrdered nat_cmp m → AreRuns m.entries → (number first last : ℕ) → IsRunAt (tree.get nat_cmp m) number first last →
    (last + 1 == number) ≡ false → IsFirstOf (tree.get nat_cmp m) number number
first_alone m o w number first last r not = inl (refl, λ other end at next. by other end at next (eqb_tells other first))
  where
    by : (other end : ℕ) → tree.get nat_cmp m other ≡ Some end → end + 1 ≡ number → ((other == first) ≡ true) × (other ≡ first) ⊎ ((other == first) ≡ false) × (other ≢ first) → ⊥
    by other end at next (inl same) =
        let is : end ≡ last = same_some end last (sym at ∙ (ap (tree.get nat_cmp m) same.1 ∙ r.at)) in
        let yes : (last + 1 == number) ≡ true = eqb_yes (last + 1) number (omega (arith, is, next)) in
        let no : true ≡ false = sym yes ∙ not in cc
    by other end at next (inr apart) =
        let there : IsSome (tree.get nat_cmp m other) = rw at refl in
        let whole : other ≤ end = (apart_of m o w).whole other end at in
        let below : other ≤ first = r.greatest other (omega (arith, whole, next)) there in
        let room : end + 1 < first = (apart_of m o w).apart other end first last at r.at (omega (arith, below, apart.1)) in
        let no : number < number = omega (arith, room, next, r.below) in omega (arith, no)

pub first_none : (m : BTreeMap ℕ ℕ) → tree.IsOrdered nat_cmp m → AreRuns m.entries → (number : ℕ) → ((other : ℕ) → other ≤ number → tree.get nat_cmp m other ≡ None) →
    IsFirstOf (tree.get nat_cmp m) number number
first_none m o w number none = inl (
  refl,
  λ other end at next.
      let whole : other ≤ end = (apart_of m o w).whole other end at in
      let no : Some end ≡ None = sym at ∙ none other (omega (arith, whole, next)) in cc,
)

pub not_at : (key other : ℕ) → key ≢ other → is_at (nat_cmp key) other ≡ false
not_at key other apart = grind (arith, nat_tests)

-- the run is put in first, and then the one behind is taken out
pub puts_of : (m between n : BTreeMap ℕ ℕ) (number first last : ℕ) → first ≤ number → tree.Updates nat_cmp m between first (Some last) → tree.Updates nat_cmp between n (number + 1) None →
    Puts (tree.get nat_cmp m) (tree.get nat_cmp n) number first last
puts_of m between n number first last low put taken = record {
  at = taken.2 first (not_at (number + 1) first (λ same. let no : number < number = omega (arith, same, low) in omega (arith, no))) ∙ put.1;
  gone = taken.1;
  others = λ other apart far. taken.2 other (not_at (number + 1) other (λ same. far (sym same))) ∙ put.2 other (not_at first other (λ same. apart (sym same)));
}

module _ (m between n : BTreeMap ℕ ℕ) (o : tree.IsOrdered nat_cmp m) (o' : tree.IsOrdered nat_cmp n) (w : AreRuns m.entries) (number first last : ℕ) (not : has m.entries number ≡ false)
    (f : IsFirstOf (tree.get nat_cmp m) number first) (l : IsLastOf (tree.get nat_cmp m) number last)
    (put : tree.Updates nat_cmp m between first (Some last)) (taken : tree.Updates nat_cmp between n (number + 1) None) where
  new_one : Covers (tree.get nat_cmp m) number → ⊥
  new_one is = let no : true ≡ false = sym (has_of m o number is) ∙ not in cc

  p : Puts (tree.get nat_cmp m) (tree.get nat_cmp n) number first last
  p = puts_of m between n number first last (first_below (tree.get nat_cmp m) number first (apart_of m o w) f) put taken

  pub runs_put : AreRuns n.entries
  runs_put = runs_of n o' (still_apart (tree.get nat_cmp m) (tree.get nat_cmp n) number first last (apart_of m o w) new_one f l p)

  pub has_put : (other : ℕ) → has n.entries other ≡ ((number == other) || has m.entries other)
  has_put other = same_bool (has n.entries other) ((number == other) || has m.entries other)
      (λ is. to (eqb_tells number other) (covers_less (tree.get nat_cmp m) (tree.get nat_cmp n) number first last (apart_of m o w) new_one f l p other (covers_of n o' other is)))
      (λ is. has_of n o' other (from (eqb_tells number other) is))
    where
      to : ((number == other) ≡ true) × (number ≡ other) ⊎ ((number == other) ≡ false) × (number ≢ other) → (other ≡ number) ⊎ Covers (tree.get nat_cmp m) other →
          ((number == other) || has m.entries other) ≡ true
      to (inl same) _ = rw same.0 refl
      to (inr apart) (inl same) = absurd (apart.1 (sym same))
      to (inr apart) (inr covered) = rw apart.0 (has_of m o other covered)

      from : ((number == other) ≡ true) × (number ≡ other) ⊎ ((number == other) ≡ false) × (number ≢ other) → ((number == other) || has m.entries other) ≡ true → Covers (tree.get nat_cmp n) other
      from (inl same) is =
          let P : ℕ → Type 0 = Covers (tree.get nat_cmp n) in
          subst P same.1 (covers_number (tree.get nat_cmp m) (tree.get nat_cmp n) number first last (apart_of m o w) new_one f l p)
      from (inr apart) is =
          let was : has m.entries other ≡ true = sym (ap (λ b. b || has m.entries other) apart.0) ∙ is in
          covers_more (tree.get nat_cmp m) (tree.get nat_cmp n) number first last (apart_of m o w) new_one f l p other (covers_of m o other was)
