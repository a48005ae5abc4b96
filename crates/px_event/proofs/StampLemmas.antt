-- Walks over events and with replies that have other steps, and are worked off at the same moments.
use Rattle.std.proofs.Common.{◌≡◌, ℕ, Bool, true, false, List, [], ◌∷◌, ◌++◌, map, refl, ap, subst}
use Rattle.std.specs.Prelude.{nat_lt, if◌then◌else◌}
use Rattle.px_event.specs.Chain.{Stamp, Stamped, Timed, worked_off, Chain, Look, NotYet, Asks, Ends, Reached, reach, reach_by, Stop, walk, walk_by, owed_at, never, due}
use Rattle.px_event.specs.Stamps.{WorkedOffAlike, StampedAlike, renumbered}

-- searches that stopped at one place, and have the same behind it
pub record ReachedAlike {S E A : Type 0} (es xs : List (Stamped E)) (here there : Reached S E A) : Type 0 where
  pub before : here.before ≡ there.before
  pub stage : here.stage ≡ there.stage
  pub prefix : here.prefix ≡ there.prefix
  pub rest : (last other : Stamp) → WorkedOffAlike last other es xs → WorkedOffAlike last other here.rest there.rest

-- one event less of both
fewer : {S E A : Type 0} (e x : Stamped E) (es xs : List (Stamped E)) (here there : Reached S E A) → ReachedAlike es xs here there → ReachedAlike (e ∷ es) (x ∷ xs) here there
fewer e x es xs here there at = record {
  before = at.before;
  stage = at.stage;
  prefix = at.prefix;
  rest = λ last other alike. at.rest last other alike.1;
}

by_alike : {S E A : Type 0} (es xs : List (Stamped E)) (l : Look A) (further here further' here' : Reached S E A) →
    ReachedAlike es xs further further' → ReachedAlike es xs here here' → ReachedAlike es xs (reach_by l further here) (reach_by l further' here')
by_alike es xs NotYet further here further' here' on at = on
by_alike es xs (Asks ask) further here further' here' on at = at
by_alike es xs (Ends owed) further here further' here' on at = at

reach_alike : {S E R A : Type 0} (chain : Chain S E R A) (last other : Stamp) (before : List A) (s : S) (f : List (Timed E)) (es xs : List (Stamped E)) →
    WorkedOffAlike last other es xs → ReachedAlike es xs (reach chain last before s f es) (reach chain other before s f xs)
reach_alike chain last other before s f [] [] alike = record { before = refl; stage = refl; prefix = refl; rest = λ a b is. is }
reach_alike chain last other before s f [] (x ∷ xs) alike = absurd alike
reach_alike chain last other before s f (e ∷ es) [] alike = absurd alike
reach_alike {S} {E} {R} {A} chain last other before s f (e ∷ es) (x ∷ xs) alike =
    let on = chain.pass s f in
    let P : Timed E → Type 0 = λ t. ReachedAlike es xs (reach chain last (before ++ on.owed) on.stage (f ++ worked_off last e ∷ []) es) (reach chain other (before ++ on.owed) on.stage (f ++ t ∷ []) xs) in
    by_alike (e ∷ es) (x ∷ xs) (chain.look on.stage f) _ _ _ _
    (fewer e x es xs _ _ (subst P alike.0 (reach_alike chain last other (before ++ on.owed) on.stage (f ++ worked_off last e ∷ []) es xs alike.1)))
    (record { before = refl; stage = refl; prefix = refl; rest = λ a b is. is })

walk_by_alike : {S E R A : Type 0} (chain : Chain S E R A) (l m : Look A) (onward other : A → Stop S E R A) (stop stop' : Stop S E R A) → l ≡ m →
    ((ask : A) → owed_at chain (onward ask) ≡ owed_at chain (other ask)) → owed_at chain stop ≡ owed_at chain stop' →
    owed_at chain (walk_by l onward stop) ≡ owed_at chain (walk_by m other stop')
walk_by_alike {A = A} chain l m onward other stop stop' is asked otherwise = rw is (by m)
  where
    by : (m : Look A) → owed_at chain (walk_by m onward stop) ≡ owed_at chain (walk_by m other stop')
    by NotYet = otherwise
    by (Asks ask) = asked ask
    by (Ends owed) = otherwise

-- what is alike of all the events is alike of those behind
behind_alike : {E R : Type 0} (last other : Stamp) (es xs fewer rest : List (Stamped E)) (rs qs : List (Stamped R)) →
    ((a b : Stamp) → WorkedOffAlike a b es xs → WorkedOffAlike a b fewer rest) → StampedAlike last other es xs rs qs → StampedAlike last other fewer rest rs qs
behind_alike last other es xs fewer rest [] [] on alike = on last other alike
behind_alike last other es xs fewer rest [] (q ∷ qs) on alike = absurd alike
behind_alike last other es xs fewer rest (r ∷ rs) [] on alike = absurd alike
behind_alike last other es xs fewer rest (r ∷ rs) (q ∷ qs) on alike =
    (on last other alike.0, alike.1, behind_alike r.stamp q.stamp es xs fewer rest rs qs on alike.2)

events_alike : {E R : Type 0} (last other : Stamp) (es xs : List (Stamped E)) (rs qs : List (Stamped R)) → StampedAlike last other es xs rs qs → WorkedOffAlike last other es xs
events_alike last other es xs [] [] alike = alike
events_alike last other es xs [] (q ∷ qs) alike = absurd alike
events_alike last other es xs (r ∷ rs) [] alike = absurd alike
events_alike last other es xs (r ∷ rs) (q ∷ qs) alike = alike.0

-- Events and replies that are worked off at the same moments owe the same.
pub restamped : {S E R A : Type 0} (chain : Chain S E R A) (rs qs : List (Stamped R)) (last other : Stamp) (before : List A) (s : S) (f : List (Timed E)) (es xs : List (Stamped E)) →
    StampedAlike last other es xs rs qs → owed_at chain (walk chain rs last before s f es) ≡ owed_at chain (walk chain qs other before s f xs)
restamped chain [] [] last other before s f es xs alike =
    let at = reach_alike chain last other before s f es xs alike in rw (at.before, at.stage, at.prefix) refl
restamped chain [] (q ∷ qs) last other before s f es xs alike = absurd alike
restamped chain (r ∷ rs) [] last other before s f es xs alike = absurd alike
restamped chain (r ∷ rs) (q ∷ qs) last other before s f es xs alike =
    let at = reach_alike chain last other before s f es xs alike.0 in
    let here = reach chain last before s f es in
    let there = reach chain other before s f xs in
    let look : chain.look here.stage here.prefix ≡ chain.look there.stage there.prefix = rw (at.stage, at.prefix) refl in
    walk_by_alike chain (chain.look here.stage here.prefix) (chain.look there.stage there.prefix) _ _ _ _ look
    (λ ask. rw (at.before, at.stage, at.prefix, alike.1)
    (restamped chain rs qs r.stamp q.stamp _ _ there.prefix here.rest there.rest
    (behind_alike r.stamp q.stamp es xs here.rest there.rest rs qs at.rest alike.2)))
    (rw (at.before, at.stage, at.prefix) refl)

module _ (number : ℕ → ℕ) (keeps : (a b : ℕ) → nat_lt (number a) (number b) ≡ nat_lt a b) where
  -- the step with its other number
  abbrev moved : Stamp → Stamp
  moved a = record { step = number a.step; moment = a.moment }

  later_moment : (last stamp : Stamp) (is_before : Bool) →
      (if is_before then stamp else last).moment ≡ (if is_before then moved stamp else moved last).moment
  later_moment last stamp true = refl
  later_moment last stamp false = refl

  moved_event : {E : Type 0} (last : Stamp) (e : Stamped E) → worked_off last e ≡ worked_off (moved last) (renumbered number e)
  moved_event last e = rw (keeps last.step e.stamp.step)
      (ap (λ (n : ℕ). record { moment = n; value = e.value }) (later_moment last e.stamp (nat_lt last.step e.stamp.step)))

  moved_events : {E : Type 0} (last : Stamp) (es : List (Stamped E)) → WorkedOffAlike last (moved last) es (map (renumbered number) es)
  moved_events last [] = tt
  moved_events last (e ∷ es) = (moved_event last e, moved_events last es)

  moved_alike : {E R : Type 0} (last : Stamp) (es : List (Stamped E)) (rs : List (Stamped R)) →
      StampedAlike last (moved last) es (map (renumbered number) es) rs (map (renumbered number) rs)
  moved_alike last es [] = moved_events last es
  moved_alike last es (r ∷ rs) = (moved_events last es, refl, moved_alike r.stamp es rs)

  -- Steps with other numbers in the same order owe the same.
  pub renumbered_owed : {S E R A : Type 0} (chain : Chain S E R A) (start : S) (es : List (Stamped E)) (rs : List (Stamped R)) → number 0 ≡ 0 →
      due chain start es rs ≡ due chain start (map (renumbered number) es) (map (renumbered number) rs)
  renumbered_owed {E = E} {R = R} chain start es rs first =
      let P : ℕ → Type 0 = λ n. StampedAlike never (record { step = n; moment = 0 }) es (map (renumbered number) es) rs (map (renumbered number) rs) in
      restamped chain rs (map (renumbered number) rs) never never [] start [] es (map (renumbered number) es)
      (subst P first (moved_alike never es rs))
