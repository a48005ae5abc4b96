-- Where each part of a chain owes only what has a property, so does all that is due.
use Rattle.std.proofs.Common.{◌≡◌, List, [], ◌∷◌, ◌++◌, refl, subst}
use Rattle.px_event.specs.Chain.{Stamp, Stamped, Timed, worked_off, at_its_step, never, Chain, Look, NotYet, Asks, Ends, Reached, reach, reach_by, Stop, stop_at, walk, walk_by, found, found_with, owed_at, due}

module _ {A : Type 0} (P : A → Type 0) where
  -- each has the property
  abbrev pub AllHave : List A → Type 0
  AllHave [] = Unit {0}
  AllHave (x ∷ xs) = P x × AllHave xs

  pub all_append : (xs ys : List A) → AllHave xs → AllHave ys → AllHave (xs ++ ys)
  all_append [] ys all more = more
  all_append (x ∷ xs) ys (here, all) more = (here, all_append xs ys all more)

  -- each part of the chain owes only such
  pub record OwesOnly {S E R : Type 0} (chain : Chain S E R A) : Type 0 where
    pub pass : (stage : S) (prefix : List (Timed E)) → AllHave (chain.pass stage prefix).owed
    pub look : (stage : S) (prefix : List (Timed E)) → AllHave (found (chain.look stage prefix))
    pub so_far : (stage : S) (prefix : List (Timed E)) → AllHave (chain.so_far stage prefix)
    pub behind : (stage : S) (prefix : List (Timed E)) → AllHave (chain.behind stage prefix)
    pub turn : (stage : S) (prefix : List (Timed E)) (reply : Timed R) → AllHave (chain.turn stage prefix reply).owed

  module _ {S E R : Type 0} (chain : Chain S E R A) (only : OwesOnly chain) where
    reach_by_only : (l : Look A) (further here : Reached S E A) → AllHave further.before → AllHave here.before → AllHave (reach_by l further here).before
    reach_by_only NotYet further here a b = a
    reach_by_only (Asks ask) further here a b = b
    reach_by_only (Ends owed) further here a b = b

    reach_only : (last : Stamp) (before : List A) (s : S) (f : List (Timed E)) (es : List (Stamped E)) → AllHave before → AllHave (reach chain last before s f es).before
    reach_only last before s f [] all = all_append before _ all (only.pass s f)
    reach_only last before s f (e ∷ es) all =
        let on = chain.pass s f in
        let here = all_append before on.owed all (only.pass s f) in
        reach_by_only (chain.look on.stage f) _ _ (reach_only last (before ++ on.owed) on.stage (f ++ worked_off last e ∷ []) es here) here

    found_only : (behind : List A) (l : Look A) → AllHave behind → AllHave (found l) → AllHave (found_with behind l)
    found_only behind NotYet all here = tt
    found_only behind (Asks ask) all here = (here.0, all)
    found_only behind (Ends owed) all here = here

    there : (w : Stop S E R A) → AllHave w.before → AllHave (owed_at chain w)
    there w all =
        all_append w.before _ all (all_append (chain.so_far w.stage w.prefix) _ (only.so_far w.stage w.prefix)
        (found_only (chain.behind w.stage w.prefix) (chain.look w.stage w.prefix) (only.behind w.stage w.prefix) (only.look w.stage w.prefix)))

    asked_only : (l : Look A) (ask : A) → l ≡ Asks ask → AllHave (found l) → P ask
    asked_only l ask is all = let Q : Look A → Type 0 = λ k. AllHave (found k) in let one : AllHave (found (Asks ask)) = subst Q is all in one.0

    walk_by_only : (l : Look A) (onward : A → Stop S E R A) (stop : Stop S E R A) → ((ask : A) → l ≡ Asks ask → AllHave (owed_at chain (onward ask))) →
        AllHave (owed_at chain stop) → AllHave (owed_at chain (walk_by l onward stop))
    walk_by_only NotYet onward stop a b = b
    walk_by_only (Asks ask) onward stop a b = a ask refl
    walk_by_only (Ends owed) onward stop a b = b

    walk_only : (rs : List (Stamped R)) (last : Stamp) (before : List A) (s : S) (f : List (Timed E)) (es : List (Stamped E)) → AllHave before →
        AllHave (owed_at chain (walk chain rs last before s f es))
    walk_only [] last before s f es all = there (stop_at last (reach chain last before s f es) []) (reach_only last before s f es all)
    walk_only (r ∷ rs) last before s f es all =
        let here = reach chain last before s f es in
        let on = chain.turn here.stage here.prefix (at_its_step r) in
        let so_far = chain.so_far here.stage here.prefix in
        let behind = chain.behind here.stage here.prefix in
        let before_here = reach_only last before s f es all in
        walk_by_only (chain.look here.stage here.prefix) _ _
        (λ ask is. walk_only rs r.stamp (here.before ++ (so_far ++ ask ∷ (behind ++ on.owed))) on.stage here.prefix here.rest
        (all_append here.before _ before_here (all_append so_far (ask ∷ (behind ++ on.owed)) (only.so_far here.stage here.prefix) (
          asked_only (chain.look here.stage here.prefix) ask is (only.look here.stage here.prefix),
          all_append behind on.owed (only.behind here.stage here.prefix) (only.turn here.stage here.prefix (at_its_step r)),
        ))))
        (there (stop_at last here (r ∷ rs)) before_here)

    pub due_only : (start : S) (events : List (Stamped E)) (replies : List (Stamped R)) → AllHave (due chain start events replies)
    due_only start events replies = walk_only replies never [] start [] events tt
