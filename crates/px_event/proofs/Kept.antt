-- What each step of a walk keeps, of what is owed so far and of the stage, holds where the walk stops.
use Rattle.std.proofs.Common.{◌≡◌, List, [], ◌∷◌, ◌++◌, refl}
use Rattle.px_event.specs.Chain.{Stamp, Stamped, Timed, worked_off, at_its_step, never, Chain, Look, NotYet, Asks, Ends, Reached, reach, reach_by, Stop, walk, walk_by, found_at, owed_at, due}

module _ {S E R A : Type 0} (chain : Chain S E R A) (Kept : List A → S → Type 0) (Holds : List A → Type 0) where
  pub record KeepsSteps : Type 0 where
    pub passes : (before : List A) (stage : S) (prefix : List (Timed E)) → Kept before stage → Kept (before ++ (chain.pass stage prefix).owed) (chain.pass stage prefix).stage
    pub turns : (before : List A) (stage : S) (prefix : List (Timed E)) (ask : A) (answer : Timed R) → Kept before stage → chain.look stage prefix ≡ Asks ask →
        Kept (before ++ (chain.so_far stage prefix ++ ask ∷ (chain.behind stage prefix ++ (chain.turn stage prefix answer).owed))) (chain.turn stage prefix answer).stage
    pub stops : (before : List A) (stage : S) (prefix : List (Timed E)) → Kept before stage → Holds (before ++ (chain.so_far stage prefix ++ found_at chain stage prefix))

  module _ (keeps : KeepsSteps) where
    abbrev Here : Reached S E A → Type 0
    Here here = Kept here.before here.stage

    reach_by_kept : (l : Look A) (further here : Reached S E A) → Here further → Here here → Here (reach_by l further here)
    reach_by_kept NotYet further here a b = a
    reach_by_kept (Asks ask) further here a b = b
    reach_by_kept (Ends owed) further here a b = b

    reach_kept : (last : Stamp) (before : List A) (stage : S) (prefix : List (Timed E)) (events : List (Stamped E)) → Kept before stage → Here (reach chain last before stage prefix events)
    reach_kept last before stage prefix [] kept = keeps.passes before stage prefix kept
    reach_kept last before stage prefix (e ∷ events) kept =
        let on = chain.pass stage prefix in
        let here = keeps.passes before stage prefix kept in
        reach_by_kept (chain.look on.stage prefix) _ _ (reach_kept last (before ++ on.owed) on.stage (prefix ++ worked_off last e ∷ []) events here) here

    walk_by_kept : (l : Look A) (onward : A → Stop S E R A) (stop : Stop S E R A) → ((ask : A) → l ≡ Asks ask → Holds (owed_at chain (onward ask))) → Holds (owed_at chain stop) →
        Holds (owed_at chain (walk_by l onward stop))
    walk_by_kept NotYet onward stop asked here = here
    walk_by_kept (Asks ask) onward stop asked here = asked ask refl
    walk_by_kept (Ends owed) onward stop asked here = here

    walk_kept : (replies : List (Stamped R)) (last : Stamp) (before : List A) (stage : S) (prefix : List (Timed E)) (events : List (Stamped E)) → Kept before stage →
        Holds (owed_at chain (walk chain replies last before stage prefix events))
    walk_kept [] last before stage prefix events kept =
        let here = reach chain last before stage prefix events in
        keeps.stops here.before here.stage here.prefix (reach_kept last before stage prefix events kept)
    walk_kept (r ∷ replies) last before stage prefix events kept =
        let here = reach chain last before stage prefix events in
        let there = reach_kept last before stage prefix events kept in
        let on = chain.turn here.stage here.prefix (at_its_step r) in
        walk_by_kept (chain.look here.stage here.prefix) _ _
        (λ ask asked. walk_kept replies r.stamp (here.before ++ (chain.so_far here.stage here.prefix ++ ask ∷ (chain.behind here.stage here.prefix ++ on.owed))) on.stage here.prefix here.rest
        (keeps.turns here.before here.stage here.prefix ask (at_its_step r) there asked))
        (keeps.stops here.before here.stage here.prefix there)

    -- So it holds of all that is due.
    pub due_kept : (start : S) → Kept [] start → (events : List (Stamped E)) (replies : List (Stamped R)) → Holds (due chain start events replies)
    due_kept start kept events replies = walk_kept replies never [] start [] events kept
