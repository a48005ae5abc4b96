-- Where a chain owes nothing behind its asks: it owes as if that were not spoken of.
use Rattle.std.proofs.Common.{◌≡◌, List, [], ◌∷◌, ◌++◌, refl, ap}
use Rattle.px_event.specs.Chain.{Stamp, Stamped, Timed, worked_off, at_its_step, never, Chain, Look, NotYet, Asks, Ends, reach, reach_by, Stop, stop_at, walk, walk_by, found, found_with, found_at, due}

-- with nothing behind the ask, what is found is owed alone
pub found_alone : {A : Type 0} (behind : List A) (look : Look A) → behind ≡ [] → found_with behind look ≡ found look
found_alone behind look none = rw none refl

-- the same stages, of which none owes anything behind its ask
abbrev pub none_behind : {S E R A : Type 0} → Chain S E R A → Chain S E R A
none_behind chain = record { pass = chain.pass; look = chain.look; so_far = chain.so_far; behind = λ stage prefix. []; turn = chain.turn }

module _ {S E R A : Type 0} (chain : Chain S E R A) (none : (stage : S) (prefix : List (Timed E)) → chain.behind stage prefix ≡ []) where
  pub found_at_alone : (stage : S) (prefix : List (Timed E)) → found_at chain stage prefix ≡ found (chain.look stage prefix)
  found_at_alone stage prefix = found_alone (chain.behind stage prefix) (chain.look stage prefix) (none stage prefix)

  reach_alone : (last : Stamp) (before : List A) (s : S) (f : List (Timed E)) (es : List (Stamped E)) →
      reach chain last before s f es ≡ reach (none_behind chain) last before s f es
  reach_alone last before s f [] = refl
  reach_alone last before s f (e ∷ es) =
      let on = chain.pass s f in
      ap (λ further. reach_by (chain.look on.stage f) further (record { before = before ++ on.owed; stage = on.stage; prefix = f; rest = e ∷ es }))
      (reach_alone last (before ++ on.owed) on.stage (f ++ worked_off last e ∷ []) es)

  walk_by_alone : (l : Look A) (onward other : A → Stop S E R A) (stop : Stop S E R A) → ((ask : A) → onward ask ≡ other ask) → walk_by l onward stop ≡ walk_by l other stop
  walk_by_alone NotYet onward other stop asked = refl
  walk_by_alone (Asks ask) onward other stop asked = asked ask
  walk_by_alone (Ends owed) onward other stop asked = refl

  walk_alone : (rs : List (Stamped R)) (last : Stamp) (before : List A) (s : S) (f : List (Timed E)) (es : List (Stamped E)) →
      walk chain rs last before s f es ≡ walk (none_behind chain) rs last before s f es
  walk_alone [] last before s f es = ap (λ here. stop_at last here []) (reach_alone last before s f es)
  walk_alone (r ∷ rs) last before s f es =
      let here = reach (none_behind chain) last before s f es in
      let on = chain.turn here.stage here.prefix (at_its_step r) in
      rw (reach_alone last before s f es)
      (walk_by_alone (chain.look here.stage here.prefix) _ _ (stop_at last here (r ∷ rs))
      (λ ask. rw (none here.stage here.prefix) (walk_alone rs r.stamp (here.before ++ (chain.so_far here.stage here.prefix ++ ask ∷ on.owed)) on.stage here.prefix here.rest)))

  -- It owes what those stages owe.
  pub due_alone : (start : S) (events : List (Stamped E)) (replies : List (Stamped R)) → due chain start events replies ≡ due (none_behind chain) start events replies
  due_alone start events replies =
      let w = walk (none_behind chain) replies never [] start [] events in
      rw (walk_alone replies never [] start [] events) (ap (λ l. w.before ++ (chain.so_far w.stage w.prefix ++ l)) (found_at_alone w.stage w.prefix))
