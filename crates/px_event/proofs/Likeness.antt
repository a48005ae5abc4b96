-- Walks from places that look alike owe alike, and so do walks where an event is taken early.
use Rattle.std.proofs.Common.{◌≡◌, List, [], ◌∷◌, ◌++◌, refl, ap, sym, ◌∙◌, subst, append_assoc}
use Rattle.std.proofs.lemmas.List.{append-nil}
use Rattle.px_event.specs.Chain.{Stamp, Stamped, Timed, worked_off, at_its_step, Chain, Look, NotYet, Asks, Ends, Reached, reach, reach_by, Stop, stop_at, walk, walk_by, found_with, found_at, owed_at, never, walk_from, due}
use Rattle.px_event.specs.Laws.{IsSettled, Settles, IsFound}
use Rattle.px_event.specs.Alike.{IsLikeness, FoundAlike, OwesAlike, Alike, Unhurried, MayCome, goes_on_over, OwesAlikeFrom, front_with, MayBeEarly, StopsAlike}
use Rattle.px_event.proofs.Reach.{stopped_here, reach_pass, reach_found, reach_settled}
use Rattle.px_event.proofs.Walk.{walk_on, walk_is, more_events, stopped}
use Rattle.px_event.proofs.Stops.{behind_found}

-- passing first changes nothing of a walk
walk_pass : {S E R A : Type 0} (chain : Chain S E R A) → Settles chain → (rs : List (Stamped R)) (last : Stamp) (before : List A) (s : S) (f : List (Timed E)) (es : List (Stamped E)) →
    walk chain rs last before s f es ≡ walk chain rs last (before ++ (chain.pass s f).owed) (chain.pass s f).stage f es
walk_pass chain law rs last before s f es =
    walk_is chain rs last before s f es
    ∙ (ap (λ h. walk_on chain rs last h) (reach_pass chain law last before s f es)
    ∙ sym (walk_is chain rs last (before ++ (chain.pass s f).owed) (chain.pass s f).stage f es))

-- where nothing is found, the next event is worked off
pub walk_next : {S E R A : Type 0} (chain : Chain S E R A) (rs : List (Stamped R)) (last : Stamp) (before : List A) (s : S) (f : List (Timed E)) (e : Stamped E) (es : List (Stamped E)) →
    chain.look (chain.pass s f).stage f ≡ NotYet →
    walk chain rs last before s f (e ∷ es) ≡ walk chain rs last (before ++ (chain.pass s f).owed) (chain.pass s f).stage (f ++ worked_off last e ∷ []) es
walk_next chain rs last before s f e es is =
    let prefix = f ++ worked_off last e ∷ [] in
    walk_is chain rs last before s f (e ∷ es)
    ∙ (ap (λ l. walk_on chain rs last (reach_by l (reach chain last (before ++ (chain.pass s f).owed) (chain.pass s f).stage prefix es) (stopped_here chain before s f (e ∷ es)))) is
    ∙ sym (walk_is chain rs last (before ++ (chain.pass s f).owed) (chain.pass s f).stage prefix es))

-- where something is found, the walk begins there
walk_found : {S E R A : Type 0} (chain : Chain S E R A) → Settles chain → (rs : List (Stamped R)) (last : Stamp) (before : List A) (s : S) (f : List (Timed E)) (es : List (Stamped E)) →
    IsFound (chain.look (chain.pass s f).stage f) →
    walk chain rs last before s f es ≡ walk_on chain rs last (stopped_here chain before s f es)
walk_found chain law rs last before s f es is =
    walk_is chain rs last before s f es
    ∙ ap (λ h. walk_on chain rs last h) (reach_pass chain law last before s f es
    ∙ reach_found chain last (before ++ (chain.pass s f).owed) (chain.pass s f).stage f es (law.at s f) is)

module _ {S E R A : Type 0} (chain : Chain S E R A) (like : List A → List A → Type 0) (is_like : IsLikeness like) where
  found_alike : (behind behind' : List A) (l m : Look A) → like behind behind' → FoundAlike like l m → like (found_with behind l) (found_with behind' m)
  found_alike behind behind' NotYet NotYet behinds alike = is_like.itself []
  found_alike behind behind' NotYet (Asks b) behinds alike = absurd alike
  found_alike behind behind' NotYet (Ends b) behinds alike = absurd alike
  found_alike behind behind' (Asks a) NotYet behinds alike = absurd alike
  found_alike behind behind' (Asks a) (Asks b) behinds alike = is_like.joins (a ∷ []) (b ∷ []) behind behind' alike behinds
  found_alike behind behind' (Asks a) (Ends b) behinds alike = absurd alike
  found_alike behind behind' (Ends a) NotYet behinds alike = absurd alike
  found_alike behind behind' (Ends a) (Asks b) behinds alike = absurd alike
  found_alike behind behind' (Ends a) (Ends b) behinds alike = alike

  is_found_alike : (l m : Look A) → FoundAlike like l m → IsFound l → IsFound m
  is_found_alike NotYet m alike is = absurd is
  is_found_alike (Asks a) NotYet alike is = absurd alike
  is_found_alike (Asks a) (Asks b) alike is = tt
  is_found_alike (Asks a) (Ends b) alike is = tt
  is_found_alike (Ends a) NotYet alike is = absurd alike
  is_found_alike (Ends a) (Asks b) alike is = tt
  is_found_alike (Ends a) (Ends b) alike is = tt

  -- all that is owed where a search stopped
  abbrev owed_there : Reached S E A → List A
  owed_there here = here.before ++ (chain.so_far here.stage here.prefix ++ found_at chain here.stage here.prefix)

  owed_alike : (before other : List A) (s : S) (f : List (Timed E)) (t : S) (g : List (Timed E)) → like before other → OwesAlike chain like s f t g →
      like (before ++ (chain.so_far s f ++ found_at chain s f)) (other ++ (chain.so_far t g ++ found_at chain t g))
  owed_alike before other s f t g befores owes =
      is_like.joins before other _ _ befores
      (is_like.joins (chain.so_far s f) (chain.so_far t g) _ _ owes.so_far
      (found_alike (chain.behind s f) (chain.behind t g) (chain.look s f) (chain.look t g) owes.behind owes.look))

  -- what is owed up to a reply and by it
  answered_alike : (before other so_far so_far' : List A) (ask ask' : A) (behind behind' owed owed' : List A) → like before other → like so_far so_far' →
      like (ask ∷ []) (ask' ∷ []) → like behind behind' → like owed owed' →
      like (before ++ (so_far ++ ask ∷ (behind ++ owed))) (other ++ (so_far' ++ ask' ∷ (behind' ++ owed')))
  answered_alike before other so_far so_far' ask ask' behind behind' owed owed' a b c d e =
      is_like.joins before other _ _ a (is_like.joins so_far so_far' _ _ b
      (is_like.joins (ask ∷ []) (ask' ∷ []) (behind ++ owed) (behind' ++ owed') c (is_like.joins behind behind' owed owed' d e)))

  -- one way of both walks, by what was found
  walk_by_alike : (l m : Look A) (onward other : A → Stop S E R A) (stop stop' : Stop S E R A) → FoundAlike like l m →
      ((ask ask' : A) → l ≡ Asks ask → m ≡ Asks ask' → like (owed_at chain (onward ask)) (owed_at chain (other ask'))) →
      like (owed_at chain stop) (owed_at chain stop') →
      like (owed_at chain (walk_by l onward stop)) (owed_at chain (walk_by m other stop'))
  walk_by_alike NotYet NotYet onward other stop stop' alike asked else = else
  walk_by_alike NotYet (Asks b) onward other stop stop' alike asked else = absurd alike
  walk_by_alike NotYet (Ends b) onward other stop stop' alike asked else = absurd alike
  walk_by_alike (Asks a) NotYet onward other stop stop' alike asked else = absurd alike
  walk_by_alike (Asks a) (Asks b) onward other stop stop' alike asked else = asked a b refl refl
  walk_by_alike (Asks a) (Ends b) onward other stop stop' alike asked else = absurd alike
  walk_by_alike (Ends a) NotYet onward other stop stop' alike asked else = absurd alike
  walk_by_alike (Ends a) (Asks b) onward other stop stop' alike asked else = absurd alike
  walk_by_alike (Ends a) (Ends b) onward other stop stop' alike asked else = else

  -- the ask of both places
  asks_alike : (l m : Look A) (ask ask' : A) → FoundAlike like l m → l ≡ Asks ask → m ≡ Asks ask' → like (ask ∷ []) (ask' ∷ [])
  asks_alike l m ask ask' alike is is' =
      let P : Look A → Look A → Type 0 = FoundAlike like in
      subst (λ (k : Look A). P (Asks ask) k) is' (subst (λ (k : Look A). P k m) is alike)

  module _ (same : S → List (Timed E) → S → List (Timed E) → Type 0) (alike : Alike chain like same) (law : Settles chain) where
    -- searches that stopped at places that look alike
    pub record ReachedAlike (here there : Reached S E A) : Type 0 where
      pub before : like here.before there.before
      pub place : same here.stage here.prefix there.stage there.prefix
      pub rest : here.rest ≡ there.rest

    passed_alike : (before other : List A) (s : S) (f : List (Timed E)) (t : S) (g : List (Timed E)) → like before other → same s f t g → (es : List (Stamped E)) →
        ReachedAlike (stopped_here chain before s f es) (stopped_here chain other t g es)
    passed_alike before other s f t g befores place es = record {
      before = is_like.joins before other _ _ befores (alike.passes s f t g place).owed;
      place = (alike.passes s f t g place).stage;
      rest = refl;
    }

    by_alike : (l m : Look A) (further here further' here' : Reached S E A) → FoundAlike like l m →
        (l ≡ NotYet → ReachedAlike further further') → ReachedAlike here here' → ReachedAlike (reach_by l further here) (reach_by m further' here')
    by_alike NotYet NotYet further here further' here' both on at = on refl
    by_alike NotYet (Asks b) further here further' here' both on at = absurd both
    by_alike NotYet (Ends b) further here further' here' both on at = absurd both
    by_alike (Asks a) NotYet further here further' here' both on at = absurd both
    by_alike (Asks a) (Asks b) further here further' here' both on at = at
    by_alike (Asks a) (Ends b) further here further' here' both on at = absurd both
    by_alike (Ends a) NotYet further here further' here' both on at = absurd both
    by_alike (Ends a) (Asks b) further here further' here' both on at = absurd both
    by_alike (Ends a) (Ends b) further here further' here' both on at = at

    reach_alike : (last : Stamp) (before other : List A) (s : S) (f : List (Timed E)) (t : S) (g : List (Timed E)) (es : List (Stamped E)) → like before other → same s f t g →
        ReachedAlike (reach chain last before s f es) (reach chain last other t g es)
    reach_alike last before other s f t g [] befores place = passed_alike before other s f t g befores place []
    reach_alike last before other s f t g (e ∷ es) befores place =
        let on = chain.pass s f in
        let on' = chain.pass t g in
        let at = passed_alike before other s f t g befores place (e ∷ es) in
        by_alike (chain.look on.stage f) (chain.look on'.stage g) _ _ _ _
        (alike.owes on.stage f on'.stage g at.place (law.at s f) (law.at t g)).look
        (λ is. reach_alike last (before ++ on.owed) (other ++ on'.owed) on.stage (f ++ worked_off last e ∷ []) on'.stage (g ++ worked_off last e ∷ []) es at.before
        (alike.more on.stage f on'.stage g at.place (law.at s f) (law.at t g) is (worked_off last e)))
        at

    stop_alike : (last : Stamp) (here there : Reached S E A) (rs : List (Stamped R)) → ReachedAlike here there → StopsAlike like same (stop_at last here rs) (stop_at last there rs)
    stop_alike last here there rs at = record { last = refl; before = at.before; place = at.place; rest = at.rest; unused = refl }

    stops_by_alike : (l m : Look A) (onward other : A → Stop S E R A) (stop stop' : Stop S E R A) → FoundAlike like l m →
        ((ask ask' : A) → l ≡ Asks ask → m ≡ Asks ask' → StopsAlike like same (onward ask) (other ask')) → StopsAlike like same stop stop' →
        StopsAlike like same (walk_by l onward stop) (walk_by m other stop')
    stops_by_alike NotYet NotYet onward other stop stop' both asked at = at
    stops_by_alike NotYet (Asks b) onward other stop stop' both asked at = absurd both
    stops_by_alike NotYet (Ends b) onward other stop stop' both asked at = absurd both
    stops_by_alike (Asks a) NotYet onward other stop stop' both asked at = absurd both
    stops_by_alike (Asks a) (Asks b) onward other stop stop' both asked at = asked a b refl refl
    stops_by_alike (Asks a) (Ends b) onward other stop stop' both asked at = absurd both
    stops_by_alike (Ends a) NotYet onward other stop stop' both asked at = absurd both
    stops_by_alike (Ends a) (Asks b) onward other stop stop' both asked at = absurd both
    stops_by_alike (Ends a) (Ends b) onward other stop stop' both asked at = at

    -- Walks from places that look alike stop at places that look alike.
    pub same_stops : (rs : List (Stamped R)) (last : Stamp) (before other : List A) (s : S) (f : List (Timed E)) (t : S) (g : List (Timed E)) (es : List (Stamped E)) →
        like before other → same s f t g → StopsAlike like same (walk chain rs last before s f es) (walk chain rs last other t g es)
    same_stops [] last before other s f t g es befores place =
        stop_alike last _ _ [] (reach_alike last before other s f t g es befores place)
    same_stops (r ∷ rs) last before other s f t g es befores place =
        let here = reach chain last before s f es in
        let there = reach chain last other t g es in
        let at = reach_alike last before other s f t g es befores place in
        let settled = reach_settled chain law last before s f es in
        let settled' = reach_settled chain law last other t g es in
        let owes = alike.owes here.stage here.prefix there.stage there.prefix at.place settled settled' in
        stops_by_alike (chain.look here.stage here.prefix) (chain.look there.stage there.prefix) _ _ _ _ owes.look
        (λ ask ask' is is'.
        let turned = alike.turns here.stage here.prefix there.stage there.prefix at.place settled settled' ask is (at_its_step r) in
        let asks = asks_alike (chain.look here.stage here.prefix) (chain.look there.stage there.prefix) ask ask' owes.look is is' in
        rw at.rest
        (same_stops rs r.stamp _ _ (chain.turn here.stage here.prefix (at_its_step r)).stage here.prefix (chain.turn there.stage there.prefix (at_its_step r)).stage there.prefix there.rest
        (answered_alike here.before there.before _ _ ask ask' _ _ _ _ at.before owes.so_far asks owes.behind turned.owed) turned.stage))
        (stop_alike last here there (r ∷ rs) at)

    -- Walks from places that look alike owe alike.
    pub same_owed : (rs : List (Stamped R)) (last : Stamp) (before other : List A) (s : S) (f : List (Timed E)) (t : S) (g : List (Timed E)) (es : List (Stamped E)) →
        like before other → same s f t g →
        like (owed_at chain (walk chain rs last before s f es)) (owed_at chain (walk chain rs last other t g es))
    same_owed rs last before other s f t g es befores place =
        let w = walk chain rs last before s f es in
        let v = walk chain rs last other t g es in
        let at = same_stops rs last before other s f t g es befores place in
        owed_alike w.before v.before w.stage w.prefix v.stage v.prefix at.before
        (alike.owes w.stage w.prefix v.stage v.prefix at.place (stopped chain law rs last before s f es).settled (stopped chain law rs last other t g es).settled)

    module _ (may_come : Stamped R → Type 0) (event : Stamped E) (early : Stamp → S → List (Timed E) → S → List (Timed E) → Type 0)
        (unhurried : Unhurried chain like same may_come event early) where
      -- nothing was found without it: it is worked off
      early_not_yet : (rs : List (Stamped R)) (last : Stamp) (before other : List A) (s : S) (f : List (Timed E)) (t : S) (g : List (Timed E)) (es : List (Stamped E)) →
          like before other → early last s f t g → chain.look (chain.pass s f).stage f ≡ NotYet →
          like (owed_at chain (walk chain rs last before s f (event ∷ es))) (owed_at chain (walk chain rs last other t g es))
      early_not_yet rs last before other s f t g es befores place is =
          let on = chain.pass s f in
          let prefix = f ++ worked_off last event ∷ [] in
          let off = unhurried.works_off last s f t g place is in
          let joined = is_like.joins before other _ _ befores off.owed in
          let whole : List A = (before ++ on.owed) ++ (chain.pass on.stage prefix).owed in
          rw (walk_next chain rs last before s f event es is, walk_pass chain law rs last (before ++ on.owed) on.stage prefix es, walk_pass chain law rs last other t g es, append_assoc before on.owed (chain.pass on.stage prefix).owed)
          (same_owed rs last _ _ _ prefix _ g es joined off.stage)

      -- what both places owe, and that something is found with the event too
      owes_both : (last : Stamp) (s : S) (f : List (Timed E)) (t : S) (g : List (Timed E)) → early last s f t g →
          IsFound (chain.look (chain.pass s f).stage f) → OwesAlike chain like (chain.pass s f).stage f (chain.pass t g).stage g
      owes_both last s f t g place is =
          unhurried.owes last (chain.pass s f).stage f (chain.pass t g).stage g (unhurried.passes last s f t g place is).stage (law.at s f) (law.at t g) is

      -- something was found without it: both walks begin there
      early_at : (rs : List (Stamped R)) (last : Stamp) (before other : List A) (s : S) (f : List (Timed E)) (t : S) (g : List (Timed E)) (es : List (Stamped E)) →
          early last s f t g → IsFound (chain.look (chain.pass s f).stage f) →
          like (owed_at chain (walk_on chain rs last (stopped_here chain before s f (event ∷ es)))) (owed_at chain (walk_on chain rs last (stopped_here chain other t g es))) →
          like (owed_at chain (walk chain rs last before s f (event ∷ es))) (owed_at chain (walk chain rs last other t g es))
      early_at rs last before other s f t g es place is at =
          let with = is_found_alike (chain.look (chain.pass s f).stage f) (chain.look (chain.pass t g).stage g) (owes_both last s f t g place is).look is in
          rw (walk_found chain law rs last before s f (event ∷ es) is, walk_found chain law rs last other t g es with) at

      early_by : (l : Look A) (rs : List (Stamped R)) (last : Stamp) (before other : List A) (s : S) (f : List (Timed E)) (t : S) (g : List (Timed E)) (es : List (Stamped E)) →
          like before other → early last s f t g → chain.look (chain.pass s f).stage f ≡ l →
          (IsFound (chain.look (chain.pass s f).stage f) →
          like (owed_at chain (walk_on chain rs last (stopped_here chain before s f (event ∷ es)))) (owed_at chain (walk_on chain rs last (stopped_here chain other t g es)))) →
          like (owed_at chain (walk chain rs last before s f (event ∷ es))) (owed_at chain (walk chain rs last other t g es))
      early_by NotYet rs last before other s f t g es befores place is at = early_not_yet rs last before other s f t g es befores place is
      early_by (Asks ask) rs last before other s f t g es befores place is at =
          let P : Look A → Type 0 = IsFound in
          let found_here = subst P (sym is) tt in
          early_at rs last before other s f t g es place found_here (at found_here)
      early_by (Ends owed) rs last before other s f t g es befores place is at =
          let P : Look A → Type 0 = IsFound in
          let found_here = subst P (sym is) tt in
          early_at rs last before other s f t g es place found_here (at found_here)

      -- An event taken early changes nothing of what is owed.
      pub early_owed : (rs : List (Stamped R)) (last : Stamp) (before other : List A) (s : S) (f : List (Timed E)) (t : S) (g : List (Timed E)) (es : List (Stamped E)) →
          MayCome may_come rs → like before other → early last s f t g →
          like (owed_at chain (walk chain rs last before s f (event ∷ es))) (owed_at chain (walk chain rs last other t g es))
      early_owed [] last before other s f t g es may befores place =
          let on = chain.pass s f in
          let on' = chain.pass t g in
          early_by (chain.look on.stage f) [] last before other s f t g es befores place refl
          (λ is. owed_alike (before ++ on.owed) (other ++ on'.owed) on.stage f on'.stage g
          (is_like.joins before other _ _ befores (unhurried.passes last s f t g place is).owed) (owes_both last s f t g place is))
      early_owed (r ∷ rs) last before other s f t g es may befores place =
          let on = chain.pass s f in
          let on' = chain.pass t g in
          let l = chain.look on.stage f in
          let l' = chain.look on'.stage g in
          early_by l (r ∷ rs) last before other s f t g es befores place refl
          (λ is.
          let passed = unhurried.passes last s f t g place is in
          let owes = owes_both last s f t g place is in
          let joined = is_like.joins before other _ _ befores passed.owed in
          walk_by_alike l l' _ _ _ _ owes.look
          (λ ask ask' asks asks'.
          let turned = unhurried.turns last on.stage f on'.stage g passed.stage (law.at s f) (law.at t g) ask asks r may.0 in
          early_owed rs r.stamp _ _ (chain.turn on.stage f (at_its_step r)).stage f (chain.turn on'.stage g (at_its_step r)).stage g es may.1
          (answered_alike (before ++ on.owed) (other ++ on'.owed) _ _ ask ask' _ _ _ _ joined owes.so_far (asks_alike l l' ask ask' owes.look asks asks') owes.behind turned.owed)
          turned.stage)
          (owed_alike (before ++ on.owed) (other ++ on'.owed) on.stage f on'.stage g joined owes))

-- where nothing was found, the walk goes on with the next event worked off
pub on_over_next : {S E R A : Type 0} (chain : Chain S E R A) (w : Stop S E R A) (e : Stamped E) (es : List (Stamped E)) → IsSettled chain w.stage w.prefix →
    chain.look w.stage w.prefix ≡ NotYet →
    goes_on_over chain w (e ∷ es) ≡ walk chain w.unused w.last w.before w.stage (front_with w e) es
on_over_next chain w e es settled is =
    let P : _ → Type 0 = λ t. chain.look t w.prefix ≡ NotYet in
    walk_next chain w.unused w.last w.before w.stage w.prefix e es (subst P (sym settled.stays) is)
    ∙ rw (settled.stays, settled.owes_nothing, append-nil) refl

module _ {S E R A : Type 0} (chain : Chain S E R A) (like : List A → List A → Type 0) (is_like : IsLikeness like) (law : Settles chain) where
  anywhere_by : (l : Look A) (start : S) (pre xs ys : List (Stamped E)) (rs : List (Stamped R)) →
      chain.look (walk_from chain start pre rs).stage (walk_from chain start pre rs).prefix ≡ l →
      OwesAlikeFrom chain like (walk_from chain start pre rs) xs ys →
      like (due chain start (pre ++ xs) rs) (due chain start (pre ++ ys) rs)
  anywhere_by NotYet start pre xs ys rs is from =
      let w = walk_from chain start pre rs in
      let rest = (stopped chain law rs never [] start [] pre).not_yet is in
      rw (more_events chain law rs never [] start [] pre xs, more_events chain law rs never [] start [] pre ys, rest) (from is)
  anywhere_by (Asks ask) start pre xs ys rs is from =
      let P : Look A → Type 0 = IsFound in
      let found_here = subst P (sym is) tt in
      rw (behind_found chain law rs never [] start [] pre xs found_here, behind_found chain law rs never [] start [] pre ys found_here) (is_like.itself _)
  anywhere_by (Ends owed) start pre xs ys rs is from =
      let P : Look A → Type 0 = IsFound in
      let found_here = subst P (sym is) tt in
      rw (behind_found chain law rs never [] start [] pre xs found_here, behind_found chain law rs never [] start [] pre ys found_here) (is_like.itself _)

  -- What owes alike from where a walk stopped owes alike behind all events before it.
  pub anywhere : (start : S) (pre xs ys : List (Stamped E)) (rs : List (Stamped R)) →
      OwesAlikeFrom chain like (walk_from chain start pre rs) xs ys →
      like (due chain start (pre ++ xs) rs) (due chain start (pre ++ ys) rs)
  anywhere start pre xs ys rs from =
      anywhere_by (chain.look (walk_from chain start pre rs).stage (walk_from chain start pre rs).prefix) start pre xs ys rs refl from

  module _ (same : S → List (Timed E) → S → List (Timed E) → Type 0) (alike : Alike chain like same) where
    -- with one event worked off, the other owes as where it was taken early
    second_early : (may_come : Stamped R → Type 0) (second : Stamped E) (early : Stamp → S → List (Timed E) → S → List (Timed E) → Type 0) →
        Unhurried chain like same may_come second early → (w : Stop S E R A) (first : Stamped E) (t : S) (g : List (Timed E)) (es : List (Stamped E)) →
        IsSettled chain w.stage w.prefix → chain.look w.stage w.prefix ≡ NotYet → MayBeEarly w first may_come early t g →
        like (owed_at chain (goes_on_over chain w (first ∷ second ∷ es))) (owed_at chain (walk chain w.unused w.last w.before t g es))
    second_early may_come second early unhurried w first t g es settled is may =
        rw (on_over_next chain w first (second ∷ es) settled is)
        (early_owed chain like is_like same alike law may_come second early unhurried w.unused w.last w.before w.before w.stage (front_with w first) t g es may.replies (is_like.itself w.before) may.place)

    pub two_for_one : (may_come : Stamped R → Type 0) (second : Stamped E) (early : Stamp → S → List (Timed E) → S → List (Timed E) → Type 0) →
        Unhurried chain like same may_come second early → (start : S) (pre es : List (Stamped E)) (first one : Stamped E) (rs : List (Stamped R)) →
        let w = walk_from chain start pre rs in
        (chain.look w.stage w.prefix ≡ NotYet → MayBeEarly w first may_come early w.stage (front_with w one)) →
        like (due chain start (pre ++ first ∷ second ∷ es) rs) (due chain start (pre ++ one ∷ es) rs)
    two_for_one may_come second early unhurried start pre es first one rs may =
        let w = walk_from chain start pre rs in
        let settled = (stopped chain law rs never [] start [] pre).settled in
        anywhere start pre (first ∷ second ∷ es) (one ∷ es) rs
        (λ is. rw (on_over_next chain w one es settled is)
        (second_early may_come second early unhurried w first w.stage (front_with w one) es settled is (may is)))

    pub swapped : ((a b c : List A) → like a c → like b c → like a b) → (may_come other_may_come : Stamped R → Type 0) (second first : Stamped E)
        (early other_early : Stamp → S → List (Timed E) → S → List (Timed E) → Type 0) →
        Unhurried chain like same may_come second early → Unhurried chain like same other_may_come first other_early →
        (start : S) (pre es : List (Stamped E)) (rs : List (Stamped R)) (t : S) (g : List (Timed E)) →
        let w = walk_from chain start pre rs in
        (chain.look w.stage w.prefix ≡ NotYet → MayBeEarly w first may_come early t g × MayBeEarly w second other_may_come other_early t g) →
        like (due chain start (pre ++ first ∷ second ∷ es) rs) (due chain start (pre ++ second ∷ first ∷ es) rs)
    swapped meets may_come other_may_come second first early other_early unhurried other_unhurried start pre es rs t g may =
        let w = walk_from chain start pre rs in
        let settled = (stopped chain law rs never [] start [] pre).settled in
        anywhere start pre (first ∷ second ∷ es) (second ∷ first ∷ es) rs
        (λ is. meets _ _ _
        (second_early may_come second early unhurried w first t g es settled is (may is).0)
        (second_early other_may_come first other_early other_unhurried w second t g es settled is (may is).1))
