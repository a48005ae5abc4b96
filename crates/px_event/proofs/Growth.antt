-- In each view what is owed only grows, by events and by replies.
use Rattle.std.proofs.Common.{◌≡◌, List, [], ◌∷◌, ◌++◌, refl, ap, sym, ◌∙◌, subst, append_assoc}
use Rattle.std.proofs.lemmas.List.{append-nil}
use Rattle.px_text.specs.Prefix.{IsPrefixOf}
use Rattle.px_event.specs.Chain.{Stamp, Stamped, Timed, worked_off, at_its_step, Chain, Look, NotYet, Asks, Ends, Reached, reach, reach_by, Stop, walk, walk_by, owed_at}
use Rattle.px_event.specs.Laws.{IsSettled, Settles, owed_here, owed_over, IsView, SoFarGrows}
use Rattle.px_event.proofs.Walk.{more_events, more_replies, stopped}

pub prefix_self : {V : Type 0} (xs : List V) → IsPrefixOf xs xs
prefix_self xs = ([], sym (append-nil xs))

pub prefix_trans : {V : Type 0} (xs ys zs : List V) → IsPrefixOf xs ys → IsPrefixOf ys zs → IsPrefixOf xs zs
prefix_trans xs ys zs (a, is) (b, js) = (a ++ b, js ∙ (ap (λ l. l ++ b) is ∙ append_assoc xs a b))

pub prefix_append : {V : Type 0} (xs ys : List V) → IsPrefixOf xs (xs ++ ys)
prefix_append xs ys = (ys, refl)

-- behind the same list
pub prefix_behind : {V : Type 0} (xs ys zs : List V) → IsPrefixOf ys zs → IsPrefixOf (xs ++ ys) (xs ++ zs)
prefix_behind xs ys zs (a, is) = (a, ap (λ l. xs ++ l) is ∙ sym (append_assoc xs ys a))

module _ {S E R A V : Type 0} (chain : Chain S E R A) (view : List A → List V) (is_view : IsView view) where
  -- in the view, the one begins with the other
  abbrev Begins : List A → List A → Type 0
  Begins xs ys = IsPrefixOf (view xs) (view ys)

  begins_append : (xs ys : List A) → Begins xs (xs ++ ys)
  begins_append xs ys = let P : List V → Type 0 = λ l. IsPrefixOf (view xs) l in
      subst P (sym (is_view.joins xs ys)) (prefix_append (view xs) (view ys))

  begins_behind : (xs ys zs : List A) → Begins ys zs → Begins (xs ++ ys) (xs ++ zs)
  begins_behind xs ys zs begins = rw (is_view.joins xs ys, is_view.joins xs zs) (prefix_behind (view xs) (view ys) (view zs) begins)

  begins_trans : (xs ys zs : List A) → Begins xs ys → Begins ys zs → Begins xs zs
  begins_trans xs ys zs a b = prefix_trans (view xs) (view ys) (view zs) a b

  begins_self : (xs ys : List A) → xs ≡ ys → Begins xs ys
  begins_self xs ys is = let P : List A → Type 0 = λ l. Begins xs l in subst P is (prefix_self (view xs))

  module _ (grows : SoFarGrows chain view) where
    -- what is owed where a search stopped
    abbrev owed_there : Reached S E A → List A
    owed_there here = here.before ++ owed_here chain here.stage here.prefix

    reach_by_grows : (l : Look A) (further here : Reached S E A) (owed : List A) →
        (l ≡ NotYet → Begins owed (owed_there further)) → owed ≡ owed_there here → Begins owed (owed_there (reach_by l further here))
    reach_by_grows NotYet further here owed on is = on refl
    reach_by_grows (Asks ask) further here owed on is = begins_self _ _ is
    reach_by_grows (Ends end) further here owed on is = begins_self _ _ is

    reach_grows : (last : Stamp) (before : List A) (s : S) (f : List (Timed E)) (es : List (Stamped E)) →
        Begins (before ++ owed_over chain s f) (owed_there (reach chain last before s f es))
    reach_grows last before s f [] = begins_self _ _ (sym (append_assoc before _ _))
    reach_grows last before s f (e ∷ es) =
        let on = chain.pass s f in
        let further = f ++ worked_off last e ∷ [] in
        reach_by_grows (chain.look on.stage f) _ _ (before ++ owed_over chain s f)
        (λ is.
        let so_far : before ++ owed_over chain s f ≡ (before ++ on.owed) ++ chain.so_far on.stage f =
        rw (is, append-nil) (sym (append_assoc before on.owed (chain.so_far on.stage f))) in
        begins_trans _ _ _ (begins_self _ _ so_far)
        (begins_trans _ _ _ (begins_behind (before ++ on.owed) _ _ (grows.grows on.stage f (worked_off last e) is))
        (reach_grows last (before ++ on.owed) on.stage further es)))
        (sym (append_assoc before _ _))

    walk_by_grows : (l : Look A) (onward : A → Stop S E R A) (stop : Stop S E R A) (owed : List A) →
        ((ask : A) → l ≡ Asks ask → Begins owed (owed_at chain (onward ask))) → Begins owed (owed_at chain stop) →
        Begins owed (owed_at chain (walk_by l onward stop))
    walk_by_grows NotYet onward stop owed asked else = else
    walk_by_grows (Asks ask) onward stop owed asked else = asked ask refl
    walk_by_grows (Ends end) onward stop owed asked else = else

    -- what is owed at a place is the beginning of what is owed wherever a walk from there stops
    walk_grows : (rs : List (Stamped R)) (last : Stamp) (before : List A) (s : S) (f : List (Timed E)) (es : List (Stamped E)) →
        Begins (before ++ owed_over chain s f) (owed_at chain (walk chain rs last before s f es))
    walk_grows [] last before s f es = reach_grows last before s f es
    walk_grows (r ∷ rs) last before s f es =
        let here = reach chain last before s f es in
        let on = chain.turn here.stage here.prefix (at_its_step r) in
        let so_far = chain.so_far here.stage here.prefix in
        walk_by_grows (chain.look here.stage here.prefix) _ _ (before ++ owed_over chain s f)
        (λ ask is.
        let behind = chain.behind here.stage here.prefix in
        let further : List A = here.before ++ (so_far ++ ask ∷ (behind ++ on.owed)) in
        let asked : further ≡ owed_there here ++ on.owed =
        rw is (ap (λ l. here.before ++ l) (sym (append_assoc so_far (ask ∷ behind) on.owed)) ∙ sym (append_assoc here.before (so_far ++ ask ∷ behind) on.owed)) in
        begins_trans _ _ _ (reach_grows last before s f es)
        (begins_trans _ _ _ (begins_append (owed_there here) on.owed)
        (begins_trans _ _ _ (begins_self _ _ (sym asked))
        (begins_trans _ _ _ (begins_append further (owed_over chain on.stage here.prefix))
        (walk_grows rs r.stamp further on.stage here.prefix here.rest)))))
        (reach_grows last before s f es)

    settled_owes : (w : Stop S E R A) → IsSettled chain w.stage w.prefix → owed_at chain w ≡ w.before ++ owed_over chain w.stage w.prefix
    settled_owes w settled = rw (settled.stays, settled.owes_nothing) refl

    pub grows_by_events : Settles chain → (rs : List (Stamped R)) (last : Stamp) (before : List A) (s : S) (f : List (Timed E)) (es xs : List (Stamped E)) →
        IsPrefixOf (view (owed_at chain (walk chain rs last before s f es))) (view (owed_at chain (walk chain rs last before s f (es ++ xs))))
    grows_by_events law rs last before s f es xs =
        let w = walk chain rs last before s f es in
        rw (more_events chain law rs last before s f es xs)
        (begins_trans _ _ _ (begins_self _ _ (settled_owes w (stopped chain law rs last before s f es).settled))
        (walk_grows w.unused w.last w.before w.stage w.prefix (w.rest ++ xs)))

    pub grows_by_replies : Settles chain → (rs qs : List (Stamped R)) (last : Stamp) (before : List A) (s : S) (f : List (Timed E)) (es : List (Stamped E)) →
        IsPrefixOf (view (owed_at chain (walk chain rs last before s f es))) (view (owed_at chain (walk chain (rs ++ qs) last before s f es)))
    grows_by_replies law rs qs last before s f es =
        let w = walk chain rs last before s f es in
        rw (more_replies chain law rs qs last before s f es)
        (begins_trans _ _ _ (begins_self _ _ (settled_owes w (stopped chain law rs last before s f es).settled))
        (walk_grows (w.unused ++ qs) w.last w.before w.stage w.prefix w.rest))
