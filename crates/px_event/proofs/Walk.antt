-- A walk over more events or with more replies is the walk resumed from where it stopped.
use Rattle.std.proofs.Common.{◌≡◌, List, [], ◌∷◌, ◌++◌, refl, ap, sym, ◌∙◌, subst}
use Rattle.px_event.specs.Chain.{Stamp, Stamped, Timed, at_its_step, Chain, Look, NotYet, Asks, Ends, Reached, reach, Stop, stop_at, walk, walk_by}
use Rattle.px_event.specs.Laws.{IsSettled, Settles, IsFound, with_events, with_replies, seen_values, waiting_values, Stopped}
use Rattle.px_event.proofs.Reach.{reach_more, reach_again, reach_found, reach_settled, reach_all, reach_values}

-- the walk from where the first search stopped
abbrev pub walk_on : {S E R A : Type 0} → Chain S E R A → List (Stamped R) → Stamp → Reached S E A → Stop S E R A
walk_on chain [] last here = stop_at last here []
walk_on chain (r ∷ rs) last here =
    let on = chain.turn here.stage here.prefix (at_its_step r) in
    walk_by (chain.look here.stage here.prefix)
    (λ ask. walk chain rs r.stamp (here.before ++ (chain.so_far here.stage here.prefix ++ ask ∷ (chain.behind here.stage here.prefix ++ on.owed))) on.stage here.prefix here.rest)
    (stop_at last here (r ∷ rs))

pub walk_is : {S E R A : Type 0} (chain : Chain S E R A) (rs : List (Stamped R)) (last : Stamp) (before : List A) (s : S) (f : List (Timed E)) (es : List (Stamped E)) →
    walk chain rs last before s f es ≡ walk_on chain rs last (reach chain last before s f es)
walk_is chain [] last before s f es = refl
walk_is chain (r ∷ rs) last before s f es = refl

-- the walk from where the search stopped over some of the events
walk_again : {S E R A : Type 0} (chain : Chain S E R A) → Settles chain → (qs : List (Stamped R)) (last : Stamp) (before : List A) (s : S) (f : List (Timed E)) (es : List (Stamped E)) →
    let here = reach chain last before s f es in walk chain qs last here.before here.stage here.prefix here.rest ≡ walk chain qs last before s f es
walk_again chain law qs last before s f es =
    let here = reach chain last before s f es in
    walk_is chain qs last here.before here.stage here.prefix here.rest
    ∙ (ap (λ h. walk_on chain qs last h) (reach_again chain law last before s f es) ∙ sym (walk_is chain qs last before s f es))

walk_more : {S E R A : Type 0} (chain : Chain S E R A) → Settles chain → (qs : List (Stamped R)) (last : Stamp) (before : List A) (s : S) (f : List (Timed E)) (es xs : List (Stamped E)) →
    let here = reach chain last before s f es in
    walk chain qs last before s f (es ++ xs) ≡ walk chain qs last here.before here.stage here.prefix (here.rest ++ xs)
walk_more chain law qs last before s f es xs =
    let here = reach chain last before s f es in
    walk_is chain qs last before s f (es ++ xs)
    ∙ (ap (λ h. walk_on chain qs last h) (reach_more chain law last before s f es xs)
    ∙ sym (walk_is chain qs last here.before here.stage here.prefix (here.rest ++ xs)))

-- where an ask is found, more events stand behind it
walk_more_asks : {S E R A : Type 0} (chain : Chain S E R A) (ask : A) (r : Stamped R) (rs : List (Stamped R)) (last : Stamp) (here : Reached S E A) (xs : List (Stamped E)) →
    IsSettled chain here.stage here.prefix → chain.look here.stage here.prefix ≡ Asks ask →
    let on = chain.turn here.stage here.prefix (at_its_step r) in
    walk chain (r ∷ rs) last here.before here.stage here.prefix (here.rest ++ xs)
    ≡ walk chain rs r.stamp (here.before ++ (chain.so_far here.stage here.prefix ++ ask ∷ (chain.behind here.stage here.prefix ++ on.owed))) on.stage here.prefix (here.rest ++ xs)
walk_more_asks chain ask r rs last here xs settled is =
    let P : Look _ → Type 0 = IsFound in
    let same = reach_found chain last here.before here.stage here.prefix (here.rest ++ xs) settled (subst P (sym is) tt) in
    rw same (rw is refl)

more_by : {S E R A : Type 0} (chain : Chain S E R A) (xs : List (Stamped E)) (l : Look A) (whole : Stop S E R A) (onward : A → Stop S E R A) (stop : Stop S E R A) →
    ((ask : A) → l ≡ Asks ask → whole ≡ with_events chain (onward ask) xs) →
    whole ≡ with_events chain stop xs →
    whole ≡ with_events chain (walk_by l onward stop) xs
more_by chain xs NotYet whole onward stop asked else = else
more_by chain xs (Asks ask) whole onward stop asked else = asked ask refl
more_by chain xs (Ends owed) whole onward stop asked else = else

pub more_events : {S E R A : Type 0} (chain : Chain S E R A) → Settles chain → (rs : List (Stamped R)) (last : Stamp) (before : List A) (s : S) (f : List (Timed E)) (es xs : List (Stamped E)) →
    walk chain rs last before s f (es ++ xs) ≡ with_events chain (walk chain rs last before s f es) xs
more_events chain law [] last before s f es xs = walk_more chain law [] last before s f es xs
more_events chain law (r ∷ rs) last before s f es xs =
    let here = reach chain last before s f es in
    let on = chain.turn here.stage here.prefix (at_its_step r) in
    let settled = reach_settled chain law last before s f es in
    let whole = walk_more chain law (r ∷ rs) last before s f es xs in
    more_by chain xs (chain.look here.stage here.prefix) _ _ _
    (λ ask is. whole ∙ (walk_more_asks chain ask r rs last here xs settled is
    ∙ more_events chain law rs r.stamp (here.before ++ (chain.so_far here.stage here.prefix ++ ask ∷ (chain.behind here.stage here.prefix ++ on.owed))) on.stage here.prefix here.rest xs))
    whole

replies_by : {S E R A : Type 0} (chain : Chain S E R A) (qs : List (Stamped R)) (l : Look A) (onward' onward : A → Stop S E R A) (whole stop' stop : Stop S E R A) →
    whole ≡ walk_by l onward' stop' →
    ((ask : A) → onward' ask ≡ with_replies chain (onward ask) qs) →
    whole ≡ with_replies chain stop qs →
    whole ≡ with_replies chain (walk_by l onward stop) qs
replies_by chain qs NotYet onward' onward whole stop' stop is asked else = else
replies_by chain qs (Asks ask) onward' onward whole stop' stop is asked else = is ∙ asked ask
replies_by chain qs (Ends owed) onward' onward whole stop' stop is asked else = else

pub more_replies : {S E R A : Type 0} (chain : Chain S E R A) → Settles chain → (rs qs : List (Stamped R)) (last : Stamp) (before : List A) (s : S) (f : List (Timed E)) (es : List (Stamped E)) →
    walk chain (rs ++ qs) last before s f es ≡ with_replies chain (walk chain rs last before s f es) qs
more_replies chain law [] qs last before s f es = sym (walk_again chain law qs last before s f es)
more_replies chain law (r ∷ rs) qs last before s f es =
    let here = reach chain last before s f es in
    let on = chain.turn here.stage here.prefix (at_its_step r) in
    replies_by chain qs (chain.look here.stage here.prefix) _ _ _ _ _ refl
    (λ ask. more_replies chain law rs qs r.stamp (here.before ++ (chain.so_far here.stage here.prefix ++ ask ∷ (chain.behind here.stage here.prefix ++ on.owed))) on.stage here.prefix here.rest)
    (sym (walk_again chain law (r ∷ rs ++ qs) last before s f es))

stopped_by : {S E R A : Type 0} (chain : Chain S E R A) (values : List E) (l : Look A) (onward : A → Stop S E R A) (stop : Stop S E R A) →
    chain.look stop.stage stop.prefix ≡ l →
    ((ask : A) → Stopped chain values (onward ask)) →
    (((ask : A) → l ≡ Asks ask → ⊥) → Stopped chain values stop) →
    Stopped chain values (walk_by l onward stop)
stopped_by chain values NotYet onward stop is asked else = else (λ ask no. cc)
stopped_by chain values (Asks ask) onward stop is asked else = asked ask
stopped_by chain values (Ends owed) onward stop is asked else = else (λ ask no. cc)

pub stopped : {S E R A : Type 0} (chain : Chain S E R A) → Settles chain → (rs : List (Stamped R)) (last : Stamp) (before : List A) (s : S) (f : List (Timed E)) (es : List (Stamped E)) →
    Stopped chain (seen_values f ++ waiting_values es) (walk chain rs last before s f es)
stopped chain law [] last before s f es = record {
  settled = reach_settled chain law last before s f es;
  not_yet = reach_all chain last before s f es;
  asks = λ ask is. refl;
  whole = reach_values chain last before s f es;
}
stopped {S} {E} {R} {A} chain law (r ∷ rs) last before s f es =
    let here = reach chain last before s f es in
    let on = chain.turn here.stage here.prefix (at_its_step r) in
    let whole = reach_values chain last before s f es in
    let P : List E → Type 0 = λ values. (ask : A) → Stopped chain values (walk chain rs r.stamp (here.before ++ (chain.so_far here.stage here.prefix ++ ask ∷ (chain.behind here.stage here.prefix ++ on.owed))) on.stage here.prefix here.rest) in
    stopped_by chain _ (chain.look here.stage here.prefix) _ _ refl
    (subst P whole (λ ask. stopped chain law rs r.stamp (here.before ++ (chain.so_far here.stage here.prefix ++ ask ∷ (chain.behind here.stage here.prefix ++ on.owed))) on.stage here.prefix here.rest))
    (λ no_ask. record {
      settled = reach_settled chain law last before s f es;
      not_yet = reach_all chain last before s f es;
      asks = λ ask is. absurd (no_ask ask is);
      whole = whole;
    })
