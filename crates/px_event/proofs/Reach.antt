-- The shortest prefix over which a stage finds something: found over more events it is the same, and it may be resumed.
use Rattle.std.proofs.Common.{◌≡◌, List, [], ◌∷◌, ◌++◌, refl, ap, sym, ◌∙◌, subst, append_assoc}
use Rattle.std.proofs.lemmas.List.{append-nil, map-append}
use Rattle.px_event.specs.Chain.{Stamp, Stamped, Timed, worked_off, Chain, Look, NotYet, Asks, Ends, Reached, reach, reach_by}
use Rattle.px_event.specs.Laws.{IsSettled, Settles, IsFound, seen_values, waiting_values}

-- the search stopped here
abbrev pub stopped_here : {S E R A : Type 0} → Chain S E R A → List A → S → List (Timed E) → List (Stamped E) → Reached S E A
stopped_here chain before s f es =
    record { before = before ++ (chain.pass s f).owed; stage = (chain.pass s f).stage; prefix = f; rest = es }

-- the search goes on from where it stopped, with these events behind it
abbrev pub reach_on : {S E R A : Type 0} → Chain S E R A → Stamp → Reached S E A → List (Stamped E) → Reached S E A
reach_on chain last here xs = reach chain last here.before here.stage here.prefix (here.rest ++ xs)

-- where a stage does not pass, the search stops before what was owed
pub settled_stop : {S E R A : Type 0} (chain : Chain S E R A) (before : List A) (s : S) (f : List (Timed E)) (es : List (Stamped E)) →
    IsSettled chain s f → stopped_here chain before s f es ≡ record { before = before; stage = s; prefix = f; rest = es }
settled_stop chain before s f es settled = rw (settled.stays, settled.owes_nothing, append-nil) refl

-- something found is found at once
by_found : {S E A : Type 0} (l : Look A) (further here : Reached S E A) → IsFound l → reach_by l further here ≡ here
by_found NotYet further here is = absurd is
by_found (Asks ask) further here is = refl
by_found (Ends owed) further here is = refl

here_stopped : {S E R A : Type 0} (chain : Chain S E R A) (last : Stamp) (before : List A) (s : S) (f : List (Timed E)) (es : List (Stamped E)) →
    IsFound (chain.look (chain.pass s f).stage f) → reach chain last before s f es ≡ stopped_here chain before s f es
here_stopped chain last before s f [] is = refl
here_stopped chain last before s f (e ∷ es) is = by_found (chain.look (chain.pass s f).stage f) _ _ is

pub reach_found : {S E R A : Type 0} (chain : Chain S E R A) (last : Stamp) (before : List A) (s : S) (f : List (Timed E)) (es : List (Stamped E)) →
    IsSettled chain s f → IsFound (chain.look s f) → reach chain last before s f es ≡ record { before = before; stage = s; prefix = f; rest = es }
reach_found {S} chain last before s f es settled is =
    let P : S → Type 0 = λ t. IsFound (chain.look t f) in
    here_stopped chain last before s f es (subst P (sym settled.stays) is) ∙ settled_stop chain before s f es settled

-- passing first changes nothing
pub reach_pass : {S E R A : Type 0} (chain : Chain S E R A) → Settles chain → (last : Stamp) (before : List A) (s : S) (f : List (Timed E)) (xs : List (Stamped E)) →
    reach chain last before s f xs ≡ reach chain last (before ++ (chain.pass s f).owed) (chain.pass s f).stage f xs
reach_pass chain law last before s f [] =
    sym (settled_stop chain (before ++ (chain.pass s f).owed) (chain.pass s f).stage f [] (law.at s f))
reach_pass chain law last before s f (e ∷ es) = rw ((law.at s f).stays, (law.at s f).owes_nothing, append-nil) refl

more_by : {S E R A : Type 0} (chain : Chain S E R A) (last : Stamp) (xs : List (Stamped E)) (l : Look A) (further' further here' here : Reached S E A) →
    further' ≡ reach_on chain last further xs → reach_by l further' here' ≡ reach_on chain last here xs →
    reach_by l further' here' ≡ reach_on chain last (reach_by l further here) xs
more_by chain last xs NotYet further' further here' here on at = on
more_by chain last xs (Asks ask) further' further here' here on at = at
more_by chain last xs (Ends owed) further' further here' here on at = at

-- the search over more events is the search resumed
pub reach_more : {S E R A : Type 0} (chain : Chain S E R A) → Settles chain → (last : Stamp) (before : List A) (s : S) (f : List (Timed E)) (es xs : List (Stamped E)) →
    reach chain last before s f (es ++ xs) ≡ reach_on chain last (reach chain last before s f es) xs
reach_more chain law last before s f [] xs = reach_pass chain law last before s f xs
reach_more chain law last before s f (e ∷ es) xs =
    more_by chain last xs (chain.look (chain.pass s f).stage f) _ _ _ _
    (reach_more chain law last (before ++ (chain.pass s f).owed) (chain.pass s f).stage (f ++ worked_off last e ∷ []) es xs)
    (reach_pass chain law last before s f (e ∷ es ++ xs))

pub reach_again : {S E R A : Type 0} (chain : Chain S E R A) → Settles chain → (last : Stamp) (before : List A) (s : S) (f : List (Timed E)) (es : List (Stamped E)) →
    let here = reach chain last before s f es in reach chain last here.before here.stage here.prefix here.rest ≡ here
reach_again chain law last before s f es =
    let here = reach chain last before s f es in
    let on = reach_more chain law last before s f es [] in
    ap (λ ys. reach chain last here.before here.stage here.prefix ys) (sym (append-nil here.rest))
    ∙ (sym on ∙ ap (λ ys. reach chain last before s f ys) (append-nil es))

settled_by : {S E R A : Type 0} (chain : Chain S E R A) (l : Look A) (further here : Reached S E A) →
    IsSettled chain further.stage further.prefix → IsSettled chain here.stage here.prefix →
    IsSettled chain (reach_by l further here).stage (reach_by l further here).prefix
settled_by chain NotYet further here a b = a
settled_by chain (Asks ask) further here a b = b
settled_by chain (Ends owed) further here a b = b

-- the search stops at a stage that does not pass
pub reach_settled : {S E R A : Type 0} (chain : Chain S E R A) → Settles chain → (last : Stamp) (before : List A) (s : S) (f : List (Timed E)) (es : List (Stamped E)) →
    IsSettled chain (reach chain last before s f es).stage (reach chain last before s f es).prefix
reach_settled chain law last before s f [] = law.at s f
reach_settled chain law last before s f (e ∷ es) =
    settled_by chain (chain.look (chain.pass s f).stage f) _ _
    (reach_settled chain law last (before ++ (chain.pass s f).owed) (chain.pass s f).stage (f ++ worked_off last e ∷ []) es)
    (law.at s f)

whole_by : {S E R A : Type 0} (chain : Chain S E R A) (l : Look A) (further here : Reached S E A) → chain.look here.stage here.prefix ≡ l →
    (chain.look further.stage further.prefix ≡ NotYet → further.rest ≡ []) →
    chain.look (reach_by l further here).stage (reach_by l further here).prefix ≡ NotYet → (reach_by l further here).rest ≡ []
whole_by chain NotYet further here is on not_yet = on not_yet
whole_by chain (Asks ask) further here is on not_yet = cc
whole_by chain (Ends owed) further here is on not_yet = cc

-- where nothing is found, all events were looked at
pub reach_all : {S E R A : Type 0} (chain : Chain S E R A) (last : Stamp) (before : List A) (s : S) (f : List (Timed E)) (es : List (Stamped E)) →
    chain.look (reach chain last before s f es).stage (reach chain last before s f es).prefix ≡ NotYet → (reach chain last before s f es).rest ≡ []
reach_all chain last before s f [] is = refl
reach_all chain last before s f (e ∷ es) is =
    whole_by chain (chain.look (chain.pass s f).stage f) _ _ refl
    (reach_all chain last (before ++ (chain.pass s f).owed) (chain.pass s f).stage (f ++ worked_off last e ∷ []) es) is

values_by : {S E A : Type 0} (l : Look A) (further here : Reached S E A) (all : List E) →
    seen_values further.prefix ++ waiting_values further.rest ≡ all → seen_values here.prefix ++ waiting_values here.rest ≡ all →
    seen_values (reach_by l further here).prefix ++ waiting_values (reach_by l further here).rest ≡ all
values_by NotYet further here all a b = a
values_by (Asks ask) further here all a b = b
values_by (Ends owed) further here all a b = b

worked_off_value : {E : Type 0} (f : List (Timed E)) (last : Stamp) (e : Stamped E) (es : List (Stamped E)) →
    seen_values (f ++ worked_off last e ∷ []) ++ waiting_values es ≡ seen_values f ++ waiting_values (e ∷ es)
worked_off_value f last e es =
    ap (λ ys. ys ++ waiting_values es) (map-append (λ (t : Timed _). t.value) f (worked_off last e ∷ []))
    ∙ append_assoc (seen_values f) (e.value ∷ []) (waiting_values es)

-- no event is lost or told twice
pub reach_values : {S E R A : Type 0} (chain : Chain S E R A) (last : Stamp) (before : List A) (s : S) (f : List (Timed E)) (es : List (Stamped E)) →
    seen_values (reach chain last before s f es).prefix ++ waiting_values (reach chain last before s f es).rest
    ≡ seen_values f ++ waiting_values es
reach_values chain last before s f [] = refl
reach_values chain last before s f (e ∷ es) =
    values_by (chain.look (chain.pass s f).stage f) _ _ _
    (reach_values chain last (before ++ (chain.pass s f).owed) (chain.pass s f).stage (f ++ worked_off last e ∷ []) es
    ∙ worked_off_value f last e es)
    refl
