-- One event or one reply more, where a walk stopped: what a machine that follows the walk has to do.
use Rattle.std.proofs.Common.{◌≡◌, List, [], ◌∷◌, ◌++◌, refl, ap, sym, ◌∙◌, subst, append_assoc}
use Rattle.std.proofs.lemmas.List.{append-nil}
use Rattle.px_event.specs.Chain.{Stamp, Stamped, Timed, worked_off, at_its_step, Chain, Look, NotYet, Asks, Ends, Stop, stop_at, walk, walk_by, owed_at}
use Rattle.px_event.specs.Laws.{IsSettled, Settles, IsFound, owed_over, with_events, with_replies}
use Rattle.px_event.proofs.Reach.{reach_found}
use Rattle.px_event.proofs.Walk.{more_events, more_replies, stopped}

-- the walk one event on
abbrev pub event_on : {S E R A : Type 0} → Chain S E R A → Stop S E R A → Stamped E → Stop S E R A
event_on chain w e =
    let prefix = w.prefix ++ worked_off w.last e ∷ [] in
    let on = chain.pass w.stage prefix in
    record { last = w.last; before = w.before ++ on.owed; stage = on.stage; prefix = prefix; rest = []; unused = [] }

-- the walk one reply to this ask on
abbrev pub reply_on : {S E R A : Type 0} → Chain S E R A → Stop S E R A → A → Stamped R → Stop S E R A
reply_on chain w ask r =
    let turn = chain.turn w.stage w.prefix (at_its_step r) in
    let on = chain.pass turn.stage w.prefix in
    record { last = r.stamp; before = (w.before ++ (chain.so_far w.stage w.prefix ++ ask ∷ (chain.behind w.stage w.prefix ++ turn.owed))) ++ on.owed; stage = on.stage; prefix = w.prefix; rest = []; unused = [] }

resumed_event : {S E R A : Type 0} (chain : Chain S E R A) (w : Stop S E R A) (e : Stamped E) →
    IsSettled chain w.stage w.prefix → w.rest ≡ [] → w.unused ≡ [] → chain.look w.stage w.prefix ≡ NotYet →
    with_events chain w (e ∷ []) ≡ event_on chain w e
resumed_event chain w e settled rest unused is =
    rw (rest, unused, settled.stays, settled.owes_nothing, is, append-nil) refl

pub one_event : {S E R A : Type 0} (chain : Chain S E R A) → Settles chain → (rs : List (Stamped R)) (last : Stamp) (before : List A) (s : S) (f : List (Timed E)) (es : List (Stamped E)) (e : Stamped E) →
    let w = walk chain rs last before s f es in
    w.unused ≡ [] → chain.look w.stage w.prefix ≡ NotYet → walk chain rs last before s f (es ++ e ∷ []) ≡ event_on chain w e
one_event chain law rs last before s f es e unused is =
    let w = walk chain rs last before s f es in
    let at = stopped chain law rs last before s f es in
    more_events chain law rs last before s f es (e ∷ []) ∙ resumed_event chain w e at.settled (at.not_yet is) unused is

-- the walk where more events stand behind
abbrev pub behind : {S E R A : Type 0} → Stop S E R A → List (Stamped E) → Stop S E R A
behind w xs = record { last = w.last; before = w.before; stage = w.stage; prefix = w.prefix; rest = w.rest ++ xs; unused = w.unused }

behind_by : {S E R A : Type 0} (chain : Chain S E R A) (r : Stamped R) (rs : List (Stamped R)) (last : Stamp) (before : List A) (s : S) (f : List (Timed E)) (rest : List (Stamped E)) →
    (l : Look A) → chain.look s f ≡ l → IsFound l → ((ask : A) → l ≡ Asks ask → r ∷ rs ≡ []) →
    walk_by l (λ ask. walk chain rs r.stamp (before ++ (chain.so_far s f ++ ask ∷ (chain.behind s f ++ (chain.turn s f (at_its_step r)).owed))) (chain.turn s f (at_its_step r)).stage f rest)
    (record { last = last; before = before; stage = s; prefix = f; rest = rest; unused = r ∷ rs })
    ≡ record { last = last; before = before; stage = s; prefix = f; rest = rest; unused = r ∷ rs }
behind_by chain r rs last before s f rest NotYet is found none = absurd found
behind_by chain r rs last before s f rest (Asks ask) is found none = absurd (let no : r ∷ rs ≡ [] = none ask refl in cc)
behind_by chain r rs last before s f rest (Ends owed) is found none = refl

resumed_behind : {S E R A : Type 0} (chain : Chain S E R A) (unused : List (Stamped R)) (last : Stamp) (before : List A) (s : S) (f : List (Timed E)) (rest : List (Stamped E)) →
    IsSettled chain s f → IsFound (chain.look s f) → ((ask : A) → chain.look s f ≡ Asks ask → unused ≡ []) →
    walk chain unused last before s f rest ≡ record { last = last; before = before; stage = s; prefix = f; rest = rest; unused = unused }
resumed_behind chain [] last before s f rest settled is none =
    ap (λ here. stop_at last here []) (reach_found chain last before s f rest settled is)
resumed_behind chain (r ∷ rs) last before s f rest settled is none =
    rw (reach_found chain last before s f rest settled is) (behind_by chain r rs last before s f rest (chain.look s f) refl is none)

-- Events behind an open ask, or behind the end, change nothing of where the walk stops.
pub behind_found : {S E R A : Type 0} (chain : Chain S E R A) → Settles chain → (rs : List (Stamped R)) (last : Stamp) (before : List A) (s : S) (f : List (Timed E)) (es xs : List (Stamped E)) →
    let w = walk chain rs last before s f es in
    IsFound (chain.look w.stage w.prefix) → walk chain rs last before s f (es ++ xs) ≡ behind w xs
behind_found chain law rs last before s f es xs is =
    let w = walk chain rs last before s f es in
    let at = stopped chain law rs last before s f es in
    more_events chain law rs last before s f es xs
    ∙ resumed_behind chain w.unused w.last w.before w.stage w.prefix (w.rest ++ xs) at.settled is at.asks

-- Nor do events and replies behind the end.
pub behind_end : {S E R A : Type 0} (chain : Chain S E R A) → Settles chain → (rs qs : List (Stamped R)) (last : Stamp) (before : List A) (s : S) (f : List (Timed E)) (es xs : List (Stamped E)) (owed : List A) →
    let w = walk chain rs last before s f es in
    chain.look w.stage w.prefix ≡ Ends owed → owed_at chain (walk chain (rs ++ qs) last before s f (es ++ xs)) ≡ owed_at chain w
behind_end {A = A} chain law rs qs last before s f es xs owed is =
    let w = walk chain rs last before s f es in
    let P : Look A → Type 0 = IsFound in
    let found = behind_found chain law rs last before s f es xs (subst P (sym is) tt) in
    let none : (ask : A) → chain.look w.stage w.prefix ≡ Asks ask → w.unused ++ qs ≡ [] =
    λ ask asks. absurd (let no : Ends owed ≡ Asks ask = sym is ∙ asks in cc) in
    let settled = (stopped chain law rs last before s f es).settled in
    ap (λ v. owed_at chain v) (more_replies chain law rs qs last before s f (es ++ xs)
    ∙ (ap (λ v. with_replies chain v qs) found
    ∙ resumed_behind chain (w.unused ++ qs) w.last w.before w.stage w.prefix (w.rest ++ xs) settled (subst P (sym is) tt) none))

resumed_reply : {S E R A : Type 0} (chain : Chain S E R A) (w : Stop S E R A) (ask : A) (r : Stamped R) →
    IsSettled chain w.stage w.prefix → w.unused ≡ [] → chain.look w.stage w.prefix ≡ Asks ask →
    let turn = chain.turn w.stage w.prefix (at_its_step r) in
    with_replies chain w (r ∷ []) ≡ walk chain [] r.stamp (w.before ++ (chain.so_far w.stage w.prefix ++ ask ∷ (chain.behind w.stage w.prefix ++ turn.owed))) turn.stage w.prefix w.rest
resumed_reply chain w ask r settled unused is =
    let P : Look _ → Type 0 = IsFound in
    rw (unused, reach_found chain w.last w.before w.stage w.prefix w.rest settled (subst P (sym is) tt), is) refl

-- One reply more, to an open ask: the walk goes on over the events behind it.
pub reply_goes_on : {S E R A : Type 0} (chain : Chain S E R A) → Settles chain → (rs : List (Stamped R)) (last : Stamp) (before : List A) (s : S) (f : List (Timed E)) (es : List (Stamped E)) (ask : A) (r : Stamped R) →
    let w = walk chain rs last before s f es in
    let turn = chain.turn w.stage w.prefix (at_its_step r) in
    chain.look w.stage w.prefix ≡ Asks ask →
    walk chain (rs ++ r ∷ []) last before s f es ≡ walk chain [] r.stamp (w.before ++ (chain.so_far w.stage w.prefix ++ ask ∷ (chain.behind w.stage w.prefix ++ turn.owed))) turn.stage w.prefix w.rest
reply_goes_on chain law rs last before s f es ask r is =
    let w = walk chain rs last before s f es in
    let at = stopped chain law rs last before s f es in
    more_replies chain law rs (r ∷ []) last before s f es ∙ resumed_reply chain w ask r at.settled (at.asks ask is) is

-- and where no event stands behind it
pub one_reply : {S E R A : Type 0} (chain : Chain S E R A) → Settles chain → (rs : List (Stamped R)) (last : Stamp) (before : List A) (s : S) (f : List (Timed E)) (es : List (Stamped E)) (ask : A) (r : Stamped R) →
    let w = walk chain rs last before s f es in
    w.rest ≡ [] → chain.look w.stage w.prefix ≡ Asks ask → walk chain (rs ++ r ∷ []) last before s f es ≡ reply_on chain w ask r
one_reply {S} {E} {R} {A} chain law rs last before s f es ask r rest is =
    let w = walk chain rs last before s f es in
    let turn = chain.turn w.stage w.prefix (at_its_step r) in
    reply_goes_on chain law rs last before s f es ask r is
    ∙ ap (λ (ys : List (Stamped E)). walk chain [] r.stamp (w.before ++ (chain.so_far w.stage w.prefix ++ ask ∷ (chain.behind w.stage w.prefix ++ turn.owed))) turn.stage w.prefix ys) rest

-- what is owed one event on
pub owed_event_on : {S E R A : Type 0} (chain : Chain S E R A) (w : Stop S E R A) (e : Stamped E) →
    owed_at chain (event_on chain w e) ≡ w.before ++ owed_over chain w.stage (w.prefix ++ worked_off w.last e ∷ [])
owed_event_on chain w e = append_assoc w.before _ _

pub owed_reply_on : {S E R A : Type 0} (chain : Chain S E R A) (w : Stop S E R A) (ask : A) (r : Stamped R) →
    let turn = chain.turn w.stage w.prefix (at_its_step r) in
    owed_at chain (reply_on chain w ask r)
    ≡ (w.before ++ (chain.so_far w.stage w.prefix ++ ask ∷ (chain.behind w.stage w.prefix ++ turn.owed))) ++ owed_over chain turn.stage w.prefix
owed_reply_on chain w ask r = append_assoc (w.before ++ (chain.so_far w.stage w.prefix ++ ask ∷ (chain.behind w.stage w.prefix ++ (chain.turn w.stage w.prefix (at_its_step r)).owed))) _ _
