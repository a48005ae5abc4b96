-- The events and replies among moves: one move more, and the steps of the moves before it.
use Rattle.std.proofs.Common.{◌≡◌, ℕ, ◌+◌, ◌<◌, List, [], ◌∷◌, ◌++◌, length, refl, ap, ◌∙◌, subst, arith, nat_lt, true, add-zero}
use Rattle.std.proofs.lemmas.Bool.{lt-ltb}
use Rattle.px_event.specs.Chain.{Stamp, Stamped, Timed, worked_off, at_its_step, Chain, Look, NotYet, Asks, Ends, Reached, reach, reach_by, Stop, walk, walk_by}
use Rattle.px_event.specs.Layer.{Move, Took, Replied}
use Rattle.px_event.specs.Stands.{events_in, replies_in}

next : (k : ℕ) (move : Move) (moves : List Move) → (k + 1) + length moves ≡ k + length (move ∷ moves)
next k move moves = omega arith

pub events_in-append : (k : ℕ) (moves more : List Move) → events_in k (moves ++ more) ≡ events_in k moves ++ events_in (k + length moves) more
events_in-append k [] more = rw add-zero refl
events_in-append k (Took moment event ∷ moves) more =
    ap (λ es. record { stamp = record { step = k; moment = moment }; value = event } ∷ es)
    (events_in-append (k + 1) moves more ∙ ap (λ n. events_in (k + 1) moves ++ events_in n more) (next k (Took moment event) moves))
events_in-append k (Replied moment reply ∷ moves) more =
    events_in-append (k + 1) moves more ∙ ap (λ n. events_in (k + 1) moves ++ events_in n more) (next k (Replied moment reply) moves)

pub replies_in-append : (k : ℕ) (moves more : List Move) → replies_in k (moves ++ more) ≡ replies_in k moves ++ replies_in (k + length moves) more
replies_in-append k [] more = rw add-zero refl
replies_in-append k (Took moment event ∷ moves) more =
    replies_in-append (k + 1) moves more ∙ ap (λ n. replies_in (k + 1) moves ++ replies_in n more) (next k (Took moment event) moves)
replies_in-append k (Replied moment reply ∷ moves) more =
    ap (λ rs. record { stamp = record { step = k; moment = moment }; value = reply } ∷ rs)
    (replies_in-append (k + 1) moves more ∙ ap (λ n. replies_in (k + 1) moves ++ replies_in n more) (next k (Replied moment reply) moves))

-- each stamp is of a step below this one
abbrev pub AllBelow : {R : Type 0} → ℕ → List (Stamped R) → Type 0
AllBelow step [] = Unit {0}
AllBelow step (r ∷ rs) = (r.stamp.step < step) × AllBelow step rs

pub replies_below : (k : ℕ) (moves : List Move) → AllBelow (k + length moves) (replies_in k moves)
replies_below k [] = tt
replies_below k (Took moment event ∷ moves) =
    let P : ℕ → Type 0 = λ n. AllBelow n (replies_in (k + 1) moves) in subst P (next k (Took moment event) moves) (replies_below (k + 1) moves)
replies_below k (Replied moment reply ∷ moves) =
    let P : ℕ → Type 0 = λ n. AllBelow n (replies_in (k + 1) moves) in
    (omega arith, subst P (next k (Replied moment reply) moves) (replies_below (k + 1) moves))

pub events_below : (k : ℕ) (moves : List Move) → AllBelow (k + length moves) (events_in k moves)
events_below k [] = tt
events_below k (Took moment event ∷ moves) =
    let P : ℕ → Type 0 = λ n. AllBelow n (events_in (k + 1) moves) in
    (omega arith, subst P (next k (Took moment event) moves) (events_below (k + 1) moves))
events_below k (Replied moment reply ∷ moves) =
    let P : ℕ → Type 0 = λ n. AllBelow n (events_in (k + 1) moves) in subst P (next k (Replied moment reply) moves) (events_below (k + 1) moves)

reach_rest_by : {S E A : Type 0} (step : ℕ) (l : Look A) (further here : Reached S E A) → AllBelow step further.rest → AllBelow step here.rest → AllBelow step (reach_by l further here).rest
reach_rest_by step NotYet further here a b = a
reach_rest_by step (Asks ask) further here a b = b
reach_rest_by step (Ends owed) further here a b = b

reach_rest : {S E R A : Type 0} (chain : Chain S E R A) (step : ℕ) (last : Stamp) (before : List A) (s : S) (f : List (Timed E)) (es : List (Stamped E)) →
    AllBelow step es → AllBelow step (reach chain last before s f es).rest
reach_rest chain step last before s f [] all = tt
reach_rest chain step last before s f (e ∷ es) (here, all) =
    reach_rest_by step (chain.look (chain.pass s f).stage f) _ _
    (reach_rest chain step last (before ++ (chain.pass s f).owed) (chain.pass s f).stage (f ++ worked_off last e ∷ []) es all) (here, all)

rest_by : {S E R A : Type 0} (step : ℕ) (l : Look A) (onward : A → Stop S E R A) (stop : Stop S E R A) →
    ((ask : A) → AllBelow step (onward ask).rest) → AllBelow step stop.rest → AllBelow step (walk_by l onward stop).rest
rest_by step NotYet onward stop a b = b
rest_by step (Asks ask) onward stop a b = a ask
rest_by step (Ends owed) onward stop a b = b

-- the events behind where a walk stopped are some of its events
pub rest_below : {S E R A : Type 0} (chain : Chain S E R A) (step : ℕ) (rs : List (Stamped R)) (last : Stamp) (before : List A) (s : S) (f : List (Timed E)) (es : List (Stamped E)) →
    AllBelow step es → AllBelow step (walk chain rs last before s f es).rest
rest_below chain step [] last before s f es all = reach_rest chain step last before s f es all
rest_below chain step (r ∷ rs) last before s f es all =
    let at = reach chain last before s f es in
    let on = chain.turn at.stage at.prefix (at_its_step r) in
    let rest = reach_rest chain step last before s f es all in
    rest_by step (chain.look at.stage at.prefix) _ _
    (λ ask. rest_below chain step rs r.stamp (at.before ++ (chain.so_far at.stage at.prefix ++ ask ∷ (chain.behind at.stage at.prefix ++ on.owed))) on.stage at.prefix at.rest rest)
    rest

last_by : {S E R A : Type 0} (step : ℕ) (l : Look A) (onward : A → Stop S E R A) (stop : Stop S E R A) →
    ((ask : A) → (onward ask).last.step < step) → stop.last.step < step → (walk_by l onward stop).last.step < step
last_by step NotYet onward stop a b = b
last_by step (Asks ask) onward stop a b = a ask
last_by step (Ends owed) onward stop a b = b

-- the last reply that a walk used is one of its replies
pub last_below : {S E R A : Type 0} (chain : Chain S E R A) (step : ℕ) (rs : List (Stamped R)) (last : Stamp) (before : List A) (s : S) (f : List (Timed E)) (es : List (Stamped E)) →
    last.step < step → AllBelow step rs → (walk chain rs last before s f es).last.step < step
last_below chain step [] last before s f es below all = below
last_below chain step (r ∷ rs) last before s f es below (here, all) =
    let at = reach chain last before s f es in
    let on = chain.turn at.stage at.prefix (at_its_step r) in
    last_by step (chain.look at.stage at.prefix) _ _
    (λ ask. last_below chain step rs r.stamp (at.before ++ (chain.so_far at.stage at.prefix ++ ask ∷ (chain.behind at.stage at.prefix ++ on.owed))) on.stage at.prefix at.rest here all)
    below

-- an event behind the last reply is worked off in its own step
pub worked_off_now : {E : Type 0} (last : Stamp) (step moment : ℕ) (event : E) → last.step < step →
    worked_off last (record { stamp = record { step = step; moment = moment }; value = event }) ≡ record { moment = moment; value = event }
worked_off_now last step moment event below = let is : nat_lt last.step step ≡ true = lt-ltb last.step step below in rw is refl
