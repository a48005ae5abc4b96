-- What is due, as a chain of stages. A stage looks at joined fronts of what was heard, and at nothing else: not at pieces,
-- queues or the states of a program.
use Rattle.std.specs.Prelude.{ℕ, Bool, true, false, nat_lt, if◌then◌else◌, List, [], ◌∷◌, ◌++◌}

-- the step of a run in which something happened: its number in the run, and its moment in microseconds since 1970
pub record Stamp : Type 0 where
  pub step : ℕ
  pub moment : ℕ

-- something with the step in which it was heard or answered
pub record Stamped (A : Type 0) : Type 0 where
  pub stamp : Stamp
  pub value : A

-- something with the moment at which it is worked off
pub record Timed (A : Type 0) : Type 0 where
  pub moment : ℕ
  pub value : A

-- the later of two steps, by their number: moments need not rise
abbrev pub later : Stamp → Stamp → Stamp
later a b = if nat_lt a.step b.step then b else a

-- An event is worked off in the later of its own step and that of the last reply before it, which it may have waited for.
abbrev pub worked_off : {E : Type 0} → Stamp → Stamped E → Timed E
worked_off last event = record { moment = (later last event.stamp).moment; value = event.value }

-- a reply is worked off in its own step
abbrev pub at_its_step : {R : Type 0} → Stamped R → Timed R
at_its_step reply = record { moment = reply.stamp.moment; value = reply.value }

-- what a stage finds over a prefix: nothing yet, an ask, or the end with what is owed there
pub data Look (A : Type 0) : Type 0 where
  NotYet : Look A
  Asks : (ask : A) → Look A
  Ends : (owed : List A) → Look A

-- it is an end
abbrev pub is_end : {A : Type 0} → Look A → Bool
is_end (Ends owed) = true
is_end _ = false

-- what a reply or a passage brings: what is owed at once, and the stage that follows
pub record Turn (S A : Type 0) : Type 0 where
  pub owed : List A
  pub stage : S

-- stages S over events E, replies R and what is owed A
pub record Chain (S E R A : Type 0) : Type 0 where
  -- where it goes on without a reply, over this prefix
  pub pass : S → List (Timed E) → Turn S A
  -- what it finds
  pub look : S → List (Timed E) → Look A
  -- what it owes while it waits
  pub so_far : S → List (Timed E) → List A
  -- what it owes behind its ask, before the reply to it
  pub behind : S → List (Timed E) → List A
  -- what a reply to its ask brings
  pub turn : S → List (Timed E) → Timed R → Turn S A

-- the shortest prefix, from this one on, over which something is found: what was owed up to there beside what the stage
-- there owes, the stage, the prefix, and the events behind it
pub record Reached (S E A : Type 0) : Type 0 where
  pub before : List A
  pub stage : S
  pub prefix : List (Timed E)
  pub rest : List (Stamped E)

abbrev pub reach_by : {S E A : Type 0} → Look A → Reached S E A → Reached S E A → Reached S E A
reach_by NotYet further here = further
reach_by (Asks ask) further here = here
reach_by (Ends owed) further here = here

abbrev pub reach : {S E R A : Type 0} → Chain S E R A → Stamp → List A → S → List (Timed E) → List (Stamped E) → Reached S E A
reach chain last before s prefix [] =
    let on = chain.pass s prefix in record { before = before ++ on.owed; stage = on.stage; prefix = prefix; rest = [] }
reach chain last before s prefix (e ∷ es) =
    let on = chain.pass s prefix in
    reach_by (chain.look on.stage prefix)
    (reach chain last (before ++ on.owed) on.stage (prefix ++ worked_off last e ∷ []) es)
    (record { before = before ++ on.owed; stage = on.stage; prefix = prefix; rest = e ∷ es })

-- where a walk stops: at its end, at an ask without a reply, or where all events are worked off
pub record Stop (S E R A : Type 0) : Type 0 where
  -- the last reply's step
  pub last : Stamp
  -- owed by the stages before, and by this one where it passed
  pub before : List A
  pub stage : S
  -- the events worked off: what was seen
  pub prefix : List (Timed E)
  pub rest : List (Stamped E)
  pub unused : List (Stamped R)

abbrev pub stop_at : {S E R A : Type 0} → Stamp → Reached S E A → List (Stamped R) → Stop S E R A
stop_at last here unused =
    record { last = last; before = here.before; stage = here.stage; prefix = here.prefix; rest = here.rest; unused = unused }

abbrev pub walk_by : {A W : Type 0} → Look A → (A → W) → W → W
walk_by NotYet onward stop = stop
walk_by (Asks ask) onward stop = onward ask
walk_by (Ends owed) onward stop = stop

-- Each ask takes the next reply, at the shortest prefix over which it is found. What is owed behind the ask comes before what
-- the reply brings.
abbrev pub walk : {S E R A : Type 0} → Chain S E R A → List (Stamped R) → Stamp → List A → S → List (Timed E) → List (Stamped E) → Stop S E R A
walk chain [] last before s prefix es = stop_at last (reach chain last before s prefix es) []
walk chain (r ∷ rs) last before s prefix es =
    let here = reach chain last before s prefix es in
    let on = chain.turn here.stage here.prefix (at_its_step r) in
    walk_by (chain.look here.stage here.prefix)
    (λ ask. walk chain rs r.stamp (here.before ++ (chain.so_far here.stage here.prefix ++ ask ∷ (chain.behind here.stage here.prefix ++ on.owed))) on.stage here.prefix here.rest)
    (stop_at last here (r ∷ rs))

-- what is owed where something is found: an ask with what is owed behind it, or the end
abbrev pub found_with : {A : Type 0} → List A → Look A → List A
found_with behind NotYet = []
found_with behind (Asks ask) = ask ∷ behind
found_with behind (Ends owed) = owed

-- what is owed by what is found alone
abbrev pub found : {A : Type 0} → Look A → List A
found look = found_with [] look

-- what is owed where a stage finds something over a prefix
abbrev pub found_at : {S E R A : Type 0} → Chain S E R A → S → List (Timed E) → List A
found_at chain stage prefix = found_with (chain.behind stage prefix) (chain.look stage prefix)

-- all that is owed at the place where the walk stopped
abbrev pub owed_at : {S E R A : Type 0} → Chain S E R A → Stop S E R A → List A
owed_at chain stop = stop.before ++ (chain.so_far stop.stage stop.prefix ++ found_at chain stop.stage stop.prefix)

-- before the first step
abbrev pub never : Stamp
never = record { step = 0; moment = 0 }

-- the walk from a stage over all events and replies
abbrev pub walk_from : {S E R A : Type 0} → Chain S E R A → S → List (Stamped E) → List (Stamped R) → Stop S E R A
walk_from chain start events replies = walk chain replies never [] start [] events

-- what is due
abbrev pub due : {S E R A : Type 0} → Chain S E R A → S → List (Stamped E) → List (Stamped R) → List A
due chain start events replies = owed_at chain (walk_from chain start events replies)
