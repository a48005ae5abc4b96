-- Walks that owe alike. Two prefixes may differ and all that comes of them be alike: a piece in two halves, or pieces of two
-- sides the other way round. So places are compared, a place being a stage over a prefix, by any relation that the chain
-- keeps, and what is owed by any likeness of lists.
use Rattle.std.specs.Prelude.{◌≡◌, List, [], ◌∷◌, ◌++◌}
use Rattle.px_event.specs.Chain.{Stamp, Stamped, Timed, worked_off, at_its_step, Chain, Look, NotYet, Asks, Ends, Turn, Stop, walk, owed_at}
use Rattle.px_event.specs.Laws.{IsSettled, IsFound}

-- A likeness of what is owed, as to be equal in a view: a list is like itself, and lists of like parts are alike.
pub record IsLikeness {A : Type 0} (like : List A → List A → Type 0) : Type 0 where
  pub itself : (xs : List A) → like xs xs
  pub joins : (a b c d : List A) → like a b → like c d → like (a ++ c) (b ++ d)

-- things found that are alike: both nothing, both an ask, or both the end
abbrev pub FoundAlike : {A : Type 0} → (List A → List A → Type 0) → Look A → Look A → Type 0
FoundAlike like NotYet NotYet = Unit {0}
FoundAlike like (Asks ask) (Asks other) = like (ask ∷ []) (other ∷ [])
FoundAlike like (Ends owed) (Ends other) = like owed other
FoundAlike like _ _ = ⊥

-- stages that find and owe alike, each over its prefix
pub record OwesAlike {S E R A : Type 0} (chain : Chain S E R A) (like : List A → List A → Type 0) (s : S) (f : List (Timed E)) (t : S) (g : List (Timed E)) : Type 0 where
  pub look : FoundAlike like (chain.look s f) (chain.look t g)
  pub so_far : like (chain.so_far s f) (chain.so_far t g)
  pub behind : like (chain.behind s f) (chain.behind t g)

-- turns that owe alike, and lead to stages that are so related
pub record TurnsAlike {S A : Type 0} (like : List A → List A → Type 0) (leads : S → S → Type 0) (turn other : Turn S A) : Type 0 where
  pub owed : like turn.owed other.owed
  pub stage : leads turn.stage other.stage

-- A relation of places that look alike: it is kept by passing, by replies and by one event more, and stages that do not
-- pass find and owe alike.
pub record Alike {S E R A : Type 0} (chain : Chain S E R A) (like : List A → List A → Type 0) (same : S → List (Timed E) → S → List (Timed E) → Type 0) : Type 0 where
  pub passes : (s : S) (f : List (Timed E)) (t : S) (g : List (Timed E)) → same s f t g →
      TurnsAlike like (λ a b. same a f b g) (chain.pass s f) (chain.pass t g)
  pub owes : (s : S) (f : List (Timed E)) (t : S) (g : List (Timed E)) → same s f t g →
      IsSettled chain s f → IsSettled chain t g → OwesAlike chain like s f t g
  pub turns : (s : S) (f : List (Timed E)) (t : S) (g : List (Timed E)) → same s f t g →
      IsSettled chain s f → IsSettled chain t g → (ask : A) → chain.look s f ≡ Asks ask → (reply : Timed R) →
      TurnsAlike like (λ a b. same a f b g) (chain.turn s f reply) (chain.turn t g reply)
  pub more : (s : S) (f : List (Timed E)) (t : S) (g : List (Timed E)) → same s f t g →
      IsSettled chain s f → IsSettled chain t g → chain.look s f ≡ NotYet → (event : Timed E) →
      same s (f ++ event ∷ []) t (g ++ event ∷ [])

-- where the event is worked off that waits, what was owed while the stage passed before it and behind it
abbrev pub passes_over : {S E R A : Type 0} → Chain S E R A → Turn S A → List (Timed E) → Turn S A
passes_over chain on prefix = record { owed = on.owed ++ (chain.pass on.stage prefix).owed; stage = (chain.pass on.stage prefix).stage }

-- A relation of places by which an event may be taken early: it waits behind the one, and is worked off in the other. What
-- is found without it is found with it, and so on behind each reply that may come; where nothing is found without it, it is
-- worked off, and the places are the same.
pub record Unhurried {S E R A : Type 0} (chain : Chain S E R A) (like : List A → List A → Type 0) (same : S → List (Timed E) → S → List (Timed E) → Type 0)
    (may_come : Stamped R → Type 0) (event : Stamped E) (early : Stamp → S → List (Timed E) → S → List (Timed E) → Type 0) : Type 0 where
  pub passes : (last : Stamp) (s : S) (f : List (Timed E)) (t : S) (g : List (Timed E)) → early last s f t g →
      IsFound (chain.look (chain.pass s f).stage f) → TurnsAlike like (λ a b. early last a f b g) (chain.pass s f) (chain.pass t g)
  pub owes : (last : Stamp) (s : S) (f : List (Timed E)) (t : S) (g : List (Timed E)) → early last s f t g →
      IsSettled chain s f → IsSettled chain t g → IsFound (chain.look s f) → OwesAlike chain like s f t g
  pub turns : (last : Stamp) (s : S) (f : List (Timed E)) (t : S) (g : List (Timed E)) → early last s f t g →
      IsSettled chain s f → IsSettled chain t g → (ask : A) → chain.look s f ≡ Asks ask →
      (reply : Stamped R) → may_come reply →
      TurnsAlike like (λ a b. early reply.stamp a f b g) (chain.turn s f (at_its_step reply)) (chain.turn t g (at_its_step reply))
  pub works_off : (last : Stamp) (s : S) (f : List (Timed E)) (t : S) (g : List (Timed E)) → early last s f t g →
      chain.look (chain.pass s f).stage f ≡ NotYet →
      let prefix = f ++ worked_off last event ∷ [] in
      TurnsAlike like (λ a b. same a prefix b g) (passes_over chain (chain.pass s f) prefix) (chain.pass t g)

-- each of the replies may come
abbrev pub MayCome : {R : Type 0} → (Stamped R → Type 0) → List (Stamped R) → Type 0
MayCome may_come [] = Unit {0}
MayCome may_come (r ∷ rs) = may_come r × MayCome may_come rs

-- the walk goes on over these events from where it stopped, and all before them are worked off
abbrev pub goes_on_over : {S E R A : Type 0} → Chain S E R A → Stop S E R A → List (Stamped E) → Stop S E R A
goes_on_over chain w xs = walk chain w.unused w.last w.before w.stage w.prefix xs

-- where nothing was found, these and those events owe alike
abbrev pub OwesAlikeFrom : {S E R A : Type 0} → Chain S E R A → (List A → List A → Type 0) → Stop S E R A → List (Stamped E) → List (Stamped E) → Type 0
OwesAlikeFrom chain like w xs ys = chain.look w.stage w.prefix ≡ NotYet →
    like (owed_at chain (goes_on_over chain w xs)) (owed_at chain (goes_on_over chain w ys))

-- the prefix of a walk with this event more
abbrev pub front_with : {S E R A : Type 0} → Stop S E R A → Stamped E → List (Timed E)
front_with w e = w.prefix ++ worked_off w.last e ∷ []

-- A relation of places by which this event may be taken early, where nothing was found and one event more was worked off:
-- this place is so related to that, and each reply that was not used may come.
pub record MayBeEarly {S E R A : Type 0} (w : Stop S E R A) (one : Stamped E) (may_come : Stamped R → Type 0)
    (early : Stamp → S → List (Timed E) → S → List (Timed E) → Type 0) (t : S) (g : List (Timed E)) : Type 0 where
  pub place : early w.last w.stage (front_with w one) t g
  pub replies : MayCome may_come w.unused

-- walks that stopped at places that look alike, with the same events and replies behind them
pub record StopsAlike {S E R A : Type 0} (like : List A → List A → Type 0) (same : S → List (Timed E) → S → List (Timed E) → Type 0) (w v : Stop S E R A) : Type 0 where
  pub last : w.last ≡ v.last
  pub before : like w.before v.before
  pub place : same w.stage w.prefix v.stage v.prefix
  pub rest : w.rest ≡ v.rest
  pub unused : w.unused ≡ v.unused
