-- The laws of a chain: what a chain has to keep so that the walk can be resumed, and what is owed only grows.
use Rattle.std.specs.Prelude.{◌≡◌, List, [], ◌∷◌, ◌++◌, map}
use Rattle.px_text.specs.Prefix.{IsPrefixOf}
use Rattle.px_event.specs.Chain.{Stamped, Timed, Chain, Look, NotYet, Asks, Ends, Stop, walk, found_at}

-- a stage that does not pass at this prefix
pub record IsSettled {S E R A : Type 0} (chain : Chain S E R A) (stage : S) (prefix : List (Timed E)) : Type 0 where
  pub stays : (chain.pass stage prefix).stage ≡ stage
  pub owes_nothing : (chain.pass stage prefix).owed ≡ []

-- At one prefix passing settles at once.
pub record Settles {S E R A : Type 0} (chain : Chain S E R A) : Type 0 where
  pub at : (stage : S) (prefix : List (Timed E)) → IsSettled chain (chain.pass stage prefix).stage prefix

-- all that a stage owes at a prefix, beside what is owed from before
abbrev pub owed_here : {S E R A : Type 0} → Chain S E R A → S → List (Timed E) → List A
owed_here chain stage prefix = chain.so_far stage prefix ++ found_at chain stage prefix

-- the same, passing included
abbrev pub owed_over : {S E R A : Type 0} → Chain S E R A → S → List (Timed E) → List A
owed_over chain stage prefix = (chain.pass stage prefix).owed ++ owed_here chain (chain.pass stage prefix).stage prefix

-- What is seen of two lists, one behind the other, is what is seen of each.
pub record IsView {A V : Type 0} (view : List A → List V) : Type 0 where
  pub joins : (xs ys : List A) → view (xs ++ ys) ≡ view xs ++ view ys

-- While nothing is found over a prefix, what is owed over one event more begins, in the view, with what the stage owed.
pub record SoFarGrows {S E R A V : Type 0} (chain : Chain S E R A) (view : List A → List V) : Type 0 where
  pub grows : (stage : S) (prefix : List (Timed E)) (event : Timed E) → chain.look stage prefix ≡ NotYet →
      IsPrefixOf (view (chain.so_far stage prefix)) (view (owed_over chain stage (prefix ++ event ∷ [])))

-- something is found
abbrev pub IsFound : {A : Type 0} → Look A → Type 0
IsFound NotYet = ⊥
IsFound (Asks ask) = Unit {0}
IsFound (Ends owed) = Unit {0}

-- the walk goes on from where it stopped, with these events behind it, or with these replies
abbrev pub with_events : {S E R A : Type 0} → Chain S E R A → Stop S E R A → List (Stamped E) → Stop S E R A
with_events chain w xs = walk chain w.unused w.last w.before w.stage w.prefix (w.rest ++ xs)

abbrev pub with_replies : {S E R A : Type 0} → Chain S E R A → Stop S E R A → List (Stamped R) → Stop S E R A
with_replies chain w qs = walk chain (w.unused ++ qs) w.last w.before w.stage w.prefix w.rest

-- the values of events that wait, and of events that were worked off
abbrev pub waiting_values : {E : Type 0} → List (Stamped E) → List E
waiting_values es = map (λ e. e.value) es

abbrev pub seen_values : {E : Type 0} → List (Timed E) → List E
seen_values es = map (λ e. e.value) es

-- what is true where a walk stopped
pub record Stopped {S E R A : Type 0} (chain : Chain S E R A) (values : List E) (w : Stop S E R A) : Type 0 where
  -- its stage has passed where it could
  pub settled : IsSettled chain w.stage w.prefix
  -- where nothing is found all events were worked off, and where something is asked all replies were used
  pub not_yet : chain.look w.stage w.prefix ≡ NotYet → w.rest ≡ []
  pub asks : (ask : A) → chain.look w.stage w.prefix ≡ Asks ask → w.unused ≡ []
  -- the events are those worked off and the rest
  pub whole : seen_values w.prefix ++ waiting_values w.rest ≡ values
