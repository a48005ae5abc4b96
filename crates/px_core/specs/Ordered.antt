-- No hook of a flow is asked behind the flow's end.
use Rattle.std.specs.Prelude.{◌≡◌, ◌≢◌, ◌⊎◌, ℕ, Bool, true, List, [], ◌∷◌, ◌++◌}
use Rattle.px_event.specs.declared.ask.Ask.TheVariants as asks
use Rattle.px_event.specs.declared.command.Command.{Command}
use Rattle.px_event.specs.declared.command.Command.TheVariants as commands
use Rattle.px_event.specs.Chain.{Timed, Chain, Asks, found_at}
use Rattle.px_event.specs.Trace.{Trace}
use Rattle.px_event.specs.View.{Atom, asked, course, done, seen_in}

-- none of these asks a hook of the flow of this index
abbrev pub AsksNoneOf : ℕ → List Command → Type 0
AsksNoneOf index [] = Unit {0}
AsksNoneOf index (commands.Ask (asks.Hook number hook) flow ∷ rest) = (number ≢ index) × AsksNoneOf index rest
AsksNoneOf index (_ ∷ rest) = AsksNoneOf index rest

-- one of these ends the flow of this index
abbrev pub EndsOneOf : ℕ → List Command → Type 0
EndsOneOf index [] = ⊥
EndsOneOf index (commands.Done flow ∷ rest) = (flow.id.index ≡ index) ⊎ EndsOneOf index rest
EndsOneOf index (_ ∷ rest) = EndsOneOf index rest

-- behind the end of each flow none asks a hook of it
abbrev pub AsksBeforeEnds : List Command → Type 0
AsksBeforeEnds [] = Unit {0}
AsksBeforeEnds (commands.Done flow ∷ rest) = AsksNoneOf flow.id.index rest × AsksBeforeEnds rest
AsksBeforeEnds (_ ∷ rest) = AsksBeforeEnds rest

-- of these, none asks a hook of the flow of this index
abbrev pub HooksNoneOf : ℕ → List Atom → Type 0
HooksNoneOf index [] = Unit {0}
HooksNoneOf index (asked (asks.Hook number hook) ∷ rest) = (number ≢ index) × HooksNoneOf index rest
HooksNoneOf index (_ ∷ rest) = HooksNoneOf index rest

-- behind the end of each flow no hook of it is asked
abbrev pub HooksBeforeEnds : List Atom → Type 0
HooksBeforeEnds [] = Unit {0}
HooksBeforeEnds (done flow ∷ rest) = HooksNoneOf flow.id.index rest × HooksBeforeEnds rest
HooksBeforeEnds (_ ∷ rest) = HooksBeforeEnds rest

-- so it is in each conversation of a trace
abbrev pub IsInOrder : Trace → Type 0
IsInOrder trace = (conv : ℕ) → HooksBeforeEnds (seen_in course conv trace)

-- What is owed at one place and behind it: in order, about no flow that this stage is past; the next is past each flow that
-- it ends, and is such a stage too.
pub record LeavesBehind {S : Type 0} (is_stage : S → Bool) (past : S → ℕ → Bool) (here : S) (owed : List Command) (next : S) : Type 0 where
  pub ordered : AsksBeforeEnds owed
  pub asks_none : (index : ℕ) → past here index ≡ true → AsksNoneOf index owed
  pub ends : (index : ℕ) → EndsOneOf index owed → past next index ≡ true
  pub keeps : (index : ℕ) → past here index ≡ true → past next index ≡ true
  pub leads : is_stage next ≡ true

-- what is owed where a walk stops
pub record LeavesNone {S : Type 0} (past : S → ℕ → Bool) (here : S) (owed : List Command) : Type 0 where
  pub ordered : AsksBeforeEnds owed
  pub asks_none : (index : ℕ) → past here index ≡ true → AsksNoneOf index owed

-- A chain that leaves its flows behind: `is_stage` is the test which stages a walk can come to, as those whose flow has the
-- number that they count, and `past` the test which flows such a stage is past.
pub record LeavesFlows {S E R : Type 0} (chain : Chain S E R Command) (is_stage : S → Bool) (past : S → ℕ → Bool) : Type 0 where
  pub passes : (s : S) (prefix : List (Timed E)) → is_stage s ≡ true →
      LeavesBehind is_stage past s (chain.pass s prefix).owed (chain.pass s prefix).stage
  pub turns : (s : S) (prefix : List (Timed E)) (ask : Command) → is_stage s ≡ true → chain.look s prefix ≡ Asks ask → (reply : Timed R) →
      LeavesBehind is_stage past s (chain.so_far s prefix ++ ask ∷ (chain.behind s prefix ++ (chain.turn s prefix reply).owed)) (chain.turn s prefix reply).stage
  pub stops : (s : S) (prefix : List (Timed E)) → is_stage s ≡ true → LeavesNone past s (chain.so_far s prefix ++ found_at chain s prefix)
