-- What a state of a layer whose due is a chain stands for.
use Rattle.std.specs.Prelude.{◌≡◌, ℕ, ◌+◌, Bool, true, List, [], ◌∷◌, Option, Some, None}
use Rattle.px_event.specs.declared.ask.Ask.{Ask}
use Rattle.px_event.specs.declared.event.Event.{Event}
use Rattle.px_event.specs.declared.reply.Reply.{Reply}
use Rattle.px_event.specs.declared.command.Command.{Command}
use Rattle.px_event.specs.Chain.{Chain, Asks, Ends, is_end, Stop, Stamped, Timed, walk_from, due}
use Rattle.px_event.specs.Layer.{Move, Took, Replied}
use Rattle.px_event.specs.View.{View, seen_of}

-- the events among the moves; a move's number, counted from 1, is its step
abbrev pub events_in : ℕ → List Move → List (Stamped Event)
events_in step [] = []
events_in step (Took moment event ∷ moves) =
    record { stamp = record { step = step; moment = moment }; value = event } ∷ events_in (step + 1) moves
events_in step (Replied moment reply ∷ moves) = events_in (step + 1) moves

-- the replies among the moves
abbrev pub replies_in : ℕ → List Move → List (Stamped Reply)
replies_in step [] = []
replies_in step (Took moment event ∷ moves) = replies_in (step + 1) moves
replies_in step (Replied moment reply ∷ moves) =
    record { stamp = record { step = step; moment = moment }; value = reply } ∷ replies_in (step + 1) moves

-- where the walk over the moves stops
abbrev pub stop_of : {S : Type 0} → Chain S Event Reply Command → S → List Move → Stop S Event Reply Command
stop_of chain start moves = walk_from chain start (events_in 1 moves) (replies_in 1 moves)

-- the walk over the moves has ended
abbrev pub has_ended : {S : Type 0} → Chain S Event Reply Command → S → List Move → Bool
has_ended chain start moves = is_end (chain.look (stop_of chain start moves).stage (stop_of chain start moves).prefix)

-- what is due by the moves
abbrev pub due_by : {S : Type 0} → Chain S Event Reply Command → S → List Move → List Command
due_by chain start moves = due chain start (events_in 1 moves) (replies_in 1 moves)

-- The state is at the stage and over the events where the walk over the moves stops, and each view of what it gave is
-- that view of what is due. It used each reply, and no event waits behind its ask.
pub record StandsAt {M S : Type 0} (chain : Chain S Event Reply Command) (start : S) (is_at : M → S → List (Timed Event) → Type 0)
    (state : M) (moves : List Move) (given : List Command) : Type 0 where
  pub place : is_at state (stop_of chain start moves).stage (stop_of chain start moves).prefix
  pub used : (stop_of chain start moves).unused ≡ []
  pub seen : (ask : Command) → chain.look (stop_of chain start moves).stage (stop_of chain start moves).prefix ≡ Asks ask →
      (stop_of chain start moves).rest ≡ []
  pub gave : (view : View) → seen_of view given ≡ seen_of view (due_by chain start moves)

-- Something is awaited exactly where the stage asks.
pub record AwaitsWhatItAsks {M S : Type 0} (chain : Chain S Event Reply Command) (is_at : M → S → List (Timed Event) → Type 0) (awaited : M → Option Ask) : Type 0 where
  pub free : (state : M) (stage : S) (prefix : List (Timed Event)) (ask : Command) → is_at state stage prefix → awaited state ≡ None → chain.look stage prefix ≡ Asks ask → ⊥
  pub asks : (state : M) (stage : S) (prefix : List (Timed Event)) (ask : Ask) → is_at state stage prefix → awaited state ≡ Some ask →
      (command : Command) × (chain.look stage prefix ≡ Asks command)

-- It has ended exactly where the stage ends.
pub record EndsWhereItEnds {M S : Type 0} (chain : Chain S Event Reply Command) (is_at : M → S → List (Timed Event) → Type 0) (ended : M → Bool) : Type 0 where
  pub ends : (state : M) (stage : S) (prefix : List (Timed Event)) → is_at state stage prefix → ended state ≡ true →
      (owed : List Command) × (chain.look stage prefix ≡ Ends owed)
  pub there : (state : M) (stage : S) (prefix : List (Timed Event)) (owed : List Command) → is_at state stage prefix → chain.look stage prefix ≡ Ends owed → ended state ≡ true
