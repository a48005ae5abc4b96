-- What a call of a conversation does to what its state stands for, and what it may give.
use Rattle.std.specs.Prelude.{◌≡◌, ℕ, List, [], ◌∷◌, ◌++◌, Option, Some, None}
use Rattle.px_event.specs.declared.ask.Ask.{Ask}
use Rattle.px_event.specs.declared.ask.Ask.TheVariants as asks
use Rattle.px_event.specs.declared.event.Event.{Event}
use Rattle.px_event.specs.declared.event.Event.TheVariants as events
use Rattle.px_event.specs.declared.command.Command.{Command}
use Rattle.px_event.specs.declared.command.Command.TheVariants as commands
use Rattle.px_event.specs.Layer.{AsksOnly, MayAnswer}

-- the event is no answer, or the reply may answer the ask
abbrev pub MayTake : Event → Type 0
MayTake (events.Answered ask reply) = MayAnswer (Some ask) reply
MayTake _ = Unit {0}

-- An event that is no answer: where nothing was awaited at most one ask or dial is given, and it is the one that is awaited
-- then; while one is unanswered none is given, and it stays awaited.
abbrev pub AsksWhile : Option Ask → Option Ask → List Command → List Command → Type 0
AsksWhile None awaits out new_out = AsksOnly awaits out new_out
AsksWhile (Some ask) awaits out new_out = (awaits ≡ Some ask) × AsksOnly None out new_out

-- a hook of the flow of this index
abbrev pub IsHookOf : ℕ → Ask → Type 0
IsHookOf index (asks.Hook flow hook) = flow ≡ index
IsHookOf index (asks.Dial server) = ⊥

-- the flow of an ask or of an end is the conversation's, and the ask is of a hook of that flow
abbrev pub IsNamed : ℕ → Command → Type 0
IsNamed conv (commands.Ask ask flow) = (flow.id.conv ≡ conv) × IsHookOf flow.id.index ask
IsNamed conv (commands.Done flow) = flow.id.conv ≡ conv
IsNamed conv _ = Unit {0}

abbrev pub AllNamed : ℕ → List Command → Type 0
AllNamed conv [] = Unit {0}
AllNamed conv (command ∷ rest) = IsNamed conv command × AllNamed conv rest

-- so are all that were added
pub record NamesOnly (conv : ℕ) (out new_out : List Command) : Type 0 where
  pub more : List Command
  pub grown : new_out ≡ out ++ more
  pub named : AllNamed conv more
