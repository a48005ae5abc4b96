-- The order in which a flow ends: its bytes, its end, and the closes.
use Rattle.std.specs.Prelude.{List, [], ◌∷◌, ⊤}
use Rattle.px_event.specs.declared.command.Command.{Command}
use Rattle.px_event.specs.declared.command.Command.TheVariants as commands
use Rattle.px_event.specs.Chain.{Look, Ends}

-- closes alone
abbrev pub OnlyCloses : List Command → Type 0
OnlyCloses [] = ⊤
OnlyCloses (commands.Close side ∷ rest) = OnlyCloses rest
OnlyCloses _ = ⊥

-- bytes, then the end of at most one flow, then closes, in this order; nothing is asked
abbrev pub EndsInOrder : List Command → Type 0
EndsInOrder [] = ⊤
EndsInOrder (commands.Send side bytes ∷ rest) = EndsInOrder rest
EndsInOrder (commands.Done flow ∷ rest) = OnlyCloses rest
EndsInOrder (commands.Close side ∷ rest) = OnlyCloses rest
EndsInOrder _ = ⊥

-- so is an end that is found
abbrev pub FoundInOrder : Look Command → Type 0
FoundInOrder (Ends owed) = EndsInOrder owed
FoundInOrder _ = ⊤
