-- The servers that commands dial, and what a client's line may have where nothing is said to a client.
use Rattle.std.specs.Prelude.{◌≡◌, ◌⊎◌, ℕ, List, [], ◌∷◌, ⊤}
use Rattle.std.specs.List.{flat_map}
use Rattle.px_event.specs.declared.command.Command.{Command}
use Rattle.px_event.specs.declared.command.Command.TheVariants as commands
use Rattle.px_event.specs.View.{Atom, done}

-- the server that this dials
abbrev pub dial_in : Command → List ℕ
dial_in (commands.Dial server address inside) = server ∷ []
dial_in command = []

-- the servers that these dial, in their order
abbrev pub dials_in : List Command → List ℕ
dials_in list = flat_map dial_in list

-- none, or server 0 once
abbrev pub IsFirstAlone : List ℕ → Type 0
IsFirstAlone servers = (servers ≡ []) ⊎ (servers ≡ 0 ∷ [])

-- Each is a flow that is finished: no byte and no close is among them.
abbrev pub AllFinish : List Atom → Type 0
AllFinish [] = ⊤
AllFinish (done flow ∷ atoms) = AllFinish atoms
AllFinish (atom ∷ atoms) = ⊥
