-- What an addon's relation says, and when two addons have the same one.
use Rattle.std.specs.Prelude.{◌≡◌, ℕ, List}
use Rattle.px_event.specs.declared.ask.Hook.{Hook}
use Rattle.px_core.specs.declared.answerer.Draft.{Draft}

-- An addon's relation: a hook, its state and the draft before, its state and the draft after.
abbrev pub Moves : Type 1
Moves = Hook → List ℕ → Draft → List ℕ → Draft → Type 0

-- what the one relation allows the other allows
abbrev pub Allows : Moves → Moves → Type 0
Allows one other = (hook : Hook) (old : List ℕ) (draft : Draft) (new : List ℕ) (after : Draft) → one hook old draft new after → other hook old draft new after

-- both allow the same
abbrev pub SameMoves : Moves → Moves → Type 0
SameMoves one other = Allows one other × Allows other one

-- the relation leaves every draft as it is
abbrev pub KeepsDrafts : Moves → Type 0
KeepsDrafts moves = (hook : Hook) (old : List ℕ) (draft : Draft) (new : List ℕ) (after : Draft) → moves hook old draft new after → after ≡ draft
