-- The bytes that a reader holds.
use Rattle.std.specs.Prelude.{ℕ, ◌<◌, List, [], length}
use Rattle.px_head.specs.declared.held.Waiting.{Waiting}
use Rattle.px_head.specs.declared.held.Waiting.TheVariants.{Nothing, Shared, Own}

abbrev pub bytes_of : Waiting → List ℕ
bytes_of Nothing = []
bytes_of (Shared bytes) = bytes
bytes_of (Own buffer) = buffer

-- A piece that is shared is held only for bytes that wait in it.
abbrev pub IsNeeded : Waiting → Type 0
IsNeeded (Shared bytes) = 0 < length bytes
IsNeeded _ = Unit {0}
