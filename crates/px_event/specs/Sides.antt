-- What an event brings of a side of its conversation: bytes, or its close.
use Rattle.std.specs.Prelude.{ℕ, Bool, false, if◌then◌else◌, List, []}
use Rattle.px_event.specs.declared.event.Event.{Event}
use Rattle.px_event.specs.declared.event.Event.TheVariants as events
use Rattle.px_event.specs.declared.side.Side.{Side}
use Rattle.px_event.specs.Trace.{is_same_side}

-- the bytes that an event brings of a side
abbrev pub piece_of : Side → Event → List ℕ
piece_of side (events.Piece other bytes) = if is_same_side other side then bytes else []
piece_of side _ = []

-- an event is the side's close
abbrev pub closes : Side → Event → Bool
closes side (events.Closed other) = is_same_side other side
closes side _ = false
