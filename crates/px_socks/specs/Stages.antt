-- Where a client of SOCKS stands before its own bytes come, and what it is judged by.
use Rattle.std.specs.Prelude.{ℕ, Bool, false, ◌||◌, if◌then◌else◌, List, [], ◌∷◌, ◌++◌}
use Rattle.px_message.specs.declared.address.Address.{Address}
use Rattle.px_event.specs.declared.event.Event.{Event}
use Rattle.px_event.specs.declared.side.Side.TheVariants.{Client}
use Rattle.px_event.specs.Chain.{Timed}
use Rattle.px_event.specs.Sides.{closes, piece_of}

pub data Stage : Type 0 where
  -- its greeting is awaited
  greeting : Stage
  -- it was greeted, behind so many of its bytes, and its request is awaited
  requesting : (used : ℕ) → Stage
  -- its request was read, behind so many of its bytes, and the server that it asks for is dialled
  dialling : (used : ℕ) (address : Address) → Stage
  -- that server is connected: what follows is of another protocol
  opened : (used : ℕ) (address : Address) → Stage
  -- the conversation has ended
  over : Stage

-- The client's joined bytes, and whether it has closed: nothing else is looked at.
pub record Sight : Type 0 where
  pub client : List ℕ
  pub closed : Bool

abbrev pub nothing_seen : Sight
nothing_seen = record { client = []; closed = false }

-- with one event more; behind its close nothing is heard of a client
abbrev pub sight_with : Sight → Event → Sight
sight_with seen event = record {
  client = if seen.closed then seen.client else seen.client ++ piece_of Client event;
  closed = seen.closed || closes Client event;
}

abbrev pub sight_from : Sight → List (Timed Event) → Sight
sight_from seen [] = seen
sight_from seen (e ∷ prefix) = sight_from (sight_with seen e.value) prefix

abbrev pub sight_over : List (Timed Event) → Sight
sight_over prefix = sight_from nothing_seen prefix
