-- What a prefix of events says of the sides of a conversation: their joined bytes, and whether they closed.
use Rattle.std.specs.Prelude.{ℕ, Bool, true, false, ◌||◌, if◌then◌else◌, nat_lt, List, [], ◌∷◌, ◌++◌, length}
use Rattle.px_event.specs.declared.event.Event.{Event}
use Rattle.px_event.specs.declared.side.Side.{Side}
use Rattle.px_event.specs.declared.side.Side.TheVariants.{Client}
use Rattle.px_event.specs.Chain.{Timed}
use Rattle.px_event.specs.Sides.{closes, piece_of}

-- The joined bytes of a side: what comes behind its own close, or behind the client's, is not heard.
abbrev pub bytes_of : Side → List (Timed Event) → List ℕ
bytes_of side [] = []
bytes_of side (e ∷ prefix) =
    if closes Client e.value || closes side e.value then [] else (piece_of side e.value ++ bytes_of side prefix)

-- Whether a side closed: a server's close behind the client's is not heard.
abbrev pub is_closed : Side → List (Timed Event) → Bool
is_closed side [] = false
is_closed side (e ∷ prefix) =
    if closes side e.value then true else (if closes Client e.value then false else is_closed side prefix)

-- whether the client closed
abbrev pub client_closed : List (Timed Event) → Bool
client_closed prefix = is_closed Client prefix

-- since when a stage stands: how many events were worked off then, and the moment
pub record Since : Type 0 where
  pub events : ℕ
  pub moment : ℕ

-- the moment of the last event
abbrev pub last_moment : ℕ → List (Timed Event) → ℕ
last_moment moment [] = moment
last_moment moment (e ∷ prefix) = last_moment e.moment prefix

-- the moment at which a stage is over a prefix: that of its last event, or since when it stands where none came since
abbrev pub now_over : Since → List (Timed Event) → ℕ
now_over since prefix =
    if nat_lt since.events (length prefix) then last_moment since.moment prefix else since.moment

-- from here on
abbrev pub from_here : ℕ → List (Timed Event) → Since
from_here moment prefix = record { events = length prefix; moment = moment }
