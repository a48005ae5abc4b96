-- What a WebSocket looks at, and nothing else: the bytes of both sides behind the upgrade, whether each side has closed, and the moment.
use Rattle.std.specs.Prelude.{ℕ, Bool, false, ◌||◌, List, [], ◌∷◌, ◌++◌}
use Rattle.px_event.specs.declared.event.Event.{Event}
use Rattle.px_event.specs.declared.event.Event.TheVariants as events
use Rattle.px_event.specs.declared.event.Rests.{Rests}
use Rattle.px_event.specs.declared.side.Side.TheVariants as sides
use Rattle.px_event.specs.Chain.{Timed}
use Rattle.px_event.specs.Sides.{closes, piece_of}
use Rattle.px_relay.specs.declared.peer.Peer.{Peer}
use Rattle.px_relay.specs.declared.peer.Peer.TheVariants.{Client, Server}

pub record Sight : Type 0 where
  -- the client's bytes behind the request that asked for the upgrade
  pub client : List ℕ
  pub closed : Bool
  -- the server's behind the response that agreed to it
  pub server : List ℕ
  pub shut : Bool
  -- of the last event
  pub now : ℕ

abbrev pub bytes_of : Peer → Sight → List ℕ
bytes_of Client seen = seen.client
bytes_of Server seen = seen.server

-- ---- one event more

-- the sight with one event more, where the server has this number
abbrev pub sight_with : ℕ → Sight → Timed Event → Sight
sight_with server seen e = record {
  client = seen.client ++ piece_of sides.Client e.value;
  closed = seen.closed || closes sides.Client e.value;
  server = seen.server ++ piece_of (sides.Server server) e.value;
  shut = seen.shut || closes (sides.Server server) e.value;
  now = e.moment;
}

-- ---- a WebSocket by itself: what was left of both sides is seen when it begins

-- nothing is left of either
abbrev pub no_rests : Rests
no_rests = record { client = []; server = [] }

-- what is seen, and what is left of both sides until it begins
pub record Come : Type 0 where
  pub seen : Sight
  pub left : Rests

abbrev pub nothing_seen : Sight
nothing_seen = record { client = []; closed = false; server = []; shut = false; now = 0 }

abbrev pub first_come : Rests → Come
first_come rests = record { seen = nothing_seen; left = rests }

-- with the bytes that were left, at this moment
abbrev pub sight_begun : Sight → Rests → ℕ → Sight
sight_begun seen rests moment = record seen { client = seen.client ++ rests.client; server = seen.server ++ rests.server; now = moment }

abbrev pub come_by : ℕ → Come → ℕ → Event → Come
come_by server come moment events.Begun = record { seen = sight_begun come.seen come.left moment; left = no_rests }
come_by server come moment event = record come { seen = sight_with server come.seen (record { moment = moment; value = event }) }

abbrev pub come_with : ℕ → Come → Timed Event → Come
come_with server come e = come_by server come e.moment e.value

abbrev pub come_over : ℕ → Come → List (Timed Event) → Come
come_over server come [] = come
come_over server come (e ∷ es) = come_over server (come_with server come e) es

-- what is seen over a prefix, of a WebSocket that was handed these
abbrev pub seen_over : ℕ → Rests → List (Timed Event) → Sight
seen_over server rests prefix = (come_over server (first_come rests) prefix).seen
