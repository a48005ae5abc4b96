-- What is seen where a reply led, and what is used there.
use Rattle.std.specs.Prelude.{ℕ, Bool, true, false, List, [], Option, Some, None}
use Rattle.px_exchange.specs.declared.place.Place.{Place}
use Rattle.px_chain.specs.Going.{told_behind}
use Rattle.px_chain.specs.Sights.{Sight, UsedBytes, client_left, client_used, server_left, server_used}
use Rattle.px_chain.specs.Stages.{Doing, Stage, busy, connection, side_of}

-- a dial is awaited: what its answer leads to has a new side, or none
abbrev pub is_dialling : Doing → Bool
is_dialling (connection sent) = true
is_dialling _ = false

abbrev pub dials_at : Stage → Bool
dials_at (busy at flow doing) = is_dialling doing
dials_at _ = false

-- What is seen of the server's side where a reply led: of a new one nothing, and else what was left of it.
abbrev pub server_behind : Bool → Option ℕ → List ℕ → List ℕ
server_behind true side server = []
server_behind false None server = []
server_behind false (Some side) server = server

abbrev pub shut_behind : Bool → Option ℕ → Bool → Bool
shut_behind true side shut = false
shut_behind false None shut = false
shut_behind false (Some side) shut = shut

-- how many of its bytes were used there: of a new one none
abbrev pub used_behind : Bool → Option ℕ → ℕ → ℕ
used_behind true side used = 0
used_behind false None used = 0
used_behind false (Some side) used = used

-- the bytes that are used where a reply led from the one stage to the other in this sight
abbrev pub used_by_turn : Stage → Sight → UsedBytes → Stage → UsedBytes
used_by_turn from seen used to = record {
  client = client_used from seen used.client;
  server = used_behind (dials_at from) (side_of to) (server_used from seen used.server);
}

-- the sight behind a reply at this moment, which led from the one stage to the other
abbrev pub sight_behind : Place → Stage → Sight → ℕ → Stage → Sight
sight_behind place from seen moment to = record {
  client = client_left from seen;
  closed = seen.closed;
  server = server_behind (dials_at from) (side_of to) (server_left from seen);
  shut = shut_behind (dials_at from) (side_of to) seen.shut;
  told = told_behind place from seen;
  now = moment;
}
