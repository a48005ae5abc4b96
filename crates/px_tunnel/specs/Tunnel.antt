-- What is due of a raw tunnel: each side's bytes go to the other, until one of the two closes; then the other is closed
-- (RFC 9110, sections 9.3.6 and 7.8).
use Rattle.std.specs.Prelude.{ℕ, ◌==◌, Bool, true, false, if◌then◌else◌, List, [], ◌∷◌, ◌++◌, Option, Some, None}
use Rattle.px_event.specs.declared.side.Side.{Side}
use Rattle.px_event.specs.declared.side.Side.TheVariants.{Client, Server}
use Rattle.px_event.specs.declared.event.Event.{Event}
use Rattle.px_event.specs.declared.event.Event.TheVariants as events
use Rattle.px_event.specs.declared.event.Rests.{Rests}
use Rattle.px_event.specs.declared.reply.Reply.{Reply}
use Rattle.px_event.specs.declared.command.Command.{Command}
use Rattle.px_event.specs.declared.command.Command.TheVariants as commands
use Rattle.px_event.specs.Chain.{Timed, Look, NotYet, Ends, Turn, Chain}
use Rattle.px_event.specs.Trace.{is_same_side}

-- ---- the bytes of a side

-- those that were left of it, where this is what was left of both
abbrev pub left_of : Side → Rests → List ℕ
left_of Client rests = rests.client
left_of (Server number) rests = rests.server

-- nothing is left of either
abbrev pub no_rests : Rests
no_rests = record { client = []; server = [] }

-- what an event brings of a side: where the tunnel begins, what was left of the side; and each piece of the side
abbrev pub brought : Side → Rests → Event → List ℕ
brought side rests events.Begun = left_of side rests
brought side rests (events.Piece from bytes) = if is_same_side from side then bytes else []
brought side rests _ = []

-- what is left behind an event: once the tunnel has begun, nothing
abbrev pub left_behind : Rests → Event → Rests
left_behind rests events.Begun = no_rests
left_behind rests _ = rests

-- the tunnel has begun
abbrev pub is_begun : Event → Bool
is_begun events.Begun = true
is_begun _ = false

abbrev pub has_begun : List (Timed Event) → Bool
has_begun [] = false
has_begun (e ∷ es) = if is_begun e.value then true else has_begun es

-- the joined bytes of a side over a prefix
abbrev pub text_of : Side → Rests → List (Timed Event) → List ℕ
text_of side rests [] = []
text_of side rests (e ∷ es) = brought side rests e.value ++ text_of side (left_behind rests e.value) es

-- ---- the closes

-- the other side of a tunnel to the server of this number; of a side that is none of its two there is none
abbrev pub across : ℕ → Side → Option Side
across server Client = Some (Server server)
across server (Server number) = if number == server then Some Client else None

-- the side that an event leaves alone: the other side of one that closed
abbrev pub left_alone : ℕ → Event → Option Side
left_alone server (events.Closed side) = across server side
left_alone server _ = None

abbrev pub first_of : Option Side → Option Side → Option Side
first_of (Some side) later = Some side
first_of None later = later

-- the side that the first close over a prefix leaves alone, if there is a close
abbrev pub alone : ℕ → List (Timed Event) → Option Side
alone server [] = None
alone server (e ∷ es) = first_of (left_alone server e.value) (alone server es)

-- ---- the chain

-- these bytes to the server, and those to the client
abbrev pub both_ways : ℕ → List ℕ → List ℕ → List Command
both_ways server to_server to_client = commands.Send (Server server) to_server ∷ commands.Send Client to_client ∷ []

-- each side's bytes over a prefix, to the other side
abbrev pub sent_over : ℕ → Rests → List (Timed Event) → List Command
sent_over server rests prefix = both_ways server (text_of Client rests prefix) (text_of (Server server) rests prefix)

-- the stages: no side has closed, or it is over
pub data Stage : Type 0 where
  going : Stage
  over : Stage

-- when a side has closed, the other is closed behind its last byte
abbrev pub pass_by : Option Side → List Command → Turn Stage Command
pass_by None sent = record { owed = []; stage = going }
pass_by (Some side) sent = record { owed = sent ++ commands.Close side ∷ []; stage = over }

abbrev pub pass : ℕ → Rests → Stage → List (Timed Event) → Turn Stage Command
pass server rests going prefix = pass_by (alone server prefix) (sent_over server rests prefix)
pass server rests over prefix = record { owed = []; stage = over }

-- it asks nothing
abbrev pub look : Stage → List (Timed Event) → Look Command
look going prefix = NotYet
look over prefix = Ends []

abbrev pub so_far : ℕ → Rests → Stage → List (Timed Event) → List Command
so_far server rests going prefix = sent_over server rests prefix
so_far server rests over prefix = []

-- a tunnel to the server of this number, which begins with what was left of both sides
abbrev pub tunnel_chain : ℕ → Rests → Chain Stage Event Reply Command
tunnel_chain server rests = record {
  pass = pass server rests;
  look = look;
  so_far = so_far server rests;
  behind = λ stage prefix. [];
  turn = λ stage prefix reply. record { owed = []; stage = stage };
}
