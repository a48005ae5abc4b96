-- A server hears nothing before its dial was answered with the connection. A conversation dials its servers one after the
-- other, from number 0 on, and dials the next only where each before is connected: so the dial of a server was not answered
-- so as long as the moves have no more such answers than there are servers before it.
use Rattle.std.specs.Prelude.{◌≡◌, ◌≤◌, ◌<◌, ◌+◌, ℕ, List, [], ◌∷◌, Option, Some, None, ⊤}
use Rattle.px_event.specs.declared.reply.Reply.{Reply}
use Rattle.px_event.specs.declared.reply.Reply.TheVariants as replies
use Rattle.px_event.specs.declared.side.Side.TheVariants.{Server}
use Rattle.px_event.specs.Layer.{Move, Took, Replied}
use Rattle.px_event.specs.Sides.{piece_of}
use Rattle.px_chain.specs.Stages.{Parked}

-- the answer of a dial with its connection, as a number
abbrev pub connects : Reply → ℕ
connects replies.Dialled = 1
connects _ = 0

-- how many such answers the moves have
abbrev pub connections : List Move → ℕ
connections [] = 0
connections (Took moment event ∷ moves) = connections moves
connections (Replied moment reply ∷ moves) = connects reply + connections moves

-- no move answers the dial of this server with its connection
abbrev pub NoAnswer : ℕ → List Move → Type 0
NoAnswer server moves = connections moves ≤ server

-- the server of a parked side is among the first so many
abbrev pub ParkedBelow : Option Parked → ℕ → Type 0
ParkedBelow None dials = ⊤
ParkedBelow (Some parked) dials = parked.server < dials

-- the moves bring no byte of the server
abbrev pub SaysNothing : ℕ → List Move → Type 0
SaysNothing server [] = ⊤
SaysNothing server (Took moment event ∷ moves) = (piece_of (Server server) event ≡ []) × SaysNothing server moves
SaysNothing server (Replied moment reply ∷ moves) = SaysNothing server moves
