-- The calls of a conversation, as a trace has them: the events it was handed and the replies it was given, each at its
-- moment. So what is due in a conversation is a function of the trace.
use Rattle.std.specs.Prelude.{ℕ, ◌^◌, Bool, true, false, ◌==◌, nat_lt, if◌then◌else◌, is_some, List, [], ◌∷◌, ◌++◌, Option, Some, None}
use Rattle.std.specs.List.{list_any}
use Rattle.px_message.specs.declared.address.Address.{Address}
use Rattle.px_message.specs.declared.fault.Fault.TheVariants.{NoConnection}
use Rattle.px_event.specs.declared.side.Side.{Side}
use Rattle.px_event.specs.declared.side.Side.TheVariants.{Client, Server}
use Rattle.px_event.specs.declared.side.Door.TheVariants.{Proxy}
use Rattle.px_event.specs.declared.heard.Heard.{Heard}
use Rattle.px_event.specs.declared.heard.Heard.TheVariants as heard
use Rattle.px_event.specs.declared.event.Event.TheVariants as events
use Rattle.px_event.specs.declared.reply.Reply.{Reply}
use Rattle.px_event.specs.declared.reply.Reply.TheVariants as replies
use Rattle.px_event.specs.declared.said.Said.{Said}
use Rattle.px_event.specs.declared.said.Said.TheVariants as said
use Rattle.px_event.specs.declared.step.Step.{Step}
use Rattle.px_event.specs.declared.step.Step.TheVariants as steps
use Rattle.px_event.specs.Trace.{Trace}
use Rattle.px_event.specs.Layer.{Move, Took, Replied}
use Rattle.px_core.specs.declared.news.News.{News}
use Rattle.px_core.specs.declared.news.News.TheVariants as news

-- what is known of a conversation from the steps so far
pub record Calls : Type 0 where
  -- where its client is, if it has one, once it has begun
  pub peer : Option (Option Address)
  -- the moment of what was heard last, of any conversation; 0 before
  pub moment : ℕ
  -- the server of the dial that was said and is not answered
  pub dial : Option ℕ
  -- the server sides that are connected
  pub connected : List ℕ
  pub moves : List Move

-- before the first step
abbrev pub no_calls : Calls
no_calls = record { peer = None; moment = 0; dial = None; connected = []; moves = [] }

-- numbers from here on are none of accepted connections
abbrev pub number_end : ℕ
number_end = 2 ^ 31

-- Whose number something heard has, and what it is to that conversation: a connection accepted at the door for clients
-- begins it, bytes and closes are events of a side, and a dial ends. The rest is no conversation's.
abbrev pub addressed : Heard → Option (ℕ × News)
addressed (heard.Accepted conv Proxy peer) = if nat_lt conv number_end then Some (conv, news.Begun peer) else None
addressed (heard.Accepted conv door peer) = None
addressed (heard.Piece conv side bytes) = Some (conv, news.Event side (events.Piece side bytes))
addressed (heard.Closed conv side) = Some (conv, news.Event side (events.Closed side))
addressed (heard.Dialled conv server ok) = Some (conv, news.Dialled server ok)
addressed heard.End = None

-- one call more
abbrev pub moved : Move → Calls → Calls
moved move c = record c { moves = c.moves ++ move ∷ [] }

-- the side is the client, or a server that is connected
abbrev pub is_connected : Side → List ℕ → Bool
is_connected Client connected = true
is_connected (Server number) connected = list_any (λ other. other == number) connected

-- the dial of this server was said and is not answered
abbrev pub is_dialling : ℕ → Option ℕ → Bool
is_dialling server None = false
is_dialling server (Some other) = other == server

-- what the end of a dial says to the conversation
abbrev pub dial_reply : Bool → Reply
dial_reply true = replies.Dialled
dial_reply false = replies.Refused NoConnection

-- the sides that are connected once a dial has ended
abbrev pub connected_by : ℕ → Bool → List ℕ → List ℕ
connected_by server true connected = connected ++ server ∷ []
connected_by server false connected = connected

-- a dial has ended
abbrev pub dial_ends : ℕ → ℕ → Bool → Calls → Calls
dial_ends moment server ok c =
    record c { dial = None; connected = connected_by server ok c.connected; moves = c.moves ++ Replied moment (dial_reply ok) ∷ [] }

-- it begins, once, with a client there or without one
abbrev pub begins : ℕ → Option Address → Calls → Calls
begins moment at c = if is_some c.peer then c else record c { peer = Some at; moves = c.moves ++ Took moment events.Begun ∷ [] }

-- What the conversation takes of the news, at a moment. It begins once. An event of a side counts where it has begun and
-- the side is the client or is connected. The end of a dial counts where that dial was said and not answered.
abbrev pub takes : ℕ → Calls → News → Calls
takes moment c (news.Begun peer) = begins moment (Some peer) c
takes moment c (news.Event side event) = if is_some c.peer then (if is_connected side c.connected then moved (Took moment event) c else c) else c
takes moment c (news.Dialled server ok) = if is_dialling server c.dial then dial_ends moment server ok c else c

-- what the conversation of this number takes of something heard
abbrev pub hears_by : ℕ → ℕ → Calls → Option (ℕ × News) → Calls
hears_by conv moment c None = c
hears_by conv moment c (Some (number, what)) = if number == conv then takes moment c what else c

abbrev pub hears : ℕ → ℕ → Calls → Heard → Calls
hears conv moment c what = hears_by conv moment c (addressed what)

-- what was said of a dial
abbrev pub dials : Said → Calls → Calls
dials (said.Dial server address) c = record c { dial = Some server }
dials _ c = c

-- One step more. What is heard sets the moment; a conversation without a client begins, and an answer of the conversation's is a reply,
-- at the moment of what was heard last; a dial that is said to it awaits its end. No other step is a call.
abbrev pub calls_on : ℕ → Calls → Step → Calls
calls_on conv c (steps.Heard moment what) = record (hears conv moment c what) { moment = moment }
calls_on conv c (steps.Begun number) = if number == conv then begins c.moment None c else c
calls_on conv c (steps.Answered number ask reply) = if number == conv then moved (Replied c.moment reply) c else c
calls_on conv c (steps.Said number what) = if number == conv then dials what c else c
calls_on conv c _ = c

abbrev pub calls_from : ℕ → Calls → Trace → Calls
calls_from conv c [] = c
calls_from conv c (step ∷ trace) = calls_from conv (calls_on conv c step) trace

-- what the trace says of the conversation
abbrev pub calls : ℕ → Trace → Calls
calls conv trace = calls_from conv no_calls trace

-- the calls of the conversation in the trace
abbrev pub calls_of : ℕ → Trace → List Move
calls_of conv trace = (calls conv trace).moves
