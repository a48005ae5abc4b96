-- What is due to a client of SOCKS before its own bytes come (RFC 1928 sections 3, 4 and 6): its greeting is answered where it is judged, its
-- request by what comes of the dial or by its refusal, and where it is refused it is closed.
use Rattle.std.specs.Prelude.{refl, ℕ, ◌+◌, ◌==◌, Bool, true, false, List, [], ◌∷◌, ◌++◌, drop, Option, Some, None}
use Rattle.px_message.specs.declared.address.Address.{Address}
use Rattle.px_event.specs.declared.command.Command.{Command}
use Rattle.px_event.specs.declared.command.Command.TheVariants as commands
use Rattle.px_event.specs.declared.event.Event.{Event}
use Rattle.px_event.specs.declared.reply.Reply.{Reply}
use Rattle.px_event.specs.declared.reply.Reply.TheVariants as replies
use Rattle.px_event.specs.declared.side.Side.TheVariants.{Client}
use Rattle.px_event.specs.Chain.{Chain, Look, NotYet, Asks, Ends, Turn}
use Rattle.px_socks.specs.declared.greeting.Greeting.{Greeting}
use Rattle.px_socks.specs.declared.greeting.Greeting.TheVariants.{More, Methods, NotSocks}
use Rattle.px_socks.specs.Answer.{answer_text, method_text}
use Rattle.px_socks.specs.Greeting.{greeting_of}
use Rattle.px_socks.specs.Request.{Heard, address_with, connect, more, refused, request_of}
use Rattle.px_socks.specs.Stages.{Sight, Stage, dialling, greeting, opened, over, requesting, sight_over}

-- ---- the request

-- it is told so, and closed
abbrev pub refuses : List ℕ → Turn Stage Command
refuses text = record { owed = commands.Send Client text ∷ commands.Close Client ∷ []; stage = over }

-- a whole request: where the host and the port make no address it is refused as they are
abbrev pub pass_address : ℕ → Option Address → Turn Stage Command
pass_address used None = refuses (answer_text 1)
pass_address used (Some address) = record { owed = []; stage = dialling used address }

-- what stands behind so many bytes
abbrev pub pass_request : ℕ → Heard → Turn Stage Command
pass_request used more = record { owed = []; stage = requesting used }
pass_request used (connect host port size) = pass_address (used + size) (address_with host port (port == 0) refl)
pass_request used (refused code) = refuses (answer_text code)

-- ---- the greeting

-- this is owed before
abbrev pub owing : List Command → Turn Stage Command → Turn Stage Command
owing owed on = record { owed = owed ++ on.owed; stage = on.stage }

-- no authentication is the one method that is served (section 3)
abbrev pub pass_methods : Bool → ℕ → List ℕ → Turn Stage Command
pass_methods true used text = owing (commands.Send Client (method_text 0) ∷ []) (pass_request used (request_of (drop used text)))
pass_methods false used text = refuses (method_text 255)

abbrev pub pass_greeting : Greeting → List ℕ → Turn Stage Command
pass_greeting More text = record { owed = []; stage = greeting }
pass_greeting (Methods free used) text = pass_methods free used text
pass_greeting NotSocks text = record { owed = commands.Close Client ∷ []; stage = over }

-- ---- the chain

abbrev pub pass_open : Stage → List ℕ → Turn Stage Command
pass_open greeting text = pass_greeting (greeting_of text) text
pass_open (requesting used) text = pass_request used (request_of (drop used text))
pass_open stage text = record { owed = []; stage = stage }

-- At the client's close all ends, but where a dial is awaited.
abbrev pub pass_closed : Stage → Turn Stage Command
pass_closed greeting = record { owed = []; stage = over }
pass_closed (requesting used) = record { owed = []; stage = over }
pass_closed stage = record { owed = []; stage = stage }

abbrev pub pass_by : Bool → Stage → List ℕ → Turn Stage Command
pass_by true stage text = pass_closed stage
pass_by false stage text = pass_open stage text

abbrev pub pass : Stage → Sight → Turn Stage Command
pass stage seen = pass_by seen.closed stage seen.client

-- the one dial of all is that of server 0
abbrev pub look : Stage → Look Command
look (dialling used address) = Asks (commands.Dial 0 address None)
look (opened used address) = Ends []
look over = Ends []
look stage = NotYet

abbrev pub shut_client : Bool → List Command
shut_client true = []
shut_client false = commands.Close Client ∷ []

-- what is answered to the dial
abbrev pub turn_dial : ℕ → Address → Bool → Reply → Turn Stage Command
turn_dial used address closed replies.Dialled = record { owed = commands.Send Client (answer_text 0) ∷ []; stage = opened used address }
turn_dial used address closed (replies.Refused fault) = record { owed = commands.Send Client (answer_text 1) ∷ shut_client closed; stage = over }
turn_dial used address closed reply = record { owed = []; stage = over }

abbrev pub turn : Stage → Bool → Reply → Turn Stage Command
turn (dialling used address) closed reply = turn_dial used address closed reply
turn stage closed reply = record { owed = []; stage = stage }

-- of a client that is heard from its first byte on
abbrev pub socks_chain : Chain Stage Event Reply Command
socks_chain = record {
  pass = λ stage prefix. pass stage (sight_over prefix);
  look = λ stage prefix. look stage;
  so_far = λ stage prefix. [];
  behind = λ stage prefix. [];
  turn = λ stage prefix answer. turn stage (sight_over prefix).closed answer.value;
}
